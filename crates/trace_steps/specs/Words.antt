-- The steps of a run over whole numbers: bit k of the number of a terminal is its bit in lane k, for k from 0 to 15. What one lane sees of them
-- is the steps of specs/Steps. Assumes nothing.
use Rattle.std.specs.Prelude.{ℕ, suc, ◌+◌, ◌-◌, Bool, cond, ◌&&◌, List, [], ◌∷◌, get_or, set, eqb, leb, ltb}
use Rattle.std.specs.Int.Bits.{bit_and, bit_or, bit_xor}
use Rattle.trace_calculus.specs.Lanes.{lane_bit}
use Rattle.lean.specs.Layout.{kinds_from}
use Rattle.trace_steps.specs.Map.{registers_at, order_at, bits_at, bits_end, one_entry}
use Rattle.trace_steps.specs.Steps.{first_in}

abbrev pub chosen_word : Bool → ℕ → ℕ → ℕ
chosen_word b x y = cond b x y

-- all 16 bits, or none
abbrev pub every_lane : Bool → ℕ
every_lane b = cond b 65535 0

-- 3 or, 4 xor, 5 inv; else and: 2, and 7, a point. The inverter and a point have their one input twice
abbrev pub gate_word : ℕ → ℕ → ℕ → ℕ
gate_word k a b = cond (eqb k 3) (bit_or a b) (cond (eqb k 4) (bit_xor a b) (cond (eqb k 5) (bit_xor a 65535) (bit_and a b)))

-- the number of terminal x, and of the source of input x
abbrev pub word_at : List ℕ → ℕ → ℕ
word_at w x = get_or w (bits_at + x) 0

abbrev pub input_word : List ℕ → ℕ → ℕ
input_word w x = word_at w (get_or w x 0)

-- output o gets its bits
abbrev pub word_step : List ℕ → ℕ → List ℕ
word_step w o = set w (bits_at + o) (gate_word (get_or w o 0 - kinds_from) (input_word w (first_in w o)) (input_word w (o - 1)))

abbrev pub word_pass : ℕ → List ℕ → List ℕ
word_pass j w = word_step w (get_or w (order_at + j) 0)

-- every bit is 0, but those of a part one
abbrev pub word_begin : ℕ → List ℕ → List ℕ
word_begin x w = set w (bits_at + x) (every_lane (eqb (get_or w x 0) one_entry))

-- what the j-th register holds is kept
abbrev pub keep_one : List ℕ → ℕ → List ℕ → List ℕ
keep_one w j state = set state j (word_at w (get_or w (registers_at + j) 0))

-- what is written of a number: the bit of lane 0, or all
abbrev pub lane_zero : ℕ → ℕ
lane_zero x = lane_bit 0 x

abbrev pub entire : ℕ → ℕ
entire x = x

-- ---- the memory as lane k sees it: of each number among the bits its bit k

abbrev pub in_bits : ℕ → Bool
in_bits i = leb bits_at i && ltb i bits_end

abbrev pub lane_from : ℕ → ℕ → List ℕ → List ℕ
lane_from k i [] = []
lane_from k i (x ∷ xs) = cond (in_bits i) (lane_bit k x) x ∷ lane_from k (suc i) xs

unfoldable pub lane_mem : ℕ → List ℕ → List ℕ
lane_mem k w = lane_from k 0 w

-- The steps of a run, over the working memory (specs/Map says what stands where). Assumes nothing.
use Rattle.std.specs.Prelude.{ℕ, ◌+◌, ◌-◌, ◌≤◌, ◌<◌, Bool, true, false, cond, not, ◌&&◌, ◌||◌, List, length, get_or, set, eqb, ltb}
use Rattle.std.specs.Bool.{xor}
use Rattle.memory.specs.Map.{memory_size}
use Rattle.trace_calculus.specs.Trace.{bit_byte_lem}
use Rattle.lean.specs.Layout.{kinds_from}
use Rattle.trace_steps.specs.Map.{registers_at, order_at, bits_at, zero_entry, register_entry, inverter_entry, one_entry}

-- the bit, or mark, of terminal x
abbrev pub lit : List ℕ → ℕ → Bool
lit w x = eqb (get_or w (bits_at + x) 0) 1

-- the first input of output o: a gate of two inputs has a kind below 5
abbrev pub first_in : List ℕ → ℕ → ℕ
first_in w o = cond (ltb (get_or w o 0) inverter_entry) (o - 2) (o - 1)

-- the bit of the source of input x
abbrev pub input_bit : List ℕ → ℕ → Bool
input_bit w x = lit w (get_or w x 0)

-- output o has inputs, with sources below 8,192
pub record Looks (w : List ℕ) (o : ℕ) : Type 0 where
  pub size : memory_size ≤ length w
  pub low : o < 8192
  pub some : 1 ≤ o
  pub kind : kinds_from ≤ get_or w o 0
  pub two : get_or w o 0 < inverter_entry → 2 ≤ o
  pub first : get_or w (first_in w o) 0 < 8192
  pub last : get_or w (o - 1) 0 < 8192

-- all that output o looks at is marked
abbrev pub ready_in : List ℕ → ℕ → Bool
ready_in w o = input_bit w (first_in w o) && input_bit w (o - 1)

-- 3 or, 4 xor, 5 inv; else and: 2, and 7, a point. The inverter and a point have their one input twice
abbrev pub gate_bit : ℕ → Bool → Bool → Bool
gate_bit k a b = cond (eqb k 3) (a || b) (cond (eqb k 4) (xor a b) (cond (eqb k 5) (not a) (a && b)))

-- output o gets its bit
abbrev pub step_in : List ℕ → ℕ → List ℕ
step_in w o = set w (bits_at + o) (bit_byte_lem (gate_bit (get_or w o 0 - kinds_from) (input_bit w (first_in w o)) (input_bit w (o - 1))))

-- the outputs of the order, one after the other
pub record Ordered (w : List ℕ) (n : ℕ) : Type 0 where
  pub size : memory_size ≤ length w
  pub few : n ≤ 5120
  pub looks : (j : ℕ) → j < n → Looks w (get_or w (order_at + j) 0)

abbrev pub pass_one : ℕ → List ℕ → List ℕ
pass_one j w = step_in w (get_or w (order_at + j) 0)

-- ---- registers

pub record Register (w : List ℕ) (o : ℕ) : Type 0 where
  pub low : o < 8192
  pub some : 1 ≤ o
  pub source : get_or w (o - 1) 0 < 8192

pub record Registers (w : List ℕ) (n : ℕ) : Type 0 where
  pub size : memory_size ≤ length w
  pub few : n ≤ 5120
  pub each : (j : ℕ) → j < n → Register w (get_or w (registers_at + j) 0)

abbrev pub wake_one : List ℕ → ℕ → List ℕ → List ℕ
wake_one starts j w = set w (bits_at + get_or w (registers_at + j) 0) (get_or starts j 0)

-- the input terminal of a register gets its bit
abbrev pub hold_at : List ℕ → ℕ → List ℕ
hold_at w o = set w (bits_at + (o - 1)) (get_or w (bits_at + get_or w (o - 1) 0) 0)

abbrev pub hold_one : ℕ → List ℕ → List ℕ
hold_one j w = hold_at w (get_or w (registers_at + j) 0)

-- its output gets that of its input terminal
abbrev pub turn_at : List ℕ → ℕ → List ℕ
turn_at w o = set w (bits_at + o) (get_or w (bits_at + (o - 1)) 0)

abbrev pub turn_one : ℕ → List ℕ → List ℕ
turn_one j w = turn_at w (get_or w (registers_at + j) 0)

-- all registers hold, and then all turn
abbrev pub clock_at : Bool → List ℕ → ℕ → List ℕ
clock_at false = hold_at
clock_at true = turn_at

abbrev pub clock_one : Bool → ℕ → List ℕ → List ℕ
clock_one false = hold_one
clock_one true = turn_one

-- ---- the table

abbrev pub free_in : List ℕ → ℕ → Bool
free_in w x = eqb (get_or w x 0) x || (eqb (get_or w x 0) zero_entry || (eqb (get_or w x 0) register_entry || eqb (get_or w x 0) one_entry))

abbrev pub mark_one : ℕ → List ℕ → List ℕ
mark_one x w = set w (bits_at + x) (bit_byte_lem (free_in w x))

-- every bit is 0, but that of a part one
abbrev pub begin_one : ℕ → List ℕ → List ℕ
begin_one x w = set w (bits_at + x) (bit_byte_lem (eqb (get_or w x 0) one_entry))

-- The bits that are lent and written, over the working memory (specs/Map says what stands where). Assumes nothing.
use Rattle.std.specs.Prelude.{ℕ, zero, suc, ◌+◌, ◌/◌, ◌%◌, ◌≤◌, ◌<◌, ◌≡◌, Bool, cond, List, length, get_or, set, eqb}
use Rattle.memory.specs.Map.{memory_size}
use Rattle.trace_calculus.specs.Trace.{bit_byte_lem}
use Rattle.lean.specs.Table.{Within}
use Rattle.trace_steps.specs.Map.{registers_at, order_at, pins_at, bits_at, register_entry}
use Rattle.trace_steps.specs.Turns.{take_turns}
use Rattle.trace_steps.specs.Steps.{lit, Register, Registers}
use Rattle.trace_steps.specs.Words.{word_at}

-- numbers, and a count
pub record Counted : Type 0 where
  pub mem : List ℕ
  pub count : ℕ

abbrev pub counted : List ℕ → ℕ → Counted
counted w n = record { mem = w; count = n }

-- pin k is an input
abbrev pub pin_is_in : List ℕ → ℕ → Bool
pin_is_in w k = eqb (get_or w (pins_at + k) 0 % 2) 0

-- how many of the first n pins are inputs, and how many are outputs
abbrev pub in_pin_count : List ℕ → ℕ → ℕ
in_pin_count w zero = 0
in_pin_count w (suc n) = in_pin_count w n + cond (pin_is_in w n) 1 0

abbrev pub out_pin_count : List ℕ → ℕ → ℕ
out_pin_count w zero = 0
out_pin_count w (suc n) = out_pin_count w n + cond (pin_is_in w n) 0 1

-- so many pins, with terminals below 8,192
pub record PinsLow (w : List ℕ) (n : ℕ) : Type 0 where
  pub size : memory_size ≤ length w
  pub few : n ≤ 128
  pub low : (k : ℕ) → k < n → get_or w (pins_at + k) 0 / 2 < 8192

-- an input pin gets the next bit
abbrev pub load_one : List ℕ → ℕ → Counted → Counted
load_one bits k s = cond (pin_is_in s.mem k) (counted (set s.mem (bits_at + get_or s.mem (pins_at + k) 0 / 2) (get_or bits s.count 0)) (s.count + 1)) s

-- an output pin's bit is the next byte
abbrev pub store_one : List ℕ → ℕ → Counted → Counted
store_one w k s = cond (pin_is_in w k) s (counted (set s.mem s.count (bit_byte_lem (lit w (get_or w (pins_at + k) 0 / 2)))) (s.count + 1))

-- the same over whole numbers: what `g` makes of an output pin's is the next
abbrev pub word_store : (ℕ → ℕ) → List ℕ → ℕ → Counted → Counted
word_store g w k s = cond (pin_is_in w k) s (counted (set s.mem s.count (g (word_at w (get_or w (pins_at + k) 0 / 2)))) (s.count + 1))

-- the outputs of registers
abbrev pub register_one : ℕ → Counted → Counted
register_one x s = cond (eqb (get_or s.mem x 0) register_entry) (counted (set s.mem (registers_at + s.count) x) (s.count + 1)) s

-- the first k input pins have their bits: what the memory is, and which byte is next
pub record Loading (bits u : List ℕ) (from k : ℕ) (w : List ℕ) (at : ℕ) : Type 0 where
  pub within : Within u w
  pub whole : counted w at ≡ take_turns (load_one bits) k 0 (counted u from)
  pub read : at ≡ from + in_pin_count u k

-- the first k output pins are written
pub record Storing (g : ℕ → ℕ) (w out₀ : List ℕ) (from k : ℕ) (out : List ℕ) (at : ℕ) : Type 0 where
  pub size : length out ≡ length out₀
  pub whole : counted out at ≡ take_turns (word_store g w) k 0 (counted out₀ from)
  pub written : at ≡ from + out_pin_count w k

-- ---- the registers' outputs, by rising number

pub record Listable (w : List ℕ) (end : ℕ) : Type 0 where
  pub size : memory_size ≤ length w
  pub few : end ≤ 8192
  pub register : (x : ℕ) → x < end → get_or w x 0 ≡ register_entry → Register w x

pub record RegistersListed (u : List ℕ) (end : ℕ) (w : List ℕ) (n : ℕ) : Type 0 where
  pub size : length w ≡ length u
  pub table : (x : ℕ) → x < 8192 → get_or w x 0 ≡ get_or u x 0
  pub above : (j : ℕ) → order_at ≤ j → get_or w j 0 ≡ get_or u j 0
  pub registers : Registers w n
  pub whole : counted w n ≡ take_turns register_one end 0 (counted u 0)

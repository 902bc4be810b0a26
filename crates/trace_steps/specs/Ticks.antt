-- A tick, and a run, over the working memory and the output. Assumes nothing.
use Rattle.std.specs.Prelude.{ℕ, ◌+◌, ◌-◌, ◌*◌, ◌≤◌, ◌<◌, ◌≡◌, List, Bool, length, get_or}
use Rattle.lean.specs.Table.{Within}
use Rattle.lean.specs.Layout.{kinds_from}
use Rattle.trace_steps.specs.Map.{order_at, bits_at}
use Rattle.trace_steps.specs.Turns.{take_turns}
use Rattle.trace_steps.specs.Steps.{lit, first_in, gate_bit, Ordered, Registers, pass_one, hold_one, turn_one}
use Rattle.trace_steps.specs.Pins.{counted, PinsLow, in_pin_count, out_pin_count, load_one, store_one, word_store}
use Rattle.trace_steps.specs.Words.{word_pass, keep_one}

-- how many outputs the order has, how many registers and pins there are
pub record Sizes : Type 0 where
  pub settled : ℕ
  pub registers : ℕ
  pub pins : ℕ

abbrev pub sizes : ℕ → ℕ → ℕ → Sizes
sizes s r p = record { settled = s; registers = r; pins = p }

-- the input pins' bits are loaded, from a byte on, and every output gets its bit
unfoldable pub lighted : Sizes → List ℕ → ℕ → List ℕ → List ℕ
lighted z bits from w = take_turns pass_one z.settled 0 (take_turns (load_one bits) z.pins 0 (counted w from)).mem

-- then the registers go on
unfoldable pub ticked : Sizes → List ℕ → ℕ → List ℕ → List ℕ
ticked z bits from w = take_turns turn_one z.registers 0 (take_turns hold_one z.registers 0 (lighted z bits from w))

-- the output pins' bits, written from a byte on
unfoldable pub shown_bits : Sizes → List ℕ → ℕ → ℕ → List ℕ → List ℕ → List ℕ
shown_bits z bits from to w out = (take_turns (store_one (lighted z bits from w)) z.pins 0 (counted out to)).mem

-- ---- the same over whole numbers, of which `g` is written

unfoldable pub word_lighted : Sizes → List ℕ → ℕ → List ℕ → List ℕ
word_lighted z bits from w = take_turns word_pass z.settled 0 (take_turns (load_one bits) z.pins 0 (counted w from)).mem

unfoldable pub word_ticked : Sizes → List ℕ → ℕ → List ℕ → List ℕ
word_ticked z bits from w = take_turns turn_one z.registers 0 (take_turns hold_one z.registers 0 (word_lighted z bits from w))

unfoldable pub word_shown : (ℕ → ℕ) → Sizes → List ℕ → ℕ → ℕ → List ℕ → List ℕ → List ℕ
word_shown g z bits from to w out = (take_turns (word_store g (word_lighted z bits from w)) z.pins 0 (counted out to)).mem

-- what a run asks of the memory
pub record Runs (w : List ℕ) (s r p : ℕ) : Type 0 where
  pub order : Ordered w s
  pub registers : Registers w r
  pub pins : PinsLow w p

-- after a tick
pub record Ticked (g : ℕ → ℕ) (z : Sizes) (bits : List ℕ) (from to : ℕ) (u out₀ w out : List ℕ) : Type 0 where
  pub within : Within u w
  pub memory : w ≡ word_ticked z bits from u
  pub size : length out ≡ length out₀
  pub bytes : out ≡ word_shown g z bits from to u out₀

-- ---- ticks one after the other, each with so many bytes read and written

pub record Running : Type 0 where
  pub mem : List ℕ
  pub out : List ℕ

abbrev pub running : List ℕ → List ℕ → Running
running w out = record { mem = w; out = out }

abbrev pub tick_one : Sizes → List ℕ → ℕ → ℕ → ℕ → Running → Running
tick_one z bits i o t s = running (ticked z bits (t * i) s.mem) (shown_bits z bits (t * i) (t * o) s.mem s.out)

abbrev pub word_tick : (ℕ → ℕ) → Sizes → List ℕ → ℕ → ℕ → ℕ → Running → Running
word_tick g z bits i o t s = running (word_ticked z bits (t * i) s.mem) (word_shown g z bits (t * i) (t * o) s.mem s.out)

pub record Ran (g : ℕ → ℕ) (z : Sizes) (bits : List ℕ) (i o n : ℕ) (u out₀ w out : List ℕ) : Type 0 where
  pub within : Within u w
  pub size : length out ≡ length out₀
  pub whole : running w out ≡ take_turns (word_tick g z bits i o) n 0 (running u out₀)

-- what the first n registers hold is kept
pub record StateKept (w : List ℕ) (n : ℕ) (state₀ state : List ℕ) : Type 0 where
  pub size : length state ≡ length state₀
  pub whole : state ≡ take_turns (keep_one w) n 0 state₀

-- there are bytes for so many ticks
pub record TraceFits (w : List ℕ) (a b p i o n : ℕ) : Type 0 where
  pub reads : i ≡ in_pin_count w p
  pub writes : o ≡ out_pin_count w p
  pub few : n ≤ 65535
  pub lent : n * i ≤ a
  pub room : n * o ≤ b

-- ---- an order: each output is there once, and looks at none that is there at its place or later

pub record InOrder (w : List ℕ) (n : ℕ) : Type 0 where
  pub ordered : Ordered w n
  pub apart : (i j : ℕ) → i < n → j < n → get_or w (order_at + i) 0 ≡ get_or w (order_at + j) 0 → i ≡ j
  pub first : (j i : ℕ) → j ≤ i → i < n → get_or w (first_in w (get_or w (order_at + j) 0)) 0 ≡ get_or w (order_at + i) 0 → ⊥
  pub last : (j i : ℕ) → j ≤ i → i < n → get_or w (get_or w (order_at + j) 0 - 1) 0 ≡ get_or w (order_at + i) 0 → ⊥

-- the bit that output o has to have, over the bits in v
abbrev pub due : List ℕ → List ℕ → ℕ → Bool
due w v o = gate_bit (get_or w o 0 - kinds_from) (lit v (get_or w (first_in w o) 0)) (lit v (get_or w (o - 1) 0))

-- every output of the order agrees with what it looks at; all other bits are as they were
pub record OrderAgrees (w : List ℕ) (n : ℕ) (v : List ℕ) : Type 0 where
  pub within : Within w v
  pub bits : (j : ℕ) → j < n → lit v (get_or w (order_at + j) 0) ≡ due w v (get_or w (order_at + j) 0)
  pub others : (x : ℕ) → ((j : ℕ) → j < n → get_or w (order_at + j) 0 ≡ x → ⊥) → get_or v (bits_at + x) 0 ≡ get_or w (bits_at + x) 0

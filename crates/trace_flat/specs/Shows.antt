-- What the flat layout shows of a run by terminal (trace_steps): u is the memory before the layout was made, with table, order and registers, and c x
-- the place of the bits of terminal x. Assumes nothing.
use Rattle.std.specs.Prelude.{ℕ, ◌+◌, ◌-◌, ◌/◌, ◌≤◌, ◌<◌, ◌≡◌, ◌⊎◌, true, false, List, length, get_or}
use Rattle.memory.specs.Map.{memory_size}
use Rattle.trace_steps.specs.Map.{registers_at, order_at, pins_at, bits_at}
use Rattle.trace_steps.specs.Steps.{first_in, Ordered, Registers}
use Rattle.trace_steps.specs.Words.{word_at}
use Rattle.trace_steps.specs.Pins.{pin_is_in, in_pin_count, out_pin_count}
use Rattle.trace_flat.specs.Flat.{flat_most, first_at, second_at_lem, third_at, gates_at, ins_at, outs_at, sources_at, shown_at, zero_at, one_at, second_for, third_for}

-- the j-th output of the order, and the j-th register's
abbrev pub gate_at : List ℕ → ℕ → ℕ
gate_at u j = get_or u (order_at + j) 0

abbrev pub register_at : List ℕ → ℕ → ℕ
register_at u j = get_or u (registers_at + j) 0

-- x is not the input terminal of a register that is driven, where trace_steps holds what the register shows next
abbrev pub Unheld : List ℕ → ℕ → ℕ → Type 0
Unheld u r x = (j : ℕ) → j < r → x ≡ register_at u j - 1 → get_or u x 0 ≡ x

-- the places: those of gates and registers side by side, all others by terminal
pub record Places (u : List ℕ) (n r end : ℕ) (c : ℕ → ℕ) : Type 0 where
  pub gate : (j : ℕ) → j < n → c (gate_at u j) ≡ gates_at + j
  pub gate_only : (x j : ℕ) → x < end → j < n → c x ≡ gates_at + j → x ≡ gate_at u j
  pub register : (j : ℕ) → j < r → c (register_at u j) ≡ shown_at + j
  pub register_only : (x j : ℕ) → x < end → j < r → c x ≡ shown_at + j → x ≡ register_at u j
  pub where_is : (x : ℕ) → x < end → ((gates_at ≤ c x) × (c x < ins_at)) ⊎ (((shown_at ≤ c x) × (c x < order_at)) ⊎ (c x ≡ bits_at + x))

-- what is read is below `end`, and shown
pub record Reads (u : List ℕ) (n r end : ℕ) : Type 0 where
  pub low : end ≤ 8192
  pub order : Ordered u n
  pub few : n ≤ flat_most
  pub registers : Registers u r
  pub few_registers : r ≤ flat_most
  pub gate_low : (j : ℕ) → j < n → gate_at u j < end
  pub first_low : (j : ℕ) → j < n → get_or u (first_in u (gate_at u j)) 0 < end
  pub first_shown : (j : ℕ) → j < n → Unheld u r (get_or u (first_in u (gate_at u j)) 0)
  pub last_low : (j : ℕ) → j < n → get_or u (gate_at u j - 1) 0 < end
  pub last_shown : (j : ℕ) → j < n → Unheld u r (get_or u (gate_at u j - 1) 0)
  pub source_low : (j : ℕ) → j < r → get_or u (register_at u j - 1) 0 < end
  pub source_shown : (j : ℕ) → j < r → Unheld u r (get_or u (register_at u j - 1) 0)
  pub apart : (i j : ℕ) → i < r → j < r → register_at u i ≡ register_at u j → i ≡ j
  -- no register's output is a register's input
  pub no_input : (i j : ℕ) → i < r → j < r → register_at u i ≡ register_at u j - 1 → ⊥

-- the lists say so
pub record Lists (u : List ℕ) (n r : ℕ) (c : ℕ → ℕ) (v : List ℕ) : Type 0 where
  pub size : memory_size ≤ length v
  pub first : (j : ℕ) → j < n → get_or v (first_at + j) 0 ≡ c (get_or u (first_in u (gate_at u j)) 0)
  pub second : (j : ℕ) → j < n → get_or v (second_at_lem + j) 0 ≡ second_for (get_or u (gate_at u j) 0) (c (get_or u (gate_at u j - 1) 0))
  pub third : (j : ℕ) → j < n → get_or v (third_at + j) 0 ≡ third_for (get_or u (gate_at u j) 0) (c (get_or u (first_in u (gate_at u j)) 0)) (c (get_or u (gate_at u j - 1) 0))
  pub source : (j : ℕ) → j < r → get_or v (sources_at + j) 0 ≡ c (get_or u (register_at u j - 1) 0)
  pub dark : get_or v zero_at 0 ≡ 0
  pub bright : get_or v one_at 0 ≡ 65535

-- each terminal's bits stand at its place
pub record FlatShows (u : List ℕ) (r end : ℕ) (c : ℕ → ℕ) (w v : List ℕ) : Type 0 where
  pub same : (x : ℕ) → x < end → Unheld u r x → get_or v (c x) 0 ≡ word_at w x
  pub fits : (i : ℕ) → get_or v i 0 < 65536

-- an input pin has its own place, and what an output pin shows is shown
pub record PinReads (u : List ℕ) (r end p : ℕ) (c : ℕ → ℕ) : Type 0 where
  pub few : p ≤ 128
  pub in_low : (k : ℕ) → k < p → pin_is_in u k ≡ true → get_or u (pins_at + k) 0 / 2 < end
  pub in_own : (k : ℕ) → k < p → pin_is_in u k ≡ true → c (get_or u (pins_at + k) 0 / 2) ≡ bits_at + get_or u (pins_at + k) 0 / 2
  pub out_low : (k : ℕ) → k < p → pin_is_in u k ≡ false → get_or u (pins_at + k) 0 / 2 < end
  pub out_shown : (k : ℕ) → k < p → pin_is_in u k ≡ false → Unheld u r (get_or u (pins_at + k) 0 / 2)

pub record PinLists (u : List ℕ) (p : ℕ) (c : ℕ → ℕ) (v : List ℕ) : Type 0 where
  pub ins : (k : ℕ) → k < p → pin_is_in u k ≡ true → get_or v (ins_at + in_pin_count u k) 0 ≡ c (get_or u (pins_at + k) 0 / 2)
  pub outs : (k : ℕ) → k < p → pin_is_in u k ≡ false → get_or v (outs_at + out_pin_count u k) 0 ≡ c (get_or u (pins_at + k) 0 / 2)

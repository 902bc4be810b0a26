-- A tick, and a run, over the flat layout and the output. Assumes nothing.
use Rattle.std.specs.Prelude.{ℕ, ◌+◌, ◌*◌, ◌/◌, ◌≤◌, ◌<◌, ◌≡◌, ◌⊎◌, true, false, List, eqb, length, get_or, set}
use Rattle.memory.specs.Map.{memory_size}
use Rattle.lean.specs.Table.{Within}
use Rattle.trace_steps.specs.Map.{registers_at, order_at, pins_at, bits_at, one_entry}
use Rattle.trace_steps.specs.Steps.{Ordered, Registers}
use Rattle.trace_steps.specs.Words.{word_at, every_lane}
use Rattle.trace_steps.specs.Pins.{pin_is_in, in_pin_count, out_pin_count, PinsLow}
use Rattle.trace_steps.specs.Turns.{take_turns}
use Rattle.trace_steps.specs.Ticks.{Running, running}
use Rattle.trace_flat.specs.Flat.{flat_most, sources_at, next_at, shown_at, first_at, second_at_lem, third_at, gates_at, ins_at, outs_at, zero_at, one_at, place_one, place_register, place_gate, second_for, third_for, first_place, last_place, there_at, Gates, Sources, flat_step, flat_hold, flat_turn}

-- a place of bits: a register's, a terminal's own or a gate's
abbrev pub Place : ℕ → Type 0
Place y = ((shown_at ≤ y) × (y < order_at)) ⊎ (((bits_at ≤ y) × (y < first_at)) ⊎ ((gates_at ≤ y) × (y < ins_at)))

-- nothing changes but at places, and what registers show next
pub record Cells (u w : List ℕ) : Type 0 where
  pub size : length w ≡ length u
  pub below : (j : ℕ) → j < next_at → get_or w j 0 ≡ get_or u j 0
  pub middle : (j : ℕ) → order_at ≤ j → j < bits_at → get_or w j 0 ≡ get_or u j 0
  pub lists : (j : ℕ) → first_at ≤ j → j < gates_at → get_or w j 0 ≡ get_or u j 0
  pub above : (j : ℕ) → ins_at ≤ j → get_or w j 0 ≡ get_or u j 0

-- n turns over a memory, which change only places
pub record Celled (f : ℕ → List ℕ → List ℕ) (n : ℕ) (u w : List ℕ) : Type 0 where
  pub cells : Cells u w
  pub whole : w ≡ take_turns f n 0 u

-- so many gates, registers, input and output pins
pub record Counts : Type 0 where
  pub gates : ℕ
  pub registers : ℕ
  pub ins : ℕ
  pub outs : ℕ

abbrev pub counts : ℕ → ℕ → ℕ → ℕ → Counts
counts n r i o = record { gates = n; registers = r; ins = i; outs = o }

-- what a tick asks of the memory
pub record Flat (w : List ℕ) (n r i o : ℕ) : Type 0 where
  pub size : memory_size ≤ length w
  pub gates : Gates w n
  pub sources : Sources w r
  pub few_in : i ≤ 128
  pub few_out : o ≤ 128
  pub ins : (k : ℕ) → k < i → Place (get_or w (ins_at + k) 0)
  pub outs : (k : ℕ) → k < o → get_or w (outs_at + k) 0 < memory_size

-- ---- what the layout leaves; m is the memory when the places stood among the bits, by terminal

pub record FlatLaid (u : List ℕ) (end n r p : ℕ) (v : List ℕ) : Type 0 where
  pub m : List ℕ
  pub within : Within u m
  pub placed : m ≡ take_turns place_gate n 0 (take_turns place_register r 0 (take_turns place_one 8192 0 u))
  pub size : length v ≡ length u
  pub above : (j : ℕ) → memory_size ≤ j → get_or v j 0 ≡ get_or u j 0
  pub first : (j : ℕ) → j < n → get_or v (first_at + j) 0 ≡ first_place m (get_or m (order_at + j) 0)
  pub second : (j : ℕ) → j < n → get_or v (second_at_lem + j) 0 ≡ second_for (get_or m (get_or m (order_at + j) 0) 0) (last_place m (get_or m (order_at + j) 0))
  pub third : (j : ℕ) → j < n → get_or v (third_at + j) 0 ≡ third_for (get_or m (get_or m (order_at + j) 0) 0) (first_place m (get_or m (order_at + j) 0)) (last_place m (get_or m (order_at + j) 0))
  pub source : (j : ℕ) → j < r → get_or v (sources_at + j) 0 ≡ last_place m (get_or m (registers_at + j) 0)
  pub ins : (k : ℕ) → k < p → pin_is_in m k ≡ true → get_or v (ins_at + in_pin_count m k) 0 ≡ word_at m (get_or m (pins_at + k) 0 / 2)
  pub outs : (k : ℕ) → k < p → pin_is_in m k ≡ false → get_or v (outs_at + out_pin_count m k) 0 ≡ word_at m (get_or m (pins_at + k) 0 / 2)
  pub begun : (x : ℕ) → x < end → word_at v x ≡ every_lane (eqb (get_or m x 0) one_entry)
  pub dark : (j : ℕ) → j < n → get_or v (gates_at + j) 0 ≡ 0
  pub zero_is : get_or v zero_at 0 ≡ 0
  pub one_is : get_or v one_at 0 ≡ 65535

-- what it asks
pub record Layable (w : List ℕ) (end n r p : ℕ) : Type 0 where
  pub size : memory_size ≤ length w
  pub few_terminals : end ≤ 8192
  pub order : Ordered w n
  pub few_gates : n ≤ flat_most
  pub registers : Registers w r
  pub few_registers : r ≤ flat_most
  pub pins : PinsLow w p

-- what the registers show at tick 0
abbrev pub flat_wake : List ℕ → ℕ → List ℕ → List ℕ
flat_wake starts j w = set w (shown_at + j) (get_or starts j 0)

-- what the j-th register shows is kept
abbrev pub flat_keep : List ℕ → ℕ → List ℕ → List ℕ
flat_keep w j state = set state j (get_or w (shown_at + j) 0)

-- the next bits of the k-th input pin
abbrev pub flat_load : List ℕ → ℕ → ℕ → List ℕ → List ℕ
flat_load bits from k w = set w (get_or w (ins_at + k) 0) (get_or bits (from + k) 0)

-- what `g` makes of the bits of the k-th output pin
abbrev pub flat_store : (ℕ → ℕ) → List ℕ → ℕ → ℕ → List ℕ → List ℕ
flat_store g w to k out = set out (to + k) (g (there_at w (outs_at + k)))

-- n turns over a list of the caller's
pub record WrittenBy (f : ℕ → List ℕ → List ℕ) (n : ℕ) (out₀ out : List ℕ) : Type 0 where
  pub size : length out ≡ length out₀
  pub whole : out ≡ take_turns f n 0 out₀

unfoldable pub flat_lighted : Counts → List ℕ → ℕ → List ℕ → List ℕ
flat_lighted z bits from w = take_turns flat_step z.gates 0 (take_turns (flat_load bits from) z.ins 0 w)

unfoldable pub flat_ticked : Counts → List ℕ → ℕ → List ℕ → List ℕ
flat_ticked z bits from w = take_turns flat_turn z.registers 0 (take_turns flat_hold z.registers 0 (flat_lighted z bits from w))

unfoldable pub flat_shown : (ℕ → ℕ) → Counts → List ℕ → ℕ → ℕ → List ℕ → List ℕ → List ℕ
flat_shown g z bits from to w out = take_turns (flat_store g (flat_lighted z bits from w) to) z.outs 0 out

pub record FlatTicked (g : ℕ → ℕ) (z : Counts) (bits : List ℕ) (from to : ℕ) (u out₀ w out : List ℕ) : Type 0 where
  pub cells : Cells u w
  pub memory : w ≡ flat_ticked z bits from u
  pub size : length out ≡ length out₀
  pub bytes : out ≡ flat_shown g z bits from to u out₀

-- ---- ticks one after the other

abbrev pub flat_tick : (ℕ → ℕ) → Counts → List ℕ → ℕ → Running → Running
flat_tick g z bits t s = running (flat_ticked z bits (t * z.ins) s.mem) (flat_shown g z bits (t * z.ins) (t * z.outs) s.mem s.out)

pub record FlatRan (g : ℕ → ℕ) (z : Counts) (bits : List ℕ) (n : ℕ) (u out₀ w out : List ℕ) : Type 0 where
  pub cells : Cells u w
  pub size : length out ≡ length out₀
  pub whole : running w out ≡ take_turns (flat_tick g z bits) n 0 (running u out₀)

-- there are bits and room for so many ticks
pub record FlatFits (a b i o n : ℕ) : Type 0 where
  pub few : n ≤ 65535
  pub lent : n * i ≤ a
  pub room : n * o ≤ b

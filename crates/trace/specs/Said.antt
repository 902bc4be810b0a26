-- What a run in the working memory answers and leaves, in the terms of the definitions. Assumes nothing.
use Rattle.std.specs.Prelude.{ℕ, ◌+◌, ◌*◌, ◌≤◌, ◌<◌, ◌≡◌, Bool, ◌&&◌, List, T, eqb, leb, length, get_or, Result}
use Rattle.calculus.specs.Answer.{Answer, good, ◌>>=◌, need}
use Rattle.calculus.specs.Net.{Net}
use Rattle.calculus.specs.Lean.{lean}
use Rattle.memory.specs.Map.{memory_size, net_in}
use Rattle.circuit_theorems.specs.Terminals.{has}
use Rattle.trace_calculus.specs.Lanes.{LanesEnd, went, outs, state_of, LanesCall}
use Rattle.trace_calculus.specs.Trace.{OnRing, terminals, in_pins, out_pins, registers, all_bits, run, given_bits, start_bits, rows}
use Rattle.trace_steps.specs.Map.{bits_at}
use Rattle.trace_steps.specs.Steps.{Ordered}
use Rattle.trace_steps.specs.Pins.{PinsLow, Listable, RegistersListed}
use Rattle.trace_steps.specs.Ticks.{InOrder}
use Rattle.trace_flat.specs.Flat.{flat_most}
use Rattle.trace_rings.specs.Rings.{met}
use Rattle.translator.specs.Said.{said_answer, AnswerSays}
use Rattle.trace.specs.Tables.{Tabled, Looking}
use Rattle.answers.specs.declared.Refusal.{Refusal}

-- ---- the stages

-- what stays above the working memory
pub record Above (u w : List ℕ) : Type 0 where
  pub size : length w ≡ length u
  pub above : (j : ℕ) → memory_size ≤ j → get_or w j 0 ≡ get_or u j 0

-- the table by terminal is made; past it there is nothing
pub record TablesMade (u : List ℕ) (elements wires pins : ℕ) (w : List ℕ) (end : ℕ) : Type 0 where
  pub tabled : Tabled w (lean (net_in u elements wires pins)) end pins
  pub past : (x : ℕ) → end ≤ x → x < 8192 → get_or w (bits_at + x) 0 ≡ 0
  pub kept : Above u w

-- input and start bits are of the exact number, and bits
abbrev pub lent_in : List ℕ → List ℕ → ℕ → ℕ → Bool
lent_in bits starts reads regs = eqb (length bits) reads && eqb (length starts) regs && (all_bits bits && all_bits starts)

-- `ran`, once there is no ring: 20, then 17
unfoldable pub freed : Net → ℕ → List ℕ → List ℕ → ℕ → Answer (List ℕ)
freed m n bits starts room = do
  _ ← need (lent_in bits starts (n * length (in_pins m.pins)) (length (registers m.elements))) 20 0
  _ ← need (leb (n * length (out_pins m.pins)) room) 17 (n * length (out_pins m.pins))
  good (rows (run m (given_bits m.pins bits) (start_bits m.elements starts)) (out_pins m.pins) 0 n)

-- what a run asks of the memory, whatever netlist stands there
pub record Safe (w : List ℕ) (end settled pins ticks : ℕ) : Type 0 where
  pub size : memory_size ≤ length w
  pub few : end ≤ 8192
  pub order : Ordered w settled
  pub registers : Listable w end
  pub pins_low : PinsLow w pins
  pub short : ticks ≤ 65535

-- the flat layout has room for all gates and registers
pub record Roomy (w : List ℕ) (end settled : ℕ) : Type 0 where
  pub gates : settled ≤ flat_most
  pub registers : (v : List ℕ) (regs : ℕ) → RegistersListed w end v regs → regs ≤ flat_most

-- the netlist m stands in the table, and all its gates in an order
pub record Runnable (w : List ℕ) (m : Net) (end settled pins : ℕ) : Type 0 where
  pub tabled : Tabled w m end pins
  pub order : InOrder w settled
  pub listed : (j : ℕ) → j < settled → T (has (terminals m.elements) (met w j)) × Looking (get_or w (met w j) 0)
  pub all : (x : ℕ) → T (has (terminals m.elements) x) → Looking (get_or w x 0) → (j : ℕ) × (j < settled) × (met w j ≡ x)
  pub free : (x : ℕ) → OnRing m x → ⊥

-- it is run, whatever netlist it is
pub record Freed (u : List ℕ) (end settled pins ticks : ℕ) (bits starts out₀ w out : List ℕ) (r : Result ℕ Refusal) : Type 0 where
  pub kept : Above u w
  pub says : (m : Net) → Runnable u m end settled pins → AnswerSays r out₀ out (freed m ticks bits starts (length out₀))

-- ---- sixteen traces at once

-- input numbers and state are of the exact number
abbrev pub lanes_lent : List ℕ → List ℕ → ℕ → ℕ → Bool
lanes_lent bits state reads regs = eqb (length bits) reads && eqb (length state) regs

-- `lanes_ran`, once there is no ring: 20, then 17
unfoldable pub lanes_free : Net → ℕ → List ℕ → List ℕ → ℕ → Answer LanesEnd
lanes_free m n bits state room = do
  _ ← need (lanes_lent bits state (n * length (in_pins m.pins)) (length (registers m.elements))) 20 0
  _ ← need (leb (n * length (out_pins m.pins)) room) 17 (n * length (out_pins m.pins))
  good (went m n bits state)

-- an answer, and what it leaves of the output and of the state, are those of `a`
pub record LanesSay (r : Result ℕ Refusal) (out₀ out state₀ state : List ℕ) (a : Answer LanesEnd) : Type 0 where
  pub answer : AnswerSays r out₀ out (outs a)
  pub left : state ≡ state_of a state₀

pub record LanesFreed (u : List ℕ) (end settled pins ticks : ℕ) (bits state₀ out₀ w state out : List ℕ) (r : Result ℕ Refusal) : Type 0 where
  pub kept : Above u w
  pub says : (m : Net) → Runnable u m end settled pins → LanesSay r out₀ out state₀ state (lanes_free m ticks bits state₀ (length out₀))

-- what a call leaves
abbrev pub lanes_called : Result ℕ Refusal → List ℕ → List ℕ → List ℕ → LanesCall
lanes_called r out state work = record { said = said_answer r; out = out; state = state; work = work }

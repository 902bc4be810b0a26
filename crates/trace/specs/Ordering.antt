-- A lean netlist put in order, or the lowest input on a ring. Assumes nothing.
use Rattle.std.specs.Prelude.{ℕ, ◌≤◌, ◌≡◌, List, Result, Ok, Err}
use Rattle.calculus.specs.Answer.{good, refused}
use Rattle.answers.specs.declared.Refusal.{Refusal}
use Rattle.answers.specs.Refusals.{said_why}
use Rattle.calculus.specs.Net.{Net}
use Rattle.calculus.specs.Lean.{lean}
use Rattle.memory.specs.Map.{net_in}
use Rattle.trace_calculus.specs.Trace.{inputs, none_on_ring}
use Rattle.trace.specs.Said.{Above, Safe, Runnable}
use Rattle.trace.specs.declared.ordering.Order.{Order}

-- what it says of the netlist m
abbrev pub OrderSays : Result Order Refusal → Net → List ℕ → Type 0
OrderSays (Err why) m w = none_on_ring m (inputs m.elements) ≡ refused (said_why why)
OrderSays (Ok o) m w = (none_on_ring m (inputs m.elements) ≡ good tt) × (Runnable w m o.end o.settled o.pins) × ((n : ℕ) → n ≤ 65535 → Safe w o.end o.settled o.pins n)

-- the output pins are those that were given
abbrev pub OrderPins : Result Order Refusal → ℕ → Type 0
OrderPins (Err why) pins = Unit {0}
OrderPins (Ok o) pins = o.pins ≡ pins

pub record PutInOrder (u : List ℕ) (elements wires pins : ℕ) (w : List ℕ) (r : Result Order Refusal) : Type 0 where
  pub kept : Above u w
  pub given : OrderPins r pins
  pub says : OrderSays r (lean (net_in u elements wires pins)) w

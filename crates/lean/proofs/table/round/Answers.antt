-- The invariant: x is so many steps back from o, and low is the lowest up to x. Assumes nothing.
use native.Mathlib.Omega.{arith}
use native.Mathlib.Nat.{min-eq_left, min-eq_right, le_of_lt}
use Prim.Native.Nat.{ℕ, ◌<◌, ◌+◌, min}
use mathlib.Core.Path.{◌≡◌, refl, sym, ap, ◌∙◌, subst}
use Rattle.memory.specs.Map.{net_in}
use Rattle.netlist.specs.declared.Out.{Out}
use Rattle.lean.proofs.DriverLaws.{output-below}
use Rattle.lean.proofs.RoundLaws.{Rounding, rounding-start, rounding-step, round_settled, round_back, round_end}
use Rattle.lean.proofs.table.round.Goals as goal
use Rattle.lean.proofs.table.round.Goals.{After-back_of-x, then-x-low, else-x-low}

-- one step further, with the lower of the two
step : (c : After-back_of-x) (y : ℕ) →
    let l = c.loop in
    let a = c.args in
    y ≡ min l.low.0 c.back_of-x.result.0 → Rounding a.work.now (net_in a.work.now a.full.elements a.full.wires a.full.pins) a.o.0 c.back_of-x.result.0 y (l.counter + 1)
step c y f =
    let l = c.loop in
    let a = c.args in
    subst (λ (x : ℕ). Rounding a.work.now (net_in a.work.now a.full.elements a.full.wires a.full.pins) a.o.0 x y (l.counter + 1)) (sym c.back_of-x.ensures)
    (rounding-step a.work.now a.full.elements a.full.wires a.full.pins c.requires.0 a.o.0 l.x.0 y l.low.0 l.counter l.invariant.1.1 c.loop-test.true c.if-r.false (f ∙ ap (min l.low.0) c.back_of-x.ensures))

below : (c : After-back_of-x) → c.back_of-x.result.0 < 8192
below c =
    let a = c.args in
    output-below a.work.now a.full.elements a.full.wires a.full.pins c.requires.0.ready c.back_of-x.result.0 (step c _ refl).output

pub loop-init : goal.loop-init
loop-init c =
    let a = c.args in
    let q = c.requires.0 in
    let l = output-below a.work.now a.full.elements a.full.wires a.full.pins q.ready a.o.0 c.requires.1.0 in
    (l, (l, rounding-start a.work.now a.full.elements a.full.wires a.full.pins q a.o.0 c.requires.1.0))

pub returns-then-r : goal.returns-then-r
returns-then-r c =
    let l = c.loop in
    let a = c.args in
    round_settled a.work.now a.full.elements a.full.wires a.full.pins c.requires.0 a.o.0 l.x.0 l.low.0 l.counter l.invariant.1.1 c.if-r.true

pub returns-then-x-o : goal.returns-then-x-o
returns-then-x-o c =
    let l = c.loop in
    let a = c.args in
    round_back a.work.now a.full.elements a.full.wires a.full.pins c.requires.0 a.o.0 l.x.0 l.low.0 l.counter l.invariant.1.1 c.if-r.false (sym c.back_of-x.ensures ∙ c.if-x-o.true)

pub loop-preserved : goal.loop-preserved
loop-preserved c =
    let b = (goal.at.loop-preserved c).After-back_of-x in
    let j = c.if-x-low in
    let f : j.low.0 ≡ min c.loop.low.0 c.back_of-x.result.0 =
    elim j.branch [
      | then-x-low w ↦ ap (λ (y : Out). y.0) w.low-is ∙ sym (min-eq_right (le_of_lt w.if-x-low.true))
      | else-x-low w ↦ ap (λ (y : Out). y.0) w.low-is ∙ sym (min-eq_left w.if-x-low.false)
    ] in
    (below b, (omega (arith, f, c.loop.invariant.1.0), step b j.low.0 f))

pub returns : goal.returns
returns c =
    let l = c.loop in
    let a = c.args in
    round_end a.work.now a.full.elements a.full.wires a.full.pins c.requires.0 a.o.0 l.x.0 l.low.0 l.counter l.invariant.1.1 (omega arith) c.requires.1.1

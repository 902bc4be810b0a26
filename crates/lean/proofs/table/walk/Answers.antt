-- The invariant: x is the steps that are made back from the mark. Assumes nothing.
use native.Mathlib.Omega.{arith}
use Prim.Native.Nat.{ℕ, ◌+◌}
use mathlib.Core.Path.{◌≡◌, sym, subst}
use Rattle.memory.specs.Map.{net_in}
use Rattle.lean.proofs.DriverLaws.{output-below}
use Rattle.lean.proofs.RoundLaws.{Walking, walking_start, walking_step, walked-settled, walked-mark, walked_end}
use Rattle.lean.proofs.table.walk.Goals as goal
use Rattle.lean.proofs.table.walk.Goals.{After-back_of-x}

-- one step back
step : (c : After-back_of-x)
    →
    let l = c.loop in
    let a = c.args in
    Walking (net_in a.work.now a.full.elements a.full.wires a.full.pins) a.mark.0 c.back_of-x.result.0 a.steps (l.counter + 1)
step c =
    let l = c.loop in
    let a = c.args in
    subst (λ (x : ℕ). Walking (net_in a.work.now a.full.elements a.full.wires a.full.pins) a.mark.0 x a.steps (l.counter + 1)) (sym c.back_of-x.ensures)
    (walking_step a.work.now a.full.elements a.full.wires a.full.pins c.requires.0 a.mark.0 l.x.0 a.steps l.counter l.invariant.1 c.loop-test.true c.if-work-x.false)

pub loop-init : goal.loop-init
loop-init c =
    let a = c.args in
    let q = c.requires.0 in (
      output-below a.work.now a.full.elements a.full.wires a.full.pins q.ready a.mark.0 c.requires.1.0,
      walking_start a.work.now a.full.elements a.full.wires a.full.pins q a.mark.0 a.steps c.requires.1.0,
    )

pub returns-then-work-x : goal.returns-then-work-x
returns-then-work-x c =
    let l = c.loop in
    let a = c.args in
    walked-settled a.work.now a.full.elements a.full.wires a.full.pins c.requires.0 a.mark.0 l.x.0 a.steps l.counter l.invariant.1 c.if-work-x.true

pub returns-then-x-mark : goal.returns-then-x-mark
returns-then-x-mark c =
    let l = c.loop in
    let a = c.args in
    walked-mark a.work.now a.full.elements a.full.wires a.full.pins c.requires.0 a.mark.0 c.back_of-x.result.0 a.steps (l.counter + 1) (step (goal.at.returns-then-x-mark c).After-back_of-x) (omega arith) c.if-x-mark.true

pub loop-preserved : goal.loop-preserved
loop-preserved c =
    let a = c.args in
    (output-below a.work.now a.full.elements a.full.wires a.full.pins c.requires.0.ready c.back_of-x.result.0 (step (goal.at.loop-preserved c).After-back_of-x).output, step (goal.at.loop-preserved c).After-back_of-x)

pub returns : goal.returns
returns c =
    let l = c.loop in
    let a = c.args in
    let e : l.counter ≡ a.steps = omega (arith, l.invariant.1.few) in
    walked_end a.work.now a.full.elements a.full.wires a.full.pins c.requires.0 a.mark.0 l.x.0 a.steps (rw e at l.invariant.1) c.requires.1.1

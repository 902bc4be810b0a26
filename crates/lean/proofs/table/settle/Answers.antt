-- The invariant: x has the same root as o, and o is settled, but at the start. Assumes nothing.
use native.Mathlib.Omega.{arith}
use Prim.Native.Nat.{ℕ, ◌+◌}
use mathlib.Core.Path.{sym, subst}
use lib.ListN.{set}
use Rattle.memory.specs.Map.{roots_at}
use Rattle.lean.proofs.DriverLaws.{output-below}
use Rattle.lean.proofs.SettleLaws.{SettlingOne, settling_start, settling_step, settled-met, settled-end}
use Rattle.lean.proofs.table.settle.Goals as goal

pub loop-init : goal.loop-init
loop-init c =
    let a = c.args in
    let q = c.requires.0 in (
      (output-below a.work.now a.full.elements a.full.wires a.full.pins q.ready a.o.0 c.requires.1.0, q.ready.size),
      settling_start a.work.now a.full.elements a.full.wires a.full.pins a.o.0 a.r.0 q c.requires.1.0 c.requires.1.1,
    )

pub returns-then-work-x : goal.returns-then-work-x
returns-then-work-x c =
    let l = c.loop in
    let a = c.args in
    settled-met a.work.now l.work a.full.elements a.full.wires a.full.pins a.o.0 a.r.0 l.x.0 l.counter l.invariant.1 c.if-work-x.true

pub loop-preserved : goal.loop-preserved
loop-preserved c =
    let l = c.loop in
    let a = c.args in
    let n = settling_step a.work.now l.work a.full.elements a.full.wires a.full.pins a.o.0 a.r.0 l.x.0 l.counter l.invariant.1 c.if-work-x.false in
    let t = subst (λ (y : ℕ). SettlingOne a.work.now (set l.work (roots_at + l.x.0) a.r.0) a.full.elements a.full.wires a.full.pins a.o.0 a.r.0 y (l.counter + 1)) (sym c.back_of-next.ensures) n in
    ((output-below _ a.full.elements a.full.wires a.full.pins t.partly.ready c.back_of-next.result.0 t.output, t.partly.ready.size), t)

pub returns : goal.returns
returns c =
    let l = c.loop in
    let a = c.args in
    settled-end a.work.now l.work a.full.elements a.full.wires a.full.pins a.o.0 a.r.0 l.x.0 l.counter l.invariant.1 (omega arith)

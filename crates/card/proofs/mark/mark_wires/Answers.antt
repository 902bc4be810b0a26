-- The invariant: the wires to the first x terminals are marked; what is passed behind the last is an output. Assumes nothing.
use native.Mathlib.Omega.{arith}
use mathlib.Core.Path.{sym, subst}
use Prim.Native.Nat.{ℕ, ◌+◌}
use Rattle.export_calculus.specs.Card.{drives}
use Rattle.memory.specs.Map.{roots_at}
use Rattle.lean.specs.Layout.{wire_at, row_in}
use Rattle.card.specs.Marks.{MarkedWhere, mark_wire}
use Rattle.card.proofs.MarkLaws.{wires_next, wires_passed, passed-end, wires_end}
use Rattle.card.proofs.mark.mark_wires.Goals as goal

pub loop-x-preserved : goal.loop-x-preserved
loop-x-preserved c =
    let l = c.loop-x in
    let a = c.args in
    let h = c.loop-x-test.true in
    let b = c.behind-x.ensures in
    let m = subst (MarkedWhere a.work.now a.end (λ j. drives (row_in wire_at roots_at a.work.now (l.x + 1) 0) j)) (sym c.mark_wire.ensures) (subst (λ (v : ℕ). MarkedWhere a.work.now a.end (λ j. drives (row_in wire_at roots_at a.work.now (l.x + 1) 0) j) (mark_wire l.work v)) (sym (l.invariant.1.1.high (roots_at + l.x) (omega arith))) (wires_next a.work.now a.end a.pins c.requires l.x h l.invariant.1.1)) in (
      (let f = b.few in omega arith),
      (passed-end a.work.now a.end a.pins c.requires l.x c.behind-x.result h b m, wires_passed a.work.now a.end a.pins c.requires l.x c.behind-x.result b m),
    )

pub returns : goal.returns
returns c =
    let a = c.args in
    let l = c.loop-x in
    wires_end a.work.now a.end a.pins c.requires l.x c.loop-x-test.false l.invariant.0 l.invariant.1.0 l.invariant.1.1

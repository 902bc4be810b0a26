-- The invariant: those from x on are listed. Assumes nothing.
use native.Mathlib.Omega.{arith}
use mathlib.Core.Path.{◌≡◌, sym, ◌∙◌}
use Prim.Native.Nat.{◌+◌, ◌-◌}
use Rattle.trace_rings.proofs.ListLaws.{choosing_yes}
use Rattle.trace_rings.proofs.list.list.Goals as goal

pub loop-x-preserved-then-looks : goal.loop-x-preserved-then-looks
loop-x-preserved-then-looks c =
    let l = c.loop-x in
    let h = c.loop-x-test.true in
    let e : l.x ≡ l.x - 1 + 1 = omega arith in
    choosing_yes c.args.work.now c.args.end l.x (l.x - 1) l.work l.n c.requires l.invariant e (sym c.looks.ensures ∙ c.if-looks.true)

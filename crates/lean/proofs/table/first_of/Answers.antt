-- By the kind, and by whether the input has a driver. Assumes nothing.
use native.Mathlib.Omega.{arith}
use mathlib.Core.Path.{◌∙◌}
use Prim.Native.Nat.{◌<◌}
use Rattle.lean.proofs.KindLaws.{first_low}
use Rattle.lean.proofs.TableLaws.{first_loose, first_pin, first_part}
use Rattle.lean.proofs.table.first_of.Goals as goal

pub bounds-work-n : goal.bounds-work-n
bounds-work-n c =
    let h : c.args.n < 8192 = first_low c.args.kind c.args.n _ c.requires.1.0 in
    omega arith

pub returns-then-work-n : goal.returns-then-work-n
returns-then-work-n c = let a = c.args in first_loose a.work.now a.kind a.n c.if-kind-eq-POINT.true c.if-work-n.true

pub returns-else-work-n : goal.returns-else-work-n
returns-else-work-n c =
    let a = c.args in
    c.requires.1.1 ∙ first_pin a.work.now a.kind a.n c.if-kind-eq-POINT.true c.if-work-n.false

pub returns-else-kind-eq-POINT : goal.returns-else-kind-eq-POINT
returns-else-kind-eq-POINT c = let a = c.args in c.requires.1.1 ∙ first_part a.work.now a.kind a.n c.if-kind-eq-POINT.false

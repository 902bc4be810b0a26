-- By the kind. Assumes nothing.
use mathlib.Core.Path.{◌∙◌, ap}
use Prim.Native.Nat.{ℕ, ◌+◌}
use Rattle.lean.proofs.KindLaws.{point_low, after-output}
use Rattle.lean.proofs.PassLaws.{name_point, name-part}
use Rattle.lean.proofs.pass.name_one.Goals as goal

pub name_point-requires : goal.name_point-requires
name_point-requires c = (c.requires.0, point_low c.args.kind c.args.n 8192 c.if-kind-eq-POINT.true c.requires.1.1)

pub returns-then-kind-eq-POINT : goal.returns-then-kind-eq-POINT
returns-then-kind-eq-POINT c = let a = c.args in let z = name_point a.work.now a.kind a.n c.if-kind-eq-POINT.true in (z.0, c.name_point.ensures ∙ z.1)

pub returns : goal.returns
returns c =
    let a = c.args in
    (ap (λ (x : ℕ). x + 1) c.output_of-o.ensures ∙ after-output a.kind a.n, rw c.output_of-o.ensures (name-part a.work.now a.kind a.n c.if-kind-eq-POINT.false))

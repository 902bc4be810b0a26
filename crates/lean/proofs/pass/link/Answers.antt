-- The invariant: the first x inputs are linked. Assumes nothing.
use native.Mathlib.Omega.{arith}
use mathlib.Core.Path.{◌≡◌, refl, sym, subst}
use mathlib.Core.List.{List}
use Prim.Native.Nat.{ℕ, ◌+◌}
use Rattle.lean.specs.Layout.{link_in, Linked}
use Rattle.lean.proofs.PassLaws.{link_next, source-here}
use Rattle.lean.proofs.pass.link.Goals as goal

pub link_one-requires : goal.link_one-requires
link_one-requires c =
    let l = c.loop-x in
    let size = c.requires.size in
    let few = c.requires.below in
    let same = l.invariant.within.size in
    (omega arith, (omega arith, source-here c.args.work.now l.work c.args.end l.x c.requires c.loop-x-test.true l.invariant))

pub loop-x-preserved : goal.loop-x-preserved
loop-x-preserved c =
    let l = c.loop-x in
    subst (λ (v : List ℕ). Linked c.args.work.now (l.x + 1) v) (sym c.link_one.ensures) (link_next c.args.work.now l.work c.args.end l.x c.requires c.loop-x-test.true l.invariant (link_in l.work l.x) refl)

pub returns : goal.returns
returns c =
    let l = c.loop-x in
    let e : l.x ≡ c.args.end = omega arith in
    subst (λ (k : ℕ). Linked c.args.work.now k l.work) e l.invariant

-- `scopes::last_at` meets its contract. The invariant: the entries that are left decide. Assumes nothing.
use Prim.Native.Nat.{◌+◌, ◌-◌}
use mathlib.Core.Path.{◌≡◌, ◌∙◌}
use native.Mathlib.Omega.{arith}
use Rattle.scopes.proofs.EntryLaws.{placed-found, placed-more}
use Rattle.scopes.proofs.entries.last_at.Goals as goal

pub returns-then-p-place : goal.returns-then-p-place
returns-then-p-place c =
    let test = c.loop-e-test.true in
    let back : c.loop-e.e - 1 + 1 ≡ c.loop-e.e = omega arith in
    back ∙ placed-found c.args.work.now c.args.place c.args.from c.args.to c.loop-e.e c.loop-e.invariant c.loop-e-test.true c.place_of-p.result c.place_of-p.ensures c.if-p-place.true

pub loop-e-preserved : goal.loop-e-preserved
loop-e-preserved c = placed-more c.args.work.now c.args.place c.args.from c.args.to c.loop-e.e c.loop-e.invariant c.loop-e-test.true c.place_of-p.result c.place_of-p.ensures c.if-p-place.false

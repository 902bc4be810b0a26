-- `sheet::skip` meets its contract. The invariant: as many records are passed as the counter says. Assumes nothing.
use mathlib.Core.Path.{◌≡◌, refl}
use native.Mathlib.Omega.{arith}
use Rattle.sheet_theorems.specs.Subterms.{skip}
use Rattle.sheet.proofs.StretchLaws.{skip-more}
use Rattle.sheet.proofs.skip.Goals as goal

pub loop-init : goal.loop-init
unfolding skip
loop-init c = refl

pub loop-preserved : goal.loop-preserved
loop-preserved c = skip-more c.args.s.now c.args.start c.args.n c.loop.counter c.loop.at c.requires c.loop-test.true c.loop.invariant c.node_at-at.ensures

pub returns : goal.returns
returns c = let e : c.loop.counter ≡ c.args.n = omega arith in rw (← e) c.loop.invariant

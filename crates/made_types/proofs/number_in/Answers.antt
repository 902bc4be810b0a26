-- The invariant: no type from behind the right side up to here has these numbers. Assumes nothing.
use native.Mathlib.Omega.{arith}
use mathlib.Core.Path.{sym, ◌∙◌}
use Rattle.made_types.specs.Listing.{same_in_lem}
use Rattle.made_types.proofs.Choices.{more_false}
use Rattle.made_types.proofs.number_in.Goals as goal

pub bounds-work-31232 : goal.bounds-work-31232
bounds-work-31232 c = let p = c.requires in omega (arith, p.room)

pub loop-k-init : goal.loop-k-init
loop-k-init c = λ j l h. absurd (omega arith)

pub same-requires : goal.same-requires
same-requires c = let p = c.requires in (p.room, omega (arith, p.count))

pub returns-then-same : goal.returns-then-same
returns-then-same c = record { within = λ h. omega arith; before = c.loop-k.invariant; here = λ h. sym c.same.ensures ∙ c.if-same.true }

pub loop-k-preserved : goal.loop-k-preserved
loop-k-preserved c = more_false (λ j. same_in_lem c.args.work.now j c.args.r) c.args.r.right c.loop-k.k c.loop-k.invariant (sym c.same.ensures ∙ c.if-same.false)

pub returns : goal.returns
returns c = record { within = λ h. omega arith; before = λ j l h. c.loop-k.invariant j l (omega arith); here = λ h. absurd (omega arith) }

-- `type_walk::type_at` meets its contract. The loop holds a state of the machine whose run leads to what `type_from` gives, and the counter is no less than the steps that the machine may still take; so it is the measure, and never too small. Assumes nothing.
use mathlib.Core.Path.{sym, ◌∙◌}
use native.Mathlib.Omega.{arith}
use Rattle.answers.proofs.Passed.{passed}
use Rattle.type_walk.proofs.LoopLaws.{walks_first, walks-can, walks-left, walks-on, walks-refused, walks_end, never_wanted}
use Rattle.type_walk.proofs.type_at.Goals as goal

pub loop-work-init : goal.loop-work-init
loop-work-init c = λ X S σ G. walks_first _ _ _ _ _ _ c.requires X S σ G

pub step-requires : goal.step-requires
step-requires c = walks-can _ _ _ _ _ _ c.requires c.requires.can.walk.X c.requires.can.walk.S c.requires.can.walk.σ c.requires.can.walk.walkable _ _ _ (c.loop-work.invariant c.requires.can.walk.X c.requires.can.walk.S c.requires.can.walk.σ c.requires.can.walk.walkable) (sym c.going.ensures ∙ c.loop-work-test.true)

pub overflow_sub-left : goal.overflow_sub-left
overflow_sub-left c = omega (arith, walks-left _ _ _ _ _ _ c.requires c.requires.can.walk.X c.requires.can.walk.S c.requires.can.walk.σ c.requires.can.walk.walkable _ _ _ (c.loop-work.invariant c.requires.can.walk.X c.requires.can.walk.S c.requires.can.walk.σ c.requires.can.walk.walkable) (sym c.going.ensures ∙ c.loop-work-test.true))

pub loop-work-smaller : goal.loop-work-smaller
loop-work-smaller c = omega (arith, walks-left _ _ _ _ _ _ c.requires c.requires.can.walk.X c.requires.can.walk.S c.requires.can.walk.σ c.requires.can.walk.walkable _ _ _ (c.loop-work.invariant c.requires.can.walk.X c.requires.can.walk.S c.requires.can.walk.σ c.requires.can.walk.walkable) (sym c.going.ensures ∙ c.loop-work-test.true))

pub loop-work-preserved : goal.loop-work-preserved
loop-work-preserved c = λ X S σ G. walks-on _ _ _ _ _ _ c.requires X S σ G _ _ _ (c.loop-work.invariant X S σ G) (sym c.going.ensures ∙ c.loop-work-test.true) _ _ _ c.in_ok-s.was c.step.ensures

pub shape_of-work : goal.shape_of-work
shape_of-work c = (c.loop-work.invariant c.requires.can.walk.X c.requires.can.walk.S c.requires.can.walk.σ c.requires.can.walk.walkable).kept.same

pub shape_of-work-in_err-s : goal.shape_of-work-in_err-s
shape_of-work-in_err-s c = (walks-refused _ _ _ _ _ _ c.requires c.requires.can.walk.X c.requires.can.walk.S c.requires.can.walk.σ c.requires.can.walk.walkable _ _ _ (c.loop-work.invariant c.requires.can.walk.X c.requires.can.walk.S c.requires.can.walk.σ c.requires.can.walk.walkable) (sym c.going.ensures ∙ c.loop-work-test.true) _ _ _ c.in_err-s.was c.step.ensures).0.same

pub returns-in_err-s : goal.returns-in_err-s
returns-in_err-s c = rw (passed c.from_residual.result c.from_residual.ensures.1) (record { walked = (walks-refused _ _ _ _ _ _ c.requires c.requires.can.walk.X c.requires.can.walk.S c.requires.can.walk.σ c.requires.can.walk.walkable _ _ _ (c.loop-work.invariant c.requires.can.walk.X c.requires.can.walk.S c.requires.can.walk.σ c.requires.can.walk.walkable) (sym c.going.ensures ∙ c.loop-work-test.true) _ _ _ c.in_err-s.was c.step.ensures).0; says = λ X S σ G. (walks-refused _ _ _ _ _ _ c.requires X S σ G _ _ _ (c.loop-work.invariant X S σ G) (sym c.going.ensures ∙ c.loop-work-test.true) _ _ _ c.in_err-s.was c.step.ensures).1 })

pub returns : goal.returns
returns c = record { walked = (c.loop-work.invariant c.requires.can.walk.X c.requires.can.walk.S c.requires.can.walk.σ c.requires.can.walk.walkable).kept; says = λ X S σ G. walks_end _ _ _ _ _ _ c.requires X S σ G _ _ _ (c.loop-work.invariant X S σ G) (sym c.going.ensures ∙ c.loop-work-test.false) _ c.in-Came.is }

pub unreachable-requires : goal.unreachable-requires
unreachable-requires c = never_wanted _ c.args.more _ c.in-Wanted.is (sym c.going.ensures ∙ c.loop-work-test.false)

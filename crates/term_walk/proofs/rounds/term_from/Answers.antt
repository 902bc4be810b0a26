-- The invariant: the memory holds a state of the machine, from which it runs to what the definition says. The steps that
-- are left are above what the machine may still take. Assumes nothing.
use Rattle.std.proofs.lemmas.Result.{err_from_is_err_and}
use mathlib.Core.Path.{◌≡◌}
use native.Mathlib.Omega.{arith}
use Rattle.term_walk.proofs.RoundLaws.{rounds-start, rounds-done, rounds-step, rounds-refused, rounds-on, rounds-left}
use Prim.Native.Nat.{◌-◌, ◌+◌}
use Rattle.term_walk.proofs.rounds.term_from.Goals as goal

pub nothing-requires : goal.nothing-requires
nothing-requires c = tt

pub loop-init : goal.loop-init
loop-init c = rounds-start c.args.text.now c.args.work.now c.args.at c.args.more c.args.frame c.args.top c.requires c.nothing.result

pub finished-requires : goal.finished-requires
finished-requires c = tt

pub shape_of-work-then-finished : goal.shape_of-work-then-finished
shape_of-work-then-finished c = c.loop.invariant.walked.same

pub returns-then-finished : goal.returns-then-finished
returns-then-finished c = rounds-done c.args.text.now c.args.work.now c.args.at c.args.more c.args.frame c.args.top c.requires c.loop.work c.loop.n (6442549247 - c.loop.counter) c.loop.invariant (c.finished.ensures.yes c.if-finished.true).0 (c.finished.ensures.yes c.if-finished.true).1

pub step-requires : goal.step-requires
step-requires c = rounds-step c.args.text.now c.args.work.now c.args.at c.args.more c.args.frame c.args.top c.requires c.loop.work c.loop.n (6442549247 - c.loop.counter) c.loop.invariant (c.finished.ensures.not c.if-finished.false)

pub shape_of-work-in_err-n : goal.shape_of-work-in_err-n
shape_of-work-in_err-n c = (rounds-refused c.args.text.now c.args.work.now c.args.at c.args.more c.args.frame c.args.top c.requires c.loop.work c.loop.n (6442549247 - c.loop.counter) c.loop.invariant (c.finished.ensures.not c.if-finished.false) _ _ _ c.in_err-n.was c.step.ensures).walked.same

pub returns-in_err-n : goal.returns-in_err-n
returns-in_err-n c = let p = err_from_is_err_and c.from_residual.result c.from_residual.ensures.1 in rw (p.1, p.2) (rounds-refused c.args.text.now c.args.work.now c.args.at c.args.more c.args.frame c.args.top c.requires c.loop.work c.loop.n (6442549247 - c.loop.counter) c.loop.invariant (c.finished.ensures.not c.if-finished.false) _ _ _ c.in_err-n.was c.step.ensures)

pub loop-preserved : goal.loop-preserved
loop-preserved c =
    let e : 6442549247 - (c.loop.counter + 1) ≡ 6442549247 - c.loop.counter - 1 = omega arith in
    rw e (rounds-on c.args.text.now c.args.work.now c.args.at c.args.more c.args.frame c.args.top c.requires c.loop.work c.loop.n (6442549247 - c.loop.counter) c.loop.invariant (c.finished.ensures.not c.if-finished.false) _ _ _ c.in_ok-n.was c.step.ensures)

pub shape_of-work : goal.shape_of-work
shape_of-work c = c.loop.invariant.walked.same

pub returns : goal.returns
returns c = absurd (rounds-left c.args.text.now c.args.work.now c.args.at c.args.more c.args.frame c.args.top c.requires c.loop.work c.loop.n (6442549247 - c.loop.counter) c.loop.invariant (omega (arith, c.loop-test.false)))

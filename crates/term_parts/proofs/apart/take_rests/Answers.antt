-- The invariant: i pairs were taken apart, and what comes of the names that are left is the answer. Assumes nothing.
use Rattle.std.proofs.lemmas.Result.{err_from_is_err_and}
use borrow.Author.Rules.{rules}
use Rattle.term_parts.proofs.RestsLaws.{rests_none, rests_can, rests_done, rests-more, rests-ends}
use native.Mathlib.Omega.{arith}
use Rattle.term_parts.proofs.apart.take_rests.Goals as goal

pub loop-i-init : goal.loop-i-init
loop-i-init c = rests_none c.args.text.now c.args.work.now c.args.at c.args.count c.args.top c.args.waiting c.args.v c.requires.0 c.requires.1

pub overflow_mul-i : goal.overflow_mul-i
overflow_mul-i c = let w = c.loop-i.invariant.within in let f = c.requires.0.few in search rules

pub overflow_add-top : goal.overflow_add-top
overflow_add-top c = let w = c.loop-i.invariant.within in let f = c.requires.0.few in search rules

pub overflow_add-waiting : goal.overflow_add-waiting
overflow_add-waiting c = let h = (rests_can c.args.text.now c.args.work.now c.args.at c.args.count c.args.top c.args.waiting c.args.v c.requires.0 c.loop-i.work c.loop-i.p c.loop-i.i c.loop-i.s c.loop-i.invariant).halves in search rules

pub take_rest-requires : goal.take_rest-requires
take_rest-requires c = rests_can c.args.text.now c.args.work.now c.args.at c.args.count c.args.top c.args.waiting c.args.v c.requires.0 c.loop-i.work c.loop-i.p c.loop-i.i c.loop-i.s c.loop-i.invariant

pub returns-in_err-rest : goal.returns-in_err-rest
returns-in_err-rest c = let p = err_from_is_err_and c.from_residual.result c.from_residual.ensures.1 in rw (p.1, p.2) (rests-ends c.args.text.now c.args.work.now c.args.at c.args.count c.args.top c.args.waiting c.args.v c.requires.0 c.loop-i.work c.loop-i.p c.loop-i.i c.loop-i.s c.loop-i.invariant (omega (arith, c.loop-i-test.true)) _ _ c.take_rest.ensures _ c.in_err-rest.was)

pub loop-i-preserved : goal.loop-i-preserved
loop-i-preserved c = rests-more c.args.text.now c.args.work.now c.args.at c.args.count c.args.top c.args.waiting c.args.v c.requires.0 c.loop-i.work c.loop-i.p c.loop-i.i c.loop-i.s c.loop-i.invariant (omega (arith, c.loop-i-test.true)) _ _ c.take_rest.ensures _ _ c.in_ok-rest.was

pub shape_of-work : goal.shape_of-work
shape_of-work c = c.loop-i.invariant.only.walked.same

pub returns : goal.returns
returns c = rests_done c.args.text.now c.args.work.now c.args.at c.args.count c.args.top c.args.waiting c.args.v c.requires.0 c.loop-i.work c.loop-i.p c.loop-i.i c.loop-i.s c.loop-i.invariant (λ q. omega (arith, c.loop-i-test.false))

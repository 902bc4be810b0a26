-- The invariant: the clauses that are left make of the state what all clauses make of the first one. Assumes nothing.
use native.Mathlib.Omega.{arith}
use Rattle.answers.proofs.Passed.{passed}
use Rattle.maker.proofs.TriedLaws.{judged_first, judged-can, judged-kept, judged-more, judged-refused, judged_done}
use Rattle.maker.proofs.judged.judged.Goals as goal

pub loop-k-init : goal.loop-k-init
loop-k-init c = let a = c.args in judged_first a.text.now a.work.now

pub judge-requires : goal.judge-requires
judge-requires c =
    judged-can c.args.text.now c.args.work.now c.requires c.from-n.result c.from-n.ensures c.loop-k.work c.loop-k.k c.loop-k.invariant (omega arith)

pub shape_of-work-in_err-judge : goal.shape_of-work-in_err-judge
shape_of-work-in_err-judge c =
    (judged-kept c.args.text.now c.args.work.now c.requires c.from-n.result c.from-n.ensures c.loop-k.work c.loop-k.k c.loop-k.invariant (omega arith) _ c.judge.ensures).same

pub returns-in_err-judge : goal.returns-in_err-judge
returns-in_err-judge c =
    rw (passed c.from_residual.result c.from_residual.ensures.1) (judged-refused c.args.text.now c.args.work.now c.requires c.from-n.result c.from-n.ensures c.loop-k.work c.loop-k.k c.loop-k.invariant (omega arith) _ _ c.in_err-judge.ensures)

pub loop-k-preserved : goal.loop-k-preserved
loop-k-preserved c =
    judged-more c.args.text.now c.args.work.now c.requires c.from-n.result c.from-n.ensures c.loop-k.work c.loop-k.k c.loop-k.invariant (omega arith) _ c.in_ok-judge.ensures

pub returns : goal.returns
returns c =
    judged_done c.args.text.now c.args.work.now c.requires c.from-n.result c.from-n.ensures c.loop-k.work c.loop-k.k c.loop-k.invariant (omega arith)

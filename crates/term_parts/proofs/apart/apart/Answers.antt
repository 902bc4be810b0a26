-- All names but two, then the last two. Assumes nothing.
use Rattle.std.proofs.lemmas.Result.{err_from_is_err_and}
use Rattle.term_parts.proofs.RestsLaws.{apart-few, apart_refused, last-can, apart-last}
use native.Mathlib.Omega.{arith}
use Rattle.term_parts.proofs.apart.apart.Goals as goal

pub returns-then-count-lt2 : goal.returns-then-count-lt2
returns-then-count-lt2 c = rw c.at.ensures (apart-few c.args.text.now c.args.work.now c.args.at c.args.count c.args.top c.args.waiting c.args.v c.if-count-lt2.true)

pub take_last-requires : goal.take_last-requires
take_last-requires c = last-can c.args.text.now c.args.work.now c.args.at c.args.count c.args.top c.args.waiting c.args.v _ _ c.take_rests.ensures _ _ c.in_ok-rests.was c.requires (omega (arith, c.if-count-lt2.false))

pub returns-in_err-rests : goal.returns-in_err-rests
returns-in_err-rests c = let p = err_from_is_err_and c.from_residual.result c.from_residual.ensures.1 in rw (p.1, p.2) (apart_refused c.args.text.now c.args.work.now c.args.at c.args.count c.args.top c.args.waiting c.args.v _ _ c.take_rests.ensures _ c.in_err-rests.was)

pub returns : goal.returns
returns c = apart-last c.args.text.now c.args.work.now c.args.at c.args.count c.args.top c.args.waiting c.args.v _ _ c.take_rests.ensures _ _ c.in_ok-rests.was _ c.take_last.ensures

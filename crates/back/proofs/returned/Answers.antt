-- A point, or the parts. Assumes nothing.
use Rattle.answers.proofs.Passed.{passed}
use Rattle.back.proofs.AnswerLaws.{says_25, parts-here, says_parts}
use Rattle.back.proofs.returned.Goals as goal

pub limited-requires : goal.limited-requires
limited-requires c =
    let p = c.count_parts in
    parts-here c.args.net.now c.requires p.result p.ensures _ c.in_ok-parts.was

pub returns-in_err-parts : goal.returns-in_err-parts
returns-in_err-parts c =
    let p = c.count_parts in
    rw (passed c.from_residual.result c.from_residual.ensures.1) (says_25 c.args.net.now c.requires p.result p.ensures c.args.out.now _ c.in_err-parts.was)

pub returns : goal.returns
returns c =
    let p = c.count_parts in
    says_parts c.args.net.now c.requires p.result p.ensures _ c.in_ok-parts.was _ c.args.out.now _ c.limited.ensures

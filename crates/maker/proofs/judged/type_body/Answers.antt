-- The walk over types answers as the definition does. Assumes nothing.
use Rattle.answers.proofs.Passed.{passed}
use Rattle.maker.proofs.LineLaws.{own_type}
use Rattle.maker.proofs.JudgedLaws.{tries_type, tries_type_refused}
use Rattle.maker.proofs.judged.type_body.Goals as goal

pub type_from-requires : goal.type_from-requires
type_from-requires c =
    let q = c.requires in
    own_type c.args.text.now c.args.work.now c.args.at q.there.lexed q.X q.seen q.σ q.knows

pub returns-in_err-type_from : goal.returns-in_err-type_from
returns-in_err-type_from c =
    rw (passed c.from_residual.result c.from_residual.ensures.1) (tries_type_refused c.args.text.now c.args.work.now c.args.at _ _ c.in_err-type_from.ensures)

pub returns : goal.returns
returns c =
    tries_type c.args.text.now c.args.work.now c.args.at _ _ c.in_ok-type_from.ensures

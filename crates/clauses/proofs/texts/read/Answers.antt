-- `clauses::read` meets its contract: the edition, then the items over an empty table. Assumes nothing.
use mathlib.Core.Path.{ap, ◌∙◌}
use Rattle.clauses.specs.Rows.{flag_of}
use Rattle.clauses.proofs.ItemLaws.{passed}
use Rattle.clauses.proofs.TextLaws.{begun-held, text_edition_bad, text-read}
use Rattle.clauses.proofs.texts.read.Goals as goal

pub returns-in_err-e : goal.returns-in_err-e
returns-in_err-e c = let same = passed c.from_residual.result c.from_residual.ensures.1 in rw same (text_edition_bad c.args.text.now c.in_err-e.field-0.0 c.in_err-e.ensures c.args.work.now)

pub read_items-requires : goal.read_items-requires
read_items-requires c =
    (c.in_ok-e.ensures.lexed, begun-held c.args.work.now c.flag.result c.requires.1.1 c.args.text.now c.requires.1.0)

pub returns : goal.returns
returns c =
    let f = c.flag in
    let r = c.read_items in
    text-read c.args.text.now c.in_ok-e.e c.in_ok-e.ensures c.args.work.now c.requires.1.1 f.result (f.ensures ∙ ap flag_of c.says_second.ensures) _ r.result r.ensures

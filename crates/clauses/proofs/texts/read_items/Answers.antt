-- `clauses::read_items` meets its contract: the definitions above the first line, then all items that are left. Assumes nothing.
use Rattle.words.specs.Next.{said_word}
use Rattle.clauses.proofs.ItemLaws.{passed}
use Rattle.clauses.proofs.TextLaws.{items_defined_bad, defined-held, items-bad, items-good}
use Rattle.clauses.proofs.texts.read_items.Goals as goal

pub returns-in_err-d : goal.returns-in_err-d
returns-in_err-d c = let same = passed c.from_residual.result c.from_residual.ensures.1 in rw same (items_defined_bad c.args.text.now c.args.start c.args.work.now _ c.in_err-d.field-0.0 c.in_err-d.ensures)

pub all_items-requires : goal.all_items-requires
all_items-requires c = (c.in_ok-d.ensures.says.lexed, defined-held c.args.text.now c.args.start c.args.work.now _ c.in_ok-d.d c.in_ok-d.ensures c.requires.1)

pub returns-in_err-r : goal.returns-in_err-r
returns-in_err-r c = let same = passed c.from_residual-in_err-r.result c.from_residual-in_err-r.ensures.1 in rw same (items-bad c.args.text.now c.args.start c.args.work.now _ c.in_ok-d.d c.in_ok-d.ensures _ c.in_err-r.field-0.0 c.in_err-r.ensures)

pub returns : goal.returns
returns c =
    let n = c.row_count-seen in
    items-good c.args.text.now c.args.start c.args.work.now _ c.in_ok-d.d c.in_ok-d.ensures _ c.in_ok-r.r c.in_ok-r.ensures n.result n.ensures (said_word c.word_at-w.result) c.word_at-w.ensures

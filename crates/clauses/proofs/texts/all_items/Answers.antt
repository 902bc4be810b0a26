-- `clauses::all_items` meets its contract. The invariant: the items up to here are those that the table holds, and the rounds that are left
-- are enough. The measure is the words that are left. Assumes nothing.
use Rattle.words.specs.Next.{said_word}
use Rattle.clauses.proofs.ItemLaws.{passed, reading-held, reading-done, reading-bad, reading-more}
use Rattle.clauses.proofs.texts.all_items.Goals as goal

pub item-requires : goal.item-requires
item-requires c = (c.loop-w.invariant.lexed, reading-held c.args.text.now c.args.work.now c.args.start c.requires.1 c.loop-w.work c.loop-w.at (said_word c.loop-w.w) c.loop-w.invariant)

pub returns-in_err-at : goal.returns-in_err-at
returns-in_err-at c = λ n h. let same = passed c.from_residual.result c.from_residual.ensures.1 in rw same (reading-bad c.args.text.now c.args.work.now c.args.start c.requires.1 c.loop-w.work c.loop-w.at (said_word c.loop-w.w) c.loop-w.invariant c.loop-w-test.true _ c.in_err-at.field-0.0 c.in_err-at.ensures n h)

pub loop-w-preserved : goal.loop-w-preserved
loop-w-preserved c = reading-more c.args.text.now c.args.work.now c.args.start c.requires.1 c.loop-w.work c.loop-w.at (said_word c.loop-w.w) c.loop-w.invariant c.loop-w-test.true _ c.in_ok-at.at c.in_ok-at.ensures (said_word c.word_at-w-in-loop-w.result) c.word_at-w-in-loop-w.ensures

pub returns : goal.returns
returns c = reading-done c.args.text.now c.args.work.now c.args.start c.requires.1 c.loop-w.work c.loop-w.at (said_word c.loop-w.w) c.loop-w.invariant c.loop-w-test.false

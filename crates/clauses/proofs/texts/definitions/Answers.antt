-- `clauses::definitions` meets its contract. The invariant: the items up to here are definitions, whose clauses the table holds, and the rounds that are
-- left are enough. The measure is the words that are left. Assumes nothing.
use mathlib.Core.Path.{sym, ◌∙◌}
use Rattle.words.specs.Next.{said_word}
use Rattle.clauses.proofs.ItemLaws.{passed, defining_first, defining_held, defining_done, defining-bad, defining-more}
use Rattle.clauses.proofs.texts.definitions.Goals as goal

pub loop-work-init : goal.loop-work-init
loop-work-init c = defining_first c.args.text.now c.args.work.now c.args.start (said_word c.word_at-w.result) c.requires.0 c.word_at-w.ensures

pub item-requires : goal.item-requires
item-requires c = (c.loop-work.invariant.lexed, defining_held c.args.text.now c.args.work.now c.args.start c.requires.1 c.loop-work.work c.loop-work.at (said_word c.loop-work.w) c.loop-work.invariant)

pub returns-in_err-at : goal.returns-in_err-at
returns-in_err-at c = let same = passed c.from_residual.result c.from_residual.ensures.1 in rw same (defining-bad c.args.text.now c.args.work.now c.args.start c.requires.1 c.loop-work.work c.loop-work.at (said_word c.loop-work.w) c.loop-work.invariant (sym c.defines.ensures ∙ c.loop-work-test.true) _ c.in_err-at.field-0.0 c.in_err-at.ensures)

pub loop-work-preserved : goal.loop-work-preserved
loop-work-preserved c = defining-more c.args.text.now c.args.work.now c.args.start c.requires.1 c.loop-work.work c.loop-work.at (said_word c.loop-work.w) c.loop-work.invariant (sym c.defines.ensures ∙ c.loop-work-test.true) _ c.in_ok-at.at c.in_ok-at.ensures (said_word c.word_at-w-in-loop-work.result) c.word_at-w-in-loop-work.ensures

pub returns : goal.returns
returns c = defining_done c.args.text.now c.args.work.now c.args.start c.requires.1 c.loop-work.work c.loop-work.at (said_word c.loop-work.w) c.loop-work.invariant

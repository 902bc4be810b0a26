-- The invariant: no list begins up to the word that stands at the offset. The measure is how many words are left. Assumes nothing.
use mathlib.Core.Path.{sym, ◌∙◌}
use Rattle.words.specs.Next.{said_word}
use Rattle.term_parts.proofs.ListLaws.{scanning_none, scanning_on, scanning_more, scanning-done, scanning-none}
use Rattle.term_parts.proofs.names.next_list.Goals as goal

pub word_at-w-requires : goal.word_at-w-requires
word_at-w-requires c = c.requires

pub loop-p-init : goal.loop-p-init
loop-p-init c = scanning_none c.args.text.now c.args.at (said_word c.word_at-w.result) c.requires c.word_at-w.ensures

pub listed-requires : goal.listed-requires
listed-requires c = tt

pub word_at-w-requires-in-loop-p : goal.word_at-w-requires-in-loop-p
word_at-w-requires-in-loop-p c = (scanning_on c.args.text.now c.args.at c.loop-p.p (said_word c.loop-p.w) c.loop-p.invariant (sym c.listed.ensures ∙ c.loop-p-test.true)).lexed

pub loop-p-smaller : goal.loop-p-smaller
loop-p-smaller c = (scanning_on c.args.text.now c.args.at c.loop-p.p (said_word c.loop-p.w) c.loop-p.invariant (sym c.listed.ensures ∙ c.loop-p-test.true)).fewer

pub loop-p-preserved : goal.loop-p-preserved
loop-p-preserved c = scanning_more c.args.text.now c.args.at c.loop-p.p (said_word c.loop-p.w) c.loop-p.invariant (sym c.listed.ensures ∙ c.loop-p-test.true) (said_word c.word_at-w-in-loop-p.result) c.word_at-w-in-loop-p.ensures

pub returns-then-w-ne-ROUND : goal.returns-then-w-ne-ROUND
returns-then-w-ne-ROUND c = scanning-none c.args.text.now c.args.at c.loop-p.p (said_word c.loop-p.w) c.loop-p.invariant (sym c.listed.ensures ∙ c.loop-p-test.false) c.if-w-ne-ROUND.true

pub returns : goal.returns
returns c = scanning-done c.args.text.now c.args.at c.loop-p.p (said_word c.loop-p.w) c.loop-p.invariant (sym c.listed.ensures ∙ c.loop-p-test.false) c.if-w-ne-ROUND.false

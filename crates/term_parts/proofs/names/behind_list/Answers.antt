-- The invariant: so many lists are open at the offset, and what stands from there on decides. The measure is how many words are left. Assumes nothing.
use native.Mathlib.Omega.{arith}
use Rattle.words.specs.Next.{said_word}
use Rattle.term_parts.proofs.ListLaws.{passing_none, passing_done, passing-cut, passing-low, passing-more}
use Rattle.term_parts.proofs.names.behind_list.Goals as goal

pub loop-deep-init : goal.loop-deep-init
loop-deep-init c = passing_none c.args.text.now c.args.at c.requires.0 c.requires.1

pub word_at-w-requires : goal.word_at-w-requires
word_at-w-requires c = c.loop-deep.invariant.lexed

pub returns-then-w-eq-ENDS : goal.returns-then-w-eq-ENDS
returns-then-w-eq-ENDS c = passing-cut c.args.text.now c.args.at c.loop-deep.deep c.loop-deep.p c.loop-deep.invariant (said_word c.word_at-w.result) c.word_at-w.ensures c.if-w-eq-ENDS.true

pub deeper-deep-requires : goal.deeper-deep-requires
deeper-deep-requires c = (c.loop-deep-test.true, passing-low c.args.text.now c.args.at c.loop-deep.deep c.loop-deep.p c.loop-deep.invariant (said_word c.word_at-w.result) c.word_at-w.ensures c.if-w-eq-ENDS.false)

pub loop-deep-smaller : goal.loop-deep-smaller
loop-deep-smaller c = (c.word_at-w.ensures.onward c.if-w-eq-ENDS.false).fewer

pub loop-deep-preserved : goal.loop-deep-preserved
loop-deep-preserved c = passing-more c.args.text.now c.args.at c.loop-deep.deep c.loop-deep.p c.loop-deep.invariant (said_word c.word_at-w.result) c.word_at-w.ensures c.if-w-eq-ENDS.false c.loop-deep-test.true c.deeper-deep.result c.deeper-deep.ensures

pub returns : goal.returns
returns c = passing_done c.args.text.now c.args.at c.loop-deep.deep c.loop-deep.p c.loop-deep.invariant (λ h. absurd (omega (arith, c.loop-deep-test.false)))

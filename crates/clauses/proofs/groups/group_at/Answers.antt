-- `clauses::group_at` meets its contract. The invariant: what is counted and what is still to count are the group's count. The measure is
-- the words that are left. Assumes nothing.
use mathlib.Core.Path.{sym, ◌∙◌}
use native.Mathlib.Omega.{arith}
use Rattle.words.specs.Next.{said_word}
use Rattle.words.proofs.WordLaws.{not_yes, not_no}
use Rattle.clauses.proofs.GroupLaws.{group_none, group_on, group_first, group-word, group-turn, group-cut, group-done}
use Rattle.clauses.proofs.groups.group_at.Goals as goal

pub returns-then-w-opens : goal.returns-then-w-opens
returns-then-w-opens c = group_none c.args.text.now c.args.start c.args.opens (said_word c.word_at-w.result) c.word_at-w.ensures c.requires.0 c.if-w-opens.true

pub word_at-v-requires : goal.word_at-v-requires
word_at-v-requires c = (group_on c.args.text.now c.args.start c.args.opens (said_word c.word_at-w.result) c.word_at-w.ensures c.if-w-opens.false c.requires.1).lexed

pub loop-at-init : goal.loop-at-init
loop-at-init c = group_first c.args.text.now c.args.start c.args.opens (said_word c.word_at-w.result) c.word_at-w.ensures c.if-w-opens.false c.requires.1 (said_word c.word_at-v.result) c.word_at-v.ensures

pub counted-count-requires : goal.counted-count-requires
counted-count-requires c = omega (arith, (group-word c.args.text.now c.args.start c.args.opens c.loop-at.count c.loop-at.at (said_word c.loop-at.v) c.loop-at.invariant ((sym c.leaves.ensures ∙ not_yes _ c.loop-at-test.true-raw))).past, c.loop-at.invariant.low)

pub word_at-v-requires-in-loop-at : goal.word_at-v-requires-in-loop-at
word_at-v-requires-in-loop-at c = (group-word c.args.text.now c.args.start c.args.opens c.loop-at.count c.loop-at.at (said_word c.loop-at.v) c.loop-at.invariant ((sym c.leaves.ensures ∙ not_yes _ c.loop-at-test.true-raw))).lexed

pub loop-at-smaller : goal.loop-at-smaller
loop-at-smaller c = (group-word c.args.text.now c.args.start c.args.opens c.loop-at.count c.loop-at.at (said_word c.loop-at.v) c.loop-at.invariant ((sym c.leaves.ensures ∙ not_yes _ c.loop-at-test.true-raw))).fewer

pub loop-at-preserved : goal.loop-at-preserved
loop-at-preserved c = group-turn c.args.text.now c.args.start c.args.opens c.loop-at.count c.loop-at.at (said_word c.loop-at.v) c.loop-at.invariant ((sym c.leaves.ensures ∙ not_yes _ c.loop-at-test.true-raw)) c.counted-count.result c.counted-count.ensures (said_word c.word_at-v-in-loop-at.result) c.word_at-v-in-loop-at.ensures

pub returns-then-v-eq0 : goal.returns-then-v-eq0
returns-then-v-eq0 c = group-cut c.args.text.now c.args.start c.args.opens c.loop-at.count c.loop-at.at (said_word c.loop-at.v) c.loop-at.invariant ((sym c.leaves.ensures ∙ not_no _ c.loop-at-test.false-raw)) c.if-v-eq0.true

pub returns : goal.returns
returns c = group-done c.args.text.now c.args.start c.args.opens c.loop-at.count c.loop-at.at (said_word c.loop-at.v) c.loop-at.invariant ((sym c.leaves.ensures ∙ not_no _ c.loop-at-test.false-raw)) c.if-v-eq0.false

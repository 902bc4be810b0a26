-- `grammar::groups` meets its contract. The invariant: what is behind the groups from here on is what is behind them all. The measure is the
-- words that are left. Assumes nothing.
use mathlib.Core.Path.{sym, ◌∙◌}
use native.Mathlib.Omega.{arith}
use Rattle.words.specs.Next.{said_word}
use Rattle.words.proofs.WordLaws.{not_yes, not_no}
use Rattle.grammar.proofs.HeadLaws.{groups_first, groups_on, groups_turn, groups_stop}
use Rattle.grammar.proofs.heads.groups.Goals as goal

pub word_at-w-requires : goal.word_at-w-requires
word_at-w-requires c = c.requires

pub loop-at-init : goal.loop-at-init
loop-at-init c = groups_first c.args.text.now c.args.start (said_word c.word_at-w.result) c.requires c.word_at-w.ensures

pub stops-requires : goal.stops-requires
stops-requires c = tt

pub depth-deep-requires : goal.depth-deep-requires
depth-deep-requires c = omega (arith, (groups_on c.args.text.now c.args.start c.loop-at.at c.loop-at.deep (said_word c.loop-at.w) c.loop-at.invariant (sym c.stops.ensures ∙ not_yes _ c.loop-at-test.true-raw)).past, c.loop-at.invariant.low)

pub word_at-w-requires-in-loop-at : goal.word_at-w-requires-in-loop-at
word_at-w-requires-in-loop-at c = (groups_on c.args.text.now c.args.start c.loop-at.at c.loop-at.deep (said_word c.loop-at.w) c.loop-at.invariant (sym c.stops.ensures ∙ not_yes _ c.loop-at-test.true-raw)).lexed

pub loop-at-smaller : goal.loop-at-smaller
loop-at-smaller c = (groups_on c.args.text.now c.args.start c.loop-at.at c.loop-at.deep (said_word c.loop-at.w) c.loop-at.invariant (sym c.stops.ensures ∙ not_yes _ c.loop-at-test.true-raw)).fewer

pub loop-at-preserved : goal.loop-at-preserved
loop-at-preserved c = groups_turn c.args.text.now c.args.start c.loop-at.at c.loop-at.deep (said_word c.loop-at.w) c.loop-at.invariant (sym c.stops.ensures ∙ not_yes _ c.loop-at-test.true-raw) c.depth-deep.result c.depth-deep.ensures (said_word c.word_at-w-in-loop-at.result) c.word_at-w-in-loop-at.ensures

pub returns : goal.returns
returns c = groups_stop c.args.text.now c.args.start c.loop-at.at c.loop-at.deep (said_word c.loop-at.w) c.loop-at.invariant (sym c.stops.ensures ∙ not_no _ c.loop-at-test.false-raw)

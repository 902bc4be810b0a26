-- `clauses::may_follow` meets its contract: test by test. Assumes nothing.
use mathlib.Core.Path.{sym, ◌∙◌}
use Rattle.words.proofs.WordLaws.{not_yes, not_no}
use Rattle.clauses.proofs.FollowLaws.{follow_other, follow-types, follow-numbers, follow-covered}
use Rattle.clauses.proofs.follows.may_follow.Goals as goal

pub returns-then-not-namesake : goal.returns-then-not-namesake
returns-then-not-namesake c = follow_other c.args.text.now c.args.c c.args.d (sym c.namesake.ensures ∙ not_yes _ c.if-not-namesake.true-raw)

pub returns-then-c-d : goal.returns-then-c-d
returns-then-c-d c = follow-types c.args.text.now c.args.c c.args.d ((sym c.namesake.ensures ∙ not_no _ c.if-not-namesake.false-raw)) c.if-c-d.true

pub returns-then-c-d-2 : goal.returns-then-c-d-2
returns-then-c-d-2 c = follow-numbers c.args.text.now c.args.c c.args.d ((sym c.namesake.ensures ∙ not_no _ c.if-not-namesake.false-raw)) c.if-c-d.false c.if-c-d-2.true

pub returns : goal.returns
returns c = follow-covered c.args.text.now c.args.c c.args.d ((sym c.namesake.ensures ∙ not_no _ c.if-not-namesake.false-raw)) c.if-c-d.false c.if-c-d-2.false c.cover_all.result c.cover_all.ensures

-- `clauses::meant` meets its contract: test by test. Assumes nothing.
use mathlib.Core.Path.{sym, ◌∙◌}
use Rattle.words.proofs.WordLaws.{not_yes, not_no}
use Rattle.clauses.proofs.MeantLaws.{meant-other, meant-types, meant-numbers, meant-fits}
use Rattle.clauses.proofs.meant.meant.Goals as goal

pub returns-then-not-namesake : goal.returns-then-not-namesake
returns-then-not-namesake c = meant-other c.args.text.now c.args.work.now c.args.q c.args.r (sym c.namesake.ensures ∙ not_yes _ c.if-not-namesake.true-raw)

pub returns-then-r-q : goal.returns-then-r-q
returns-then-r-q c = meant-types c.args.text.now c.args.work.now c.args.q c.args.r ((sym c.namesake.ensures ∙ not_no _ c.if-not-namesake.false-raw)) c.if-r-q.true

pub returns-then-r-q-2 : goal.returns-then-r-q-2
returns-then-r-q-2 c = meant-numbers c.args.text.now c.args.work.now c.args.q c.args.r ((sym c.namesake.ensures ∙ not_no _ c.if-not-namesake.false-raw)) c.if-r-q.false c.if-r-q-2.true

pub returns : goal.returns
returns c =
    let a = c.args in
    meant-fits a.text.now a.work.now a.q a.r (sym c.namesake.ensures ∙ not_no _ c.if-not-namesake.false-raw) c.if-r-q.false c.if-r-q-2.false c.numbers_fit.result c.numbers_fit.ensures

-- `words::number_at` meets its contract. The invariant: what is left of the run goes on with what has been read. Assumes nothing.
use mathlib.Core.Path.{sym, ◌∙◌}
use Rattle.words.proofs.WordLaws.{not_yes, not_no}
use Rattle.words.proofs.FoundLaws.{digits_bad, digits_on, number_bad}
use Rattle.words.proofs.number_at.Goals as goal

pub returns-then-not-digit : goal.returns-then-not-digit
returns-then-not-digit c = number_bad c.args.text.now c.args.start (digits_bad c.args.text.now c.args.start c.run_end-end.result c.loop-at.value c.loop-at.at c.loop-at.invariant c.loop-at-test.true (sym c.digit.ensures ∙ not_yes _ c.if-not-digit.true-raw))

pub loop-at-preserved : goal.loop-at-preserved
loop-at-preserved c = digits_on c.args.text.now c.args.start c.run_end-end.result c.loop-at.value c.loop-at.at c.loop-at.invariant c.loop-at-test.true c.more_digits-value.result (sym c.digit.ensures ∙ not_no _ c.if-not-digit.false-raw) c.more_digits-value.ensures.0 c.more_digits-value.ensures.1

-- `sheet::read_term` meets its contract, by the end of the term. Assumes nothing.
use mathlib.Core.Path.{sym, ap, ◌∙◌}
use Rattle.answers.proofs.Passed.{passed}
use Rattle.sheet.specs.Said.{said_span}
use Rattle.sheet.specs.Sheets.{said_reading}
use Rattle.sheet.proofs.ReadLaws.{ended_here, ended_refused, ended-more}
use Rattle.sheet.proofs.read_term.Goals as goal

pub returns-in_err-end : goal.returns-in_err-end
returns-in_err-end c =
    ap said_reading (passed _ c.from_residual.ensures.1) ∙ ended_refused _ _ _ _ _ (ap said_span (sym c.in_err-end.was) ∙ c.span_at.ensures)

pub returns-then-end-s : goal.returns-then-end-s
returns-then-end-s c = rw c.at.ensures (ended-more _ _ _ _ _ _ _ (ap said_span (sym c.in_ok-end.was) ∙ c.span_at.ensures) c.if-end-s.true)

pub returns : goal.returns
returns c = ended_here _ _ _ _ _ _ _ (ap said_span (sym c.in_ok-end.was) ∙ c.span_at.ensures) c.if-end-s.false

-- `sheet::read_records` meets its contract: types, term, end. Assumes nothing.
use mathlib.Core.Path.{sym, ap, ◌∙◌}
use Rattle.answers.proofs.Passed.{passed}
use Rattle.sheet.specs.Said.{said_types}
use Rattle.sheet.specs.Sheets.{said_reading}
use Rattle.sheet.proofs.ReadLaws.{read_types_bad, read_types_good}
use Rattle.sheet.proofs.read_records.Goals as goal

pub returns-in_err-t : goal.returns-in_err-t
returns-in_err-t c =
    ap said_reading (passed _ c.from_residual.ensures.1) ∙ read_types_bad _ _ _ (ap said_types (sym c.in_err-t.was) ∙ c.read_types.ensures)

pub returns : goal.returns
returns c =
    c.read_term.ensures ∙ read_types_good _ _ _ _ _ (ap said_types (sym c.in_ok-t.was) ∙ c.read_types.ensures)

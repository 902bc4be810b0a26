-- `typing::check` meets its contract: the walk starts from what the reader guarantees. Assumes nothing.
use mathlib.Core.Path.{ap, ◌∙◌}
use Rattle.answers.proofs.Passed.{passed}
use Rattle.typing.specs.Answers.{said_typing}
use Rattle.typing.proofs.SheetLaws.{sheet-fits, check-fine, check_refused}
use Rattle.binders.proofs.Laws.{none_in_scope}
use Rattle.typing.proofs.check.Goals as goal

pub walk-r-requires : goal.walk-r-requires
walk-r-requires c = record { table = c.requires.sheet.table; term = c.requires.sheet.term; fits = sheet-fits c.requires _ (none_in_scope c.none-b.ensures) }

pub returns-in_err-f : goal.returns-in_err-f
returns-in_err-f c =
    ap said_typing (passed _ c.from_residual.ensures.1) ∙ check_refused c.requires _ (none_in_scope c.none-b.ensures) c.walk-r.result c.walk-r.ensures c.in_err-f.was

pub returns : goal.returns
returns c = check-fine c.requires _ (none_in_scope c.none-b.ensures) c.walk-r.result c.walk-r.ensures c.in_ok-f.was

-- `sheet::head_at` meets its contract, by the record that stands there. Assumes nothing.
use mathlib.Core.Path.{sym, ap, ◌∙◌}
use Rattle.std.specs.declared.result.Result.TheVariants.{Ok}
use Rattle.answers.proofs.Passed.{passed}
use Rattle.sheet.specs.Said.{said_head}
use Rattle.sheet.proofs.HeadLaws.{opens_refused, head_limits, no_type-inside}
use Rattle.sheet.proofs.term.head_at.Goals as goal

pub returns-in_err-record : goal.returns-in_err-record
returns-in_err-record c = ap said_head (passed _ c.from_residual.ensures.1) ∙ opens_refused _ _ _ _ _ _ (sym c.record_at.ensures ∙ c.in_err-record.was)

pub returns-in-Node : goal.returns-in-Node
returns-in-Node c = c.limits.ensures ∙ head_limits _ _ _ _ _ _ _ (sym c.record_at.ensures ∙ c.in_ok-record.was ∙ ap Ok c.in-Node.is)

pub returns-in-Type : goal.returns-in-Type
returns-in-Type c = absurd (no_type-inside _ _ (sym c.record_at.ensures ∙ c.in_ok-record.was ∙ ap Ok c.in-Type.is))

-- `typing::between` meets its contract: by the form of the first type. Assumes nothing.
use mathlib.Core.Path.{refl}
use Rattle.answers.proofs.Passed.{passed}
use Rattle.records.specs.Forms.{rec_in}
use Rattle.typing.proofs.VerdictLaws.{on_refused, on-stopped, on_fine}
use Rattle.typing.proofs.StateLaws.{between-misfit, between_fine}
use Rattle.typing.proofs.between.Goals as goal

pub returns-in_err-f : goal.returns-in_err-f
returns-in_err-f c = λ st. on_refused _ st _ _ c.in_err-f.was (passed _ c.from_residual.ensures.1)

pub returns-then-enters : goal.returns-then-enters
returns-then-enters c =
    let a = c.args in
    λ st. on_fine a.v st _ _ c.in_ok-f.was _ (between_fine (rec_in a.s.now) _ _ _ st c.enters.ensures c.if-enters.true)

pub returns : goal.returns
returns c =
    let a = c.args in
    λ st. on-stopped a.v st _ _ c.in_ok-f.was _ refl (rw c.clash.ensures (between-misfit (rec_in a.s.now) _ _ _ st c.enters.ensures c.if-enters.false))

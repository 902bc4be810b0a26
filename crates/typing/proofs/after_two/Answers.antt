-- `typing::after_two` meets its contract: by the fit of the two types. Assumes nothing.
use mathlib.Core.Path.{refl}
use Rattle.answers.proofs.Passed.{passed}
use Rattle.records.specs.Forms.{rec_in}
use Rattle.typing.proofs.VerdictLaws.{on_refused, on-stopped, on_fine}
use Rattle.typing.proofs.StateLaws.{two-misfit, two_fine}
use Rattle.typing.proofs.after_two.Goals as goal

pub returns-in_err-f : goal.returns-in_err-f
returns-in_err-f c = λ st. on_refused _ st _ _ c.in_err-f.was (passed _ c.from_residual.ensures.1)

pub returns-in-Err : goal.returns-in-Err
returns-in-Err c =
    let a = c.args in
    λ st. on-stopped a.v st _ _ c.in_ok-f.was _ refl (rw c.clash.ensures (two-misfit (rec_in a.s.now) _ _ _ _ _ st c.joined.ensures c.in-Err.is))

pub returns-in-Ok : goal.returns-in-Ok
returns-in-Ok c =
    let a = c.args in
    λ st. on_fine a.v st _ _ c.in_ok-f.was _ (two_fine (rec_in a.s.now) _ _ _ _ _ st c.joined.ensures c.in-Ok.is)

-- `typing::after_one` meets its contract: 14, then 12. Assumes nothing.
use mathlib.Core.Path.{refl}
use Rattle.answers.proofs.Passed.{passed}
use Rattle.records.specs.Forms.{rec_in}
use Rattle.typing.proofs.VerdictLaws.{on_refused, on-stopped, on_fine}
use borrow.Author.Tests.{not-true, not-false}
use Rattle.typing.proofs.StateLaws.{leave-unused, leave-misfit, leave-fine}
use Rattle.typing.proofs.after_one.Goals as goal

pub returns-in_err-f : goal.returns-in_err-f
returns-in_err-f c = λ st u. on_refused _ st _ _ c.in_err-f.was (passed _ c.from_residual.ensures.1)

pub returns-then-not-used : goal.returns-then-not-used
returns-then-not-used c =
    let a = c.args in
    λ st u. on-stopped a.v st _ _ c.in_ok-f.was _ refl (rw c.at.ensures (leave-unused (rec_in a.s.now) _ _ _ st _ u (not-true a.used c.if-not-used.true-raw)))

pub returns-then-f-body : goal.returns-then-f-body
returns-then-f-body c =
    let a = c.args in
    λ st u. on-stopped a.v st _ _ c.in_ok-f.was _ refl (rw c.clash.ensures (leave-misfit (rec_in a.s.now) _ _ _ st _ u (not-false a.used c.if-not-used.false-raw) c.wanted-body.ensures c.from.ensures c.if-f-body.true))

pub returns : goal.returns
returns c =
    let a = c.args in
    λ st u. on_fine a.v st _ _ c.in_ok-f.was _ (leave-fine (rec_in a.s.now) _ _ _ st _ u (not-false a.used c.if-not-used.false-raw) c.wanted-body.ensures c.if-f-body.false)

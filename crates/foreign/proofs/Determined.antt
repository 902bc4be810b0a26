-- The contract of the check determines its answer and the working memory: two results that it allows for one call are equal.
-- Assumes nothing.
use mathlib.Core.Path.{◌≡◌, refl, sym, ap, ◌∙◌}
use Rattle.std.specs.Prelude.{Result, Ok, Err}
use Rattle.calculus.proofs.Answers.{refused≢good, refused-inj}
use Rattle.answers.specs.declared.Refusal.{Refusal}
use Rattle.answers.proofs.Reasons.{same_why}
use Rattle.laws.proofs.OneResult.{Results}
use Rattle.foreign_calculus.specs.Foreign.{Checked}
use Rattle.foreign.specs.Walk.{said_check}
use Rattle.foreign.proofs.check.Kinds as check
use Rattle.foreign.proofs.check.Reads as check-reads

one_verdict : (r q : Result (Unit {0}) Refusal) → said_check r ≡ said_check q → r ≡ q
one_verdict (Ok a) (Ok b) e = refl
one_verdict (Ok a) (Err f) e = absurd (refused≢good (sym e))
one_verdict (Err f) (Ok b) e = absurd (refused≢good e)
one_verdict (Err f) (Err g) e = ap Err (same_why f g (refused-inj e))

pub determined-check : Results check.ps check.r check-reads.Post (λ κs s. s.1.0.now)
determined-check κs a x y s t f g =
    let e = f ∙ sym g in
    (one_verdict x y (ap (λ (c : Checked). c.said) e), ap (λ (c : Checked). c.work) e)

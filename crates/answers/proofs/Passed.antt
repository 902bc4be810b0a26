-- What a `?` returns, where it passes a refusal on. Assumes nothing.
use mathlib.Core.Path.{◌≡◌, ap, ◌∙◌}
use Rattle.std.specs.declared.result.Result.{Result}
use Rattle.std.specs.declared.result.Result.TheVariants.{Err}
use Rattle.std.specs.Prelude.{IsErrAnd}
use Rattle.std.proofs.lemmas.Result.{err_from_is_err_and}

-- the refusal is the same, and the result may be of another type
pub passed : {T E : Type 0} {e : E} (r : Result T E) → IsErrAnd r (λ (y : E). y ≡ e) → r ≡ Err e
passed {T} {E} r h = let p = err_from_is_err_and r h in p.1 ∙ ap {B = Result T E} (λ (y : E). Err y) p.2

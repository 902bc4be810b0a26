-- What a refusal says of types (document 02, L3). Assumes nothing.
use Rattle.std.specs.Prelude.{◌<◌, ◌≡◌, ◌⊎◌, length}
use Rattle.calculus.specs.Answer.{Refusal}
use Rattle.calculus.specs.Types.{Table}

-- 12: the type wanted and the one found differ; found is a type of the table, and wanted is one, or 256 where a form is wanted
pub record Clash (Θ : Table) (why : Refusal) : Type 0 where
  pub differs : ¬ (why.wanted ≡ why.found)
  pub found_in : why.found < length Θ
  pub wanted_in : (why.wanted < length Θ) ⊎ (why.wanted ≡ 256)

-- .. and every other refusal names none
pub record Tells (Θ : Table) (why : Refusal) : Type 0 where
  pub clash : why.number ≡ 12 → Clash Θ why
  pub other : ¬ (why.number ≡ 12) → (why.wanted ≡ 0) × (why.found ≡ 0)

-- The binders in scope before a subterm and behind it, and the linear context between them. Assumes nothing.
use Rattle.std.specs.Prelude.{ℕ, Bool, true, false, [], ◌∷◌}
use Rattle.calculus.specs.Types.{Table, tree}
use Rattle.calculus.specs.Walk.{shared, linear, Stack}
use Rattle.calculus.specs.Rules.{Ctx, many, once, away}

-- the binders in scope before a subterm and behind it, nearest first. A linear one is `true` where an earlier subterm used it; those that
-- this subterm uses were `false` before it and are `true` behind it, and they are its Δ
pub data Uses (Θ : Table) : Stack → Stack → Ctx → Type 0 where
  uses_end : Uses Θ [] [] []
  uses_shared : {t : ℕ} {st st' : Stack} {Γ : Ctx} → Uses Θ st st' Γ → Uses Θ (shared t ∷ st) (shared t ∷ st') (many (tree Θ t) ∷ Γ)
  uses_not : {t : ℕ} {u : Bool} {st st' : Stack} {Γ : Ctx} → Uses Θ st st' Γ → Uses Θ (linear t u ∷ st) (linear t u ∷ st') (away ∷ Γ)
  uses_it : {t : ℕ} {st st' : Stack} {Γ : Ctx} → Uses Θ st st' Γ → Uses Θ (linear t false ∷ st) (linear t true ∷ st') (once (tree Θ t) ∷ Γ)

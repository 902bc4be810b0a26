-- A term with the number of its type, under binders of numbered types: what the walk has found when it accepts, without its marks of use.
-- Assumes nothing.
use Rattle.std.specs.Prelude.{ℕ, suc, ◌<◌, ◌≡◌, false, List, ◌∷◌, T, length}
use Rattle.calculus.specs.Types.{rec02, rec03, rec04, Table, rec_at, tree}
use Rattle.calculus.specs.Terms.{Edition, second, Term, var, lvar, fun, app, lfun, lapp, pair, proj, fix, con, name, part_at}
use Rattle.notation_calculus.specs.Making.{shares}

-- binder i, the nearest first, has type t
pub data BinderAt : List ℕ → ℕ → ℕ → Type 0 where
  nearest : {t : ℕ} {Γ : List ℕ} → BinderAt (t ∷ Γ) 0 t
  farther : {t u i : ℕ} {Γ : List ℕ} → BinderAt Γ i t → BinderAt (u ∷ Γ) (suc i) t

pub data Numbered (E : Edition) (Θ : Table) : List ℕ → Term → ℕ → Type 0 where
  of_var : {Γ : List ℕ} {i t : ℕ} → BinderAt Γ i t → T (shares Θ t) → Numbered E Θ Γ (var i) t
  of_lvar : {Γ : List ℕ} {i t : ℕ} → BinderAt Γ i t → shares Θ t ≡ false → Numbered E Θ Γ (lvar i) t
  of_fun : {Γ : List ℕ} {t a b : ℕ} {e : Term} → t < length Θ → rec_at Θ t ≡ rec03 a b → Numbered E Θ (a ∷ Γ) e b → Numbered E Θ Γ (fun t e) t
  of_lfun : {Γ : List ℕ} {t a b : ℕ} {e : Term} → t < length Θ → rec_at Θ t ≡ rec04 a b → Numbered E Θ (a ∷ Γ) e b → Numbered E Θ Γ (lfun t e) t
  of_app : {Γ : List ℕ} {s a b : ℕ} {f x : Term} → rec_at Θ s ≡ rec03 a b → Numbered E Θ Γ f s → Numbered E Θ Γ x a → Numbered E Θ Γ (app f x) b
  of_lapp : {Γ : List ℕ} {s a b : ℕ} {f x : Term} → rec_at Θ s ≡ rec04 a b → Numbered E Θ Γ f s → Numbered E Θ Γ x a → Numbered E Θ Γ (lapp f x) b
  of_pair : {Γ : List ℕ} {t a b : ℕ} {x y : Term} → t < length Θ → rec_at Θ t ≡ rec02 a b → Numbered E Θ Γ x a → Numbered E Θ Γ y b → Numbered E Θ Γ (pair t x y) t
  of_proj : {Γ : List ℕ} {s a b t : ℕ} {x e : Term} → rec_at Θ s ≡ rec02 a b → Numbered E Θ Γ x s → Numbered E Θ (b ∷ a ∷ Γ) e t → Numbered E Θ Γ (proj x e) t
  of_fix_lem : {Γ : List ℕ} {t : ℕ} {e : Term} → t < length Θ → Numbered E Θ (t ∷ Γ) e t → Numbered E Θ Γ (fix t e) t
  of_con : {Γ : List ℕ} {p t : ℕ} → t < length Θ → p < 7 → tree Θ t ≡ (part_at p).type E → Numbered E Θ Γ (con p t) t
  of_name : {Γ : List ℕ} {s t : ℕ} {x e : Term} → E ≡ second → T (shares Θ s) → Numbered E Θ Γ x s → Numbered E Θ (s ∷ Γ) e t → Numbered E Θ Γ (name x e) t

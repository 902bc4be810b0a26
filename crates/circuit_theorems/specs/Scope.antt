-- The interfaces of the binders in scope, against the context of the typing rules. Assumes nothing.
use Rattle.std.specs.Prelude.{◌≡◌, Bool, true, false, List, [], ◌∷◌, map, T}
use Rattle.calculus.specs.Types.{Ty, sharable}
use Rattle.calculus.specs.Rules.{many, once, away, Ctx}
use Rattle.calculus.specs.Net.{Terminal, inp, out, Interface, turns, Bound}

-- ---- directions: true at an input terminal

abbrev pub dir : Terminal → Bool
dir (inp i) = true
dir (out o) = false

abbrev pub dirs : Interface → List Bool
dirs s = map dir s

-- ---- binders

-- a binder's interface has the directions of its type
pub record Suits (τ : Ty) (b : Bound) : Type 0 where
  pub type : b.type ≡ τ
  pub dirs : dirs b.side ≡ turns false τ

-- each entry of the context has its binder; a linear one that is not in this Δ may be anything
pub data Env : Ctx → List Bound → Type 0 where
  env_end : Env [] []
  env_many : {θ : Ty} {b : Bound} {Γ : Ctx} {env : List Bound} → T (sharable θ) → Suits θ b → Env Γ env → Env (many θ ∷ Γ) (b ∷ env)
  env_once : {κ : Ty} {b : Bound} {Γ : Ctx} {env : List Bound} → Suits κ b → Env Γ env → Env (once κ ∷ Γ) (b ∷ env)
  env_away : {b : Bound} {Γ : Ctx} {env : List Bound} → Env Γ env → Env (away ∷ Γ) (b ∷ env)

-- What inner levels write does not touch the outer ones. Assumes nothing.
use Prim.Native.Nat.{ℕ, suc, ◌+◌, ◌*◌, ◌≤◌, ◌<◌}
use mathlib.Core.Path.{◌≡◌, sym, ap, subst, ◌∙◌}
use mathlib.Core.List.{List, [], ◌∷◌}
use native.Mathlib.Omega.{arith}
use lib.ListN.{length, get_or}
use Rattle.notation_calculus.specs.Making.{Scope}
use Rattle.notation_machine.specs.TypeMachine.{Wish, enclosed, argument, body, other, TypeLevel}
use Rattle.making_memory.specs.Map.{levels_at}
use Rattle.walk_levels.specs.declared.Level.{Level}
use Rattle.walk_levels.specs.declared.Around.{Around}
use Rattle.walk_levels.specs.Levels.{scopes_at, level_in, scope_in}
use Rattle.scopes.specs.Entries.{value_at}
use Rattle.walk_levels.specs.TypeLevels.{GivenIn, waiting_for, HoldsWish, HoldsTypeLevel, HoldsTypeLevels}

-- the levels above one with m levels below it, their scopes, and the values of the first entries are the same
pub record Outside (w w' : List ℕ) (m top : ℕ) : Type 0 where
  pub levels : (i : ℕ) → levels_at + 8 * suc m ≤ i → i < levels_at + 656 → get_or w' i 0 ≡ get_or w i 0
  pub scopes : (i : ℕ) → scopes_at + 4 * suc m ≤ i → i < scopes_at + 328 → get_or w' i 0 ≡ get_or w i 0
  pub values : (e : ℕ) → e < top → value_at w' e ≡ value_at w e

module _ (w w' : List ℕ) where
  level-same : (m k top : ℕ) → Outside w w' m top → suc m ≤ k → k < 82 → level_in w' k ≡ level_in w k
  level-same m k top o h l =
      let s : (j : ℕ) → j < 8 → get_or w' (levels_at + 8 * k + j) 0 ≡ get_or w (levels_at + 8 * k + j) 0 = λ j q. o.levels (levels_at + 8 * k + j) (omega arith) (omega arith) in
      let a : get_or w' (levels_at + 8 * k) 0 ≡ get_or w (levels_at + 8 * k) 0 = o.levels (levels_at + 8 * k) (omega arith) (omega arith) in
      rw (a, s 1 (omega arith), s 2 (omega arith), s 3 (omega arith), s 4 (omega arith), s 5 (omega arith), s 6 (omega arith), s 7 (omega arith))

  scope-same : (m k top : ℕ) → Outside w w' m top → suc m ≤ k → k < 82 → scope_in w' k ≡ scope_in w k
  scope-same m k top o h l =
      let a : get_or w' (scopes_at + 4 * k) 0 ≡ get_or w (scopes_at + 4 * k) 0 = o.scopes (scopes_at + 4 * k) (omega arith) (omega arith) in
      let b : get_or w' (scopes_at + 4 * k + 1) 0 ≡ get_or w (scopes_at + 4 * k + 1) 0 = o.scopes (scopes_at + 4 * k + 1) (omega arith) (omega arith) in
      let c : get_or w' (scopes_at + 4 * k + 2) 0 ≡ get_or w (scopes_at + 4 * k + 2) 0 = o.scopes (scopes_at + 4 * k + 2) (omega arith) (omega arith) in
      rw (a, b, c)

  given-kept : (top most : ℕ) (given : List ℕ) → ((e : ℕ) → e < most → value_at w' e ≡ value_at w e) → top + length given ≤ most → GivenIn w top given → GivenIn w' top given
  given-kept top most [] s h g = tt
  given-kept top most (t ∷ given) s h g = (s (top + length given) (omega arith) ∙ g.0, given-kept top most given s (omega arith) g.1)

  wish_kept : (text : List ℕ) (top most : ℕ) (l : Level) (x : Wish) → ((e : ℕ) → e < most → value_at w' e ≡ value_at w e) → top + waiting_for x ≤ most → HoldsWish text w top l x → HoldsWish text w' top l x
  wish_kept text top most l enclosed s h g = g
  wish_kept text top most l (body us) s h g = g
  wish_kept text top most l (argument x given) s h (a, b, c, d, g) = (a, b, c, d, given-kept top most given s h g)
  wish_kept text top most l (other f at t) s h g = g

  outside-on : (m top below : ℕ) → Outside w w' m top → below ≤ top → Outside w w' (suc m) below
  outside-on m top below o h = record { levels = λ i a b. o.levels i (omega arith) b; scopes = λ i a b. o.scopes i (omega arith) b; values = λ e a. o.values e (omega arith) }

  module _ (H H' : ℕ → ℕ → Scope → Type 0) (text : List ℕ) (held : (f t : ℕ) (S : Scope) → H f t S → H' f t S) where
    level-kept : (m top : ℕ) (l : TypeLevel) → Outside w w' m top → (scope_in w (suc m)).top + waiting_for l.wish ≤ top → HoldsTypeLevel H text w (suc m) l → HoldsTypeLevel H' text w' (suc m) l
    level-kept m top l o h g =
        let e = level-same m (suc m) top o (omega arith) g.room in
        let f = scope-same m (suc m) top o (omega arith) g.room in
        record {
          room = g.room;
          flag = ap (λ (x : Level). x.flag) e ∙ g.flag;
          scope = subst (λ (x : Around). H' x.frame x.top l.scope) (sym f) (held _ _ _ g.scope);
          wish = subst (λ (x : Around). HoldsWish text w' x.top (level_in w' (suc m)) l.wish) (sym f) (subst (λ (x : Level). HoldsWish text w' (scope_in w (suc m)).top x l.wish) (sym e) (wish_kept text (scope_in w (suc m)).top top (level_in w (suc m)) l.wish o.values h g.wish));
        }

    -- one law for all that inner levels write
    pub levels-kept : (m top : ℕ) (K : List TypeLevel) → Outside w w' m top → HoldsTypeLevels H text w m top K → HoldsTypeLevels H' text w' m top K
    levels-kept m top [] o h = tt
    levels-kept m top (l ∷ K) o (g, b, h) =
        let f = scope-same m (suc m) top o (omega arith) g.room in
        let t : ℕ = (scope_in w (suc m)).top in
        (level-kept m top l o b g, subst (λ (x : Around). x.top + waiting_for l.wish ≤ top) (sym f) b, subst (λ (x : Around). HoldsTypeLevels H' text w' (suc m) x.top K) (sym f) (levels-kept (suc m) t K (outside-on m top t o (omega arith)) h))

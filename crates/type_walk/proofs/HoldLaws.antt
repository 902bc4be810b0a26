-- What the memory holds of the machine stays where inner levels write: levels, and the level that the walk is at. Assumes nothing.
use Prim.Native.Nat.{ℕ, ◌+◌, ◌*◌, ◌≤◌, ◌<◌}
use mathlib.Core.Path.{◌≡◌, sym, ap, subst, ◌∙◌}
use mathlib.Core.List.{List, [], ◌∷◌}
use native.Mathlib.Omega.{arith}
use lib.ListN.{length, get_or}
use Rattle.notation_calculus.specs.Trees.{Text}
use Rattle.notation_calculus.specs.Making.{State, Scope}
use Rattle.notation_machine.specs.TypeMachine.{Wish, enclosed, argument, body, other, TypeLevel}
use Rattle.making_memory.specs.Map.{scope_at, levels_at}
use Rattle.made_types.specs.Held.{HoldsState}
use Rattle.scopes.specs.Entries.{value_at, Places}
use Rattle.walk_levels.specs.declared.Level.{Level}
use Rattle.walk_levels.specs.declared.Around.{Around}
use Rattle.walk_levels.specs.Levels.{scopes_at, level_in, scope_in}
use Rattle.walk_levels.specs.TypeLevels.{GivenIn, waiting_for, HoldsWish}
use Rattle.walks.specs.Walkable.{Walkable}
use Rattle.walks.specs.Walked.{TypesWalked}
use Rattle.walks.proofs.Kept.{types_walked_none, types_walked_then, walkable_on, table_on, places-on}
use Rattle.type_walk.specs.declared.levels.Here.{Here}
use Rattle.type_walk.specs.Holding.{AllBelow, WishKnown, LevelHeld, LevelsHeld, AtLevel}

pub all_below_more : (n k : ℕ) → n ≤ k → (ts : List ℕ) → AllBelow n ts → AllBelow k ts
all_below_more n k h [] a = tt
all_below_more n k h (t ∷ ts) a = (omega (arith, a.0), all_below_more n k h ts a.1)

known_more : (text : List ℕ) (n k top : ℕ) → n ≤ k → (x : Wish) → WishKnown text n top x → WishKnown text k top x
known_more text n k top h enclosed a = tt
known_more text n k top h (argument x given) (a, (b, c)) = (a, (b, all_below_more n k h given c))
known_more text n k top h (body us) a = tt
known_more text n k top h (other f at t) a = omega (arith, a)

pub walked-wider : (m m' top top' : ℕ) (w w' : List ℕ) → m ≤ m' → top' ≤ top → TypesWalked m top w w' → TypesWalked m' top' w w'
walked-wider m m' top top' w w' h l W = types_walked_then m m m' top top top' w w' w' h h l l W (types_walked_none m top w')

module _ (w w' : List ℕ) (m top : ℕ) (W : TypesWalked m top w w') where
  level-same : m + 1 < 82 → level_in w' (m + 1) ≡ level_in w (m + 1)
  level-same l =
      let s : (j : ℕ) → j < 8 → get_or w' (levels_at + 8 * (m + 1) + j) 0 ≡ get_or w (levels_at + 8 * (m + 1) + j) 0 = λ j q. W.levels (levels_at + 8 * (m + 1) + j) (omega arith) (omega arith) in
      let a : get_or w' (levels_at + 8 * (m + 1)) 0 ≡ get_or w (levels_at + 8 * (m + 1)) 0 = W.levels (levels_at + 8 * (m + 1)) (omega arith) (omega arith) in
      rw (a, s 1 (omega arith), s 2 (omega arith), s 3 (omega arith), s 4 (omega arith), s 5 (omega arith), s 6 (omega arith), s 7 (omega arith))

  scope-same : scope_in w' (m + 1) ≡ scope_in w (m + 1)
  scope-same =
      let a : get_or w' (scopes_at + 4 * (m + 1)) 0 ≡ get_or w (scopes_at + 4 * (m + 1)) 0 = W.scopes (scopes_at + 4 * (m + 1)) (omega arith) in
      let b : get_or w' (scopes_at + 4 * (m + 1) + 1) 0 ≡ get_or w (scopes_at + 4 * (m + 1) + 1) 0 = W.scopes (scopes_at + 4 * (m + 1) + 1) (omega arith) in
      let c : get_or w' (scopes_at + 4 * (m + 1) + 2) 0 ≡ get_or w (scopes_at + 4 * (m + 1) + 2) 0 = W.scopes (scopes_at + 4 * (m + 1) + 2) (omega arith) in
      rw (a, b, c)

-- arguments that wait below some entry stay
module _ (w w' : List ℕ) (most : ℕ) (same : (e : ℕ) → e < most → value_at w' e ≡ value_at w e) where
  given-kept : (top : ℕ) (given : List ℕ) → top + length given ≤ most → GivenIn w top given → GivenIn w' top given
  given-kept top [] h g = tt
  given-kept top (t ∷ given) h g = (same (top + length given) (omega arith) ∙ g.0, given-kept top given (omega arith) g.1)

  pub wish_kept : (text : List ℕ) (top : ℕ) (l : Level) (x : Wish) → top + waiting_for x ≤ most → HoldsWish text w top l x → HoldsWish text w' top l x
  wish_kept text top l enclosed h g = g
  wish_kept text top l (body us) h g = g
  wish_kept text top l (argument x given) h (a, b, c, d, g) = (a, b, c, d, given-kept top given h g)
  wish_kept text top l (other f at t) h g = g

module _ (text w w' : List ℕ) (X : Text) (σ σ' : State) (H' : HoldsState w' σ') where
  level-on : (m top : ℕ) → TypesWalked m top w w' → (l : TypeLevel) → (scope_in w (m + 1)).top + waiting_for l.wish ≤ top → LevelHeld text w X σ m l → LevelHeld text w' X σ' m l
  level-on m top W l b g =
      let G = g.walkable in
      let e = level-same w w' m top W (omega (arith, G.level, g.level)) in
      let f = scope-same w w' m top W in
      let t : ℕ = (scope_in w (m + 1)).top in
      record {
        flag = ap (λ (x : Level). x.flag) e ∙ g.flag;
        level = subst (λ (x : Around). m < x.frame) (sym f) g.level;
        walkable = subst (λ (x : Around). Walkable text w' x.frame x.top X l.scope σ') (sym f) (walkable_on m top text w w' W (scope_in w (m + 1)).frame t X l.scope σ σ' G (omega (arith, g.level)) (omega arith) H');
        wish = subst (λ (x : Around). HoldsWish text w' x.top (level_in w' (m + 1)) l.wish) (sym f) (subst (λ (x : Level). HoldsWish text w' t x l.wish) (sym e) (wish_kept w w' top (λ e q. W.entries (scope_at + 2 * e + 1) (omega arith) (omega arith)) text t (level_in w (m + 1)) l.wish b g.wish));
        known = subst (λ (x : Around). WishKnown text (length σ'.table) x.top l.wish) (sym f) (known_more text (length σ.table) (length σ'.table) t (table_on m top text w w' W σ σ' G.state H') l.wish g.known);
        places = subst (λ (x : Around). Places text w' 0 (x.top + waiting_for l.wish)) (sym f) (places-on text w w' (t + waiting_for l.wish) (λ j a c. W.entries j a (omega arith)) W.same g.places);
      }

  -- the levels above stay
  pub levels_on : (m₀ base m top : ℕ) (K : List TypeLevel) → TypesWalked m top w w' → LevelsHeld text w X σ m₀ base m top K → LevelsHeld text w' X σ' m₀ base m top K
  levels_on m₀ base m top [] W h = h
  levels_on m₀ base m top (l ∷ K) W (g, (b, h)) =
      let f = scope-same w w' m top W in
      let t : ℕ = (scope_in w (m + 1)).top in
      (level-on m top W l b g, (subst (λ (x : Around). x.top + waiting_for l.wish ≤ top) (sym f) b, subst (λ (x : Around). LevelsHeld text w' X σ' m₀ base (m + 1) x.top K) (sym f) (levels_on m₀ base (m + 1) t K (walked-wider m (m + 1) top t w w' (omega arith) (omega arith) W) h)))

  -- and so does the one that the walk is at
  pub at_on : (m₀ base : ℕ) (h : Here) (S : Scope) (K : List TypeLevel) → TypesWalked (h.more + 1) h.top w w' → AtLevel text w X m₀ base σ h S K → AtLevel text w' X m₀ base σ' h S K
  at_on m₀ base h S K W A = record {
    walkable = walkable_on (h.more + 1) h.top text w w' W h.frame h.top X S σ σ' A.walkable (omega (arith, A.level)) (omega arith) H';
    level = A.level;
    levels = levels_on m₀ base (h.more + 1) h.top K W A.levels;
  }

-- the walk stays within the levels and above the entries that it began with; it is at the first level where no level waits
pub levels_within : (text w : List ℕ) (X : Text) (σ : State) (m₀ base m top : ℕ) (K : List TypeLevel) → LevelsHeld text w X σ m₀ base m top K → (m + length K ≡ m₀) × (base ≤ top)
levels_within text w X σ m₀ base m top [] (h, b) = (omega (arith, h), b)
levels_within text w X σ m₀ base m top (l ∷ K) (g, (b, h)) = let r = levels_within text w X σ m₀ base (m + 1) (scope_in w (m + 1)).top K h in (omega (arith, r.0), omega (arith, r.1, b))

-- A level that waits: the machine asks for a type below it, and the memory holds that. Assumes nothing.
use Prim.Native.Nat.{ℕ, ◌+◌, ◌*◌, ◌≤◌, ◌<◌}
use mathlib.Core.Path.{◌≡◌, refl, sym, ap, subst, ◌∙◌}
use mathlib.Core.Bool.{Bool}
use mathlib.Core.List.{List, ◌∷◌}
use native.Mathlib.Omega.{arith}
use native.Mathlib.Nat.{add-zero}
use lib.Dec.{eqb}
use lib.ListN.{length, get_or}
use Rattle.std.proofs.Common.{Ok}
use Rattle.calculus.specs.Answer.{good}
use Rattle.notation_calculus.specs.Trees.{Text}
use Rattle.notation_calculus.specs.Making.{State, Scope, most_entries}
use Rattle.notation_machine.specs.TypeMachine.{Wish, TypeLevel, ask_type}
use Rattle.words.specs.Lexed.{from, Lexed}
use Rattle.making_memory.specs.Map.{scope_at, frames_at, type_count_at, node_count_at, put_count_at, levels_at}
use Rattle.made_types.specs.Held.{HoldsState}
use Rattle.made_types.proofs.Keeping.{state_kept}
use Rattle.scopes.specs.Entries.{Places}
use Rattle.scopes.specs.Frames.{frame_in}
use Rattle.scopes.proofs.EntryLaws.{frame_parts}
use Rattle.walk_levels.specs.declared.Level.{Level}
use Rattle.walk_levels.specs.declared.Around.{Around}
use Rattle.walk_levels.specs.Levels.{level_in, scope_in, pushed}
use Rattle.walk_levels.specs.TypeLevels.{flag_number, waiting_for, HoldsWish}
use Rattle.walk_levels.proofs.Pushing.{pushed_level, pushed_scope, pushed-below}
use Rattle.walks.specs.Walkable.{row_bodies, Walkable}
use Rattle.walks.specs.Walked.{TypesWalked}
use Rattle.walks.proofs.Kept.{types_of_pushed, clauses_on, scope-same, places-on}
use Rattle.type_walk.specs.declared.levels.Want.{Want}
use Rattle.type_walk.specs.declared.levels.Here.{Here}
use Rattle.type_walk.specs.declared.levels.Walking as code
use Rattle.type_walk.specs.declared.levels.Walking.TheVariants as walking
use Rattle.type_walk.specs.Holding.{WishKnown, LevelsHeld, here_with, here_in, around_of, AtLevel, Wanting}
use Rattle.type_walk.specs.Moves.{CanWait, Waited, Moving, Moved}
use Rattle.type_walk.proofs.HoldLaws.{levels_on, wish_kept}

-- the level that the walk is at can wait
pub can_wait : (text w : List ℕ) (X : Text) (m₀ base : ℕ) (σ : State) (h : Here) (S : Scope) (K : List TypeLevel) → AtLevel text w X m₀ base σ h S K → CanWait w h
can_wait text w X m₀ base σ h S K A = record { room = A.walkable.room; level = omega (arith, A.level, A.walkable.level); frame = A.walkable.level; top = A.walkable.scope.places.most }

-- a level that waits is read from its numbers
pub here-read : (w : List ℕ) (more : ℕ) (l : Level) (s : Around) (frame top : ℕ) → l ≡ level_in w (more + 1) → s ≡ scope_in w (more + 1) → frame ≡ s.frame → top ≡ s.top → record { more = more; tight = eqb l.flag 1; frame = frame; top = top } ≡ here_in w more
here-read w more l s frame top a b c d =
    ap (λ (x : Level). record { more = more; tight = eqb x.flag 1; frame = frame; top = top }) a
    ∙ ap (λ (n : ℕ). record { more = more; tight = eqb (level_in w (more + 1)).flag 1; frame = n; top = top }) (c ∙ ap (λ (x : Around). x.frame) b)
    ∙ ap (λ (n : ℕ). record { more = more; tight = eqb (level_in w (more + 1)).flag 1; frame = (scope_in w (more + 1)).frame; top = n }) (d ∙ ap (λ (x : Around). x.top) b)

module _ (w : List ℕ) (h : Here) (l : Level) (C : CanWait w h) where
  abbrev w' : List ℕ
  w' = pushed w (h.more + 1) l (around_of h)

  pub waited_walked : TypesWalked (h.more + 1) h.top w w'
  waited_walked = types_of_pushed (h.more + 1) (h.more + 1) h.top w l (around_of h) (omega arith) C.level C.room C.top

  below : (j : ℕ) → j < levels_at → get_or w' j 0 ≡ get_or w j 0
  below = pushed-below w (h.more + 1) l (around_of h) C.room C.level

  waited-state : (σ : State) → HoldsState w σ → HoldsState w' σ
  waited-state σ H = state_kept w w' σ H waited_walked.same (λ i a b. below i (omega arith)) (below type_count_at (omega arith)) (below node_count_at (omega arith)) (below put_count_at (omega arith))

  -- no frame is written, so every scope stays
  waited-scope : (text : List ℕ) (frame top : ℕ) (X : Text) (R : Scope) (σ : State) → Walkable text w frame top X R σ → Walkable text w' frame top X R σ
  waited-scope text frame top X R σ G =
      let f = G.level in
      let few = G.scope.places.most in
      record {
        short = G.short;
        room = omega (arith, G.room, waited_walked.same);
        level = G.level;
        clauses = clauses_on (h.more + 1) h.top text w w' waited_walked X G.clauses;
        state = waited-state σ G.state;
        scope = scope-same text w w' top (λ j a b. below j (omega arith)) waited_walked.same frame R (frame_parts (frame_in w frame) _ _ _ _ (below (frames_at + 4 * frame) (omega arith)) (below (frames_at + 4 * frame + 1) (omega arith)) (below (frames_at + 4 * frame + 2) (omega arith)) (below (frames_at + 4 * frame + 3) (omega arith))) G.scope;
        seen = G.seen;
        types = G.types;
        variables = G.variables;
      }

  -- a type is wanted in a scope, and the level waits for it
  pub ask_held :
      (text : List ℕ) (X : Text) (m₀ base : ℕ) (σ : State) (S : Scope) (K : List TypeLevel) → AtLevel text w X m₀ base σ h S K
      → (x : Wish) (tight : Bool) (frame top at : ℕ) (R : Scope) → l.flag ≡ flag_number h.tight → HoldsWish text w h.top l x → WishKnown text (length σ.table) h.top x
      → Places text w 0 (h.top + waiting_for x) → h.more ≤ frame → h.top + waiting_for x ≤ top → Walkable text w frame top X R σ → Lexed text at
      → Wanting text w' X m₀ base (record { more = h.more; tight = tight; frame = frame; top = top; at = at }) (good (ask_type (here_with h S K) x tight R σ (from text at)))
  ask_held text X m₀ base σ S K A x tight frame top at R flag wish known places level few G lexed =
      let e : level_in w' (h.more + 1) ≡ l = pushed_level w (h.more + 1) l (around_of h) C.room C.level in
      let f : scope_in w' (h.more + 1) ≡ around_of h = pushed_scope w (h.more + 1) l (around_of h) C.room C.level in
      let most = A.walkable.scope.places.most in
      let rest = levels_on text w w' X σ σ (waited-state σ A.walkable.state) m₀ base (h.more + 1) h.top K waited_walked A.levels in
      record {
        scope = R;
        state = σ;
        above = record { wish = x; tight = h.tight; scope = S } ∷ K;
        is = refl;
        walkable = waited-scope text frame top X R σ G;
        level = level;
        lexed = lexed;
        levels = (
          record {
            flag = ap (λ (y : Level). y.flag) e ∙ flag;
            level = subst (λ (y : Around). h.more < y.frame) (sym f) A.level;
            walkable = subst (λ (y : Around). Walkable text w' y.frame y.top X S σ) (sym f) (waited-scope text h.frame h.top X S σ A.walkable);
            wish = subst (λ (y : Around). HoldsWish text w' y.top (level_in w' (h.more + 1)) x) (sym f) (subst (λ (y : Level). HoldsWish text w' h.top y x) (sym e) (wish_kept w w' most_entries (λ e q. below (scope_at + 2 * e + 1) (omega arith)) text h.top l x (omega (arith, G.scope.places.most)) wish));
            known = subst (λ (y : Around). WishKnown text (length σ.table) y.top x) (sym f) known;
            places = subst (λ (y : Around). Places text w' 0 (y.top + waiting_for x)) (sym f) (places-on text w w' (h.top + waiting_for x) (λ j a c. below j (omega (arith, places.most))) waited_walked.same places);
          },
          (subst (λ (y : Around). y.top + waiting_for x ≤ top) (sym f) few, subst (λ (y : Around). LevelsHeld text w' X σ m₀ base (h.more + 1) y.top K) (sym f) rest),
        );
      }

-- nothing waits above the scope
pub places-none : (text w : List ℕ) (t : ℕ) → Places text w 0 t → Places text w 0 (t + 0)
places-none text w t p = subst (λ (n : ℕ). Places text w 0 n) (sym (add-zero t)) p

-- what waits was asked for
pub waited_moved :
    (text w : List ℕ) (h : Here) (l : Level) (q : Want) (r : code.Walking) (w' : List ℕ) (P : State → Type 0) (go : Moving) → CanWait w h → Waited w h l q r w'
    → ((X : Text) (m₀ base : ℕ) (σ : State) (S : Scope) (K : List TypeLevel) → AtLevel text w X m₀ base σ h S K → P σ → Wanting text (pushed w (h.more + 1) l (around_of h)) X m₀ base q (go X (row_bodies text w 0 (length X.clauses)) (here_with h S K) σ))
    → Moved text w h P go (Ok r) w'
waited_moved text w h l q r w' P go C G says =
    subst (λ (y : code.Walking). Moved text w h P go (Ok y) w') (sym G.wants) (subst (λ (v : List ℕ). Moved text w h P go (Ok (walking.Wanted q)) v) (sym G.stored) (record { walked = waited_walked w h l C; says = says }))

-- What is held stays held: one law for all that one level writes. Assumes nothing.
use Prim.Native.Nat.{ℕ, suc, ◌+◌, ◌*◌, ◌≤◌, ◌<◌}
use mathlib.Core.Path.{◌≡◌, refl, sym, ap, subst, ◌∙◌}
use mathlib.Core.List.{List, [], ◌∷◌}
use native.Mathlib.Omega.{arith}
use lib.ListN.{length, get_or}
use Rattle.notation_calculus.specs.Trees.{Text}
use Rattle.notation_calculus.specs.Making.{State, Scope, Made, most_entries}
use Rattle.notation_machine.specs.TermMachine.{Function, none, some, Spine, TermWish, of_function, of_fix, value_of_name, value_of_names, under_name, under_names, element, of_definition, TermLevel}
use Rattle.making_memory.specs.Map.{scope_at, frames_at, type_count_at, node_count_at, put_count_at, levels_at, making_size}
use Rattle.made_types.specs.Held.{HoldsState}
use Rattle.made_types.proofs.Keeping.{state_kept}
use Rattle.made_nodes.specs.Held.{TermHeld, MadeOnly}
use Rattle.std.specs.Prelude.{Option, None, Some}
use Rattle.made_nodes.specs.declared.Sub.{Sub}
use Rattle.scopes.specs.Entries.{OnlyEntries}
use Rattle.scopes.specs.Frames.{frame_in}
use Rattle.scopes.specs.declared.frames.Frame.{Frame}
use Rattle.walk_levels.specs.declared.Level.{Level}
use Rattle.walk_levels.specs.declared.Around.{Around}
use Rattle.walk_levels.specs.Levels.{scopes_at, level_in, scope_in, pushed}
use Rattle.walk_levels.proofs.Pushing.{pushed-below}
use Rattle.walks.specs.Walkable.{Walkable}
use Rattle.walks.specs.Walked.{TypesWalked, TermsWalked}
use Rattle.walks.proofs.Kept.{terms_walked_none, terms_walked_then, terms_of_types, terms_of_made, types_of_entries, types_of_pushed, clauses_on_terms, frame_on_terms, walkable_on_terms, term_on_terms, scope-same}
use Rattle.term_walk.specs.declared.Walk.{Walk}
use Rattle.term_walk.specs.declared.Left.{Left}
use Rattle.term_parts.specs.Halves.{PartsOnly}
use Rattle.term_parts.proofs.Stay.{halves-stay}
use Rattle.term_walk.specs.Holding.{LevelWrites, FunctionHeld, LeftHeld, LeftIn, sub_in, left_by, entries_of, halves_for, WishHeld, ScopeHeld, TermLevelHeld, TermLevelsHeld, HereHeld}
use Rattle.term_walk.specs.Steps.{HereNow}

-- ---- what a level writes

pub stepped_none : (m top waiting : ℕ) (w : List ℕ) → LevelWrites m top waiting w w
stepped_none m top waiting w = record { walked = terms_walked_none m top w; halves = λ j a b. refl }

pub stepped_then : (m top waiting : ℕ) (u v w : List ℕ) → LevelWrites m top waiting u v → LevelWrites m top waiting v w → LevelWrites m top waiting u w
stepped_then m top waiting u v w a b = record {
  walked = terms_walked_then m m m top top top u v w (omega arith) (omega arith) (omega arith) (omega arith) a.walked b.walked;
  halves = λ j h l. b.halves j h l ∙ a.halves j h l;
}

walked_more : (m k top : ℕ) (w w' : List ℕ) → k ≤ m → TermsWalked k top w w' → TermsWalked m top w w'
walked_more m k top w w' h a = terms_walked_then k m m top top top w w' w' h (omega arith) (omega arith) (omega arith) a (terms_walked_none m top w')

pub stepped_types : (m k top waiting : ℕ) (w w' : List ℕ) → k ≤ m → waiting ≤ 2048 → TypesWalked k top w w' → LevelWrites m top waiting w w'
stepped_types m k top waiting w w' h few a = record { walked = walked_more m k top w w' h (terms_of_types k top w w' a); halves = λ j b l. a.middle j b (omega arith) }

pub stepped_made : (m top waiting : ℕ) (w w' : List ℕ) → top ≤ most_entries → waiting ≤ 2048 → MadeOnly w w' → LevelWrites m top waiting w w'
stepped_made m top waiting w w' h few a = record { walked = terms_of_made m top w w' h a; halves = λ j b l. a.above j (omega arith) (λ e. omega arith) (λ e. omega arith) }

pub stepped_parts : (m top waiting : ℕ) (w w' : List ℕ) → PartsOnly top waiting w w' → LevelWrites m top waiting w w'
stepped_parts m top waiting w w' a = record { walked = walked_more m 0 top w w' (omega arith) a.walked; halves = a.halves }

pub stepped_entries : (m top waiting from to : ℕ) (w w' : List ℕ) → top ≤ from → to ≤ most_entries → waiting ≤ 2048 → OnlyEntries from to w w' → LevelWrites m top waiting w w'
stepped_entries m top waiting from to w w' h l few a = stepped_types m m top waiting w w' (omega arith) few (types_of_entries m top from to w w' h l a)

pub stepped_pushed : (k top waiting : ℕ) (w : List ℕ) (l : Level) (s : Around) → k < 82 → making_size ≤ length w → top ≤ most_entries → waiting ≤ 2048 → LevelWrites k top waiting w (pushed w k l s)
stepped_pushed k top waiting w l s few room h most = stepped_types k k top waiting w (pushed w k l s) (omega arith) most (types_of_pushed k k top w l s (omega arith) few room h)

-- .. fewer entries and terms are asked to stay
pub stepped_less : (m k top top' waiting waiting' : ℕ) (w w' : List ℕ) → m ≤ k → top' ≤ top → waiting' ≤ waiting → LevelWrites m top waiting w w' → LevelWrites k top' waiting' w w'
stepped_less m k top top' waiting waiting' w w' h t l a = record {
  walked = terms_walked_then m k k top top' top' w w' w' h (omega arith) t (omega arith) a.walked (terms_walked_none k top' w');
  halves = λ j b c. a.halves j b (omega arith);
}

-- ---- what stays

module _ (m top waiting : ℕ) (w w' : List ℕ) (a : LevelWrites m top waiting w w') where
  level-same : (k : ℕ) → suc m ≤ k → k < 82 → level_in w' k ≡ level_in w k
  level-same k h l =
      let s : (j : ℕ) → j < 8 → get_or w' (levels_at + 8 * k + j) 0 ≡ get_or w (levels_at + 8 * k + j) 0 = λ j q. a.walked.levels (levels_at + 8 * k + j) (omega arith) (omega arith) in
      let b : get_or w' (levels_at + 8 * k) 0 ≡ get_or w (levels_at + 8 * k) 0 = a.walked.levels (levels_at + 8 * k) (omega arith) (omega arith) in
      rw (b, s 1 (omega arith), s 2 (omega arith), s 3 (omega arith), s 4 (omega arith), s 5 (omega arith), s 6 (omega arith), s 7 (omega arith))

  around-same : (k : ℕ) → suc m ≤ k → k < 82 → scope_in w' k ≡ scope_in w k
  around-same k h l =
      let b : get_or w' (scopes_at + 4 * k) 0 ≡ get_or w (scopes_at + 4 * k) 0 = a.walked.scopes (scopes_at + 4 * k) (omega arith) in
      let c : get_or w' (scopes_at + 4 * k + 1) 0 ≡ get_or w (scopes_at + 4 * k + 1) 0 = a.walked.scopes (scopes_at + 4 * k + 1) (omega arith) in
      let d : get_or w' (scopes_at + 4 * k + 2) 0 ≡ get_or w (scopes_at + 4 * k + 2) 0 = a.walked.scopes (scopes_at + 4 * k + 2) (omega arith) in
      rw (b, c, d)

  pub term_stays : (s : Sub) (e : Made) → TermHeld w s e → TermHeld w' s e
  term_stays s e h = term_on_terms m top [] w w' a.walked s e h

  pub left_stays : (s : Left) (p : Spine) → LeftHeld w s p → LeftHeld w' s p
  left_stays s p h = record { place = h.place; function = by s.function p.function h.function }
    where
      by : (g : Option Sub) (f : Function) → FunctionHeld w g f → FunctionHeld w' g f
      by None none t = t
      by None (some f) t = absurd t
      by (Some x) none t = absurd t
      by (Some x) (some f) t = term_stays x f t

  left_in_stays : (l : Level) (p : Spine) → LeftIn w l p → LeftIn w' l p
  left_in_stays l p h = record { flag = h.flag; held = left_stays (left_by l) p h.held }

  pub wish_stays : (text : List ℕ) (t wt : ℕ) (l : Level) (x : TermWish) → t + entries_of x ≤ top → wt + halves_for x ≤ waiting → WishHeld text w t wt l x → WishHeld text w' t wt l x
  wish_stays text t wt l (of_function xs θ) b c (f, n, y, k, N) = (f, n, y, omega (arith, a.walked.more_types), λ i h. a.walked.entries (scope_at + 2 * (t + i)) (omega arith) (omega arith) ∙ N i h)
  wish_stays text t wt l (of_fix x θ) b c (f, p, y, k) = (f, p, y, omega (arith, a.walked.more_types))
  wish_stays text t wt l (value_of_name at x) b c h = h
  wish_stays text t wt l (value_of_names at xs us) b c h = h
  wish_stays text t wt l (under_name x v) b c (f, p, h) = (f, p, term_stays (sub_in l) v h)
  wish_stays text t wt l (under_names ps) b c (f, n, h) = (f, n, halves-stay _ _ w w' wt ps (λ j x y. a.halves j x (omega arith)) term_stays h)
  wish_stays text t wt l (element s before) b c (f, n, s', h) = (f, n, left_in_stays l s s', halves-stay _ _ w w' wt before (λ j x y. a.halves j x (omega arith)) term_stays h)
  wish_stays text t wt l (of_definition s us) b c (f, s', u, x) = (f, left_in_stays l s s', u, x)

  module _ (text : List ℕ) (X : Text) (σ σ' : State) (H' : HoldsState w' σ') where
    pub scope-stays : (k frame t : ℕ) (S : Scope) → m ≤ k → t ≤ top → ScopeHeld text w X k frame t S σ → ScopeHeld text w' X k frame t S σ'
    scope-stays k frame t S h l g = record {
      walkable = walkable_on_terms m top text w w' a.walked frame t X S σ σ' g.walkable (omega (arith, g.above)) l H';
      above = g.above;
      variables = ap (λ (f : Frame). f.variables) (frame_on_terms m top text w w' a.walked frame (omega (arith, g.above)) g.walkable.level) ∙ g.variables;
    }

    level-stays : (most k t wt : ℕ) (l : TermLevel) → most ≤ 81 → m ≤ k → t ≤ top → wt ≤ waiting → TermLevelHeld text X most w σ (suc k) t wt l → TermLevelHeld text X most w' σ' (suc k) t wt l
    level-stays most k t wt l nested h b c g =
        let e = level-same (suc k) (omega arith) (omega (arith, g.within)) in
        let f = around-same (suc k) (omega arith) (omega (arith, g.within)) in
        let p : (scope_in w (suc k)).top ≤ top = omega (arith, g.entries) in
        record {
          within = g.within;
          scope = subst (λ (x : Around). ScopeHeld text w' X (suc k) x.frame x.top l.scope σ') (sym f) (scope-stays (suc k) (scope_in w (suc k)).frame (scope_in w (suc k)).top l.scope (omega arith) p g.scope);
          wish = subst (λ (x : Around). WishHeld text w' x.top x.waiting (level_in w' (suc k)) l.wish) (sym f) (subst (λ (x : Level). WishHeld text w' (scope_in w (suc k)).top (scope_in w (suc k)).waiting x l.wish) (sym e) (wish_stays text (scope_in w (suc k)).top (scope_in w (suc k)).waiting (level_in w (suc k)) l.wish (omega (arith, g.entries)) (omega (arith, g.halves)) g.wish));
          entries = subst (λ (x : Around). x.top + entries_of l.wish ≤ t) (sym f) g.entries;
          halves = subst (λ (x : Around). x.waiting + halves_for l.wish ≤ wt) (sym f) g.halves;
        }

    pub levels-stay : (most bottom k t wt : ℕ) (K : List TermLevel) → most ≤ 81 → m ≤ k → t ≤ top → wt ≤ waiting → TermLevelsHeld text X most bottom w σ k t wt K → TermLevelsHeld text X most bottom w' σ' k t wt K
    levels-stay most bottom k t wt [] nested h b c g = g
    levels-stay most bottom k t wt (l ∷ K) nested h b c (g, r) =
        let f = around-same (suc k) (omega arith) (omega (arith, g.within)) in
        let p : (scope_in w (suc k)).top ≤ top = omega (arith, g.entries) in
        let q : (scope_in w (suc k)).waiting ≤ waiting = omega (arith, g.halves) in
        (level-stays most k t wt l nested h b c g, subst (λ (x : Around). TermLevelsHeld text X most bottom w' σ' (suc k) x.top x.waiting K) (sym f) (levels-stay most bottom (suc k) (scope_in w (suc k)).top (scope_in w (suc k)).waiting K nested (omega arith) p q r))

-- ---- the level that the walk is at

module _ (text : List ℕ) (X : Text) (most bottom : ℕ) (w w' : List ℕ) (n : Walk) (S : Scope) (σ : State) (K : List TermLevel) (g : HereHeld text X most bottom w n S σ K) (a : LevelWrites n.more n.top n.waiting w w') where
  pub here_stays : (σ' : State) → HoldsState w' σ' → HereHeld text X most bottom w' n S σ' K
  here_stays σ' H' = record {
    scope = scope-stays n.more n.top n.waiting w w' a text X σ σ' H' n.more n.frame n.top S (omega arith) (omega arith) g.scope;
    few = omega (arith, g.few, g.scope.walkable.state.nodes, H'.nodes, a.walked.more_nodes);
    levels = levels-stay n.more n.top n.waiting w w' a text X σ σ' H' most bottom n.more n.top n.waiting K (omega (arith, g.nested)) (omega arith) (omega arith) (omega arith) g.levels;
    nested = g.nested;
  }

  pub here-now : HereNow text X most bottom w' n S K
  here-now = record { now = here_stays }

-- the walk is at no level above the first, and over no fewer entries
pub levels_within : (text : List ℕ) (X : Text) (most bottom : ℕ) (w : List ℕ) (σ : State) (k t wt : ℕ) (K : List TermLevel) → TermLevelsHeld text X most bottom w σ k t wt K → (k ≤ most) × (bottom ≤ t)
levels_within text X most bottom w σ k t wt [] (e, h) = (omega arith, h)
levels_within text X most bottom w σ k t wt (l ∷ K) (g, r) = let q = levels_within text X most bottom w σ (suc k) (scope_in w (suc k)).top (scope_in w (suc k)).waiting K r in (omega (arith, q.0), omega (arith, q.1, g.entries))

-- ---- a level is stored

-- a scope needs nothing of the levels
walkable_below : (text w w' : List ℕ) (frame t : ℕ) (X : Text) (S : Scope) (σ : State) → length w' ≡ length w → ((j : ℕ) → j < levels_at → get_or w' j 0 ≡ get_or w j 0) → TermsWalked 82 t w w' → HoldsState w' σ → Walkable text w frame t X S σ → Walkable text w' frame t X S σ
walkable_below text w w' frame t X S σ long same W H' g =
    let few = g.level in
    let F : frame_in w' frame ≡ frame_in w frame =
    let b : get_or w' (frames_at + 4 * frame) 0 ≡ get_or w (frames_at + 4 * frame) 0 = same (frames_at + 4 * frame) (omega arith) in
    let c : get_or w' (frames_at + 4 * frame + 1) 0 ≡ get_or w (frames_at + 4 * frame + 1) 0 = same (frames_at + 4 * frame + 1) (omega arith) in
    let d : get_or w' (frames_at + 4 * frame + 2) 0 ≡ get_or w (frames_at + 4 * frame + 2) 0 = same (frames_at + 4 * frame + 2) (omega arith) in
    let e : get_or w' (frames_at + 4 * frame + 3) 0 ≡ get_or w (frames_at + 4 * frame + 3) 0 = same (frames_at + 4 * frame + 3) (omega arith) in
    rw (b, c, d, e) in
    record {
      short = g.short;
      room = omega (arith, g.room);
      level = g.level;
      clauses = clauses_on_terms 82 t text w w' W X g.clauses;
      state = H';
      scope = scope-same text w w' t (λ j a b. same j (omega (arith, g.scope.places.most))) long frame S F g.scope;
      seen = g.seen;
      types = g.types;
      variables = g.variables;
    }

module _ (w : List ℕ) (k : ℕ) (l : Level) (s : Around) (room : making_size ≤ length w) (few : k < 82) where
  abbrev w' : List ℕ
  w' = pushed w k l s

  pub pushed_state : (σ : State) → HoldsState w σ → HoldsState w' σ
  pushed_state σ H =
      let b = pushed-below w k l s room few in
      let W = types_of_pushed k k 0 w l s (omega arith) few room (omega arith) in
      state_kept w w' σ H W.same (λ j a c. b j (omega arith)) (b type_count_at (omega arith)) (b node_count_at (omega arith)) (b put_count_at (omega arith))

  pub pushed_scope-held : (text : List ℕ) (X : Text) (m frame t : ℕ) (S : Scope) (σ : State) → ScopeHeld text w X m frame t S σ → ScopeHeld text w' X m frame t S σ
  pushed_scope-held text X m frame t S σ g =
      let b = pushed-below w k l s room few in
      let level = g.walkable.level in
      let W = terms_of_types 82 t w w' (types_of_pushed 82 k t w l s (omega arith) few room g.walkable.scope.places.most) in
      record {
        walkable = walkable_below text w w' frame t X S σ W.same b W (pushed_state σ g.walkable.state) g.walkable;
        above = g.above;
        variables = b (frames_at + 4 * frame + 3) (omega arith) ∙ g.variables;
      }

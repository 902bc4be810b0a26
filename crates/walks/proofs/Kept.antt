-- What a walk leaves as it was: walks in a row, and the clauses, scopes, states and terms that are still held behind one. Assumes nothing.
use Prim.Native.Nat.{ℕ, zero, suc, ◌+◌, ◌*◌, ◌-◌, ◌≤◌, ◌<◌}
use mathlib.Core.Path.{◌≡◌, refl, sym, ap, ◌∙◌, subst}
use mathlib.Core.Bool.{Bool, true, false, cond}
use mathlib.Core.List.{List, [], ◌∷◌}
use native.Mathlib.Omega.{arith}
use native.Mathlib.Decide.{dec_le}
use lib.Dec.{eqb}
use lib.ListN.{length, get_or, drop, set, length-set}
use lib.Seq.{sets, length-sets, get_or-set_other, drop-cons, drop-length}
use Rattle.laws.proofs.Regions.{sets_outside, sets-before}
use Rattle.calculus.specs.Answer.{Answer, good, refused, ◌>>=◌}
use Rattle.calculus.proofs.Answers.{good-inj, refused≢good}
use Rattle.notation_calculus.specs.Words.{Word}
use Rattle.notation_calculus.specs.Trees.{Body, of_type, of_term, Clause, Text}
use Rattle.notation_calculus.specs.Grammar.{most_nested, Got, got, behind, type_at, term_at}
use Rattle.notation_calculus.specs.Making.{State, Entry, Scope, most_entries, Made}
use Rattle.notation_machine.specs.Bodies.{ReadsAs, AllRead}
use Rattle.notation_machine.specs.TypeSteps.{AllShort}
use Rattle.words.specs.Next.{run_at, name_in, next_of, told}
use Rattle.words.specs.Lexed.{from, Lexed, Stands}
use Rattle.words.proofs.LexLaws.{stands}
use Rattle.making_memory.specs.Map.{scope_at, clauses_at, frames_at, type_count_at, node_count_at, put_count_at, clause_count_at, second_at_lem, levels_at, making_size}
use Rattle.made_types.specs.Held.{HoldsState, TypesOnly}
use Rattle.made_nodes.specs.Held.{TermHeld, MadeOnly}
use Rattle.made_nodes.specs.declared.Sub.{Sub}
use Rattle.made_nodes.proofs.Terms.{term_kept}
use Rattle.clauses.specs.Rows.{body_at, row_in, clause_of, no_clause, HoldsRows}
use Rattle.clauses.specs.Texts.{HoldsClauses}
use Rattle.scopes.specs.declared.frames.Frame.{Frame}
use Rattle.scopes.specs.Entries.{place_in, value_at, entry_in, variable_in, entries_back, named_from, Places, OnlyEntries}
use Rattle.scopes.specs.Frames.{frame_in, HoldsParameters, HoldsScope}
use Rattle.scopes.proofs.EntryLaws.{frame_parts}
use Rattle.scopes.proofs.KeepLaws.{rows-kept}
use Rattle.walk_levels.specs.declared.Level.{Level}
use Rattle.walk_levels.specs.declared.Around.{Around}
use Rattle.walk_levels.specs.Levels.{scopes_at, level_numbers, scope_numbers, pushed}
use Rattle.walk_levels.proofs.Pushing.{pushed-below}
use Rattle.walks.specs.Walkable.{row_bodies, AllTyped, Walkable}
use Rattle.walks.specs.Walked.{TypesWalked, TermsWalked}

-- ---- walks in a row

pub types_walked_none : (m top : ℕ) (w : List ℕ) → TypesWalked m top w w
types_walked_none m top w = record { same = refl; nodes = λ j a. refl; entries = λ j a b. refl; middle = λ j a b. refl; frames = λ j a b. refl; counts = λ j a b c. refl; levels = λ j a b. refl; scopes = λ j a. refl; more_types = omega arith; few_types = λ h. h }

pub terms_walked_none : (m top : ℕ) (w : List ℕ) → TermsWalked m top w w
terms_walked_none m top w = record { same = refl; nodes = λ j a b. refl; entries = λ j a b. refl; clauses = λ j a b. refl; frames = λ j a b. refl; counts = λ j a b c d. refl; levels = λ j a b. refl; scopes = λ j a. refl; more_types = omega arith; few_types = λ h. h; more_nodes = omega arith }

pub types_walked_then : (m₁ m₂ m top₁ top₂ top : ℕ) (u v w : List ℕ) → m₁ ≤ m → m₂ ≤ m → top ≤ top₁ → top ≤ top₂ → TypesWalked m₁ top₁ u v → TypesWalked m₂ top₂ v w → TypesWalked m top u w
types_walked_then m₁ m₂ m top₁ top₂ top u v w h₁ h₂ t₁ t₂ a b =
    let n = a.more_types in
    let n' = b.more_types in
    record {
      same = b.same ∙ a.same;
      nodes = λ j h. b.nodes j h ∙ a.nodes j h;
      entries = λ j h l. b.entries j h (omega arith) ∙ a.entries j h (omega arith);
      middle = λ j h l. b.middle j h l ∙ a.middle j h l;
      frames = λ j h l. b.frames j (omega arith) l ∙ a.frames j (omega arith) l;
      counts = λ j h l p. b.counts j h l p ∙ a.counts j h l p;
      levels = λ j h l. b.levels j (omega arith) l ∙ a.levels j (omega arith) l;
      scopes = λ j h. b.scopes j (omega arith) ∙ a.scopes j (omega arith);
      more_types = omega arith;
      few_types = λ h. b.few_types (a.few_types h);
    }

pub terms_walked_then : (m₁ m₂ m top₁ top₂ top : ℕ) (u v w : List ℕ) → m₁ ≤ m → m₂ ≤ m → top ≤ top₁ → top ≤ top₂ → TermsWalked m₁ top₁ u v → TermsWalked m₂ top₂ v w → TermsWalked m top u w
terms_walked_then m₁ m₂ m top₁ top₂ top u v w h₁ h₂ t₁ t₂ a b =
    let n = a.more_types in
    let n' = b.more_types in
    let k = a.more_nodes in
    let k' = b.more_nodes in
    record {
      same = b.same ∙ a.same;
      nodes = λ j h l. b.nodes j h (omega arith) ∙ a.nodes j h l;
      entries = λ j h l. b.entries j h (omega arith) ∙ a.entries j h (omega arith);
      clauses = λ j h l. b.clauses j h l ∙ a.clauses j h l;
      frames = λ j h l. b.frames j (omega arith) l ∙ a.frames j (omega arith) l;
      counts = λ j h l p q. b.counts j h l p q ∙ a.counts j h l p q;
      levels = λ j h l. b.levels j (omega arith) l ∙ a.levels j (omega arith) l;
      scopes = λ j h. b.scopes j (omega arith) ∙ a.scopes j (omega arith);
      more_types = omega arith;
      few_types = λ h. b.few_types (a.few_types h);
      more_nodes = omega arith;
    }

-- ---- what else is a walk

pub terms_of_types : (m top : ℕ) (w w' : List ℕ) → TypesWalked m top w w' → TermsWalked m top w w'
terms_of_types m top w w' a = record {
  same = a.same;
  nodes = λ j h l. a.nodes j h;
  entries = a.entries;
  clauses = λ j h l. a.middle j (omega arith) l;
  frames = a.frames;
  counts = λ j h l p q. a.counts j h l q;
  levels = a.levels;
  scopes = a.scopes;
  more_types = a.more_types;
  few_types = a.few_types;
  more_nodes = omega (arith, a.counts node_count_at (omega arith) (omega arith) (λ e. omega arith));
}

pub terms_of_made : (m top : ℕ) (w w' : List ℕ) → top ≤ most_entries → MadeOnly w w' → TermsWalked m top w w'
terms_of_made m top w w' few a = record {
  same = a.same;
  nodes = a.nodes;
  entries = λ j h l. a.above j (omega arith) (λ e. omega arith) (λ e. omega arith);
  clauses = λ j h l. a.above j (omega arith) (λ e. omega arith) (λ e. omega arith);
  frames = λ j h l. a.above j (omega arith) (λ e. omega arith) (λ e. omega arith);
  counts = λ j h l p q. a.above j (omega arith) (λ e. omega arith) p;
  levels = λ j h l. a.above j (omega arith) (λ e. omega arith) (λ e. omega arith);
  scopes = λ j h. a.above j (omega arith) (λ e. omega arith) (λ e. omega arith);
  more_types = a.more_types;
  few_types = a.few_types;
  more_nodes = a.more_nodes;
}

pub types_of_listed : (m top : ℕ) (w w' : List ℕ) → top ≤ most_entries → TypesOnly w w' → TypesWalked m top w w'
types_of_listed m top w w' few a = record {
  same = a.same;
  nodes = a.below;
  entries = λ j h l. a.above j (omega arith) (λ e. omega arith);
  middle = λ j h l. a.above j (omega arith) (λ e. omega arith);
  frames = λ j h l. a.above j (omega arith) (λ e. omega arith);
  counts = λ j h l p. a.above j (omega arith) (λ e. omega arith);
  levels = λ j h l. a.above j (omega arith) (λ e. omega arith);
  scopes = λ j h. a.above j (omega arith) (λ e. omega arith);
  more_types = a.more;
  few_types = a.few;
}

-- entries are written from one on that is not below `top`
pub types_of_entries : (m top from to : ℕ) (w w' : List ℕ) → top ≤ from → to ≤ most_entries → OnlyEntries from to w w' → TypesWalked m top w w'
types_of_entries m top from to w w' low few a =
    let n : get_or w' type_count_at 0 ≡ get_or w type_count_at 0 = a.above type_count_at (omega arith) in
    record {
      same = a.same;
      nodes = λ j h. a.below j (omega arith);
      entries = λ j h l. a.below j (omega arith);
      middle = λ j h l. a.above j (omega arith);
      frames = λ j h l. a.above j (omega arith);
      counts = λ j h l p. a.above j (omega arith);
      levels = λ j h l. a.above j (omega arith);
      scopes = λ j h. a.above j (omega arith);
      more_types = omega arith;
      few_types = λ h. omega arith;
    }

-- what is put in is counted
pub types_of_count : (m top : ℕ) (w : List ℕ) (n : ℕ) → top ≤ most_entries → TypesWalked m top w (set w put_count_at n)
types_of_count m top w n few =
    let other : (j : ℕ) → ¬ (j ≡ put_count_at) → get_or (set w put_count_at n) j 0 ≡ get_or w j 0 = λ j h. get_or-set_other w put_count_at j n 0 h in
    let t : get_or (set w put_count_at n) type_count_at 0 ≡ get_or w type_count_at 0 = other type_count_at (λ e. omega arith) in
    record {
      same = length-set w put_count_at n;
      nodes = λ j h. other j (λ e. omega arith);
      entries = λ j h l. other j (λ e. omega arith);
      middle = λ j h l. other j (λ e. omega arith);
      frames = λ j h l. other j (λ e. omega arith);
      counts = λ j h l p. other j p;
      levels = λ j h l. other j (λ e. omega arith);
      scopes = λ j h. other j (λ e. omega arith);
      more_types = omega arith;
      few_types = λ h. omega arith;
    }

-- a level is pushed
pub types_of_pushed : (m k top : ℕ) (w : List ℕ) (l : Level) (s : Around) → k ≤ m → k < 82 → making_size ≤ length w → top ≤ most_entries → TypesWalked m top w (pushed w k l s)
types_of_pushed m k top w l s h few room low =
    let below : (j : ℕ) → j < levels_at → get_or (pushed w k l s) j 0 ≡ get_or w j 0 = λ j b. pushed-below w k l s room few j b in
    let t : get_or (pushed w k l s) type_count_at 0 ≡ get_or w type_count_at 0 = below type_count_at (omega arith) in
    record {
      same = length-sets (sets w (levels_at + 8 * k) (level_numbers l)) (scopes_at + 4 * k) (scope_numbers s) ∙ length-sets w (levels_at + 8 * k) (level_numbers l);
      nodes = λ j a. below j (omega arith);
      entries = λ j a b. below j (omega arith);
      middle = λ j a b. below j (omega arith);
      frames = λ j a b. below j (omega arith);
      counts = λ j a b c. below j (omega arith);
      levels = λ j a b. sets-before (scope_numbers s) (sets w (levels_at + 8 * k) (level_numbers l)) (scopes_at + 4 * k) j 0 (omega arith) ∙ sets_outside (level_numbers l) w (levels_at + 8 * k) j 0 (λ q. omega arith) (omega arith);
      scopes = λ j a. sets_outside (scope_numbers s) (sets w (levels_at + 8 * k) (level_numbers l)) (scopes_at + 4 * k) j 0 (λ q. omega arith) (omega arith) ∙ sets_outside (level_numbers l) w (levels_at + 8 * k) j 0 (λ q. omega arith) (omega arith);
      more_types = omega arith;
      few_types = λ z. omega arith;
    }

-- ---- what is still held

-- entries below some
module _ (text w w' : List ℕ) (t : ℕ) (same : (j : ℕ) → scope_at ≤ j → j < scope_at + 2 * t → get_or w' j 0 ≡ get_or w j 0) where
  place-on : (e : ℕ) → e < t → place_in w' e ≡ place_in w e
  place-on e h = same (scope_at + 2 * e) (omega arith) (omega arith)

  pub entry_on : (e : ℕ) → e < t → entry_in text w' e ≡ entry_in text w e
  entry_on e h = ap (λ (j : ℕ). record { name = run_at text j; value = value_at w' e }) (place-on e h) ∙ ap (λ (j : ℕ). record { name = run_at text (place_in w e); value = j }) (same (scope_at + 2 * e + 1) (omega arith) (omega arith))

  variable-on : (e : ℕ) → e < t → variable_in text w' e ≡ variable_in text w e
  variable-on e h = ap (λ (j : ℕ). record { name = name_in text j; value = value_at w' e }) (place-on e h) ∙ ap (λ (j : ℕ). record { name = name_in text (place_in w e); value = j }) (same (scope_at + 2 * e + 1) (omega arith) (omega arith))

  pub back_on : (n e : ℕ) → e + n ≤ t → entries_back text w' e n ≡ entries_back text w e n
  back_on zero e h = refl
  back_on (suc n) e h = ap (λ (x : Entry). x ∷ entries_back text w' e n) (variable-on (e + n) (omega arith)) ∙ ap (λ (xs : List Entry). variable_in text w (e + n) ∷ xs) (back_on n e (omega arith))

  pub named_on : (n e : ℕ) → e + n ≤ t → named_from text w' e n ≡ named_from text w e n
  named_on zero e h = refl
  named_on (suc n) e h =
      ap (λ (xs : List Entry). cond (eqb (place_in w' e) (length text)) xs (entry_in text w' e ∷ xs)) (named_on n (suc e) (omega arith))
      ∙ ap (λ (x : Entry). cond (eqb (place_in w' e) (length text)) (named_from text w (suc e) n) (x ∷ named_from text w (suc e) n)) (entry_on e (omega arith))
      ∙ ap (λ (j : ℕ). cond (eqb j (length text)) (named_from text w (suc e) n) (entry_in text w e ∷ named_from text w (suc e) n)) (place-on e (omega arith))

  module _ (long : length w' ≡ length w) where
    pub places-on : Places text w 0 t → Places text w' 0 t
    places-on p = record { room = omega (arith, p.room); most = p.most; inside = λ e a b. subst (λ (j : ℕ). j ≤ length text) (sym (place-on e b)) (p.inside e a b) }

    -- a scope stays where its entries and its frame do
    pub scope-same : (frame : ℕ) (S : Scope) → frame_in w' frame ≡ frame_in w frame → HoldsScope text w frame t S → HoldsScope text w' frame t S
    scope-same frame S F H =
        let P = H.parameters in
        record {
          places = places-on H.places;
          parameters = subst (λ (f : Frame). HoldsParameters text w' f S) (sym F) (record {
            seen = P.seen;
            types_first = P.types_first;
            numbers_next = P.numbers_next;
            types = named_on ((frame_in w frame).numbers - (frame_in w frame).types) (frame_in w frame).types (omega (arith, P.types_first, P.numbers_next, H.under, H.entries)) ∙ P.types;
            numbers = named_on ((frame_in w frame).variables - (frame_in w frame).numbers) (frame_in w frame).numbers (omega (arith, P.numbers_next, H.under, H.entries)) ∙ P.numbers;
          });
          under = subst (λ (f : Frame). f.variables ≤ S.under) (sym F) H.under;
          variables = back_on (length S.variables) S.under (omega (arith, H.entries)) ∙ H.variables;
          entries = H.entries;
        }

pub all-typed_more : (n k : ℕ) → n ≤ k → (Γ : List Entry) → AllTyped n Γ → AllTyped k Γ
all-typed_more n k h [] a = tt
all-typed_more n k h (e ∷ Γ) a = (omega (arith, a.0), all-typed_more n k h Γ a.1)

module _ (m top : ℕ) (text w w' : List ℕ) (W : TermsWalked m top w w') where
  pub clauses_on_terms : (X : Text) → HoldsClauses text w X → HoldsClauses text w' X
  clauses_on_terms X H = record {
    rows = rows-kept text w w' X.clauses H.rows W.clauses (W.counts clause_count_at (omega arith) (omega arith) (λ e. omega arith) (λ e. omega arith));
    edition = W.counts second_at_lem (omega arith) (omega arith) (λ e. omega arith) (λ e. omega arith) ∙ H.edition;
  }

  pub frame_on_terms : (frame : ℕ) → m ≤ frame → frame < 82 → frame_in w' frame ≡ frame_in w frame
  frame_on_terms frame h l =
      frame_parts (frame_in w frame) _ _ _ _
      (W.frames (frames_at + 4 * frame) (omega arith) (omega arith))
      (W.frames (frames_at + 4 * frame + 1) (omega arith) (omega arith))
      (W.frames (frames_at + 4 * frame + 2) (omega arith) (omega arith))
      (W.frames (frames_at + 4 * frame + 3) (omega arith) (omega arith))

  pub scope_on_terms : (frame t : ℕ) (S : Scope) → m ≤ frame → frame < 82 → t ≤ top → HoldsScope text w frame t S → HoldsScope text w' frame t S
  scope_on_terms frame t S h l b H = scope-same text w w' t (λ j g k. W.entries j g (omega arith)) W.same frame S (frame_on_terms frame h l) H

  -- the table only grows
  pub table_on_terms : (σ σ' : State) → HoldsState w σ → HoldsState w' σ' → length σ.table ≤ length σ'.table
  table_on_terms σ σ' H H' = omega (arith, H.types.count, H'.types.count, W.more_types)

  pub walkable_on_terms : (frame t : ℕ) (X : Text) (S : Scope) (σ σ' : State) → Walkable text w frame t X S σ → m ≤ frame → t ≤ top → HoldsState w' σ' → Walkable text w' frame t X S σ'
  walkable_on_terms frame t X S σ σ' H h b H' =
      let more = table_on_terms σ σ' H.state H' in
      record {
        short = H.short;
        room = omega (arith, H.room, W.same);
        level = H.level;
        clauses = clauses_on_terms X H.clauses;
        state = H';
        scope = scope_on_terms frame t S h H.level b H.scope;
        seen = H.seen;
        types = all-typed_more (length σ.table) (length σ'.table) more S.types H.types;
        variables = all-typed_more (length σ.table) (length σ'.table) more S.variables H.variables;
      }

  pub term_on_terms : (s : Sub) (e : Made) → TermHeld w s e → TermHeld w' s e
  term_on_terms s e h =
      let l = h.lower in
      let f = h.few in
      let more = W.more_nodes in
      let k = h.known in
      let types = W.more_types in
      record {
        term = term_kept w' h.term (λ i b. W.nodes i (omega arith) (omega arith));
        lower = omega arith;
        few = f;
        type = h.type;
        known = omega arith;
        deep = h.deep;
      }

  -- the words of the bodies
  pub bodies_on_terms : (k n : ℕ) → k + n ≤ 256 → row_bodies text w' k n ≡ row_bodies text w k n
  bodies_on_terms k zero h = refl
  bodies_on_terms k (suc n) h =
      ap (λ (b : ℕ). from text b ∷ row_bodies text w' (suc k) n) (W.clauses (clauses_at + 8 * k + 3) (omega arith) (omega arith))
      ∙ ap (λ (bs : List (List Word)). from text (row_in w k).body ∷ bs) (bodies_on_terms (suc k) n (omega arith))

module _ (m top : ℕ) (text w w' : List ℕ) (W : TypesWalked m top w w') where
  abbrev as_terms : TermsWalked m top w w'
  as_terms = terms_of_types m top w w' W

  pub clauses_on : (X : Text) → HoldsClauses text w X → HoldsClauses text w' X
  clauses_on = clauses_on_terms m top text w w' as_terms

  pub frame_on : (frame : ℕ) → m ≤ frame → frame < 82 → frame_in w' frame ≡ frame_in w frame
  frame_on = frame_on_terms m top text w w' as_terms

  pub scope_on : (frame t : ℕ) (S : Scope) → m ≤ frame → frame < 82 → t ≤ top → HoldsScope text w frame t S → HoldsScope text w' frame t S
  scope_on = scope_on_terms m top text w w' as_terms

  pub table_on : (σ σ' : State) → HoldsState w σ → HoldsState w' σ' → length σ.table ≤ length σ'.table
  table_on = table_on_terms m top text w w' as_terms

  pub walkable_on : (frame t : ℕ) (X : Text) (S : Scope) (σ σ' : State) → Walkable text w frame t X S σ → m ≤ frame → t ≤ top → HoldsState w' σ' → Walkable text w' frame t X S σ'
  walkable_on = walkable_on_terms m top text w w' as_terms

  pub term_on_lem : (s : Sub) (e : Made) → TermHeld w s e → TermHeld w' s e
  term_on_lem = term_on_terms m top text w w' as_terms

  pub bodies_on : (k n : ℕ) → k + n ≤ 256 → row_bodies text w' k n ≡ row_bodies text w k n
  bodies_on = bodies_on_terms m top text w w' as_terms

-- ---- the bodies of the clauses

got-value : {A : Type 0} {a b : A} {ws us : List Word} → got a ws ≡ got b us → a ≡ b
got-value e = ap (λ (g : Got _). g.value) (good-inj e)

-- a body is read from what its tree is
module _ {A : Type 0} (body : A → Body) (ws us : List Word) (b : Body) where
  reads-by : (m : Answer (Got A)) → (m >>= λ t. got (body t.value) t.rest) ≡ got b us → (read : (t : Got A) → m ≡ good t → ReadsAs ws (body t.value)) → ReadsAs ws b
  reads-by (good t) e read = subst (ReadsAs ws) (got-value e) (read t refl)
  reads-by (refused why) e read = absurd (refused≢good e)

reads-body : (sort : Bool) (ws us : List Word) (b : Body) → body_at sort ws ≡ got b us → ReadsAs ws b
reads-body true ws us b e = reads-by of_type ws us b (type_at most_nested false ws) e (λ t q. (t.rest, q))
reads-body false ws us b e = reads-by of_term ws us b (term_at most_nested ws) e (λ t q. (t.rest, q))

module _ (text w : List ℕ) (cs : List Clause) (H : HoldsRows text w cs) where
  read-from : (n k : ℕ) → k + n ≡ length cs → AllRead (row_bodies text w k n) (drop k cs)
  read-from zero k e =
      let at : k ≡ length cs = omega arith in
      subst (AllRead (row_bodies text w k zero)) (sym (ap (λ (j : ℕ). drop j cs) at ∙ drop-length cs)) tt
  read-from (suc n) k e =
      let h : k < length cs = omega arith in
      let R = H.rows k h in
      subst (AllRead (row_bodies text w k (suc n))) (sym (drop-cons cs k no_clause h)) (reads-body (row_in w k).sort (from text (row_in w k).body) (from text (row_in w k).end) (clause_of cs k).body R.body, read-from n (suc k) (omega arith))

  pub rows-read : AllRead (row_bodies text w 0 (length cs)) cs
  rows-read = read-from (length cs) 0 (omega arith)

-- ---- how many words there are

one_fewer : (ws : List Word) → length ws ≤ suc (length (behind ws))
one_fewer [] = omega arith
one_fewer (x ∷ ws) = omega arith

here : (text : List ℕ) (at : ℕ) → Lexed text at → Stands text at (told (next_of text at))
here text at l = stands text at l (told (next_of text at)) refl

-- from an offset on: no more than bytes, and the end
words_left : (text : List ℕ) (n at : ℕ) → length text ≤ at + n → Lexed text at → length (from text at) ≤ suc n
words_left text zero at h l = elim (dec_le 1 (told (next_of text at)).code) [
  | no g ↦ omega (arith, one_fewer (from text at), ap length ((here text at l).last (omega arith)))
  | yes some ↦ let o = (here text at l).onward (λ e. omega arith) in absurd (omega (arith, o.past, o.lexed.within))
]
words_left text (suc n) at h l = elim (dec_le 1 (told (next_of text at)).code) [
  | no g ↦ omega (arith, one_fewer (from text at), ap length ((here text at l).last (omega arith)))
  | yes some ↦ let o = (here text at l).onward (λ e. omega arith) in omega (arith, one_fewer (from text at), ap length o.rest, words_left text n (told (next_of text at)).end (omega (arith, o.past)) o.lexed)
]

pub words-few : (text : List ℕ) (at : ℕ) → Lexed text at → length (from text at) ≤ length text + 1
words-few text at l = omega (arith, words_left text (length text) at (omega arith) l)

pub rows_short : (text w : List ℕ) (k n : ℕ) → ((j : ℕ) → k ≤ j → j < k + n → Lexed text (row_in w j).body) → AllShort (length text + 1) (row_bodies text w k n)
rows_short text w k zero l = tt
rows_short text w k (suc n) l = (words-few text (row_in w k).body (l k (omega arith) (omega arith)), rows_short text w (suc k) n (λ j a b. l j (omega arith) (omega arith)))

pub held-short : (text w : List ℕ) (cs : List Clause) → HoldsRows text w cs → AllShort (length text + 1) (row_bodies text w 0 (length cs))
held-short text w cs H = rows_short text w 0 (length cs) (λ j a b. (H.rows j (omega arith)).body_lexed)

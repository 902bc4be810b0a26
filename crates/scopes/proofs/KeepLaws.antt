-- What stays when entries are written: entries elsewhere, frames, and a scope below what is written. Assumes nothing.
use Prim.Native.Nat.{ℕ, zero, suc, ◌+◌, ◌*◌, ◌-◌, ◌≤◌, ◌<◌}
use mathlib.Core.Path.{◌≡◌, refl, sym, ap, ◌∙◌, subst}
use mathlib.Core.Bool.{cond}
use mathlib.Core.List.{List, ◌∷◌}
use native.Mathlib.Omega.{arith}
use native.Mathlib.Decide.{dec_le}
use lib.Dec.{eqb}
use lib.ListN.{length, get_or, set, length-set}
use lib.Seq.{get_or-set_same, get_or-set_other}
use Rattle.notation_calculus.specs.Trees.{Bound, Clause}
use Rattle.notation_calculus.specs.Making.{Entry, Scope, bind, with_variables, most_entries}
use Rattle.words.specs.Next.{run_at, name_in}
use Rattle.making_memory.specs.Map.{scope_at, clauses_at, frames_at, clause_count_at, making_size}
use Rattle.clauses.specs.declared.rows.Row.{Row}
use Rattle.clauses.specs.Cells.{CellsThere}
use Rattle.clauses.specs.Rows.{RowOf, clause_of, HoldsRows, row_in}
use Rattle.clauses.proofs.CellLaws.{cells_same}
use Rattle.clauses.proofs.TableLaws.{row_same}
use Rattle.scopes.specs.declared.frames.Frame.{Frame}
use Rattle.scopes.specs.Entries.{place_in, value_at, entry_in, variable_in, entries_back, named_from, Places, with_entry, OnlyEntries}
use Rattle.scopes.specs.Frames.{frame_in, HoldsParameters, HoldsScope}
use Rattle.scopes.proofs.EntryLaws.{frame_parts}

-- ---- one entry

pub entry-stored : (w : List ℕ) (e place value : ℕ) → set (set w (scope_at + 2 * e) place) (scope_at + 2 * e + 1) value ≡ with_entry w e place value
unfolding with_entry
entry-stored w e place value = refl

module _ (w : List ℕ) (e place value : ℕ) (few : e < most_entries) (room : making_size ≤ length w) where
  entry-is : with_entry w e place value ≡ set (set w (scope_at + 2 * e) place) (scope_at + 2 * e + 1) value
  entry-is = sym (entry-stored w e place value)

  entry-else : (j : ℕ) → ¬ (j ≡ scope_at + 2 * e) → ¬ (j ≡ scope_at + 2 * e + 1) → get_or (with_entry w e place value) j 0 ≡ get_or w j 0
  entry-else j g h = ap (λ (l : List ℕ). get_or l j 0) entry-is ∙ get_or-set_other (set w (scope_at + 2 * e) place) (scope_at + 2 * e + 1) j value 0 h ∙ get_or-set_other w (scope_at + 2 * e) j place 0 g

  pub entry_place : place_in (with_entry w e place value) e ≡ place
  entry_place = ap (λ (l : List ℕ). get_or l (scope_at + 2 * e) 0) entry-is ∙ get_or-set_other (set w (scope_at + 2 * e) place) (scope_at + 2 * e + 1) (scope_at + 2 * e) value 0 (λ q. absurd (omega arith)) ∙ get_or-set_same w (scope_at + 2 * e) place 0 (omega arith)

  pub entry_value : value_at (with_entry w e place value) e ≡ value
  entry_value = ap (λ (l : List ℕ). get_or l (scope_at + 2 * e + 1) 0) entry-is ∙ get_or-set_same (set w (scope_at + 2 * e) place) (scope_at + 2 * e + 1) value 0 (omega (arith, length-set w (scope_at + 2 * e) place))

  pub entry_only : OnlyEntries e (e + 1) w (with_entry w e place value)
  entry_only = record {
    same = ap length entry-is ∙ length-set (set w (scope_at + 2 * e) place) (scope_at + 2 * e + 1) value ∙ length-set w (scope_at + 2 * e) place;
    below = λ j h. entry-else j (λ q. absurd (omega arith)) (λ q. absurd (omega arith));
    above = λ j h. entry-else j (λ q. absurd (omega arith)) (λ q. absurd (omega arith));
  }

-- ---- what is not written stays

pub only_none : (from to : ℕ) (w : List ℕ) → OnlyEntries from to w w
only_none from to w = record { same = refl; below = λ j h. refl; above = λ j h. refl }

-- two writings are one, over all that either writes
pub only_then : (a b c d from to : ℕ) (w w₁ w₂ : List ℕ) → from ≤ a → b ≤ to → from ≤ c → d ≤ to → OnlyEntries a b w w₁ → OnlyEntries c d w₁ w₂ → OnlyEntries from to w w₂
only_then a b c d from to w w₁ w₂ ha hb hc hd x y = record {
  same = y.same ∙ x.same;
  below = λ j h. y.below j (omega arith) ∙ x.below j (omega arith);
  above = λ j h. y.above j (omega arith) ∙ x.above j (omega arith);
}

module _ (text w w' : List ℕ) (from to : ℕ) (o : OnlyEntries from to w w') where
  -- an entry that is not written
  entry-same : (e : ℕ) → e < from → entry_in text w' e ≡ entry_in text w e
  entry-same e h =
      let p : place_in w' e ≡ place_in w e = o.below (scope_at + 2 * e) (omega arith) in
      let v : value_at w' e ≡ value_at w e = o.below (scope_at + 2 * e + 1) (omega arith) in
      ap (λ (j : ℕ). record { name = run_at text j; value = value_at w' e }) p ∙ ap (λ (j : ℕ). record { name = run_at text (place_in w e); value = j }) v

  variable-same : (e : ℕ) → e < from → variable_in text w' e ≡ variable_in text w e
  variable-same e h =
      let p : place_in w' e ≡ place_in w e = o.below (scope_at + 2 * e) (omega arith) in
      let v : value_at w' e ≡ value_at w e = o.below (scope_at + 2 * e + 1) (omega arith) in
      ap (λ (j : ℕ). record { name = name_in text j; value = value_at w' e }) p ∙ ap (λ (j : ℕ). record { name = name_in text (place_in w e); value = j }) v

  pub back-same : (n e : ℕ) → e + n ≤ from → entries_back text w' e n ≡ entries_back text w e n
  back-same zero e h = refl
  back-same (suc n) e h = ap (λ (x : Entry). x ∷ entries_back text w' e n) (variable-same (e + n) (omega arith)) ∙ ap (λ (xs : List Entry). variable_in text w (e + n) ∷ xs) (back-same n e (omega arith))

  pub named-same : (n e : ℕ) → e + n ≤ from → named_from text w' e n ≡ named_from text w e n
  named-same zero e h = refl
  named-same (suc n) e h =
      let p : place_in w' e ≡ place_in w e = o.below (scope_at + 2 * e) (omega arith) in
      ap (λ (xs : List Entry). cond (eqb (place_in w' e) (length text)) xs (entry_in text w' e ∷ xs)) (named-same n (suc e) (omega arith)) ∙ ap (λ (x : Entry). cond (eqb (place_in w' e) (length text)) (named_from text w (suc e) n) (x ∷ named_from text w (suc e) n)) (entry-same e (omega arith)) ∙ ap (λ (j : ℕ). cond (eqb j (length text)) (named_from text w (suc e) n) (entry_in text w e ∷ named_from text w (suc e) n)) p

  pub frame_same : to ≤ most_entries → (f : ℕ) → frame_in w' f ≡ frame_in w f
  frame_same h f = frame_parts (frame_in w f) _ _ _ _ (o.above (frames_at + 4 * f) (omega arith)) (o.above (frames_at + 4 * f + 1) (omega arith)) (o.above (frames_at + 4 * f + 2) (omega arith)) (o.above (frames_at + 4 * f + 3) (omega arith))

  pub places_same : to ≤ most_entries → Places text w 0 from → Places text w' 0 from
  places_same h p = record { room = omega (arith, p.room, o.same); most = p.most; inside = λ e a b. subst (λ (j : ℕ). j ≤ length text) (sym (o.below (scope_at + 2 * e) (omega arith))) (p.inside e a b) }

  -- a scope stays when entries above it are written
  pub scope_kept : to ≤ most_entries → (frame : ℕ) (S : Scope) → HoldsScope text w frame from S → HoldsScope text w' frame from S
  scope_kept h frame S H =
      let F = frame_same h frame in
      let P = H.parameters in
      record {
        places = places_same h H.places;
        parameters = subst (λ (f : Frame). HoldsParameters text w' f S) (sym F) (record {
          seen = P.seen;
          types_first = P.types_first;
          numbers_next = P.numbers_next;
          types = named-same ((frame_in w frame).numbers - (frame_in w frame).types) (frame_in w frame).types (omega (arith, P.types_first, P.numbers_next, H.under, H.entries)) ∙ P.types;
          numbers = named-same ((frame_in w frame).variables - (frame_in w frame).numbers) (frame_in w frame).numbers (omega (arith, P.numbers_next, H.under, H.entries)) ∙ P.numbers;
        });
        under = subst (λ (f : Frame). f.variables ≤ S.under) (sym F) H.under;
        variables = back-same (length S.variables) S.under (omega (arith, H.entries)) ∙ H.variables;
        entries = H.entries;
      }

-- ---- one variable more

module _ (text w : List ℕ) (frame top : ℕ) (S : Scope) (H : HoldsScope text w frame top S) (few : top < most_entries) (place value : ℕ) (inside : place ≤ length text) where
  abbrev w' : List ℕ
  w' = with_entry w top place value

  kept : HoldsScope text w' frame top S
  kept = scope_kept text w w' top (top + 1) (entry_only w top place value few H.places.room) (omega arith) frame S H

  new-entry : (x : Bound) → x.name ≡ name_in text place → variable_in text w' top ≡ record { name = x.name; value = value }
  new-entry x e =
      ap (λ (j : ℕ). record { name = name_in text j; value = value_at w' top }) (entry_place w top place value few H.places.room)
      ∙ ap (λ (j : ℕ). record { name = name_in text place; value = j }) (entry_value w top place value few H.places.room)
      ∙ ap (λ (n : List ℕ). record { name = n; value = value }) (sym e)

  new-place : (e : ℕ) → e < top + 1 → place_in w' e ≤ length text
  new-place e h = elim (dec_le (suc e) top) [
    | yes l ↦ kept.places.inside e (omega arith) l
    | no g ↦ let q : e ≡ top = omega arith in subst (λ (j : ℕ). j ≤ length text) (sym (ap (place_in w') q ∙ entry_place w top place value few H.places.room)) inside
  ]

  -- a name is bound
  pub scope_bound : (x : Bound) → x.name ≡ name_in text place → HoldsScope text w' frame (top + 1) (with_variables S (bind x value S.variables))
  scope_bound x e =
      let at : S.under + length S.variables ≡ top = H.entries in
      record {
        places = record { room = kept.places.room; most = omega arith; inside = λ j a b. new-place j b };
        parameters = record { seen = kept.parameters.seen; types_first = kept.parameters.types_first; numbers_next = kept.parameters.numbers_next; types = kept.parameters.types; numbers = kept.parameters.numbers };
        under = kept.under;
        variables = ap (λ (y : Entry). y ∷ entries_back text w' S.under (length S.variables)) (ap (variable_in text w') at ∙ new-entry x e) ∙ ap (λ (xs : List Entry). bind x value xs) kept.variables;
        entries = omega (arith, at);
      }

-- ---- the table of clauses

-- the table stays where its own numbers do
pub rows-kept : (text w w' : List ℕ) (cs : List Clause) → HoldsRows text w cs → ((j : ℕ) → clauses_at ≤ j → j < frames_at → get_or w' j 0 ≡ get_or w j 0) → get_or w' clause_count_at 0 ≡ get_or w clause_count_at 0 → HoldsRows text w' cs
rows-kept text w w' cs H same count = record {
  counted = count ∙ H.counted;
  few = H.few;
  rows = λ k h. subst (RowOf text (clause_of cs k)) (sym (row_is k h)) (H.rows k h);
  cells = λ k h. subst (λ (r : Row). CellsThere text w' k r.numbered r.numbers) (sym (row_is k h)) (cells_same text w w' k (row_in w k).numbered (row_in w k).numbers (H.cells k h) (λ j a b. same j (omega arith) (omega (arith, H.few))));
}
  where
    row_is : (k : ℕ) → k < length cs → row_in w' k ≡ row_in w k
    row_is k h = row_same w w' k (λ j a b. same j (omega arith) (omega (arith, H.few)))

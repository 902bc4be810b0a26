-- A clause opened: names, then the frame. Assumes nothing.
use Prim.Native.Nat.{ℕ, zero, suc, ◌+◌, ◌*◌, ◌-◌, ◌≤◌, ◌<◌}
use mathlib.Core.Path.{◌≡◌, refl, sym, ap, ◌∙◌, subst}
use mathlib.Core.Bool.{Bool, true, false, cond}
use mathlib.Core.List.{List, [], ◌∷◌}
use native.Mathlib.Omega.{arith}
use native.Mathlib.Decide.{dec_le}
use lib.Dec.{eqb}
use lib.ListN.{length, get_or}
use lib.Seq.{sets, length-sets}
use Rattle.laws.proofs.Regions.{sets_outside, sets-before, sets-at}
use Rattle.notation_calculus.specs.Trees.{Bound, Number, Clause}
use Rattle.notation_calculus.specs.Grammar.{name_at}
use Rattle.notation_calculus.specs.Making.{Entry, bind_types, bind_numbers, put_of, most_entries}
use Rattle.words.specs.Next.{run_at}
use Rattle.words.specs.Lexed.{from}
use Rattle.making_memory.specs.Map.{scope_at, frames_at, clause_count_at, making_size}
use Rattle.clauses.specs.declared.rows.Row.{Row}
use Rattle.clauses.specs.Groups.{Readable}
use Rattle.clauses.specs.Rows.{RowOf, row_in, no_bound, clause_of, HoldsRows}
use Rattle.clauses.specs.Numbers.{numbers_from, NumbersThere}
use Rattle.clauses.specs.Follows.{row_namesake, RowsThere}
use Rattle.clauses.specs.Meant.{values_in, rows_up_to, row_seen}
use Rattle.clauses.proofs.ListLaws.{types_group}
use Rattle.clauses.proofs.TableLaws.{row-numbers, row_there, rows_there}
use Rattle.clauses.proofs.MeantLaws.{seen_found}
use Rattle.scopes.specs.declared.frames.Frame.{Frame}
use Rattle.scopes.specs.Entries.{place_in, named_from, OnlyEntries}
use Rattle.scopes.specs.Frames.{frame_in, HoldsParameters, HoldsScope}
use Rattle.scopes.specs.Named.{bound_from, NamesThere, CanName, EntriesNamed}
use Rattle.scopes.specs.Opened.{numbers_over, variables_over, CanOpen, Opened}
use Rattle.scopes.proofs.EntryLaws.{frame_parts}
use Rattle.scopes.proofs.KeepLaws.{named-same}

-- ---- what a clause knows is no more than there are

upto_small : (text work : List ℕ) (sort : Bool) (at n k found : ℕ) → found ≤ k + n → rows_up_to text work sort at k n found ≤ k + n
upto_small text work sort at zero k found h = h
upto_small text work sort at (suc n) k found h = omega (arith, upto_small text work sort at n (suc k) (cond (row_namesake text (row_in work k) sort at) (suc k) found) (by (row_namesake text (row_in work k) sort at)))
  where
    by : (b : Bool) → cond b (suc k) found ≤ suc k + n
    by true = omega arith
    by false = omega arith

pub seen_small : (text work : List ℕ) (k : ℕ) → k < get_or work clause_count_at 0 → row_seen text work k ≤ get_or work clause_count_at 0
unfolding row_seen
seen_small text work k h = by (eqb (row_in work k).numbers 0)
  where
    most : rows_up_to text work (row_in work k).sort (row_in work k).name 0 (get_or work clause_count_at 0) k ≤ get_or work clause_count_at 0
    most = omega (arith, upto_small text work (row_in work k).sort (row_in work k).name (get_or work clause_count_at 0) 0 k (omega arith))

    by : (b : Bool) → cond b k (rows_up_to text work (row_in work k).sort (row_in work k).name 0 (get_or work clause_count_at 0) k) ≤ get_or work clause_count_at 0
    by true = omega arith
    by false = most

-- ---- a clause's row

types_each : (text : List ℕ) (C : Clause) (r : Row) → RowOf text C r → bound_from text r.typed r.types ≡ C.types
types_each text C r R = ap (bound_from text r.typed) R.type_count ∙ (types_group (from text r.typed) C.types (from text r.numbered) R.types).each

types_there : (text : List ℕ) (C : Clause) (r : Row) → RowOf text C r → NamesThere text r.typed r.types
types_there text C r R = record { lexed = R.types_lexed; readable = subst (λ (n : ℕ). Readable no_bound name_at n (from text r.typed)) (sym R.type_count) (types_group (from text r.typed) C.types (from text r.numbered) R.types).readable }

values_above : (w w' : List ℕ) (from' to n e : ℕ) → to ≤ e → OnlyEntries from' to w w' → values_in w' e n ≡ values_in w e n
values_above w w' a b zero e h o = refl
values_above w w' a b (suc n) e h o = ap (λ (v : ℕ). v ∷ values_in w' (suc e) n) (o.above (scope_at + 2 * e + 1) (omega arith)) ∙ ap (λ (vs : List ℕ). get_or w (scope_at + 2 * e + 1) 0 ∷ vs) (values_above w w' a b n (suc e) (omega arith) o)

module _ (text w : List ℕ) (k frame top : ℕ) (C : CanOpen text w k frame top) where
  abbrev row : Row
  row = row_in w k

  own : RowOf text (clause_of C.clauses k) row
  own = C.holds.rows k C.known

  pub open_rows : RowsThere text w × (k < get_or w clause_count_at 0)
  open_rows = (rows_there text w C.clauses C.holds C.places.room, omega (arith, C.holds.counted, C.known))

  pub open_small : k < 256
  open_small = omega (arith, C.known, C.holds.few)

  module _ (c : Row) (is : c ≡ row) where
    types-is : c.types ≡ row.types
    types-is = ap (λ (r : Row). r.types) is

    numbers-is : c.numbers ≡ row.numbers
    numbers-is = ap (λ (r : Row). r.numbers) is

    pub open-types : NamesThere text c.typed c.types × CanName text w top c.types
    open-types = (subst (λ (r : Row). NamesThere text r.typed r.types) (sym is) (types_there text (clause_of C.clauses k) row own), record { short = C.short; room = C.places.room; few = omega (arith, types-is, C.few) })

    module _ (w₁ : List ℕ) (E : EntriesNamed text w top c.types w₁ (bind_types (bound_from text c.typed c.types) (values_in w top c.types))) where
      pub open-numbers : NumbersThere text c.numbered c.numbers × CanName text w₁ (top + c.types) c.numbers
      open-numbers = (subst (λ (r : Row). NumbersThere text r.numbered r.numbers) (sym is) (row_there text (clause_of C.clauses k) row own).numbers, record { short = C.short; room = omega (arith, C.places.room, E.only.same); few = omega (arith, types-is, numbers-is, C.few) })

      module _ (w₂ : List ℕ) (F : EntriesNamed text w₁ (top + c.types) c.numbers w₂ (bind_numbers (numbers_from text c.numbered c.numbers) (values_in w₁ (top + c.types) c.numbers))) (seen : ℕ) (sees : seen ≡ row_seen text w k) where
        pub open-room : making_size ≤ length w₂
        open-room = omega (arith, C.places.room, E.only.same, F.only.same)

        pub open-seen : seen < 65536
        open-seen = omega (arith, sees, seen_small text w k open_rows.1, C.holds.counted, C.holds.few)

        abbrev frameNumbers : List ℕ
        frameNumbers = seen ∷ top ∷ (top + c.types) ∷ (top + c.types + c.numbers) ∷ []

        module _ (w₃ : List ℕ) (stored : w₃ ≡ sets w₂ (frames_at + 4 * frame) frameNumbers) where
          low : (j : ℕ) → j < frames_at + 4 * frame → get_or w₃ j 0 ≡ get_or w₂ j 0
          low j h = ap (λ (l : List ℕ). get_or l j 0) stored ∙ sets-before frameNumbers w₂ (frames_at + 4 * frame) j 0 h

          high : (j : ℕ) → frames_at + 4 * frame + 4 ≤ j → get_or w₃ j 0 ≡ get_or w₂ j 0
          high j h = ap (λ (l : List ℕ). get_or l j 0) stored ∙ sets_outside frameNumbers w₂ (frames_at + 4 * frame) j 0 (omega arith) (omega arith)

          framed : (i : ℕ) → i < 4 → get_or w₃ (frames_at + 4 * frame + i) 0 ≡ get_or frameNumbers i 0
          framed i h = ap (λ (l : List ℕ). get_or l (frames_at + 4 * frame + i) 0) stored ∙ sets-at frameNumbers w₂ (frames_at + 4 * frame) i (omega (arith, open-room, C.level)) h

          frame_is : frame_in w₃ frame ≡ record { seen = seen; types = top; numbers = top + c.types; variables = top + c.types + c.numbers }
          frame_is = let z : frames_at + 4 * frame + 0 ≡ frames_at + 4 * frame = omega arith in sym (frame_parts (frame_in w₃ frame) _ _ _ _ (sym (ap (λ (j : ℕ). get_or w₃ j 0) (sym z) ∙ framed 0 (omega arith))) (sym (framed 1 (omega arith))) (sym (framed 2 (omega arith))) (sym (framed 3 (omega arith))))

          -- entries stand below the frames
          named-low : (n e : ℕ) → e + n ≤ most_entries → named_from text w₃ e n ≡ named_from text w₂ e n
          named-low zero e h = refl
          named-low (suc n) e h =
              let p : place_in w₃ e ≡ place_in w₂ e = low (scope_at + 2 * e) (omega arith) in
              let v : get_or w₃ (scope_at + 2 * e + 1) 0 ≡ get_or w₂ (scope_at + 2 * e + 1) 0 = low (scope_at + 2 * e + 1) (omega arith) in
              ap (λ (xs : List Entry). cond (eqb (place_in w₃ e) (length text)) xs (record { name = run_at text (place_in w₃ e); value = get_or w₃ (scope_at + 2 * e + 1) 0 } ∷ xs)) (named-low n (suc e) (omega arith))
              ∙ ap (λ (j : ℕ). cond (eqb j (length text)) (named_from text w₂ (suc e) n) (record { name = run_at text j; value = get_or w₃ (scope_at + 2 * e + 1) 0 } ∷ named_from text w₂ (suc e) n)) p
              ∙ ap (λ (j : ℕ). cond (eqb (place_in w₂ e) (length text)) (named_from text w₂ (suc e) n) (record { name = run_at text (place_in w₂ e); value = j } ∷ named_from text w₂ (suc e) n)) v

          place_inside : (e : ℕ) → e < top + c.types + c.numbers → place_in w₃ e ≤ length text
          place_inside e h = subst (λ (j : ℕ). j ≤ length text) (sym (low (scope_at + 2 * e) (omega (arith, types-is, numbers-is, C.few)))) (elim (dec_le (top + c.types) e) [
            | yes a ↦ F.inside e a h
            | no a ↦ subst (λ (j : ℕ). j ≤ length text) (sym (F.only.below (scope_at + 2 * e) (omega arith))) (elim (dec_le top e) [
              | yes b ↦ E.inside e b (omega arith)
              | no b ↦ subst (λ (j : ℕ). j ≤ length text) (sym (E.only.below (scope_at + 2 * e) (omega arith))) (C.places.inside e (omega arith) (omega arith))
            ])
          ])

          -- the types and the numbers as the clause has them
          types-now : (cs : List Clause) → RowOf text (clause_of cs k) row → named_from text w₃ top c.types ≡ bind_types (clause_of cs k).types (values_in w top row.types)
          types-now cs R = named-low c.types top (omega (arith, types-is, C.few)) ∙ named-same text w₁ w₂ (top + c.types) (top + c.types + c.numbers) F.only c.types top (omega arith) ∙ E.named ∙ ap (λ (r : Row). bind_types (bound_from text r.typed r.types) (values_in w top r.types)) is ∙ ap (λ (xs : List Bound). bind_types xs (values_in w top row.types)) (types_each text (clause_of cs k) row R)

          numbers-now : (cs : List Clause) → RowOf text (clause_of cs k) row → named_from text w₃ (top + c.types) c.numbers ≡ bind_numbers (clause_of cs k).numbers (values_in w (top + row.types) row.numbers)
          numbers-now cs R = named-low c.numbers (top + c.types) (omega (arith, types-is, numbers-is, C.few)) ∙ F.named ∙ ap (λ (vs : List ℕ). bind_numbers (numbers_from text c.numbered c.numbers) vs) (values_above w w₁ top (top + c.types) c.numbers (top + c.types) (omega arith) E.only) ∙ ap (λ (r : Row). bind_numbers (numbers_from text r.numbered r.numbers) (values_in w (top + r.types) r.numbers)) is ∙ ap (λ (xs : List Number). bind_numbers xs (values_in w (top + row.types) row.numbers)) (row-numbers text (clause_of cs k) row R)

          scope-now : (cs : List Clause) → HoldsRows text w cs → k < length cs → HoldsScope text w₃ frame (variables_over w k top) (put_of top cs (clause_of cs k) k (values_in w top row.types) (values_in w (numbers_over w k top) row.numbers)).scope
          scope-now cs H h =
              let R = H.rows k h in
              let a : top + c.types - top ≡ c.types = omega arith in
              let b : top + c.types + c.numbers - (top + c.types) ≡ c.numbers = omega arith in
              record {
                places = record { room = omega (arith, open-room, ap length stored ∙ length-sets w₂ (frames_at + 4 * frame) frameNumbers); most = C.few; inside = λ e x y. place_inside e (omega (arith, types-is, numbers-is)) };
                parameters = subst (λ (g : Frame). HoldsParameters text w₃ g (put_of top cs (clause_of cs k) k (values_in w top row.types) (values_in w (numbers_over w k top) row.numbers)).scope) (sym frame_is) (record {
                  seen = sees ∙ sym (seen_found text w cs H k h);
                  types_first = omega arith;
                  numbers_next = omega arith;
                  types = ap (named_from text w₃ top) a ∙ types-now cs R;
                  numbers = ap (named_from text w₃ (top + c.types)) b ∙ numbers-now cs R;
                });
                under = subst (λ (g : Frame). g.variables ≤ top + (length (clause_of cs k).types + length (clause_of cs k).numbers)) (sym frame_is) (omega (arith, types-is, numbers-is, R.type_count, R.number_count));
                variables = refl;
                entries = omega (arith, R.type_count, R.number_count);
              }

          pub opened : Opened text w k frame top w₃
          opened = record {
            scope = scope-now;
            variables = ap (λ (g : Frame). g.variables) frame_is ∙ omega (arith, types-is, numbers-is);
            same = ap length stored ∙ length-sets w₂ (frames_at + 4 * frame) frameNumbers ∙ F.only.same ∙ E.only.same;
            below = λ j h. low j (omega (arith, C.few)) ∙ F.only.below j (omega arith) ∙ E.only.below j h;
            between = λ j h g. low j g ∙ F.only.above j (omega (arith, types-is, numbers-is, C.few)) ∙ E.only.above j (omega (arith, types-is, numbers-is, C.few));
            above = λ j h. high j h ∙ F.only.above j (omega (arith, types-is, numbers-is, C.few)) ∙ E.only.above j (omega (arith, types-is, numbers-is, C.few));
          }

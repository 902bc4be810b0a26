-- The table and the clauses that it holds: rows decide as clauses do, and one more row is one more clause. Assumes nothing.
use Prim.Native.Nat.{ℕ, zero, suc, ◌+◌, ◌*◌, ◌≤◌, ◌<◌}
use mathlib.Core.Path.{◌≡◌, refl, sym, ap, ◌∙◌, subst}
use mathlib.Core.Bool.{Bool, true, false, not, ◌&&◌, ◌||◌, cond}
use mathlib.Core.List.{List, [], ◌∷◌, ◌++◌}
use native.Mathlib.Omega.{arith}
use native.Mathlib.Decide.{dec_le}
use lib.Dec.{eqb, leb, ltb}
use lib.ListN.{length, get_or, set, drop, length-append, length-set, get_or-append}
use lib.Seq.{sets, length-sets, get_or-set_same, get_or-set_other, get_or-append_seam, drop-cons, drop-length}
use borrow.Author.Tests.{eq-eqb, ne_eqb, lt-ltb, le-ltb}
use Rattle.laws.proofs.Regions.{sets_outside, sets-before, sets-at}
use Rattle.calculus.specs.Answer.{Answer, good, ◌>>=◌, refuse, need}
use Rattle.notation_calculus.specs.Words.{Name, same_name}
use Rattle.notation_calculus.specs.Trees.{Number, Clause}
use Rattle.notation_calculus.specs.Grammar.{most_clauses, number_at, cover_all, is_type, same_sort, namesake, may_follow, may_follow_all, Items, with_clause}
use Rattle.words.specs.Next.{run_at}
use Rattle.words.specs.Lexed.{from}
use Rattle.making_memory.specs.Map.{clauses_at, cells_at, frames_at, clause_count_at, making_size}
use Rattle.clauses.specs.declared.rows.Row.{Row}
use Rattle.clauses.specs.Groups.{Readable}
use Rattle.clauses.specs.Rows.{RowOf, row_numbers, ShortRow, row_in, no_clause, clause_of, HoldsRows}
use Rattle.clauses.specs.Numbers.{no_number, numbers_from}
use Rattle.clauses.specs.Cells.{CellsThere, CellsStored}
use Rattle.clauses.specs.Follows.{RowThere, row_namesake, row_follows, follows_from, RowsThere, row_refusal, with_row}
use Rattle.clauses.specs.Texts.{OnlyRows}
use Rattle.clauses.proofs.ListLaws.{numbers_group}
use Rattle.clauses.proofs.CellLaws.{cells_same}
use Rattle.clauses.proofs.RowLaws.{row-parts, key_sort, key_short}

-- ---- one row

module _ (text : List ℕ) (C : Clause) (c : Row) (R : RowOf text C c) where
  pub row-numbers : numbers_from text c.numbered c.numbers ≡ C.numbers
  row-numbers = ap (numbers_from text c.numbered) R.number_count ∙ (numbers_group (from text c.numbered) C.numbers (from text R.stop) R.numbers).each

  pub row_there : RowThere text c
  row_there = record {
    inside = R.name_inside;
    numbers = record { lexed = R.numbers_lexed; readable = subst (λ (n : ℕ). Readable no_number number_at n (from text c.numbered)) (sym R.number_count) (numbers_group (from text c.numbered) C.numbers (from text R.stop) R.numbers).readable };
    key = R.key;
  }

  pub namesake-row : (sort : Bool) (at : ℕ) → namesake C sort (run_at text at) ≡ row_namesake text c sort at
  unfolding row_namesake
  namesake-row sort at = ap (λ (b : Bool). same_sort b sort && same_name C.head.name (run_at text at)) R.sort ∙ ap (λ (n : Name). same_sort c.sort sort && same_name n (run_at text at)) R.name_is

  pub short_row : length text ≤ 65535 → ShortRow c
  short_row h = record {
    name = omega (arith, R.name_inside);
    typed = omega (arith, R.types_lexed.within);
    numbered = omega (arith, R.numbers_lexed.within);
    body = omega (arith, R.body_lexed.within);
    end = omega (arith, R.end_lexed.within);
    key = subst (λ (n : ℕ). n < 65536) (sym R.key) (key_short c.sort (run_at text c.name));
    types = omega (arith, R.few_types);
    numbers = omega (arith, R.few_numbers);
  }

  module _ (D : Clause) (d : Row) (S : RowOf text D d) where
    abbrev followsBy : Bool → Bool → Bool → Bool → Bool
    followsBy a t n k = not a || (t && n && not k)

    same-namesake : namesake C (is_type D.body) D.head.name ≡ row_namesake text c d.sort d.name
    same-namesake = ap (λ (b : Bool). namesake C b D.head.name) S.sort ∙ ap (λ (n : Name). namesake C d.sort n) S.name_is ∙ namesake-row d.sort d.name

    pub follow-row : may_follow C D ≡ row_follows text c d
    unfolding row_follows
    follow-row =
        ap (λ (a : Bool). followsBy a (eqb (length C.types) (length D.types)) (eqb (length C.numbers) (length D.numbers)) (cover_all C.numbers D.numbers)) same-namesake
        ∙ ap (λ (n : ℕ). followsBy (row_namesake text c d.sort d.name) (eqb n (length D.types)) (eqb (length C.numbers) (length D.numbers)) (cover_all C.numbers D.numbers)) (sym R.type_count)
        ∙ ap (λ (n : ℕ). followsBy (row_namesake text c d.sort d.name) (eqb c.types n) (eqb (length C.numbers) (length D.numbers)) (cover_all C.numbers D.numbers)) (sym S.type_count)
        ∙ ap (λ (n : ℕ). followsBy (row_namesake text c d.sort d.name) (eqb c.types d.types) (eqb n (length D.numbers)) (cover_all C.numbers D.numbers)) (sym R.number_count)
        ∙ ap (λ (n : ℕ). followsBy (row_namesake text c d.sort d.name) (eqb c.types d.types) (eqb c.numbers n) (cover_all C.numbers D.numbers)) (sym S.number_count)
        ∙ ap (λ (l : List Number). followsBy (row_namesake text c d.sort d.name) (eqb c.types d.types) (eqb c.numbers d.numbers) (cover_all l D.numbers)) (sym row-numbers)
        ∙ ap (λ (l : List Number). followsBy (row_namesake text c d.sort d.name) (eqb c.types d.types) (eqb c.numbers d.numbers) (cover_all (numbers_from text c.numbered c.numbers) l)) (sym rows_other)
      where
        rows_other : numbers_from text d.numbered d.numbers ≡ D.numbers
        rows_other = ap (numbers_from text d.numbered) S.number_count ∙ (numbers_group (from text d.numbered) D.numbers (from text S.stop) S.numbers).each

-- ---- all rows

module _ (text work : List ℕ) (cs : List Clause) (H : HoldsRows text work cs) where
  pub rows_there : making_size ≤ length work → RowsThere text work
  rows_there h = record {
    room = h;
    few = omega (arith, H.counted, H.few);
    each = λ k l. row_there text (clause_of cs k) (row_in work k) (H.rows k (omega (arith, H.counted)));
    cells = λ k l. H.cells k (omega (arith, H.counted));
  }

  module _ (D : Clause) (d : Row) (S : RowOf text D d) where
    follow-left : (n k : ℕ) → k + n ≡ length cs → may_follow_all (drop k cs) D ≡ follows_from text work d k n
    follow-left zero k e =
        let at : k ≡ length cs = omega arith in
        ap (λ (j : ℕ). may_follow_all (drop j cs) D) at ∙ ap (λ (l : List Clause). may_follow_all l D) (drop-length cs)
    follow-left (suc n) k e =
        let h : k < length cs = omega arith in
        ap (λ (l : List Clause). may_follow_all l D) (drop-cons cs k no_clause h) ∙ ap (λ (b : Bool). b && may_follow_all (drop (suc k) cs) D) (follow-row text (clause_of cs k) (row_in work k) (H.rows k h) D d S) ∙ ap (λ (b : Bool). row_follows text (row_in work k) d && b) (follow-left n (suc k) (omega arith))

    follow-all : may_follow_all cs D ≡ follows_from text work d 0 (get_or work clause_count_at 0)
    follow-all = follow-left (length cs) 0 (omega arith) ∙ ap (follows_from text work d 0) (sym H.counted)

    module _ (items : Items) (is : items.clauses ≡ cs) where
      abbrev addedBy : Bool → Bool → Answer Items
      addedBy a b = need a 34 D.head.place >>= λ _. need b 36 D.head.place >>= λ _. good (record { clauses = items.clauses ++ D ∷ []; lines = items.lines })

      added_is : (a b : Bool) → ltb (get_or work clause_count_at 0) most_clauses ≡ a → follows_from text work d 0 (get_or work clause_count_at 0) ≡ b → with_clause items D ≡ addedBy a b
      added_is a b e f =
          ap (λ (l : List Clause). addedBy (ltb (length l) most_clauses) (may_follow_all l D)) is
          ∙ ap (λ (n : ℕ). addedBy (ltb n most_clauses) (may_follow_all cs D)) (sym H.counted)
          ∙ ap (λ (x : Bool). addedBy x (may_follow_all cs D)) e
          ∙ ap (addedBy a) (follow-all ∙ f)

      abbrev Judged : ℕ → Answer Items → Type 0
      Judged r m = (r ≡ 0 → (m ≡ good (record { clauses = items.clauses ++ D ∷ []; lines = items.lines })) × (length cs < most_clauses)) × (¬ (r ≡ 0) → m ≡ refuse r d.name)

      judged-by : (a b : Bool) → ltb (get_or work clause_count_at 0) most_clauses ≡ a → Judged (cond a (cond b 0 36) 34) (addedBy a b)
      judged-by false b e = ((λ z. absurd (omega arith)), (λ z. ap (λ (p : ℕ). refuse 34 p) S.name_place))
      judged-by true false e = ((λ z. absurd (omega arith)), (λ z. ap (λ (p : ℕ). refuse 36 p) S.name_place))
      judged-by true true e = ((λ z. (refl, small (ltb (get_or work clause_count_at 0) most_clauses) refl e)), (λ z. absurd (z refl)))
        where
          small : (b : Bool) → ltb (get_or work clause_count_at 0) most_clauses ≡ b → b ≡ true → length cs < most_clauses
          small b e f = omega (arith, borrow.Author.Tests.ltb-true (get_or work clause_count_at 0) most_clauses (e ∙ f), H.counted)

      pub judged : (r : ℕ) → r ≡ row_refusal text work d → Judged r (with_clause items D)
      unfolding row_refusal
      judged r e = subst (λ (n : ℕ). Judged n (with_clause items D)) (sym e) (subst (Judged (row_refusal text work d)) (sym (added_is (ltb (get_or work clause_count_at 0) most_clauses) (follows_from text work d 0 (get_or work clause_count_at 0)) refl refl)) (judged-by (ltb (get_or work clause_count_at 0) most_clauses) (follows_from text work d 0 (get_or work clause_count_at 0)) refl))

-- ---- one more row

-- a row is what its eight numbers say
pub row_same : (w w' : List ℕ) (k : ℕ) → ((j : ℕ) → clauses_at + 8 * k ≤ j → j < clauses_at + 8 * k + 8 → get_or w' j 0 ≡ get_or w j 0) → row_in w' k ≡ row_in w k
row_same w w' k h =
    row-parts (row_in w k) _ _ _ _ _ _ _ _ _
    (h (clauses_at + 8 * k) (omega arith) (omega arith))
    (h (clauses_at + 8 * k + 1) (omega arith) (omega arith))
    (h (clauses_at + 8 * k + 2) (omega arith) (omega arith))
    (h (clauses_at + 8 * k + 3) (omega arith) (omega arith))
    (h (clauses_at + 8 * k + 4) (omega arith) (omega arith))
    (ap (leb 32768) (h (clauses_at + 8 * k + 5) (omega arith) (omega arith)))
    (h (clauses_at + 8 * k + 5) (omega arith) (omega arith))
    (h (clauses_at + 8 * k + 6) (omega arith) (omega arith))
    (h (clauses_at + 8 * k + 7) (omega arith) (omega arith))

module _ (w : List ℕ) (d : Row) (n : ℕ) (e : get_or w clause_count_at 0 ≡ n) (few : n < most_clauses) (room : making_size ≤ length w) where
  abbrev stored : List ℕ
  stored = sets w (clauses_at + 8 * n) (row_numbers d)

  with-row-by : with_row w d ≡ set stored clause_count_at (n + 1)
  unfolding with_row
  with-row-by = ap (λ (k : ℕ). set (sets w (clauses_at + 8 * k) (row_numbers d)) clause_count_at (k + 1)) e

  length-stored : length stored ≡ length w
  length-stored = length-sets w (clauses_at + 8 * n) (row_numbers d)

  -- a number that is not the count
  other : (j : ℕ) → ¬ (j ≡ clause_count_at) → get_or (with_row w d) j 0 ≡ get_or stored j 0
  other j h = ap (λ (l : List ℕ). get_or l j 0) with-row-by ∙ get_or-set_other stored clause_count_at j (n + 1) 0 h

  -- one of the eight
  new-number : (i : ℕ) → i < 8 → get_or (with_row w d) (clauses_at + 8 * n + i) 0 ≡ get_or (row_numbers d) i 0
  new-number i h = other (clauses_at + 8 * n + i) (λ q. absurd (omega arith)) ∙ sets-at (row_numbers d) w (clauses_at + 8 * n) i (omega arith) h

  pub row_new : leb 32768 d.key ≡ d.sort → row_in (with_row w d) n ≡ d
  row_new sorted =
      let zero_more : clauses_at + 8 * n + 0 ≡ clauses_at + 8 * n = omega arith in
      row-parts d _ _ _ _ _ _ _ _ _
      (ap (λ (j : ℕ). get_or (with_row w d) j 0) (sym zero_more) ∙ new-number 0 (omega arith))
      (new-number 1 (omega arith))
      (new-number 2 (omega arith))
      (new-number 3 (omega arith))
      (new-number 4 (omega arith))
      (ap (leb 32768) (new-number 5 (omega arith)) ∙ sorted)
      (new-number 5 (omega arith))
      (new-number 6 (omega arith))
      (new-number 7 (omega arith))

  pub row_old : (k : ℕ) → k < n → row_in (with_row w d) k ≡ row_in w k
  row_old k h = row_same w (with_row w d) k λ j l g. other j (λ q. absurd (omega arith)) ∙ sets-before (row_numbers d) w (clauses_at + 8 * n) j 0 (omega arith)

  pub count_new : get_or (with_row w d) clause_count_at 0 ≡ n + 1
  count_new = ap (λ (l : List ℕ). get_or l clause_count_at 0) with-row-by ∙ get_or-set_same stored clause_count_at (n + 1) 0 (omega (arith, length-stored))

  -- cells of the rows
  cells-old : (j : ℕ) → cells_at ≤ j → j < frames_at → get_or (with_row w d) j 0 ≡ get_or w j 0
  cells-old j h g = other j (λ q. absurd (omega arith)) ∙ sets_outside (row_numbers d) w (clauses_at + 8 * n) j 0 (omega arith) (omega arith)

  -- .. and the new row's are stored
  module _ (text w' : List ℕ) (A : CellsStored text (with_row w d) n d.numbered d.numbers w') where
    pub with-row-kept : OnlyRows w w'
    with-row-kept = record {
      same = A.same ∙ ap length with-row-by ∙ length-set stored clause_count_at (n + 1) ∙ length-stored;
      below = λ j h. A.below j (omega arith) ∙ other j (λ q. absurd (omega arith)) ∙ sets-before (row_numbers d) w (clauses_at + 8 * n) j 0 (omega arith);
      above = λ j h g. A.above j (omega arith) ∙ other j g ∙ sets_outside (row_numbers d) w (clauses_at + 8 * n) j 0 (omega arith) (omega arith);
    }

    row_now : (k : ℕ) → k < most_clauses → row_in w' k ≡ row_in (with_row w d) k
    row_now k h = row_same (with_row w d) w' k (λ j l g. A.below j (omega arith))

    pub rows_more : (cs : List Clause) → HoldsRows text w cs → length cs ≡ n → (D : Clause) → RowOf text D d → HoldsRows text w' (cs ++ D ∷ [])
    rows_more cs H ln D S = record {
      counted = A.above clause_count_at (omega arith) ∙ count_new ∙ sym (long ∙ ap (λ (k : ℕ). k + 1) ln);
      few = omega (arith, long);
      rows = λ k h. elim (dec_le (suc k) n) [
        | yes lt ↦ subst (λ (C : Clause). RowOf text C (row_in w' k)) (sym (get_or-append cs (D ∷ []) no_clause k (omega arith))) (subst (RowOf text (clause_of cs k)) (sym (row_now k (omega arith) ∙ row_old k lt)) (H.rows k (omega arith)))
        | no ge ↦ let at : k ≡ n = omega (arith, long, h) in
            let at' : k ≡ length cs = omega arith in
            subst (λ (C : Clause). RowOf text C (row_in w' k)) (sym (ap (λ (j : ℕ). get_or (cs ++ D ∷ []) j no_clause) at' ∙ get_or-append_seam cs D [] no_clause)) (subst (RowOf text D) (sym (ap (row_in w') at ∙ new_is)) S)
      ];
      cells = λ k h. elim (dec_le (suc k) n) [
        | yes lt ↦ subst (λ (r : Row). CellsThere text w' k r.numbered r.numbers) (sym (row_now k (omega arith) ∙ row_old k lt)) (cells_same text w w' k (row_in w k).numbered (row_in w k).numbers (H.cells k (omega arith)) (λ j a g. A.below j (omega arith) ∙ cells-old j (omega arith) (omega arith)))
        | no ge ↦ let at : k ≡ n = omega (arith, long, h) in
            subst (λ (j : ℕ). CellsThere text w' j (row_in w' j).numbered (row_in w' j).numbers) (sym at) (subst (λ (r : Row). CellsThere text w' n r.numbered r.numbers) (sym new_is) A.cells)
      ];
    }
      where
        long : length (cs ++ D ∷ []) ≡ length cs + 1
        long = length-append cs (D ∷ [])

        new_is : row_in w' n ≡ d
        new_is = row_now n few ∙ row_new (ap (leb 32768) S.key ∙ key_sort d.sort (run_at text d.name))

-- ---- frames

pub kept-none : (w : List ℕ) → OnlyRows w w
kept-none w = record { same = refl; below = λ j h. refl; above = λ j h g. refl }

pub kept_then : (w w₁ w₂ : List ℕ) → OnlyRows w w₁ → OnlyRows w₁ w₂ → OnlyRows w w₂
kept_then w w₁ w₂ a b = record {
  same = b.same ∙ a.same;
  below = λ j h. b.below j h ∙ a.below j h;
  above = λ j h g. b.above j h g ∙ a.above j h g;
}

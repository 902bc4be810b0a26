-- A row after those of the table, test by test. Assumes nothing.
use Prim.Native.Nat.{ℕ, zero, suc, ◌+◌, ◌*◌, ◌-◌, ◌≤◌, ◌<◌}
use mathlib.Core.Path.{◌≡◌, refl, sym, ap, subst, ◌∙◌}
use mathlib.Core.Bool.{Bool, true, false, not, beq, ◌&&◌, ◌||◌, cond}
use mathlib.Core.List.{List}
use native.Mathlib.Omega.{arith}
use lib.Dec.{T, eqb, ltb}
use lib.ListN.{get_or, set}
use lib.Seq.{sets}
use borrow.Author.Tests.{eq-eqb, ne_eqb, lt-ltb, le-ltb}
use Rattle.laws.proofs.Tests.{and_both}
use Rattle.notation_calculus.specs.Words.{same_name}
use Rattle.notation_calculus.specs.Grammar.{most_clauses, cover_all, same_sort}
use Rattle.notation_theorems.proofs.TypesMean.{same→eq}
use Rattle.words.specs.Next.{run_at}
use Rattle.words.proofs.WordLaws.{not_yes, not_no}
use Rattle.making_memory.specs.Map.{clauses_at, clause_count_at}
use Rattle.clauses.specs.declared.rows.Row.{Row}
use Rattle.clauses.specs.Rows.{key_for, row_numbers, row_in, KeyFrom}
use Rattle.clauses.specs.Numbers.{numbers_from}
use Rattle.clauses.specs.Follows.{RowThere, RowsThere, row_namesake, row_follows, follows_from, row_refusal, with_row}

-- ---- names

sort_beq : (a b : Bool) → same_sort a b ≡ beq a b
sort_beq true true = refl
sort_beq true false = refl
sort_beq false true = refl
sort_beq false false = refl

module _ (text : List ℕ) (r : Row) (sort : Bool) (at : ℕ) where
  pub namesake_no : not (beq r.sort sort) ≡ true → false ≡ row_namesake text r sort at
  unfolding row_namesake
  namesake_no e = sym (ap (λ (b : Bool). b && same_name (run_at text r.name) (run_at text at)) (sort_beq r.sort sort ∙ not_yes (beq r.sort sort) e))

  pub namesake-run : not (beq r.sort sort) ≡ false → (b : Bool) → b ≡ same_name (run_at text r.name) (run_at text at) → b ≡ row_namesake text r sort at
  unfolding row_namesake
  namesake-run e b f = f ∙ sym (ap (λ (x : Bool). x && same_name (run_at text r.name) (run_at text at)) (sort_beq r.sort sort ∙ not_no (beq r.sort sort) e))

sort_is : (a b : Bool) → T (same_sort a b) → a ≡ b
sort_is true true h = refl
sort_is true false h = absurd h
sort_is false true h = absurd h
sort_is false false h = refl

-- another key, so another sort or name
pub namesake-other : (text : List ℕ) (r : Row) (sort : Bool) (at : ℕ) → r.key ≡ key_for r.sort (run_at text r.name) → ¬ (r.key ≡ key_for sort (run_at text at)) → false ≡ row_namesake text r sort at
unfolding row_namesake
namesake-other text r sort at own other = by (same_sort r.sort sort && same_name (run_at text r.name) (run_at text at)) refl
  where
    by : (b : Bool) → (same_sort r.sort sort && same_name (run_at text r.name) (run_at text at)) ≡ b → false ≡ b
    by false e = refl
    by true e =
        let (s, n) = and_both (same_sort r.sort sort) (same_name (run_at text r.name) (run_at text at)) (subst (λ (b : Bool). T b) (sym e) tt) in
        absurd (other (own ∙ ap (λ (b : Bool). key_for b (run_at text r.name)) (sort_is r.sort sort s) ∙ ap (key_for sort) (same→eq (run_at text r.name) (run_at text at) n)))

-- ---- one row after another

module _ (text : List ℕ) (c d : Row) where
  abbrev follow_by : Bool → Bool → Bool → Bool → Bool
  follow_by a t n k = not a || (t && n && not k)

  abbrev covered : Bool
  covered = cover_all (numbers_from text c.numbered c.numbers) (numbers_from text d.numbered d.numbers)

  follow-is : (a t n : Bool) → row_namesake text c d.sort d.name ≡ a → eqb c.types d.types ≡ t → eqb c.numbers d.numbers ≡ n → row_follows text c d ≡ follow_by a t n covered
  unfolding row_follows
  follow-is a t n e f g = ap (λ (x : Bool). follow_by x (eqb c.types d.types) (eqb c.numbers d.numbers) covered) e ∙ ap (λ (x : Bool). follow_by a x (eqb c.numbers d.numbers) covered) f ∙ ap (λ (x : Bool). follow_by a t x covered) g

  pub follow_other : row_namesake text c d.sort d.name ≡ false → true ≡ row_follows text c d
  follow_other e = sym (follow-is false _ _ e refl refl)

  module _ (e : row_namesake text c d.sort d.name ≡ true) where
    pub follow-types : ¬ (c.types ≡ d.types) → false ≡ row_follows text c d
    follow-types f = sym (follow-is true false _ e (ne_eqb _ _ f) refl)

    pub follow-numbers : c.types ≡ d.types → ¬ (c.numbers ≡ d.numbers) → false ≡ row_follows text c d
    follow-numbers f g = sym (follow-is true true false e (eq-eqb _ _ f) (ne_eqb _ _ g))

    pub follow-covered : c.types ≡ d.types → c.numbers ≡ d.numbers → (b : Bool) → b ≡ cover_all (numbers_from text c.numbered c.numbers) (numbers_from text d.numbered c.numbers) → not b ≡ row_follows text c d
    follow-covered f g b h = ap not (h ∙ ap (λ (n : ℕ). cover_all (numbers_from text c.numbered c.numbers) (numbers_from text d.numbered n)) g) ∙ sym (follow-is true true true e (eq-eqb _ _ f) (eq-eqb _ _ g))

-- ---- all rows

-- what is left of the table decides
pub record Following (text work : List ℕ) (d : Row) (n k : ℕ) : Type 0 where
  pub most : k ≤ n
  pub total : follows_from text work d 0 n ≡ follows_from text work d k (n - k)

module _ (text work : List ℕ) (d : Row) (n : ℕ) where
  over : (m k : ℕ) → follows_from text work d 0 n ≡ follows_from text work d k (n - k) → k + m ≤ n → ((j : ℕ) → k ≤ j → j < k + m → row_follows text (row_in work j) d ≡ true) → follows_from text work d 0 n ≡ follows_from text work d (k + m) (n - (k + m))
  over zero k e h each = let z : k + 0 ≡ k = omega arith in e ∙ ap (λ (j : ℕ). follows_from text work d j (n - j)) (sym z)
  over (suc m) k e h each =
      let p : n - k ≡ suc (n - suc k) = omega arith in
      let q : suc k + m ≡ k + suc m = omega arith in
      over m (suc k) (e ∙ ap (follows_from text work d k) p ∙ ap (λ (b : Bool). b && follows_from text work d (suc k) (n - suc k)) (each k (omega arith) (omega arith))) (omega arith) (λ j a b. each j (omega arith) (omega arith)) ∙ ap (λ (j : ℕ). follows_from text work d j (n - j)) q

  pub following_none : Following text work d n 0
  following_none = let e : n - 0 ≡ n = omega arith in record { most = omega arith; total = rw e }

  module _ (k : ℕ) (f : Following text work d n k) where
    module _ (more : k < n) where
      one-row : follows_from text work d 0 n ≡ (row_follows text (row_in work k) d && follows_from text work d (k + 1) (n - (k + 1)))
      one-row =
          let e : n - k ≡ suc (n - (k + 1)) = omega arith in
          let g : k + 1 ≡ suc k = omega arith in
          f.total ∙ ap (follows_from text work d k) e ∙ ap (λ (j : ℕ). row_follows text (row_in work k) d && follows_from text work d j (n - (k + 1))) (sym g)

      pub following-no : row_follows text (row_in work k) d ≡ false → false ≡ follows_from text work d 0 n
      following-no h = sym (one-row ∙ ap (λ (b : Bool). b && follows_from text work d (k + 1) (n - (k + 1))) h)

      pub following-more : row_follows text (row_in work k) d ≡ true → Following text work d n (k + 1)
      following-more h = record { most = omega arith; total = one-row ∙ ap (λ (b : Bool). b && follows_from text work d (k + 1) (n - (k + 1))) h }

    pub following-over : (d' : ℕ) → k + d' ≤ n → ((j : ℕ) → k ≤ j → j < k + d' → row_follows text (row_in work j) d ≡ true) → Following text work d n (k + d')
    following-over d' h each = record { most = h; total = over d' k f.total h each }

    pub following-all : n ≤ k → true ≡ follows_from text work d 0 n
    following-all h = let e : n - k ≡ 0 = omega arith in sym (f.total ∙ ap (follows_from text work d k) e)

-- rows with another key are of another sort or name, and may be passed
pub following_key : (text work : List ℕ) (d : Row) (n k r : ℕ) → RowsThere text work → n ≡ get_or work clause_count_at 0 → RowThere text d → KeyFrom work d.key k n r → Following text work d n k → Following text work d n r
following_key text work d n k r there e own K F =
    let q : k + (r - k) ≡ r = omega (arith, K.least) in
    subst (Following text work d n) q (following-over text work d n k F (r - k) (omega (arith, K.most, q)) (λ j a b. sym (follow_other text (row_in work j) d (sym (namesake-other text (row_in work j) d.sort d.name (there.each j (omega (arith, K.most, q))).key (λ g. K.others j a (omega (arith, q)) (g ∙ sym own.key)))))))

-- ---- the refusal

module _ (text work : List ℕ) (d : Row) (n : ℕ) (e : n ≡ get_or work clause_count_at 0) where
  abbrev refusal_by : Bool → Bool → ℕ
  refusal_by a b = cond a (cond b 0 36) 34

  refusal_is : (a b : Bool) → ltb n most_clauses ≡ a → follows_from text work d 0 n ≡ b → refusal_by a b ≡ row_refusal text work d
  unfolding row_refusal
  refusal_is a b f g = sym (ap (λ (k : ℕ). refusal_by (ltb k most_clauses) (follows_from text work d 0 k)) (sym e) ∙ ap (λ (x : Bool). refusal_by x (follows_from text work d 0 n)) f ∙ ap (refusal_by a) g)

  pub refusal-full : most_clauses ≤ n → 34 ≡ row_refusal text work d
  refusal-full h = refusal_is false _ (le-ltb n most_clauses h) refl

  pub refusal-covered : n < most_clauses → follows_from text work d 0 n ≡ false → 36 ≡ row_refusal text work d
  refusal-covered h f = refusal_is true false (lt-ltb n most_clauses h) f

  pub refusal-none : n < most_clauses → follows_from text work d 0 n ≡ true → 0 ≡ row_refusal text work d
  refusal-none h f = refusal_is true true (lt-ltb n most_clauses h) f

  pub with_row_is : (w : List ℕ) → w ≡ sets work (clauses_at + 8 * n) (row_numbers d) → set w clause_count_at (n + 1) ≡ with_row work d
  unfolding with_row
  with_row_is w f = ap (λ (l : List ℕ). set l clause_count_at (n + 1)) f ∙ ap (λ (k : ℕ). set (sets work (clauses_at + 8 * k) (row_numbers d)) clause_count_at (k + 1)) e

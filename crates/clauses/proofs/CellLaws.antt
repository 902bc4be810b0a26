-- Cells: how they are stored, and that they are compared as the numbers are. Assumes nothing.
use Prim.Native.Nat.{ℕ, zero, suc, ◌+◌, ◌*◌, ◌-◌, ◌≤◌, ◌<◌}
use mathlib.Core.Path.{◌≡◌, refl, sym, ap, ◌∙◌, subst}
use mathlib.Core.Bool.{Bool, true, false, ◌&&◌, cond}
use mathlib.Core.List.{List, [], ◌∷◌}
use native.Mathlib.Omega.{arith}
use native.Mathlib.Decide.{dec_le}
use lib.Dec.{eqb, leb}
use lib.ListN.{length, get_or, set, drop, length-set}
use lib.Seq.{get_or-drop, drop-drop, drop-cons, get_or-set_same, get_or-set_other}
use borrow.Author.Tests.{le-leb, lt-leb}
use Rattle.laws.proofs.Regions.{drop_past}
use Rattle.notation_calculus.specs.Trees.{Number}
use Rattle.notation_calculus.specs.Grammar.{behind}
use Rattle.notation_calculus.specs.Making.{fits, fit_all}
use Rattle.words.specs.Lexed.{from}
use Rattle.making_memory.specs.Map.{scope_at, making_size}
use Rattle.clauses.specs.declared.numbers.Num.{Num}
use Rattle.clauses.specs.Numbers.{no_number, NumberRead, plain_number, numbers_from, NumbersThere}
use Rattle.clauses.specs.Cells.{most_cells, CellCount, cell_at, later_in, cell_of, cell_fits, CellsThere, CellsStored, cells_fit}
use Rattle.clauses.specs.Meant.{values_in}
use Rattle.clauses.proofs.NumberLaws.{list_long, numbers-step}

-- ---- the number of a cell

pub cell_open : (k : Num) (c : ℕ) → k.named ≡ true → c ≡ k.plus → 256 + c ≡ cell_of (plain_number k)
unfolding cell_of
cell_open k c e f = ap (λ (n : ℕ). 256 + n) f ∙ sym (ap (λ (b : Bool). cond b (256 + k.plus) k.plus) e)

pub cell_one : (k : Num) (c : ℕ) → k.named ≡ false → c ≡ k.plus → c ≡ cell_of (plain_number k)
unfolding cell_of
cell_one k c e f = f ∙ sym (ap (λ (b : Bool). cond b (256 + k.plus) k.plus) e)

pub fits-high : (c v : ℕ) → 256 ≤ c → leb (c - 256) v ≡ cell_fits c v
unfolding cell_fits
fits-high c v h = sym (ap (λ (b : Bool). cond b (leb (c - 256) v) (eqb c v)) (le-leb 256 c h))

pub fits_low : (c v : ℕ) → c < 256 → eqb c v ≡ cell_fits c v
unfolding cell_fits
fits_low c v h = sym (ap (λ (b : Bool). cond b (leb (c - 256) v) (eqb c v)) (lt-leb 256 c h))

-- a cell fits what its number fits
cell_fits_lem : (k : Number) (v : ℕ) → k.plus ≤ 255 → cell_fits (cell_of k) v ≡ fits k v
unfolding cell_of
cell_fits_lem k v h = by k.is_open refl
  where
    by : (b : Bool) → k.is_open ≡ b → cell_fits (cond b (256 + k.plus) k.plus) v ≡ cond b (leb k.plus v) (eqb k.plus v)
    by true e =
        let z : 256 + k.plus - 256 ≡ k.plus = omega arith in
        sym (fits-high (256 + k.plus) v (omega arith)) ∙ ap (λ (n : ℕ). leb n v) z
    by false e = sym (fits_low k.plus v (omega arith))

-- ---- cells stored

next-first : (l : List Number) (i : ℕ) (x : Number) (xs : List Number) → drop i l ≡ x ∷ xs → (get_or l i no_number ≡ x) × (drop (i + 1) l ≡ xs)
next-first l i x xs e =
    let z : i + 0 ≡ i = omega arith in
    (ap (λ (j : ℕ). get_or l j no_number) (sym z) ∙ sym (get_or-drop i l 0 no_number) ∙ ap (λ (m : List Number). get_or m 0 no_number) e, sym (drop-drop 1 i l) ∙ ap (drop 1) e)

pub record Keeping (text w₀ : List ℕ) (k at n : ℕ) (w : List ℕ) (i p : ℕ) : Type 0 where
  pub same : length w ≡ length w₀
  pub most : i ≤ n
  pub few : i ≤ most_cells
  pub there : NumbersThere text p (n - i)
  pub left : drop i (numbers_from text at n) ≡ numbers_from text p (n - i)
  pub each : (j : ℕ) → j < i → get_or w (cell_at k j) 0 ≡ cell_of (get_or (numbers_from text at n) j no_number)
  pub small : (j : ℕ) → j < i → (get_or (numbers_from text at n) j no_number).plus ≤ 255
  pub below : (j : ℕ) → j < cell_at k 0 → get_or w j 0 ≡ get_or w₀ j 0
  pub above : (j : ℕ) → cell_at k 28 ≤ j → get_or w j 0 ≡ get_or w₀ j 0

pub keeping_none : (text w : List ℕ) (k at n : ℕ) → NumbersThere text at n → Keeping text w k at n w 0 at
keeping_none text w k at n t =
    let e : n - 0 ≡ n = omega arith in
    record {
      same = refl;
      most = omega arith;
      few = omega arith;
      there = rw e t;
      left = rw e refl;
      each = λ j h. absurd (omega arith);
      small = λ j h. absurd (omega arith);
      below = λ j h. refl;
      above = λ j h. refl;
    }

module _ (text w₀ : List ℕ) (k at n : ℕ) (row : k < 256) (room : making_size ≤ length w₀) (w : List ℕ) (i p : ℕ) (K : Keeping text w₀ k at n w i p) where
  module _ (c : ℕ) (count : CellCount n c) (more : i < c) (x : Num) (X : NumberRead text (behind (from text p)) x) (v : ℕ) (cell : v ≡ cell_of (plain_number x)) where
    abbrev left : ℕ
    left = n - (i + 1)

    left_is : n - i ≡ suc left
    left_is = omega (arith, more, count.most)

    step : (numbers_from text p (suc left) ≡ X.number ∷ numbers_from text x.end left) × NumbersThere text x.end left
    step = numbers-step text p left x (subst (NumbersThere text p) left_is K.there) X

    next : (get_or (numbers_from text at n) i no_number ≡ X.number) × (drop (i + 1) (numbers_from text at n) ≡ numbers_from text x.end left)
    next = next-first (numbers_from text at n) i X.number (numbers_from text x.end left) (K.left ∙ ap (numbers_from text p) left_is ∙ step.0)

    abbrev stored : List ℕ
    stored = set w (cell_at k i) v

    cell-is : cell_of X.number ≡ v
    unfolding cell_of
    cell-is = ap (λ (b : Bool). cond b (256 + X.number.plus) X.number.plus) X.is_open ∙ ap (λ (m : ℕ). cond x.named (256 + m) m) X.plus ∙ sym cell

    each-now : (j : ℕ) → j < i + 1 → get_or stored (cell_at k j) 0 ≡ cell_of (get_or (numbers_from text at n) j no_number)
    each-now j h = elim (dec_le (suc j) i) [
      | yes l ↦ get_or-set_other w (cell_at k i) (cell_at k j) v 0 (λ e. absurd (omega arith)) ∙ K.each j l
      | no g ↦ let e : j ≡ i = omega arith in
          ap (λ (m : ℕ). get_or stored (cell_at k m) 0) e ∙ get_or-set_same w (cell_at k i) v 0 (omega (arith, K.same, K.few, more, count.few)) ∙ sym cell-is ∙ ap cell_of (sym next.0) ∙ ap (λ (m : ℕ). cell_of (get_or (numbers_from text at n) m no_number)) (sym e)
    ]

    small-now : (j : ℕ) → j < i + 1 → (get_or (numbers_from text at n) j no_number).plus ≤ 255
    small-now j h = elim (dec_le (suc j) i) [
      | yes l ↦ K.small j l
      | no g ↦ let e : j ≡ i = omega arith in subst (λ (y : Number). y.plus ≤ 255) (sym (ap (λ (m : ℕ). get_or (numbers_from text at n) m no_number) e ∙ next.0)) (omega (arith, X.plus, X.small))
    ]

    pub keeping-more : Keeping text w₀ k at n stored (i + 1) x.end
    keeping-more = record {
      same = length-set w (cell_at k i) v ∙ K.same;
      most = omega (arith, more, count.most);
      few = omega (arith, more, count.few);
      there = step.1;
      left = next.1;
      each = each-now;
      small = small-now;
      below = λ j h. get_or-set_other w (cell_at k i) j v 0 (λ e. absurd (omega arith)) ∙ K.below j h;
      above = λ j h. get_or-set_other w (cell_at k i) j v 0 (λ e. absurd (omega (arith, count.few, more))) ∙ K.above j h;
    }

  module _ (c : ℕ) (count : CellCount n c) (done : c ≤ i) where
    abbrev closed : List ℕ
    closed = set w (cell_at k most_cells) p

    later-is : later_in closed k ≡ p
    later-is = get_or-set_same w (cell_at k most_cells) p 0 (omega (arith, K.same))

    all-cells : most_cells ≤ n → i ≡ most_cells
    all-cells h = elim (dec_le (suc c) n) [
      | yes l ↦ omega (arith, done, K.few, count.rest l)
      | no g ↦ omega (arith, done, K.few)
    ]

    reached : (j : ℕ) → j < most_cells → j < n → j < i
    reached j h g = elim (dec_le (suc c) n) [
      | yes l ↦ omega (arith, done, count.rest l)
      | no m ↦ omega (arith, done)
    ]

    pub keeping_all : CellsStored text w₀ k at n closed
    keeping_all = record {
      same = length-set w (cell_at k most_cells) p ∙ K.same;
      below = λ j h. get_or-set_other w (cell_at k most_cells) j p 0 (λ e. absurd (omega arith)) ∙ K.below j h;
      above = λ j h. get_or-set_other w (cell_at k most_cells) j p 0 (λ e. absurd (omega arith)) ∙ K.above j h;
      cells = record {
        each = λ j h g. get_or-set_other w (cell_at k most_cells) (cell_at k j) p 0 (λ e. absurd (omega arith)) ∙ K.each j (reached j h g);
        small = λ j h g. K.small j (reached j h g);
        there = λ h. subst (λ (q : ℕ). NumbersThere text q (n - most_cells)) (sym later-is) (subst (λ (m : ℕ). NumbersThere text p (n - m)) (all-cells h) K.there);
        later = λ h. subst (λ (q : ℕ). drop most_cells (numbers_from text at n) ≡ numbers_from text q (n - most_cells)) (sym later-is) (subst (λ (m : ℕ). drop m (numbers_from text at n) ≡ numbers_from text p (n - m)) (all-cells h) K.left);
      };
    }

-- cells stay where their own numbers do
pub cells_same : (text w w' : List ℕ) (k at n : ℕ) → CellsThere text w k at n → ((j : ℕ) → cell_at k 0 ≤ j → j < cell_at k 28 → get_or w' j 0 ≡ get_or w j 0) → CellsThere text w' k at n
cells_same text w w' k at n C same =
    let e : later_in w' k ≡ later_in w k = same (cell_at k most_cells) (omega arith) (omega arith) in
    record {
      each = λ j h g. same (cell_at k j) (omega arith) (omega arith) ∙ C.each j h g;
      small = C.small;
      there = λ h. subst (λ (q : ℕ). NumbersThere text q (n - most_cells)) (sym e) (C.there h);
      later = λ h. subst (λ (q : ℕ). drop most_cells (numbers_from text at n) ≡ numbers_from text q (n - most_cells)) (sym e) (C.later h);
    }

-- ---- cells compared

pub record CellsLeft (work : List ℕ) (k n first j : ℕ) : Type 0 where
  pub most : j ≤ n
  pub total : cells_fit work k first 0 n ≡ cells_fit work k first j (n - j)

pub cells_none : (work : List ℕ) (k n first : ℕ) → CellsLeft work k n first 0
cells_none work k n first = let e : n - 0 ≡ n = omega arith in record { most = omega arith; total = rw e refl }

module _ (work : List ℕ) (k n first j : ℕ) (c : CellsLeft work k n first j) where
  module _ (more : j < n) (b : Bool) (is : b ≡ cell_fits (get_or work (cell_at k j) 0) (get_or work (scope_at + 2 * (first + j) + 1) 0)) where
    one_cell : cells_fit work k first 0 n ≡ (b && cells_fit work k first (j + 1) (n - (j + 1)))
    one_cell =
        let e : n - j ≡ suc (n - (j + 1)) = omega arith in
        let g : suc j ≡ j + 1 = omega arith in
        c.total ∙ ap (cells_fit work k first j) e ∙ ap (λ (x : Bool). x && cells_fit work k first (suc j) (n - (j + 1))) (sym is) ∙ ap (λ (m : ℕ). b && cells_fit work k first m (n - (j + 1))) g

    pub cells-no : b ≡ false → false ≡ cells_fit work k first 0 n
    cells-no e = sym (one_cell ∙ ap (λ (x : Bool). x && cells_fit work k first (j + 1) (n - (j + 1))) e)

    pub cells-more : b ≡ true → CellsLeft work k n first (j + 1)
    cells-more e = record { most = omega arith; total = one_cell ∙ ap (λ (x : Bool). x && cells_fit work k first (j + 1) (n - (j + 1))) e }

  pub cells_all : n ≤ j → true ≡ cells_fit work k first 0 n
  cells_all h = let e : n - j ≡ 0 = omega arith in sym (c.total ∙ ap (cells_fit work k first j) e)

-- ---- in the place of the numbers

and_last : (a b c : Bool) → (a && (b && c)) ≡ ((a && b) && c)
and_last true b c = refl
and_last false b c = refl

and_yes : (a : Bool) → (a && true) ≡ a
and_yes true = refl
and_yes false = refl

module _ (text work : List ℕ) (k at n first : ℕ) (C : CellsThere text work k at n) where
  abbrev all : List Number
  all = numbers_from text at n

  -- what is left from number j on
  abbrev fits_from : ℕ → Bool
  fits_from j = fit_all (drop j all) (values_in work (first + j) (n - j))

  in_cells : (m j : ℕ) → j + m ≤ n → j + m ≤ most_cells → fits_from j ≡ (cells_fit work k first j m && fits_from (j + m))
  in_cells zero j h g = let e : j + 0 ≡ j = omega arith in rw e refl
  in_cells (suc m) j h g =
      let e : n - j ≡ suc (n - suc j) = omega arith in
      let f : suc (first + j) ≡ first + suc j = omega arith in
      let s : suc j + m ≡ j + suc m = omega arith in
      let v : ℕ = get_or work (scope_at + 2 * (first + j) + 1) 0 in
      let x : Number = get_or all j no_number in
      ap (λ (l : List Number). fit_all l (values_in work (first + j) (n - j))) (drop-cons all j no_number (omega (arith, list_long n (from text at))))
      ∙ ap (λ (i : ℕ). fit_all (x ∷ drop (suc j) all) (values_in work (first + j) i)) e
      ∙ ap (λ (i : ℕ). fits x v && fit_all (drop (suc j) all) (values_in work i (n - suc j))) f
      ∙ ap (λ (b : Bool). b && fits_from (suc j)) (sym (ap (λ (c : ℕ). cell_fits c v) (C.each j (omega arith) (omega arith)) ∙ cell_fits_lem x v (C.small j (omega arith) (omega arith))))
      ∙ ap (λ (b : Bool). cell_fits (get_or work (cell_at k j) 0) v && b) (in_cells m (suc j) (omega arith) (omega arith))
      ∙ and_last (cell_fits (get_or work (cell_at k j) 0) v) (cells_fit work k first (suc j) m) (fits_from (suc j + m))
      ∙ ap (λ (i : ℕ). cells_fit work k first j (suc m) && fits_from i) s

  from_first : (c : ℕ) → c ≤ n → c ≤ most_cells → fit_all all (values_in work first n) ≡ (cells_fit work k first 0 c && fits_from c)
  from_first c h g =
      let e : first + 0 ≡ first = omega arith in
      let f : n - 0 ≡ n = omega arith in
      let z : 0 + c ≡ c = omega arith in
      ap (λ (i : ℕ). fit_all all (values_in work i n)) (sym e) ∙ ap (λ (i : ℕ). fit_all all (values_in work (first + 0) i)) (sym f) ∙ in_cells c 0 (omega arith) (omega arith) ∙ ap (λ (i : ℕ). cells_fit work k first 0 c && fits_from i) z

  none_left : fits_from n ≡ true
  none_left =
      let e : n - n ≡ 0 = omega arith in
      ap (λ (l : List Number). fit_all l (values_in work (first + n) (n - n))) (drop_past all n (omega (arith, list_long n (from text at)))) ∙ ap (λ (i : ℕ). fit_all [] (values_in work (first + n) i)) e

  module _ (c : ℕ) (count : CellCount n c) (b : Bool) (cells : b ≡ cells_fit work k first 0 c) where
    parted : fit_all all (values_in work first n) ≡ (b && fits_from c)
    parted = from_first c count.most count.few ∙ ap (λ (x : Bool). x && fits_from c) (sym cells)

    pub numbers-no : b ≡ false → false ≡ fit_all all (values_in work first n)
    numbers-no e = sym (parted ∙ ap (λ (x : Bool). x && fits_from c) e)

    pub numbers-yes : b ≡ true → n ≤ most_cells → true ≡ fit_all all (values_in work first n)
    numbers-yes e h = let z : c ≡ n = elim (dec_le (suc c) n) [ yes l ↦ omega (arith, count.rest l) | no g ↦ omega (arith, count.most) ] in sym (parted ∙ ap (λ (x : Bool). x && fits_from c) e ∙ ap fits_from z ∙ none_left)

    pub numbers-later : b ≡ true → most_cells < n → (r : Bool) → r ≡ fit_all (numbers_from text (later_in work k) (n - most_cells)) (values_in work (first + most_cells) (n - most_cells)) → r ≡ fit_all all (values_in work first n)
    numbers-later e h r f =
        let z : c ≡ most_cells = elim (dec_le (suc c) n) [ yes l ↦ omega (arith, count.rest l, count.few) | no g ↦ omega (arith, count.few) ] in
        f ∙ ap (λ (l : List Number). fit_all l (values_in work (first + most_cells) (n - most_cells))) (sym (C.later (omega arith))) ∙ sym (parted ∙ ap (λ (x : Bool). x && fits_from c) e ∙ ap fits_from z)

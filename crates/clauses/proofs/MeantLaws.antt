-- Rows that are meant, test by test, and the clauses behind them. Assumes nothing.
use Prim.Native.Nat.{ℕ, zero, suc, ◌+◌, ◌*◌, ◌-◌, ◌≤◌, ◌<◌}
use mathlib.Core.Path.{◌≡◌, refl, sym, ap, ◌∙◌, subst}
use mathlib.Core.Bool.{Bool, true, false, ◌&&◌, cond}
use mathlib.Core.List.{List, [], ◌∷◌}
use native.Mathlib.Omega.{arith}
use lib.Dec.{eqb, leb}
use lib.ListN.{length, get_or, take, drop}
use lib.Seq.{drop-cons, drop-length}
use borrow.Author.Tests.{eq-eqb, ne_eqb}
use Rattle.calculus.specs.Answer.{Answer, good, refuse}
use Rattle.notation_calculus.specs.Words.{Name, Word}
use Rattle.notation_calculus.specs.Trees.{Number, Clause}
use Rattle.notation_calculus.specs.Grammar.{behind}
use Rattle.notation_calculus.specs.Making.{fits, fit_all, has_numbers, up_to, seen_by, Put, put_of, meant, clause_for}
use Rattle.words.specs.Next.{run_at}
use Rattle.words.specs.Lexed.{from, Lexed, Onward}
use Rattle.making_memory.specs.Map.{scope_at, clause_count_at}
use Rattle.clauses.specs.declared.numbers.Num.{Num}
use Rattle.clauses.specs.declared.rows.Row.{Row}
use Rattle.clauses.specs.declared.meant.Asked.{Asked}
use Rattle.clauses.specs.Rows.{row_in, no_clause, clause_of, HoldsRows, key_for, KeyFrom, KeyBelow}
use Rattle.clauses.specs.Numbers.{NumberThere, NumberRead, NumberPast, plain_number, numbers_from, NumbersThere}
use Rattle.clauses.specs.Follows.{row_namesake, RowsThere}
use Rattle.clauses.specs.Meant.{values_in, row_meant, first_meant, rows_up_to, row_seen}
use Rattle.clauses.proofs.NumberLaws.{list_long, numbers-step, number_there}
use Rattle.clauses.proofs.FollowLaws.{namesake-other}
use Rattle.clauses.proofs.TableLaws.{row-numbers, namesake-row}

-- ---- numbers that fit

pub fits_open : (k : Num) (n : ℕ) → k.named ≡ true → leb k.plus n ≡ fits (plain_number k) n
fits_open k n e = sym (ap (λ (b : Bool). cond b (leb k.plus n) (eqb k.plus n)) e)

pub fits_one : (k : Num) (n : ℕ) → k.named ≡ false → eqb k.plus n ≡ fits (plain_number k) n
fits_one k n e = sym (ap (λ (b : Bool). cond b (leb k.plus n) (eqb k.plus n)) e)

-- what is left of the numbers and the values decides
pub record Fitting (text work : List ℕ) (at n first i p : ℕ) : Type 0 where
  pub most : i ≤ n
  pub there : NumbersThere text p (n - i)
  pub total : fit_all (numbers_from text at n) (values_in work first n) ≡ fit_all (numbers_from text p (n - i)) (values_in work (first + i) (n - i))

pub fitting-none : (text work : List ℕ) (at n first : ℕ) → NumbersThere text at n → Fitting text work at n first 0 at
fitting-none text work at n first t =
    let e : n - 0 ≡ n = omega arith in
    let f : first + 0 ≡ first = omega arith in
    record { most = omega arith; there = rw e t; total = rw (e, f) }

module _ (text work : List ℕ) (at n first i p : ℕ) (c : Fitting text work at n first i p) where
  module _ (more : i < n) (k : Num) (x : NumberRead text (behind (from text p)) k) (v : ℕ) (value : v ≡ get_or work (scope_at + 2 * (first + i) + 1) 0) where
    abbrev left : ℕ
    left = n - (i + 1)

    left_is : n - i ≡ suc left
    left_is = omega arith

    all_left : NumbersThere text p (suc left)
    all_left = subst (NumbersThere text p) left_is c.there

    one_more : fit_all (numbers_from text at n) (values_in work first n) ≡ (fits (plain_number k) v && fit_all (numbers_from text k.end left) (values_in work (first + (i + 1)) left))
    one_more =
        let s = numbers-step text p left k all_left x in
        let g : suc (first + i) ≡ first + (i + 1) = omega arith in
        c.total
        ∙ ap (λ (j : ℕ). fit_all (numbers_from text p j) (values_in work (first + i) j)) left_is
        ∙ ap (λ (l : List Number). fit_all l (values_in work (first + i) (suc left))) s.0
        ∙ ap (λ (j : ℕ). fits x.number j && fit_all (numbers_from text k.end left) (values_in work (suc (first + i)) left)) (sym value)
        ∙ ap (λ (b : Bool). cond b (leb x.number.plus v) (eqb x.number.plus v) && fit_all (numbers_from text k.end left) (values_in work (suc (first + i)) left)) x.is_open
        ∙ ap (λ (j : ℕ). cond k.named (leb j v) (eqb j v) && fit_all (numbers_from text k.end left) (values_in work (suc (first + i)) left)) x.plus
        ∙ ap (λ (j : ℕ). fits (plain_number k) v && fit_all (numbers_from text k.end left) (values_in work j left)) g

    pub fitting-no : fits (plain_number k) v ≡ false → false ≡ fit_all (numbers_from text at n) (values_in work first n)
    fitting-no e = sym (one_more ∙ ap (λ (b : Bool). b && fit_all (numbers_from text k.end left) (values_in work (first + (i + 1)) left)) e)

    pub fitting-more : fits (plain_number k) v ≡ true → Fitting text work at n first (i + 1) k.end
    fitting-more e = record { most = omega arith; there = (numbers-step text p left k all_left x).1; total = one_more ∙ ap (λ (b : Bool). b && fit_all (numbers_from text k.end left) (values_in work (first + (i + 1)) left)) e }

  pub fitting-all : n ≤ i → true ≡ fit_all (numbers_from text at n) (values_in work first n)
  fitting-all h = let e : n - i ≡ 0 = omega arith in sym (c.total ∙ ap (λ (j : ℕ). fit_all (numbers_from text p j) (values_in work (first + i) j)) e)

-- .. read on behind the bracket or the comma, where the next number stands
pub record FittingOn (text work : List ℕ) (at n first i p : ℕ) : Type 0 where
  pub back : ℕ
  pub fitting : Fitting text work at n first i back
  pub ahead : i < n → Onward text back p

pub on_none : (text work : List ℕ) (at n first p : ℕ) → NumbersThere text at n → (NumberThere (behind (from text at)) → Onward text at p) → FittingOn text work at n first 0 p
on_none text work at n first p t o = record { back = at; fitting = fitting-none text work at n first t; ahead = λ h. o (number_there text at n t h) }

module _ (text work : List ℕ) (at n first i p : ℕ) (c : FittingOn text work at n first i p) where
  module _ (more : i < n) where
    onward : Onward text c.back p
    onward = c.ahead more

    pub on-there : (Lexed text p) × (NumberThere (from text p))
    on-there = (onward.lexed, subst NumberThere onward.rest (number_there text c.back (n - i) c.fitting.there (omega arith)))

    module _ (k : Num) (x : NumberPast text (from text p) k) (v : ℕ) (value : v ≡ get_or work (scope_at + 2 * (first + i) + 1) 0) where
      abbrev stopped : Num
      stopped = record { named = k.named; place = k.place; plus = k.plus; end = x.stop }

      read_back : NumberRead text (behind (from text c.back)) stopped
      read_back = subst (λ (us : List Word). NumberRead text us stopped) (sym onward.rest) x.read

      pub on-no : fits (plain_number k) v ≡ false → false ≡ fit_all (numbers_from text at n) (values_in work first n)
      on-no e = fitting-no text work at n first i c.back c.fitting more stopped read_back v value e

      pub on-more : fits (plain_number k) v ≡ true → FittingOn text work at n first (i + 1) k.end
      on-more e =
          let f = fitting-more text work at n first i c.back c.fitting more stopped read_back v value e in
          record { back = x.stop; fitting = f; ahead = λ h. x.past (number_there text x.stop (n - (i + 1)) f.there (omega arith)) }

  pub on_all : n ≤ i → true ≡ fit_all (numbers_from text at n) (values_in work first n)
  on_all h = fitting-all text work at n first i c.back c.fitting h

-- ---- a row that is meant

pub values_long : (work : List ℕ) (first n : ℕ) → length (values_in work first n) ≡ n
values_long work first zero = refl
values_long work first (suc n) = ap suc (values_long work (suc first) n)

-- numbers that are not as many do not fit
unlike : (ks : List Number) (ns : List ℕ) → ¬ (length ks ≡ length ns) → fit_all ks ns ≡ false
unlike [] [] h = absurd (h refl)
unlike [] (n ∷ ns) h = refl
unlike (k ∷ ks) [] h = refl
unlike (k ∷ ks) (n ∷ ns) h = ap (λ (b : Bool). fits k n && b) (unlike ks ns (λ e. h (ap suc e))) ∙ no-and (fits k n)
  where
    no-and : (b : Bool) → (b && false) ≡ false
    no-and true = refl
    no-and false = refl

module _ (text work : List ℕ) (q : Asked) (r : Row) where
  abbrev meant_by : Bool → Bool → Bool → Bool
  meant_by a t f = a && t && f

  abbrev fitted : Bool
  fitted = fit_all (numbers_from text r.numbered r.numbers) (values_in work q.first q.numbers)

  meant_is : (a t f : Bool) → row_namesake text r q.sort q.name ≡ a → eqb r.types q.types ≡ t → fitted ≡ f → row_meant text work q r ≡ meant_by a t f
  unfolding row_meant
  meant_is a t f e g h = ap (λ (x : Bool). meant_by x (eqb r.types q.types) fitted) e ∙ ap (λ (x : Bool). meant_by a x fitted) g ∙ ap (meant_by a t) h

  pub meant-other : row_namesake text r q.sort q.name ≡ false → false ≡ row_meant text work q r
  meant-other e = sym (meant_is false _ _ e refl refl)

  module _ (e : row_namesake text r q.sort q.name ≡ true) where
    pub meant-types : ¬ (r.types ≡ q.types) → false ≡ row_meant text work q r
    meant-types g = sym (meant_is true false _ e (ne_eqb _ _ g) refl)

    module _ (g : r.types ≡ q.types) where
      pub meant-numbers : ¬ (r.numbers ≡ q.numbers) → false ≡ row_meant text work q r
      meant-numbers h = sym (meant_is true true false e (eq-eqb _ _ g) (unlike (numbers_from text r.numbered r.numbers) (values_in work q.first q.numbers) (λ l. h (sym (list_long r.numbers (from text r.numbered)) ∙ l ∙ values_long work q.first q.numbers))))

      pub meant-fits : r.numbers ≡ q.numbers → (b : Bool) → b ≡ fit_all (numbers_from text r.numbered r.numbers) (values_in work q.first r.numbers) → b ≡ row_meant text work q r
      meant-fits h b f = sym (meant_is true true b e (eq-eqb _ _ g) (sym (f ∙ ap (λ (n : ℕ). fit_all (numbers_from text r.numbered r.numbers) (values_in work q.first n)) h)))

-- ---- the first that is meant

pub record Seeking (text work : List ℕ) (q : Asked) (seen k : ℕ) : Type 0 where
  pub most : k ≤ seen
  pub total : first_meant text work q 0 seen ≡ first_meant text work q k (seen - k)

module _ (text work : List ℕ) (q : Asked) (seen : ℕ) where
  over : (m k : ℕ) → first_meant text work q 0 seen ≡ first_meant text work q k (seen - k) → k + m ≤ seen → ((j : ℕ) → k ≤ j → j < k + m → row_meant text work q (row_in work j) ≡ false) → first_meant text work q 0 seen ≡ first_meant text work q (k + m) (seen - (k + m))
  over zero k e h each = let z : k + 0 ≡ k = omega arith in e ∙ ap (λ (j : ℕ). first_meant text work q j (seen - j)) (sym z)
  over (suc m) k e h each =
      let p : seen - k ≡ suc (seen - suc k) = omega arith in
      let r : suc k + m ≡ k + suc m = omega arith in
      over m (suc k) (e ∙ ap (first_meant text work q k) p ∙ ap (λ (b : Bool). cond b k (first_meant text work q (suc k) (seen - suc k))) (each k (omega arith) (omega arith))) (omega arith) (λ j a b. each j (omega arith) (omega arith)) ∙ ap (λ (j : ℕ). first_meant text work q j (seen - j)) r

  pub seeking_none : Seeking text work q seen 0
  seeking_none = let e : seen - 0 ≡ seen = omega arith in record { most = omega arith; total = rw e }

  module _ (k : ℕ) (s : Seeking text work q seen k) where
    module _ (more : k < seen) where
      one-row : first_meant text work q 0 seen ≡ cond (row_meant text work q (row_in work k)) k (first_meant text work q (k + 1) (seen - (k + 1)))
      one-row =
          let e : seen - k ≡ suc (seen - (k + 1)) = omega arith in
          let g : k + 1 ≡ suc k = omega arith in
          s.total ∙ ap (first_meant text work q k) e ∙ ap (λ (j : ℕ). cond (row_meant text work q (row_in work k)) k (first_meant text work q j (seen - (k + 1)))) (sym g)

      pub seeking-found : row_meant text work q (row_in work k) ≡ true → k ≡ first_meant text work q 0 seen
      seeking-found h = sym (one-row ∙ ap (λ (b : Bool). cond b k (first_meant text work q (k + 1) (seen - (k + 1)))) h)

      pub seeking-more : row_meant text work q (row_in work k) ≡ false → Seeking text work q seen (k + 1)
      seeking-more h = record { most = omega arith; total = one-row ∙ ap (λ (b : Bool). cond b k (first_meant text work q (k + 1) (seen - (k + 1)))) h }

    pub seeking-over : (m : ℕ) → k + m ≤ seen → ((j : ℕ) → k ≤ j → j < k + m → row_meant text work q (row_in work j) ≡ false) → Seeking text work q seen (k + m)
    seeking-over m h each = record { most = h; total = over m k s.total h each }

    pub seeking-all : seen ≤ k → k ≡ first_meant text work q 0 seen
    seeking-all h = let e : seen - k ≡ 0 = omega arith in sym (s.total ∙ ap (first_meant text work q k) e)

-- rows with another key are of another sort or name, and may be passed
pub seeking_key : (text work : List ℕ) (q : Asked) (seen k r key : ℕ) → RowsThere text work → seen ≤ get_or work clause_count_at 0 → key ≡ key_for q.sort (run_at text q.name) → KeyFrom work key k seen r → Seeking text work q seen k → Seeking text work q seen r
seeking_key text work q seen k r key there few own K S =
    let z : k + (r - k) ≡ r = omega (arith, K.least) in
    subst (Seeking text work q seen) z (seeking-over text work q seen k S (r - k) (omega (arith, K.most, z)) (λ j a b. sym (meant-other text work q (row_in work j) (sym (namesake-other text (row_in work j) q.sort q.name (there.each j (omega (arith, K.most, z))).key (λ g. K.others j a (omega (arith, z)) (g ∙ sym own)))))))

-- ---- the last of a name

-- the last of so many rows decides before those above it
upto_last : (text work : List ℕ) (sort : Bool) (at n k found : ℕ) → rows_up_to text work sort at k (suc n) found ≡ cond (row_namesake text (row_in work (k + n)) sort at) (suc (k + n)) (rows_up_to text work sort at k n found)
upto_last text work sort at zero k found = let e : k + 0 ≡ k = omega arith in rw e refl
upto_last text work sort at (suc n) k found =
    let e : suc k + n ≡ k + suc n = omega arith in
    upto_last text work sort at n (suc k) (cond (row_namesake text (row_in work k) sort at) (suc k) found) ∙ ap (λ (j : ℕ). cond (row_namesake text (row_in work j) sort at) (suc j) (rows_up_to text work sort at (suc k) n (cond (row_namesake text (row_in work k) sort at) (suc k) found))) e

-- no row from number k on is of the sort and name
pub record CountingDown (text work : List ℕ) (sort : Bool) (at n otherwise k : ℕ) : Type 0 where
  pub most : k ≤ n
  pub total : rows_up_to text work sort at 0 n otherwise ≡ rows_up_to text work sort at 0 k otherwise

module _ (text work : List ℕ) (sort : Bool) (at n otherwise : ℕ) where
  under : (m r k : ℕ) → k ≡ r + m → ((j : ℕ) → r ≤ j → j < k → row_namesake text (row_in work j) sort at ≡ false) → rows_up_to text work sort at 0 k otherwise ≡ rows_up_to text work sort at 0 r otherwise
  under zero r k e each = let z : k ≡ r = omega arith in ap (λ (j : ℕ). rows_up_to text work sort at 0 j otherwise) z
  under (suc m) r k e each =
      let p : k ≡ suc (r + m) = omega arith in
      let z : 0 + (r + m) ≡ r + m = omega arith in
      ap (λ (j : ℕ). rows_up_to text work sort at 0 j otherwise) p ∙ upto_last text work sort at (r + m) 0 otherwise ∙ ap (λ (j : ℕ). cond (row_namesake text (row_in work j) sort at) (suc j) (rows_up_to text work sort at 0 (r + m) otherwise)) z ∙ ap (λ (b : Bool). cond b (suc (r + m)) (rows_up_to text work sort at 0 (r + m) otherwise)) (each (r + m) (omega arith) (omega arith)) ∙ under m r (r + m) refl (λ j a b. each j a (omega arith))

  pub down_none : (k : ℕ) → k ≡ n → CountingDown text work sort at n otherwise k
  down_none k e = record { most = omega arith; total = ap (λ (j : ℕ). rows_up_to text work sort at 0 j otherwise) (sym e) }

  module _ (k : ℕ) (s : CountingDown text work sort at n otherwise k) where
    module _ (more : 0 < k) where
      one_less : rows_up_to text work sort at 0 n otherwise ≡ cond (row_namesake text (row_in work (k - 1)) sort at) k (rows_up_to text work sort at 0 (k - 1) otherwise)
      one_less =
          let e : k ≡ suc (k - 1) = omega arith in
          let z : 0 + (k - 1) ≡ k - 1 = omega arith in
          s.total ∙ ap (λ (j : ℕ). rows_up_to text work sort at 0 j otherwise) e ∙ upto_last text work sort at (k - 1) 0 otherwise ∙ ap (λ (j : ℕ). cond (row_namesake text (row_in work j) sort at) (suc j) (rows_up_to text work sort at 0 (k - 1) otherwise)) z ∙ ap (λ (j : ℕ). cond (row_namesake text (row_in work (k - 1)) sort at) j (rows_up_to text work sort at 0 (k - 1) otherwise)) (sym e)

      pub down-found : row_namesake text (row_in work (k - 1)) sort at ≡ true → k ≡ rows_up_to text work sort at 0 n otherwise
      down-found h = sym (one_less ∙ ap (λ (b : Bool). cond b k (rows_up_to text work sort at 0 (k - 1) otherwise)) h)

      pub down-more : row_namesake text (row_in work (k - 1)) sort at ≡ false → CountingDown text work sort at n otherwise (k - 1)
      down-more h = record { most = omega (arith, s.most); total = one_less ∙ ap (λ (b : Bool). cond b k (rows_up_to text work sort at 0 (k - 1) otherwise)) h }

    pub down-over : (r : ℕ) → r ≤ k → ((j : ℕ) → r ≤ j → j < k → row_namesake text (row_in work j) sort at ≡ false) → CountingDown text work sort at n otherwise r
    down-over r h each = record { most = omega (arith, s.most); total = s.total ∙ under (k - r) r k (omega arith) each }

    pub down-all : k ≤ 0 → otherwise ≡ rows_up_to text work sort at 0 n otherwise
    down-all h = let e : k ≡ 0 = omega arith in sym (s.total ∙ ap (λ (j : ℕ). rows_up_to text work sort at 0 j otherwise) e)

pub down_key : (text work : List ℕ) (sort : Bool) (at otherwise k r key : ℕ) → RowsThere text work → key ≡ key_for sort (run_at text at) → KeyBelow work key k r → CountingDown text work sort at (get_or work clause_count_at 0) otherwise k → CountingDown text work sort at (get_or work clause_count_at 0) otherwise r
down_key text work sort at otherwise k r key there own K S = down-over text work sort at _ otherwise k S r K.most (λ j a b. sym (namesake-other text (row_in work j) sort at (there.each j (omega (arith, S.most))).key (λ g. K.others j a b (g ∙ sym own))))

module _ (text work : List ℕ) (k : ℕ) (c : Row) (is : c ≡ row_in work k) where
  abbrev seen_of : Bool → Row → ℕ
  seen_of b r = cond b k (rows_up_to text work r.sort r.name 0 (get_or work clause_count_at 0) k)

  pub seen_above : c.numbers ≡ 0 → k ≡ row_seen text work k
  unfolding row_seen
  seen_above z = sym (ap (λ (r : Row). seen_of (eqb r.numbers 0) r) (sym is) ∙ ap (λ (b : Bool). seen_of b c) (eq-eqb _ _ z))

  pub seen_upto : ¬ (c.numbers ≡ 0) → (n : ℕ) → n ≡ rows_up_to text work c.sort c.name 0 (get_or work clause_count_at 0) k → n ≡ row_seen text work k
  unfolding row_seen
  seen_upto z n e = e ∙ sym (ap (λ (r : Row). seen_of (eqb r.numbers 0) r) (sym is) ∙ ap (λ (b : Bool). seen_of b c) (ne_eqb _ _ z))

-- ---- the clauses behind the rows

module _ (text work : List ℕ) (cs : List Clause) (H : HoldsRows text work cs) where
  -- clauses from number k on, up to those that are known
  module _ (under : ℕ) (q : Asked) (ts ns : List ℕ) (at : ℕ) (types : length ts ≡ q.types) (numbers : ns ≡ values_in work q.first q.numbers) where
    pub meant-row : (k : ℕ) → k < length cs → meant (clause_of cs k) q.sort (run_at text q.name) (length ts) ns ≡ row_meant text work q (row_in work k)
    unfolding row_meant
    meant-row k h =
        let R = H.rows k h in
        let c = row_in work k in
        ap (λ (b : Bool). b && eqb (length (clause_of cs k).types) (length ts) && fit_all (clause_of cs k).numbers ns) (namesake-row text (clause_of cs k) c R q.sort q.name)
        ∙ ap (λ (n : ℕ). row_namesake text c q.sort q.name && eqb n (length ts) && fit_all (clause_of cs k).numbers ns) (sym R.type_count)
        ∙ ap (λ (n : ℕ). row_namesake text c q.sort q.name && eqb c.types n && fit_all (clause_of cs k).numbers ns) types
        ∙ ap (λ (l : List Number). row_namesake text c q.sort q.name && eqb c.types q.types && fit_all l ns) (sym (row-numbers text (clause_of cs k) c R))
        ∙ ap (λ (l : List ℕ). row_namesake text c q.sort q.name && eqb c.types q.types && fit_all (numbers_from text c.numbered c.numbers) l) numbers

    -- what is found at a number, where so many are known
    abbrev Chosen : ℕ → ℕ → Answer Put → Type 0
    Chosen seen r m = (r < seen → m ≡ good (put_of under cs (clause_of cs r) r ts ns)) × (seen ≤ r → m ≡ refuse 33 at)

    choose-by : (b : Bool) (k later seen : ℕ) (m : Answer Put) → k < seen → Chosen seen later m → Chosen seen (cond b k later) (cond b (good (put_of under cs (clause_of cs k) k ts ns)) m)
    choose-by true k later seen m h c = ((λ _. refl), (λ g. absurd (omega arith)))
    choose-by false k later seen m h c = c

    choose-left : (n k : ℕ) → k + n ≤ length cs → Chosen (k + n) (first_meant text work q k n) (clause_for under cs (take n (drop k cs)) k q.sort (run_at text q.name) ts ns at)
    choose-left zero k h = let e : k + 0 ≡ k = omega arith in ((λ g. absurd (omega arith)), (λ g. refl))
    choose-left (suc n) k h =
        let l : k < length cs = omega arith in
        let e : k + suc n ≡ suc k + n = omega arith in
        subst (λ (xs : List Clause). Chosen (k + suc n) (first_meant text work q k (suc n)) (clause_for under cs (take (suc n) xs) k q.sort (run_at text q.name) ts ns at)) (sym (drop-cons cs k no_clause l))
        (subst (λ (b : Bool). Chosen (k + suc n) (first_meant text work q k (suc n)) (cond b (good (put_of under cs (clause_of cs k) k ts ns)) (clause_for under cs (take n (drop (suc k) cs)) (suc k) q.sort (run_at text q.name) ts ns at))) (sym (meant-row k l))
        (choose-by (row_meant text work q (row_in work k)) k (first_meant text work q (suc k) n) (k + suc n) _ (omega arith) (subst (λ (j : ℕ). Chosen j (first_meant text work q (suc k) n) (clause_for under cs (take n (drop (suc k) cs)) (suc k) q.sort (run_at text q.name) ts ns at)) (sym e) (choose-left n (suc k) (omega arith)))))

    -- the clause that the code finds is the one that is meant
    pub clause-found : (seen : ℕ) → seen ≤ length cs → Chosen seen (first_meant text work q 0 seen) (clause_for under cs (take seen cs) 0 q.sort (run_at text q.name) ts ns at)
    clause-found seen h = let e : 0 + seen ≡ seen = omega arith in subst (λ (j : ℕ). Chosen j (first_meant text work q 0 seen) (clause_for under cs (take seen cs) 0 q.sort (run_at text q.name) ts ns at)) e (choose-left seen 0 (omega arith))

  upto_left : (sort : Bool) (at n k found : ℕ) → k + n ≡ length cs → up_to (drop k cs) sort (run_at text at) k found ≡ rows_up_to text work sort at k n found
  upto_left sort at zero k found e =
      let g : k ≡ length cs = omega arith in
      ap (λ (j : ℕ). up_to (drop j cs) sort (run_at text at) k found) g ∙ ap (λ (xs : List Clause). up_to xs sort (run_at text at) k found) (drop-length cs)
  upto_left sort at (suc n) k found e =
      let l : k < length cs = omega arith in
      ap (λ (xs : List Clause). up_to xs sort (run_at text at) k found) (drop-cons cs k no_clause l) ∙ ap (λ (b : Bool). up_to (drop (suc k) cs) sort (run_at text at) (suc k) (cond b (suc k) found)) (namesake-row text (clause_of cs k) (row_in work k) (H.rows k l) sort at) ∙ upto_left sort at n (suc k) _ (omega arith)

  has-numbers : (ks : List Number) (n : ℕ) → n ≡ length ks → (a b : ℕ) → cond (has_numbers ks) a b ≡ cond (eqb n 0) b a
  has-numbers [] n e a b = sym (ap (λ (x : Bool). cond x b a) (eq-eqb n 0 e))
  has-numbers (k ∷ ks) n e a b = sym (ap (λ (x : Bool). cond x b a) (ne_eqb n 0 (λ z. absurd (omega arith))))

  -- the code counts the clauses that a clause knows
  pub seen_found : (k : ℕ) → k < length cs → seen_by cs (clause_of cs k) k ≡ row_seen text work k
  unfolding row_seen
  seen_found k h =
      let R = H.rows k h in
      has-numbers (clause_of cs k).numbers (row_in work k).numbers R.number_count _ k
      ∙ ap (λ (b : Bool). cond (eqb (row_in work k).numbers 0) k (up_to cs b (clause_of cs k).head.name 0 k)) R.sort
      ∙ ap (λ (n : Name). cond (eqb (row_in work k).numbers 0) k (up_to cs (row_in work k).sort n 0 k)) R.name_is
      ∙ ap (λ (m : ℕ). cond (eqb (row_in work k).numbers 0) k m) (upto_left (row_in work k).sort (row_in work k).name (length cs) 0 k (omega arith) ∙ ap (λ (n : ℕ). rows_up_to text work (row_in work k).sort (row_in work k).name 0 n k) (sym H.counted))

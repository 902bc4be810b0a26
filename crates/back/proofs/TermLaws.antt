-- The bytes of the sheet are its rows, one behind the other. Assumes nothing.
use Prim.Native.Nat.{ℕ, zero, suc, ◌+◌, ◌-◌, ◌*◌, ◌≤◌}
use mathlib.Core.Path.{◌≡◌, refl, sym, ap, ap₂, ◌∙◌}
use mathlib.Core.Bool.{Bool, true, false, cond}
use mathlib.Core.List.{List, [], ◌∷◌, ◌++◌, append-nil, append_assoc}
use native.Mathlib.Omega.{arith}
use lib.Dec.{eqb}
use lib.ListN.{length, length-append}
use lib.Seq.{sets}
use borrow.Author.Tests.{ne_eqb, le-ltb}
use Rattle.calculus.specs.Types.{rec02, rec03, Table}
use Rattle.calculus.specs.Terms.{Term, var, app, con, part_at}
use Rattle.calculus.specs.Write.{table_bytes, term_bytes}
use Rattle.calculus.specs.Record.{All}
use Rattle.sheet_theorems.proofs.Laying.{table_snoc}
use Rattle.back_calculus.specs.Back.{DrivenBy, Gate, tuple, base, products, arrows, back_table, binder_number, applied, gate_term, tuple_term, projections, functions}
use Rattle.back.specs.Rows.{rows_up_to, product_row, arrow_row, function_row, projection_row, application_row, head_row, source_rows, tuple_rows, arrow_length}
use Rattle.laws.proofs.Regions.{written-more}
use Rattle.back.proofs.RowLaws.{rows-length}

-- ---- the types

products-rows : (q : ℕ) → table_bytes (products q) ≡ table_bytes base ++ rows_up_to product_row q
products-rows zero = refl
products-rows (suc q) = table_snoc (products q) (rec02 0 (tuple q)) ∙ ap (λ (l : List ℕ). l ++ product_row q) (products-rows q) ∙ append_assoc (table_bytes base) (rows_up_to product_row q) (product_row q)

arrows-rows : (Θ : Table) (t k : ℕ) → table_bytes (arrows Θ t k) ≡ table_bytes Θ ++ rows_up_to (arrow_row t) k
arrows-rows Θ t zero = sym (append-nil (table_bytes Θ))
arrows-rows Θ t (suc k) = table_snoc (arrows Θ t k) (rec03 0 (t + k)) ∙ ap (λ (l : List ℕ). l ++ arrow_row t k) (arrows-rows Θ t k) ∙ append_assoc (table_bytes Θ) (rows_up_to (arrow_row t) k) (arrow_row t k)

-- one part: the first three types
pub types_one : (n k : ℕ) → n ≡ 1 → table_bytes (back_table (n - 1) k) ≡ table_bytes base
types_one n k e = rw e

-- more: the products and the arrows
pub types_more : (n k : ℕ) → 2 ≤ n → table_bytes (back_table (n - 1) k) ≡ (table_bytes base ++ rows_up_to product_row (n - 1)) ++ rows_up_to (arrow_row (n + 1)) k
types_more zero k h = absurd (omega arith)
types_more (suc zero) k h = absurd (omega arith)
types_more (suc (suc q)) k h =
    let e : suc (suc q) - 1 ≡ suc q = omega arith in
    let t : tuple (suc q) ≡ suc (suc q) + 1 = omega arith in
    rw e (arrows-rows (products (suc q)) (tuple (suc q)) k ∙ ap (λ (l : List ℕ). l ++ rows_up_to (arrow_row (tuple (suc q))) k) (products-rows (suc q)) ∙ ap (λ (x : ℕ). (table_bytes base ++ rows_up_to product_row (suc q)) ++ rows_up_to (arrow_row x) k) t)

pub arrows-few : (n k : ℕ) → arrow_length n k ≤ 3 * k
arrows-few n k = by (eqb n 1)
  where
    by : (b : Bool) → cond b 0 (3 * k) ≤ 3 * k
    by true = omega arith
    by false = omega arith

pub types-length : (n k : ℕ) → 1 ≤ n → length (table_bytes (back_table (n - 1) k)) ≡ 4 + 3 * n + arrow_length n k
types-length zero k h = absurd (omega arith)
types-length (suc zero) k h = refl
types-length (suc (suc q)) k h =
    let n = suc (suc q) in
    let e : arrow_length n k ≡ 3 * k = rw (ne_eqb (suc (suc q)) 1 (λ z. omega arith)) in
    ap length (types_more n k (omega arith)) ∙ length-append (table_bytes base ++ rows_up_to product_row (n - 1)) (rows_up_to (arrow_row (n + 1)) k)
    ∙ omega (arith, length-append (table_bytes base) (rows_up_to product_row (n - 1)), rows-length product_row 3 (λ j. refl) (n - 1), rows-length (arrow_row (n + 1)) 3 (λ j. refl) k)

pub types-written : (n k : ℕ) (out o₁ o₂ o₃ : List ℕ) → 2 ≤ n → o₁ ≡ sets out 0 (table_bytes base) → o₂ ≡ sets o₁ 7 (rows_up_to product_row (n - 1)) → o₃ ≡ sets o₂ (4 + 3 * n) (rows_up_to (arrow_row (n + 1)) k)
    → o₃ ≡ sets out 0 (table_bytes (back_table (n - 1) k))
types-written n k out o₁ o₂ o₃ h a b c =
    let l = length-append (table_bytes base) (rows_up_to product_row (n - 1)) in
    let m = rows-length product_row 3 (λ j. refl) (n - 1) in
    c ∙ ap (λ (o : List ℕ). sets o (4 + 3 * n) (rows_up_to (arrow_row (n + 1)) k)) (b ∙ ap (λ (o : List ℕ). sets o 7 (rows_up_to product_row (n - 1))) a ∙ written-more out (table_bytes base) (rows_up_to product_row (n - 1)) 0 7 refl)
    ∙ written-more out (table_bytes base ++ rows_up_to product_row (n - 1)) (rows_up_to (arrow_row (n + 1)) k) 0 (4 + 3 * n) (omega arith) ∙ ap (λ (bs : List ℕ). sets out 0 bs) (sym (types_more n k h))

-- ---- functions and projections

falls : (top k : ℕ) → rows_up_to (function_row (suc top)) (suc k) ≡ 0x13 ∷ suc top ∷ rows_up_to (function_row top) k
falls top zero = let e : suc top - 0 ≡ suc top = omega arith in rw e
falls top (suc k) = let e : suc top - suc k ≡ top - k = omega arith in ap₂ (λ (l : List ℕ) (x : ℕ). l ++ (0x13 ∷ x ∷ [])) (falls top k) e

pub functions-bytes : (t k : ℕ) (e : Term) → term_bytes (functions t k e) ≡ rows_up_to (function_row (t + k)) k ++ term_bytes e
functions-bytes t zero e = refl
functions-bytes t (suc k) e =
    let z : t + suc k ≡ suc (t + k) = omega arith in
    ap (λ (x : ℕ). 0x13 ∷ x ∷ term_bytes (functions t k e)) z ∙ ap (λ (l : List ℕ). 0x13 ∷ suc (t + k) ∷ l) (functions-bytes t k e) ∙ ap (λ (l : List ℕ). l ++ term_bytes e) (sym (falls (t + k) k))
    ∙ ap (λ (x : ℕ). rows_up_to (function_row x) (suc k) ++ term_bytes e) (sym z)

same_rows : (f : ℕ → List ℕ) (x : List ℕ) → ((j : ℕ) → f j ≡ x) → (q : ℕ) → x ++ rows_up_to f q ≡ rows_up_to f (suc q)
same_rows f x h zero = append-nil x ∙ sym (h 0)
same_rows f x h (suc q) = sym (append_assoc x (rows_up_to f q) (f q)) ∙ ap₂ ◌++◌ (same_rows f x h q) (h q ∙ sym (h (suc q)))

pub projections-bytes : (q : ℕ) (e : Term) → term_bytes (projections q e) ≡ rows_up_to projection_row q ++ term_bytes e
projections-bytes zero e = refl
projections-bytes (suc q) e =
    ap (λ (l : List ℕ). 0x18 ∷ 0x11 ∷ 0x00 ∷ l) (projections-bytes q e) ∙ ap (λ (l : List ℕ). l ++ term_bytes e) (same_rows projection_row (0x18 ∷ 0x11 ∷ 0x00 ∷ []) (λ j. refl) q)

-- ---- the parts

applied-bytes : (k q : ℕ) (ss : List DrivenBy) (f : Term) → term_bytes (applied k q f ss) ≡ rows_up_to application_row (length ss) ++ (term_bytes f ++ source_rows k q ss)
applied-bytes k q [] f = sym (append-nil (term_bytes f))
applied-bytes k q (s ∷ ss) f =
    applied-bytes k q ss (app f (var (binder_number k q s)))
    ∙ ap (λ (l : List ℕ). rows_up_to application_row (length ss) ++ (0x14 ∷ l)) (append_assoc (term_bytes f) (0x11 ∷ binder_number k q s ∷ []) (source_rows k q ss))
    ∙ sym (append_assoc (rows_up_to application_row (length ss)) (0x14 ∷ []) (term_bytes f ++ (0x11 ∷ binder_number k q s ∷ source_rows k q ss)))

gate-bytes : (k q : ℕ) (g : Gate) → length g.ins ≡ (part_at g.part).inputs → term_bytes (gate_term k q g) ≡ head_row g.part (part_at g.part).inputs ++ source_rows k q g.ins
gate-bytes k q g e =
    applied-bytes k q g.ins (con g.part (part_at g.part).inputs) ∙ ap (λ (n : ℕ). rows_up_to application_row n ++ ((0x1A ∷ g.part ∷ (part_at g.part).inputs ∷ []) ++ source_rows k q g.ins)) e
    ∙ sym (append_assoc (rows_up_to application_row (part_at g.part).inputs) (0x1A ∷ g.part ∷ (part_at g.part).inputs ∷ []) (source_rows k q g.ins))

abbrev pub GateFull : Gate → Type 0
GateFull g = length g.ins ≡ (part_at g.part).inputs

pub tuple-bytes : (k q : ℕ) (g : Gate) (gs : List Gate) → All GateFull (g ∷ gs) → term_bytes (tuple_term k q (g ∷ gs)) ≡ tuple_rows k q (g ∷ gs)
tuple-bytes k q g [] o = gate-bytes k q g o.0 ∙ sym (append-nil _)
tuple-bytes k q g (h ∷ gs) o =
    let e : suc (suc (length gs)) - 1 ≡ suc (length gs) = omega arith in
    rw (le-ltb (suc (suc (length gs))) 2 (omega arith), e)
    (ap₂ (λ (x y : List ℕ). 0x17 ∷ tuple (suc (length gs)) ∷ (x ++ y)) (gate-bytes k q g o.0) (tuple-bytes k q h gs o.1))

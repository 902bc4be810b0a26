-- The sheet that is written for a netlist (document 02, L11) can be read: it is within all limits. Assumes nothing.
use Prim.Native.Nat.{ℕ, zero, suc, ◌+◌, ◌*◌, ◌<◌, ◌≤◌}
use mathlib.Core.Path.{◌≡◌, refl, ◌∙◌}
use mathlib.Core.Bool.{Bool, true, false, ◌||◌}
use mathlib.Core.List.{List, [], ◌∷◌, ◌++◌}
use native.Mathlib.Omega.{arith}
use lib.ListN.{length}
use borrow.Author.Tests.{ne_eqb}
use Rattle.calculus.specs.Answer.{good}
use Rattle.calculus.specs.Types.{Ty, bit, size, sharable, TyRec, rec01, rec02, rec03, rec_eq, Table, tree}
use Rattle.calculus.specs.Terms.{first, Term, var, app, fix, con, nodes, part_at}
use Rattle.calculus.specs.Read.{repeated, read_sheet}
use Rattle.calculus.specs.Write.{sheet_bytes}
use Rattle.calculus.specs.Record.{All}
use Rattle.sheet_theorems.specs.Laid.{TableOk, depth, Ranged}
use Rattle.laws.proofs.Tests.{and_of, false_not}
use Rattle.sheet_theorems.proofs.Tables.{grown, empty-ok}
use Rattle.sheet_theorems.proofs.SheetRead.{sheet-read}
use Rattle.back_calculus.specs.Back.{DrivenBy, Gate, tuple, base, products, arrows, back_table, binder_number, applied, gate_term, tuple_term, projections, functions, back_term}
use Rattle.back_theorems.proofs.Typing.{tuple_type, towards, tuple_type-sharable, few, GateIn, products-length, arrows-length, products_old, products-top, arrows_old, arrows_new, tuple-low}
use Rattle.back_theorems.proofs.Making.{size-tuple_type}

-- ---- no type is written again

repeated_snoc : (Θ : Table) (x r : TyRec) → repeated Θ r ≡ false → rec_eq x r ≡ false → repeated (Θ ++ x ∷ []) r ≡ false
repeated_snoc [] x r a b = rw b
repeated_snoc (y ∷ Θ) x r a b = both (rec_eq y r) (repeated Θ r) (repeated (Θ ++ x ∷ []) r) a (λ h. repeated_snoc Θ x r h b)
  where
    both : (p q z : Bool) → p || q ≡ false → (q ≡ false → z ≡ false) → p || z ≡ false
    both true q z e f = e
    both false q z e f = f e

tuple_apart : (q r : ℕ) → q < r → ¬ (tuple q ≡ tuple r)
tuple_apart zero zero h e = omega arith
tuple_apart zero (suc r) h e = omega arith
tuple_apart (suc q) zero h e = omega arith
tuple_apart (suc q) (suc r) h e = omega arith

products_fresh : (q r : ℕ) → q ≤ r → repeated (products q) (rec02 0 (tuple r)) ≡ false
products_fresh zero r h = refl
products_fresh (suc q) r h = repeated_snoc (products q) (rec02 0 (tuple q)) (rec02 0 (tuple r)) (products_fresh q r (omega arith)) (rw (ne_eqb (tuple q) (tuple r) (tuple_apart q r (omega arith))))

products_no_arrow : (q x : ℕ) → 2 ≤ x → repeated (products q) (rec03 0 x) ≡ false
products_no_arrow zero x h = rw (ne_eqb 0 x (λ e. omega arith), ne_eqb 1 x (λ e. omega arith))
products_no_arrow (suc q) x h = repeated_snoc (products q) (rec02 0 (tuple q)) (rec03 0 x) (products_no_arrow q x h) refl

arrows_fresh : (Θ : Table) (t k x : ℕ) → repeated Θ (rec03 0 x) ≡ false → t + k ≤ x → repeated (arrows Θ t k) (rec03 0 x) ≡ false
arrows_fresh Θ t zero x e h = e
arrows_fresh Θ t (suc k) x e h = repeated_snoc (arrows Θ t k) (rec03 0 (t + k)) (rec03 0 x) (arrows_fresh Θ t k x e (omega arith)) (rw (ne_eqb (t + k) x (λ f. omega arith)))

-- ---- the table is one that the reader accepts

size-towards : (k : ℕ) (τ : Ty) → size (towards k τ) ≡ k + size τ
size-towards zero τ = omega arith
size-towards (suc k) τ = omega (arith, size-towards k τ)

base_ok : TableOk base
base_ok =
    grown (rec01 ∷ rec03 0 0 ∷ [])
    (grown (rec01 ∷ []) (grown [] empty-ok rec01 tt tt tt (omega arith) (omega arith)) (rec03 0 0) (omega arith, omega arith) tt tt (omega arith) (omega arith)) (rec03 0 1)
    (omega arith, omega arith) tt tt (omega arith) (omega arith)

products-ok : (q : ℕ) → q ≤ 120 → TableOk (products q)
products-ok zero h = base_ok
products-ok (suc q) h =
    let z : tree (products q) 0 ≡ bit = products_old q 0 (omega arith) in
    let e = products-top q in
    let n = products-length q in
    grown (products q) (products-ok q (omega arith)) (rec02 0 (tuple q)) (omega arith, omega (arith, tuple-low q))
    (and_of (sharable (tree (products q) 0)) _ (rw z tt) (rw e (tuple_type-sharable q))) (false_not _ (products_fresh q q (omega arith))) (rw (z, e) (omega (arith, size-tuple_type q))) (omega arith)

arrows-ok : (q k : ℕ) → q + k ≤ 110 → TableOk (arrows (products (suc q)) (q + 3) k)
arrows-ok q zero h = products-ok (suc q) (omega arith)
arrows-ok q (suc k) h =
    let Θ = products (suc q) in
    let z : tree (arrows Θ (q + 3) k) 0 ≡ bit = arrows_old Θ (q + 3) k 0 (omega (arith, products-length (suc q))) ∙ products_old (suc q) 0 (omega arith) in
    let e : tree (arrows Θ (q + 3) k) (q + 3 + k) ≡ towards k (tuple_type (suc q)) = arrows_new Θ (q + 3) k (tuple_type (suc q)) (omega (arith, products-length (suc q))) (products_old (suc q) 0 (omega arith)) (products-top (suc q)) k (omega arith) in
    let n = arrows-length Θ (q + 3) k in
    let p = products-length (suc q) in
    grown (arrows Θ (q + 3) k) (arrows-ok q k (omega arith)) (rec03 0 (q + 3 + k)) (omega arith, omega arith) (rw z tt)
    (false_not _ (arrows_fresh Θ (q + 3) k (q + 3 + k) (products_no_arrow (suc q) (q + 3 + k) (omega arith)) (omega arith)))
    (rw (z, e) (omega (arith, size-towards k (tuple_type (suc q)), size-tuple_type (suc q)))) (omega arith)

pub table-ok : (q k : ℕ) → q + k ≤ 100 → TableOk (back_table q k)
table-ok zero k h = base_ok
table-ok (suc q) k h = arrows-ok q k (omega arith)

table-long : (q k r j : ℕ) → (q ≡ 0 → k ≤ 2) → r ≤ q → j ≤ k → (3 ≤ length (back_table q k)) × (tuple r < length (back_table q k)) × (tuple q + j < length (back_table q k))
table-long zero k r j z l m = let b = z refl in let e : r ≡ 0 = omega arith in (omega arith, rw e (omega arith), omega arith)
table-long (suc q) k r j z l m = let a = arrows-length (products (suc q)) (q + 3) k in let b = products-length (suc q) in (omega arith, omega (arith, tuple-low r), omega arith)

-- ---- the term: its type numbers

module _ (Θ : Table) (k q : ℕ) (three : 3 ≤ length Θ) where
  applied-ranged : (ss : List DrivenBy) (f : Term) → Ranged first Θ f → Ranged first Θ (applied k q f ss)
  applied-ranged [] f r = r
  applied-ranged (s ∷ ss) f r = applied-ranged ss (app f (var (binder_number k q s))) (r, tt)

  gate_ranged : (g : Gate) → Ranged first Θ (gate_term k q g)
  gate_ranged g = applied-ranged g.ins (con g.part (part_at g.part).inputs) (omega (arith, few g.part))

  tuple-ranged : (gs : List Gate) → length gs ≤ suc q → ((r : ℕ) → r ≤ q → tuple r < length Θ) → Ranged first Θ (tuple_term k q gs)
  tuple-ranged [] l h = tt
  tuple-ranged (g ∷ []) l h = gate_ranged g
  tuple-ranged (g ∷ f ∷ gs) l h = let n : suc (suc (length gs)) ≤ suc q = l in (h (suc (length gs)) (omega arith), gate_ranged g, tuple-ranged (f ∷ gs) (omega arith) h)

projections_ranged : (Θ : Table) (q : ℕ) (e : Term) → Ranged first Θ e → Ranged first Θ (projections q e)
projections_ranged Θ zero e r = r
projections_ranged Θ (suc q) e r = (tt, projections_ranged Θ q e r)

functions_ranged : (Θ : Table) (t k : ℕ) (e : Term) → ((j : ℕ) → j ≤ k → t + j < length Θ) → Ranged first Θ e → Ranged first Θ (functions t k e)
functions_ranged Θ t zero e h r = r
functions_ranged Θ t (suc k) e h r = (h (suc k) (omega arith), functions_ranged Θ t k e (λ j l. h j (omega arith)) r)

-- ---- its depth

applied-depth : (k q : ℕ) (ss : List DrivenBy) (f : Term) (n : ℕ) → depth f ≤ suc n → depth (applied k q f ss) ≤ suc n + length ss
applied-depth k q [] f n h = omega arith
applied-depth k q (s ∷ ss) f n h = omega (arith, applied-depth k q ss (app f (var (binder_number k q s))) (suc n) (omega arith))

gate-depth : (k q : ℕ) (g : Gate) → length g.ins ≡ (part_at g.part).inputs → depth (gate_term k q g) ≤ 3
gate-depth k q g e = omega (arith, applied-depth k q g.ins (con g.part (part_at g.part).inputs) 0 (omega arith), few g.part)

tuple-depth : (k q c : ℕ) (gs : List Gate) → All (GateIn k c) gs → depth (tuple_term k q gs) ≤ length gs + 2
tuple-depth k q c [] o = omega arith
tuple-depth k q c (g ∷ []) o = omega (arith, gate-depth k q g o.0.whole)
tuple-depth k q c (g ∷ f ∷ gs) o = omega (arith, gate-depth k q g o.0.whole, tuple-depth k q c (f ∷ gs) o.1)

projections-depth : (q : ℕ) (e : Term) (n : ℕ) → depth e ≤ suc n → depth (projections q e) ≤ q + suc n
projections-depth zero e n h = omega arith
projections-depth (suc q) e n h = omega (arith, projections-depth q e n h)

functions-depth : (t k : ℕ) (e : Term) → depth (functions t k e) ≡ k + depth e
functions-depth t zero e = omega arith
functions-depth t (suc k) e = omega (arith, functions-depth t k e)

-- ---- its nodes

nodes-applied : (k q : ℕ) (ss : List DrivenBy) (f : Term) → nodes (applied k q f ss) ≡ nodes f + 2 * length ss
nodes-applied k q [] f = omega arith
nodes-applied k q (s ∷ ss) f = omega (arith, nodes-applied k q ss (app f (var (binder_number k q s))))

nodes-tuple : (k q c : ℕ) (gs : List Gate) → All (GateIn k c) gs → nodes (tuple_term k q gs) ≤ 1 + 6 * length gs
nodes-tuple k q c [] o = omega arith
nodes-tuple k q c (g ∷ []) o = omega (arith, nodes-applied k q g.ins (con g.part (part_at g.part).inputs), o.0.whole, few g.part)
nodes-tuple k q c (g ∷ f ∷ gs) o = omega (arith, nodes-applied k q g.ins (con g.part (part_at g.part).inputs), o.0.whole, few g.part, nodes-tuple k q c (f ∷ gs) o.1)

nodes-projections : (q : ℕ) (e : Term) → nodes (projections q e) ≡ 2 * q + nodes e
nodes-projections zero e = omega arith
nodes-projections (suc q) e = omega (arith, nodes-projections q e)

nodes-functions : (t k : ℕ) (e : Term) → nodes (functions t k e) ≡ k + nodes e
nodes-functions t zero e = omega arith
nodes-functions t (suc k) e = omega (arith, nodes-functions t k e)

-- 1 to 16 parts and at most 24 undriven inputs
pub back_read : (k : ℕ) (g : Gate) (gs : List Gate) → All (GateIn k (length gs)) (g ∷ gs) → (length gs ≡ 0 → k ≤ 2) → length gs ≤ 15 → k ≤ 24
    → read_sheet (sheet_bytes first (back_table (length gs) k) (back_term (length gs) k (g ∷ gs))) ≡ good (record { edition = first; table = back_table (length gs) k; term = back_term (length gs) k (g ∷ gs) })
back_read k g gs o z l m =
    let q = length gs in
    let Θ = back_table q k in
    let e = tuple_term k q (g ∷ gs) in
    let x = back_term q k (g ∷ gs) in
    let b = fix (tuple q) (projections q e) in
    sheet-read first Θ x (table-ok q k (omega arith))
    (functions_ranged Θ (tuple q) k b (λ j b. (table-long q k 0 j z (omega arith) b).2)
    ((table-long q k q 0 z (omega arith) (omega arith)).1, projections_ranged Θ q e (tuple-ranged Θ k q (table-long q k 0 0 z (omega arith) (omega arith)).0 (g ∷ gs) (omega arith) (λ r b. (table-long q k r 0 z b (omega arith)).1))))
    (omega (arith, functions-depth (tuple q) k b, projections-depth q e (q + 2) (omega (arith, tuple-depth k q q (g ∷ gs) o)))) (omega (arith, nodes-functions (tuple q) k b, nodes-projections q e, nodes-tuple k q q (g ∷ gs) o))

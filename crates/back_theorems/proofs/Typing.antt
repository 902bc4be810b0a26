-- The sheet that is written for a netlist has a derivation (document 02, L11). Assumes nothing.
use Prim.Native.Nat.{ℕ, zero, suc, ◌+◌, ◌-◌, ◌*◌, ◌<◌, ◌≤◌}
use mathlib.Core.Path.{◌≡◌, refl, sym, ap, ap₂, subst, ◌∙◌}
use mathlib.Core.Logic.{⊎_elim}
use mathlib.Core.List.{List, [], ◌∷◌}
use native.Mathlib.Omega.{arith}
use native.Mathlib.Nat.{eq-or-lt_of_le, add-zero}
use lib.Dec.{T}
use lib.ListN.{length, length-append}
use Rattle.calculus.specs.Types.{Ty, bit, prod, arrow, sharable, rec02, rec03, Table, tree}
use Rattle.calculus.specs.Terms.{first, Term, var, app, con, part_at}
use Rattle.calculus.specs.Rules.{many, once, away, Ctx, NoLinear, none_end, none_many, InΓ, in_here, in_many, Split, split_end, split_many, Typed, Var, →I, →E, ×I, ×E, Fix, Con}
use Rattle.calculus.specs.Record.{All}
use Rattle.back_calculus.specs.Back.{DrivenBy, undriven, output, Gate, tuple, base, products, arrows, back_table, binder_number, applied, gate_term, tuple_term, projections, functions, back_term}
use Rattle.sheet_theorems.proofs.Tables.{tree_new}
use Rattle.sheet_theorems.proofs.TableRead.{tree_prefix}
use Rattle.circuit_theorems.proofs.Counts.{part-inputs}

-- q + 1 tuple_type as pairs nested to the right, and k arrows from a bit
abbrev pub tuple_type : ℕ → Ty
tuple_type zero = bit
tuple_type (suc q) = prod bit (tuple_type q)

abbrev pub towards : ℕ → Ty → Ty
towards zero τ = τ
towards (suc k) τ = arrow bit (towards k τ)

pub tuple_type-sharable : (q : ℕ) → T (sharable (tuple_type q))
tuple_type-sharable zero = tt
tuple_type-sharable (suc q) = tuple_type-sharable q

-- ---- the table

pub products-length : (q : ℕ) → length (products q) ≡ q + 3
products-length zero = refl
products-length (suc q) = omega (arith, length-append (products q) (rec02 0 (tuple q) ∷ []), products-length q)

pub arrows-length : (Θ : Table) (t k : ℕ) → length (arrows Θ t k) ≡ length Θ + k
arrows-length Θ t zero = omega arith
arrows-length Θ t (suc k) = omega (arith, length-append (arrows Θ t k) (rec03 0 (t + k) ∷ []), arrows-length Θ t k)

pub arrows_old : (Θ : Table) (t k n : ℕ) → n < length Θ → tree (arrows Θ t k) n ≡ tree Θ n
arrows_old Θ t zero n h = refl
arrows_old Θ t (suc k) n h = tree_prefix (arrows Θ t k) (rec03 0 (t + k) ∷ []) n (omega (arith, arrows-length Θ t k)) ∙ arrows_old Θ t k n h

pub products_old : (q n : ℕ) → n < 3 → tree (products q) n ≡ tree base n
products_old zero n h = refl
products_old (suc q) n h = tree_prefix (products q) (rec02 0 (tuple q) ∷ []) n (omega (arith, products-length q)) ∙ products_old q n h

pub tuple-low : (q : ℕ) → tuple q < q + 3
tuple-low zero = omega arith
tuple-low (suc q) = omega arith

products_new : (q : ℕ) → tree (products (suc q)) (q + 3) ≡ prod (tree (products q) 0) (tree (products q) (tuple q))
products_new q = subst (λ (n : ℕ). tree (products (suc q)) n ≡ prod (tree (products q) 0) (tree (products q) (tuple q))) (products-length q) (tree_new (products q) (rec02 0 (tuple q)))

pub products-top : (q : ℕ) → tree (products q) (tuple q) ≡ tuple_type q
products-top zero = refl
products-top (suc q) = products_new q ∙ ap₂ prod (products_old q 0 (omega arith)) (products-top q)

products-tuple : (q r : ℕ) → r ≤ q → tree (products q) (tuple r) ≡ tuple_type r
products-tuple zero r h = let e : r ≡ 0 = omega arith in rw e
products-tuple (suc q) r h =
    ⊎_elim
    (λ (e : r ≡ suc q). subst (λ (x : ℕ). tree (products (suc q)) (tuple x) ≡ tuple_type x) (sym e) (products-top (suc q)))
    (λ l. tree_prefix (products q) (rec02 0 (tuple q) ∷ []) (tuple r) (omega (arith, products-length q, tuple-low r)) ∙ products-tuple q r (omega arith))
    (eq-or-lt_of_le h)

pub arrows_new : (Θ : Table) (t k : ℕ) (τ : Ty) → suc t ≡ length Θ → tree Θ 0 ≡ bit → tree Θ t ≡ τ → (j : ℕ) → j ≤ k → tree (arrows Θ t k) (t + j) ≡ towards j τ
arrows_new Θ t zero τ l z e j h = let f : j ≡ 0 = omega arith in rw (f, add-zero t) e
arrows_new Θ t (suc k) τ l z e j h =
    ⊎_elim
    (λ (f : j ≡ suc k). subst (λ (x : ℕ). tree (arrows Θ t (suc k)) (t + x) ≡ towards x τ) (sym f)
    (subst (λ (n : ℕ). tree (arrows Θ t (suc k)) n ≡ arrow bit (towards k τ)) (let q : length (arrows Θ t k) ≡ t + suc k = omega (arith, arrows-length Θ t k) in q)
    (tree_new (arrows Θ t k) (rec03 0 (t + k)) ∙ ap₂ arrow (arrows_old Θ t k 0 (omega arith) ∙ z) (arrows_new Θ t k τ l z e k (omega arith)))))
    (λ g. tree_prefix (arrows Θ t k) (rec03 0 (t + k) ∷ []) (t + j) (omega (arith, arrows-length Θ t k)) ∙ arrows_new Θ t k τ l z e j (omega arith))
    (eq-or-lt_of_le h)

-- what the table holds
pub record HoldsTypes (Θ : Table) (q k : ℕ) : Type 0 where
  pub low : (n : ℕ) → n < 3 → tree Θ n ≡ towards n bit
  pub tuples : (r : ℕ) → r ≤ q → tree Θ (tuple r) ≡ tuple_type r
  pub chain : (j : ℕ) → j ≤ k → tree Θ (tuple q + j) ≡ towards j (tuple_type q)

pub base-low : (n : ℕ) → n < 3 → tree base n ≡ towards n bit
base-low zero h = refl
base-low (suc zero) h = refl
base-low (suc (suc zero)) h = refl
base-low (suc (suc (suc n))) h = absurd (omega arith)

-- one part has at most two undriven inputs
pub holds : (q k : ℕ) → (q ≡ 0 → k ≤ 2) → HoldsTypes (back_table q k) q k
holds zero k h = record {
  low = base-low;
  tuples = λ r l. let e : r ≡ 0 = omega arith in rw e;
  chain = λ j l. let b = h refl in let e : 0 + j ≡ j = omega arith in rw e (base-low j (omega arith));
}
holds (suc q) k h = record {
  low = λ n l. arrows_old (products (suc q)) (q + 3) k n (omega (arith, products-length (suc q))) ∙ products_old (suc q) n l ∙ base-low n l;
  tuples = λ r l. arrows_old (products (suc q)) (q + 3) k (tuple r) (omega (arith, products-length (suc q), tuple-low r)) ∙ products-tuple (suc q) r l;
  chain = arrows_new (products (suc q)) (q + 3) k (tuple_type (suc q)) (omega (arith, products-length (suc q))) (products_old (suc q) 0 (omega arith)) (products-tuple (suc q) (suc q) (omega arith));
}

-- ---- contexts without linear binders

abbrev pub Shared : Ctx → Type 0
Shared [] = Unit {0}
Shared (many θ ∷ Γ) = Shared Γ
Shared (once κ ∷ Γ) = ⊥
Shared (away ∷ Γ) = ⊥

none_of : (Γ : Ctx) → Shared Γ → NoLinear Γ
none_of [] s = none_end
none_of (many θ ∷ Γ) s = none_many (none_of Γ s)
none_of (once κ ∷ Γ) s = absurd s
none_of (away ∷ Γ) s = absurd s

twice : (Γ : Ctx) → Shared Γ → Split Γ Γ Γ
twice [] s = split_end
twice (many θ ∷ Γ) s = split_many (twice Γ s)
twice (once κ ∷ Γ) s = absurd s
twice (away ∷ Γ) s = absurd s

-- behind q projections of a variable of q + 1 tuple_type
abbrev pub under_projections : ℕ → Ctx → Ctx
under_projections zero Γ = many bit ∷ Γ
under_projections (suc q) Γ = under_projections q (many bit ∷ many (tuple_type (suc q)) ∷ Γ)

under_projections_shared : (q : ℕ) (Γ : Ctx) → Shared Γ → Shared (under_projections q Γ)
under_projections_shared zero Γ s = s
under_projections_shared (suc q) Γ s = under_projections_shared q (many bit ∷ many (tuple_type (suc q)) ∷ Γ) s

at : {Γ : Ctx} {i : ℕ} {θ : Ty} (j : ℕ) → i ≡ j → InΓ Γ i θ → InΓ Γ j θ
at {Γ} {θ = θ} j e x = subst (λ (n : ℕ). InΓ Γ n θ) e x

deep : (q : ℕ) (Γ : Ctx) (i : ℕ) (θ : Ty) → InΓ Γ i θ → InΓ (under_projections q Γ) (i + 2 * q + 1) θ
deep zero Γ i θ x = at (i + 2 * 0 + 1) (omega arith) (in_many x)
deep (suc q) Γ i θ x = at (i + 2 * suc q + 1) (omega arith) (deep q (many bit ∷ many (tuple_type (suc q)) ∷ Γ) (suc (suc i)) θ (in_many (in_many x)))

last : (q : ℕ) (Γ : Ctx) → Shared Γ → InΓ (under_projections q Γ) 0 bit
last zero Γ s = in_here (none_of Γ s)
last (suc q) Γ s = last q (many bit ∷ many (tuple_type (suc q)) ∷ Γ) s

named : (q r : ℕ) (Γ : Ctx) → Shared Γ → r ≤ q → InΓ (under_projections q Γ) (2 * (q - r) - 1) bit
named zero r Γ s h = at (2 * (0 - r) - 1) (omega arith) (last zero Γ s)
named (suc q) zero Γ s h = at (2 * (suc q - 0) - 1) (omega arith) (deep q (many bit ∷ many (tuple_type (suc q)) ∷ Γ) 0 bit (in_here (none_many (none_of Γ s))))
named (suc q) (suc r) Γ s h = at (2 * (suc q - suc r) - 1) (omega arith) (named q r (many bit ∷ many (tuple_type (suc q)) ∷ Γ) s (omega arith))

-- behind k functions
abbrev pub under_functions : ℕ → Ctx → Ctx
under_functions zero Γ = Γ
under_functions (suc k) Γ = under_functions k (many bit ∷ Γ)

under_functions_shared : (k : ℕ) (Γ : Ctx) → Shared Γ → Shared (under_functions k Γ)
under_functions_shared zero Γ s = s
under_functions_shared (suc k) Γ s = under_functions_shared k (many bit ∷ Γ) s

past : (k : ℕ) (Γ : Ctx) (i : ℕ) (θ : Ty) → InΓ Γ i θ → InΓ (under_functions k Γ) (i + k) θ
past zero Γ i θ x = at (i + 0) (omega arith) x
past (suc k) Γ i θ x = at (i + suc k) (omega arith) (past k (many bit ∷ Γ) (suc i) θ (in_many x))

open_at : (k j : ℕ) (Γ : Ctx) → Shared Γ → j < k → InΓ (under_functions k Γ) (k - 1 - j) bit
open_at zero j Γ s h = absurd (omega arith)
open_at (suc k) zero Γ s h = at (suc k - 1 - 0) (omega arith) (past k (many bit ∷ Γ) 0 bit (in_here (none_of Γ s)))
open_at (suc k) (suc j) Γ s h = at (suc k - 1 - suc j) (omega arith) (open_at k j (many bit ∷ Γ) s (omega arith))

-- ---- the gates of a netlist with q + 1 parts and k undriven inputs

abbrev pub SourceIn : ℕ → ℕ → DrivenBy → Type 0
SourceIn k q (undriven j) = j < k
SourceIn k q (output r) = r ≤ q

pub record GateIn (k q : ℕ) (g : Gate) : Type 0 where
  pub known : g.part < 7
  pub whole : length g.ins ≡ (part_at g.part).inputs
  pub from : All (SourceIn k q) g.ins

pub part_type_lem : (p : ℕ) → (part_at p).type first ≡ towards (part_at p).inputs bit
part_type_lem zero = refl
part_type_lem (suc zero) = refl
part_type_lem (suc (suc zero)) = refl
part_type_lem (suc (suc (suc zero))) = refl
part_type_lem (suc (suc (suc (suc zero)))) = refl
part_type_lem (suc (suc (suc (suc (suc zero))))) = refl
part_type_lem (suc (suc (suc (suc (suc (suc zero)))))) = refl
part_type_lem (suc (suc (suc (suc (suc (suc (suc p))))))) = refl

pub few : (p : ℕ) → (part_at p).inputs < 3
few p = omega (arith, part-inputs p)

module _ (Θ : Table) (q k : ℕ) (h : HoldsTypes Θ q k) where
  abbrev inner : Ctx
  inner = under_projections q (under_functions k [])

  inner-shared : Shared (under_projections q (under_functions k []))
  inner-shared = under_projections_shared q (under_functions k []) (under_functions_shared k [] tt)

  source-typed : (s : DrivenBy) → SourceIn k q s → Typed first Θ inner (var (binder_number k q s)) bit
  source-typed (undriven j) l = Var (at (k + 2 * q - j) (omega arith) (deep q (under_functions k []) (k - 1 - j) bit (open_at k j [] tt l)))
  source-typed (output r) l = Var (named q r (under_functions k []) (under_functions_shared k [] tt) l)

  applied-typed : (ss : List DrivenBy) (f : Term) → All (SourceIn k q) ss → Typed first Θ inner f (towards (length ss) bit) → Typed first Θ inner (applied k q f ss) bit
  applied-typed [] f a d = d
  applied-typed (s ∷ ss) f a d = applied-typed ss (app f (var (binder_number k q s))) a.1 (→E (twice inner inner-shared) tt d (source-typed s a.0))

  gate-typed : (g : Gate) → GateIn k q g → Typed first Θ inner (gate_term k q g) bit
  gate-typed g o =
      applied-typed g.ins (con g.part (part_at g.part).inputs) o.from
      (subst (λ (τ : Ty). Typed first Θ inner (con g.part (part_at g.part).inputs) τ) (part_type_lem g.part ∙ ap (λ (n : ℕ). towards n bit) (sym o.whole))
      (Con o.known (h.low (part_at g.part).inputs (few g.part) ∙ sym (part_type_lem g.part)) (none_of inner inner-shared)))

  tuple-typed : (g : Gate) (gs : List Gate) → All (GateIn k q) (g ∷ gs) → length gs ≤ q → Typed first Θ inner (tuple_term k q (g ∷ gs)) (tuple_type (length gs))
  tuple-typed g [] o l = gate-typed g o.0
  tuple-typed g (f ∷ gs) o l = ×I (twice inner inner-shared) (h.tuples (suc (length gs)) l) tt (tuple_type-sharable (length gs)) (gate-typed g o.0) (tuple-typed f gs o.1 (let m : suc (length gs) ≤ q = l in omega arith))

  functions-typed : (j : ℕ) (Γ : Ctx) (e : Term) → j ≤ k → Typed first Θ (under_functions j Γ) e (tuple_type q) → Typed first Θ Γ (functions (tuple q) j e) (towards j (tuple_type q))
  functions-typed zero Γ e l d = d
  functions-typed (suc j) Γ e l d = →I (h.chain (suc j) l) tt (functions-typed j (many bit ∷ Γ) e (omega arith) d)

projections_typed : {Θ : Table} (q : ℕ) (Γ : Ctx) (e : Term) (τ : Ty) → Shared Γ → Typed first Θ (under_projections q Γ) e τ → Typed first Θ (many (tuple_type q) ∷ Γ) (projections q e) τ
projections_typed zero Γ e τ s d = d
projections_typed (suc q) Γ e τ s d = ×E (split_many (twice Γ s)) tt (tuple_type-sharable q) (Var (in_here (none_of Γ s))) (projections_typed q (many bit ∷ many (tuple_type (suc q)) ∷ Γ) e τ s d)

-- the written term has its type: arrows from the undriven inputs to all part outputs
pub back_typed : (k : ℕ) (g : Gate) (gs : List Gate) → All (GateIn k (length gs)) (g ∷ gs) → (length gs ≡ 0 → k ≤ 2)
    → Typed first (back_table (length gs) k) [] (back_term (length gs) k (g ∷ gs)) (towards k (tuple_type (length gs)))
back_typed k g gs o z =
    let q = length gs in
    let h = holds q k z in
    functions-typed (back_table q k) q k h k [] _ (omega arith)
    (Fix (h.tuples q (omega arith)) (tuple_type-sharable q) (projections_typed q (under_functions k []) _ (tuple_type q) (under_functions_shared k [] tt) (tuple-typed (back_table q k) q k h g gs o (omega arith))))

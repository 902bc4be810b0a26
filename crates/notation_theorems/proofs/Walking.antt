-- The typing walk of a made sheet refuses by 12, 13 and 14 alone: 10, 11 and 15 never come. Assumes nothing.
use Prim.Native.Nat.{ℕ, zero, suc, ◌+◌}
use mathlib.Core.Path.{◌≡◌, refl, sym, ap, subst}
use mathlib.Core.Bool.{Bool, true, false, not}
use mathlib.Core.List.{List, [], ◌∷◌}
use lib.Dec.{T, eqb, ltb, lt→ltb}
use lib.ListN.{length}
use Rattle.calculus.specs.Answer.{Answer, good, refused, Refusal, ◌>>=◌, require}
use Rattle.calculus.specs.Record.{Among, here, there}
use Rattle.calculus.specs.Types.{sharable, ty_eq, TyRec, rec01, rec02, rec03, rec04, Table, rec_at, tree}
use Rattle.calculus.specs.Terms.{Edition, Term, var, lvar, fun, app, lfun, lapp, pair, proj, fix, con, name, nodes, parts, part_at}
use Rattle.calculus.specs.Walk.{Binder, shared, linear, Stack, product, sharable_arrow, linear_arrow, Found, use_shared, use_linear, under, top_used, walk}
use Rattle.laws.proofs.Tests.{T-is, not_true, false_not_T}
use Rattle.sheet_theorems.proofs.WalkKeeps.{StackKept, kept_end, kept_shared, kept_same, kept_took, walk_keeps}
use Rattle.notation_calculus.specs.Make.{Placed, make}
use Rattle.notation_calculus.specs.Means.{full}
use Rattle.notation_theorems.specs.Counted.{Spelt}
use Rattle.notation_theorems.specs.Refusing.{Only}
use Rattle.notation_theorems.specs.Sorted.{SortAt, Sorted, sorts_on}
use Rattle.notation_theorems.specs.Worded.{IsPart}
use Rattle.notation_theorems.proofs.TermsMean.{make_means}
use Rattle.notation_theorems.proofs.Reading.{of_bytes}
use Rattle.notation_theorems.proofs.Sorting.{means_sorted}
use Rattle.notation_theorems.proofs.Wording.{make-parts}

pub only_is : {A B : Type 0} (R : ℕ → Type 0) (m : Answer A) (f : A → Answer B) → Only R m → ((a : A) → m ≡ good a → Only R (f a)) → Only R (m >>= f)
only_is R (good a) f h k = k a refl
only_is R (refused why) f h k = h

pub only_require : {B : Type 0} (R : ℕ → Type 0) (t : Bool) (why : Refusal) (f : Unit {0} → Answer B) → (T (not t) → R why.number) → (T t → Only R (f tt)) → Only R (require t why >>= f)
only_require R true why f h k = k tt
only_require R false why f h k = h tt

no_is_yes : false ≡ true → ⊥
no_is_yes e = subst (λ (b : Bool). T (not b)) e tt

kept_sorts : {st st' : Stack} → StackKept st st' → sorts_on st' ≡ sorts_on st
kept_sorts kept_end = refl
kept_sorts (kept_shared k) = ap (λ (bs : List Bool). true ∷ bs) (kept_sorts k)
kept_sorts (kept_same k) = ap (λ (bs : List Bool). false ∷ bs) (kept_sorts k)
kept_sorts (kept_took k) = ap (λ (bs : List Bool). false ∷ bs) (kept_sorts k)

-- R holds of 12 to 14, and of 15 where a part that K holds of is unknown
module _ (R K : ℕ → Type 0) (r12 : R 12) (r13 : R 13) (r14 : R 14) (r15 : (p : ℕ) → K p → T (not (ltb p (length parts))) → R 15) where
  under-only : (b : Binder) (m : Answer Found) → Only R m → Only R (under b m)
  under-only b (good r) h = tt
  under-only b (refused why) h = h

  shared-only : (st : Stack) (i n : ℕ) → SortAt (sorts_on st) i true → Only R (use_shared st i n)
  shared-only [] i n h = absurd h
  shared-only (shared t ∷ st) zero n h = tt
  shared-only (linear t u ∷ st) zero n h = absurd (no_is_yes h)
  shared-only (shared t ∷ st) (suc i) n h = under-only (shared t) (use_shared st i n) (shared-only st i n h)
  shared-only (linear t u ∷ st) (suc i) n h = under-only (linear t u) (use_shared st i n) (shared-only st i n h)

  linear-only : (st : Stack) (i n : ℕ) → SortAt (sorts_on st) i false → Only R (use_linear st i n)
  linear-only [] i n h = absurd h
  linear-only (shared t ∷ st) zero n h = absurd (no_is_yes (sym h))
  linear-only (linear t false ∷ st) zero n h = tt
  linear-only (linear t true ∷ st) zero n h = r13
  linear-only (shared t ∷ st) (suc i) n h = under-only (shared t) (use_linear st i n) (linear-only st i n h)
  linear-only (linear t u ∷ st) (suc i) n h = under-only (linear t u) (use_linear st i n) (linear-only st i n h)

  product-only : (r : TyRec) (t n : ℕ) → Only R (product r t n)
  product-only rec01 t n = r12
  product-only (rec02 a b) t n = tt
  product-only (rec03 a b) t n = r12
  product-only (rec04 a b) t n = r12

  arrow-only : (r : TyRec) (t n : ℕ) → Only R (sharable_arrow r t n)
  arrow-only rec01 t n = r12
  arrow-only (rec02 a b) t n = r12
  arrow-only (rec03 a b) t n = tt
  arrow-only (rec04 a b) t n = r12

  lolli-only : (r : TyRec) (t n : ℕ) → Only R (linear_arrow r t n)
  lolli-only rec01 t n = r12
  lolli-only (rec02 a b) t n = r12
  lolli-only (rec03 a b) t n = r12
  lolli-only (rec04 a b) t n = tt

  module _ (E : Edition) (Θ : Table) where
    -- a later subterm is walked under binders of the same sorts
    after : (G : List Bool → Type 0) (f : Term) (n : ℕ) (st : Stack) (x : Found) → walk E Θ f n st ≡ good x → G (sorts_on st) → G (sorts_on x.stack)
    after G f n st x h = subst G (sym (kept_sorts (walk_keeps E Θ f n st x h)))

    walk-only : (e : Term) (n : ℕ) (st : Stack) → Sorted (sorts_on st) (full Θ e) → Spelt K E e → Only R (walk E Θ e n st)
    walk-only (var i) n st s k = shared-only st i n s
    walk-only (lvar i) n st s k = linear-only st i n s
    walk-only (fun t e) n st s k =
        only_is R (sharable_arrow (rec_at Θ t) t n) _ (arrow-only (rec_at Θ t) t n) λ τ _.
        only_is R (walk E Θ e (n + 1) (shared τ.left ∷ st)) _ (walk-only e (n + 1) (shared τ.left ∷ st) s k) λ r _.
        only_require R (eqb r.type τ.right) _ _ (λ _. r12) λ _. tt
    walk-only (app f a) n st s k =
        only_is R (walk E Θ f (n + 1) st) _ (walk-only f (n + 1) st s.0 k.0) λ x h.
        only_is R (walk E Θ a (n + 1 + nodes f) x.stack) _ (walk-only a (n + 1 + nodes f) x.stack (after (λ (bs : List Bool). Sorted bs (full Θ a)) f (n + 1) st x h s.1) k.1) λ y _.
        only_is R (sharable_arrow (rec_at Θ x.type) x.type n) _ (arrow-only (rec_at Θ x.type) x.type n) λ τ _.
        only_require R (eqb y.type τ.left) _ _ (λ _. r12) λ _. tt
    walk-only (lfun t e) n st s k =
        only_is R (linear_arrow (rec_at Θ t) t n) _ (lolli-only (rec_at Θ t) t n) λ τ _.
        only_is R (walk E Θ e (n + 1) (linear τ.left false ∷ st)) _ (walk-only e (n + 1) (linear τ.left false ∷ st) s k) λ r _.
        only_require R (top_used r.stack) _ _ (λ _. r14) λ _.
        only_require R (eqb r.type τ.right) _ _ (λ _. r12) λ _. tt
    walk-only (lapp f a) n st s k =
        only_is R (walk E Θ f (n + 1) st) _ (walk-only f (n + 1) st s.0 k.0) λ x h.
        only_is R (walk E Θ a (n + 1 + nodes f) x.stack) _ (walk-only a (n + 1 + nodes f) x.stack (after (λ (bs : List Bool). Sorted bs (full Θ a)) f (n + 1) st x h s.1) k.1) λ y _.
        only_is R (linear_arrow (rec_at Θ x.type) x.type n) _ (lolli-only (rec_at Θ x.type) x.type n) λ τ _.
        only_require R (eqb y.type τ.left) _ _ (λ _. r12) λ _. tt
    walk-only (pair t a b) n st s k =
        only_is R (product (rec_at Θ t) t n) _ (product-only (rec_at Θ t) t n) λ τ _.
        only_is R (walk E Θ a (n + 1) st) _ (walk-only a (n + 1) st s.0 k.0) λ x h.
        only_is R (walk E Θ b (n + 1 + nodes a) x.stack) _ (walk-only b (n + 1 + nodes a) x.stack (after (λ (bs : List Bool). Sorted bs (full Θ b)) a (n + 1) st x h s.1) k.1) λ y _.
        only_require R (eqb x.type τ.left) _ _ (λ _. r12) λ _.
        only_require R (eqb y.type τ.right) _ _ (λ _. r12) λ _. tt
    walk-only (proj a e) n st s k =
        only_is R (walk E Θ a (n + 1) st) _ (walk-only a (n + 1) st s.0 k.0) λ x h.
        only_is R (product (rec_at Θ x.type) x.type n) _ (product-only (rec_at Θ x.type) x.type n) λ τ _.
        only_is R (walk E Θ e (n + 1 + nodes a) (shared τ.right ∷ shared τ.left ∷ x.stack)) _ (walk-only e (n + 1 + nodes a) (shared τ.right ∷ shared τ.left ∷ x.stack) (after (λ (bs : List Bool). Sorted (true ∷ true ∷ bs) (full Θ e)) a (n + 1) st x h s.1) k.1) λ y _. tt
    walk-only (fix t e) n st s k =
        only_require R (sharable (tree Θ t)) _ _ (λ _. r12) λ h.
        only_is R (walk E Θ e (n + 1) (shared t ∷ st)) _ (walk-only e (n + 1) (shared t ∷ st) (subst (λ (b : Bool). Sorted (b ∷ sorts_on st) (full Θ e)) (T-is (sharable (tree Θ t)) h) s) k) λ r _.
        only_require R (eqb r.type t) _ _ (λ _. r12) λ _. tt
    walk-only (con p t) n st s k =
        only_require R (ltb p (length parts)) _ _ (r15 p k) λ _.
        only_require R (ty_eq (tree Θ t) ((part_at p).type E)) _ _ (λ _. r12) λ _. tt
    walk-only (name a e) n st s k =
        only_is R (walk E Θ a (n + 1) st) _ (walk-only a (n + 1) st s.0 k.1) λ x h.
        only_require R (sharable (tree Θ x.type)) _ _ (λ _. r12) λ _.
        only_is R (walk E Θ e (n + 1 + nodes a) (shared x.type ∷ x.stack)) _ (walk-only e (n + 1 + nodes a) (shared x.type ∷ x.stack) (after (λ (bs : List Bool). Sorted (true ∷ bs) (full Θ e)) a (n + 1) st x h s.1) k.2) λ y _. tt

not_unknown : (p : ℕ) → IsPart p → T (not (ltb p (length parts))) → ⊥
not_unknown p h t = false_not_T (ltb p (length parts)) (not_true (ltb p (length parts)) t) (lt→ltb p (length parts) h)

-- every variable of a made sheet is in scope, under a binder of its sort, and every part is known
pub walk-made : (R : ℕ → Type 0) → R 12 → R 13 → R 14 → (text : List ℕ) (p : Placed) → make text ≡ good p → Only R (walk p.sheet.edition p.sheet.table p.sheet.term 0 [])
walk-made R r12 r13 r14 text p e = of_bytes (λ (q : Placed). Only R (walk q.sheet.edition q.sheet.table q.sheet.term 0 [])) text p e λ X says f.
    walk-only R IsPart r12 r13 r14 (λ q k t. absurd (not_unknown q k t)) p.sheet.edition p.sheet.table p.sheet.term 0 [] (means_sorted X (full p.sheet.table p.sheet.term) (make_means X p f)) (make-parts text p e)

-- the walk refuses a made sheet by 12, 13 and 14 alone
pub make_walks : (text : List ℕ) (p : Placed) → make text ≡ good p → Only (λ (n : ℕ). Among n (12 ∷ 13 ∷ 14 ∷ [])) (walk p.sheet.edition p.sheet.table p.sheet.term 0 [])
make_walks text p e = walk-made (λ (n : ℕ). Among n (12 ∷ 13 ∷ 14 ∷ [])) here (there here) (there (there here)) text p e

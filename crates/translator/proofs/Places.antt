-- The numbers of the refusals that every call begins with, 2 to 16, and where each stands: 10 to 15 at a node of the term; which of them
-- names types. Assumes nothing.
use Prim.Native.Nat.{ℕ, zero, suc, ◌+◌, ◌≤◌, ◌<◌}
use mathlib.Core.Path.{◌≡◌, refl}
use mathlib.Core.Logic.{⊎_elim}
use mathlib.Core.Bool.{true, false}
use mathlib.Core.List.{List, [], ◌∷◌}
use native.Mathlib.Omega.{arith}
use native.Mathlib.Decide.{ℕ_discrete}
use native.Mathlib.Nat.{le_refl}
use lib.Dec.{leb, ltb, eqb}
use lib.ListN.{length}
use Rattle.calculus.specs.Answer.{Refusal, Answer, good, refused, numbered}
use Rattle.calculus.specs.Types.{sharable, ty_eq, TyRec, rec01, rec02, rec03, rec04, Table, rec_at, tree}
use Rattle.calculus.specs.Terms.{Edition, Term, var, lvar, fun, app, lfun, lapp, pair, proj, fix, con, name, nodes, parts, part_at}
use Rattle.calculus.specs.Read.{Sheet, read_sheet}
use Rattle.calculus.specs.Walk.{Binder, shared, linear, Stack, product, sharable_arrow, linear_arrow, Found, under, use_shared, use_linear, top_used, walk}
use Rattle.calculus.specs.Net.{make}
use Rattle.calculus.specs.Translate.{full}
use Rattle.sheet_theorems.specs.Clash.{Clash}
use Rattle.sheet_theorems.proofs.Laying.{laid}
use Rattle.sheet_theorems.proofs.Judging.{Judged, value, refusal, Any, of_bind, of_require, weaker}
use Rattle.sheet_theorems.proofs.Places.{read-places}
use Rattle.sheet_theorems.proofs.Clashing.{walk_tells}

-- ---- the walk

-- a refusal at a node from lo on, below hi
abbrev pub NodePlace : ℕ → ℕ → Refusal → Type 0
NodePlace lo hi why = (10 ≤ why.number) × (why.number ≤ 15) × (lo ≤ why.place) × (why.place < hi)

module _ (lo hi : ℕ) where
  misfit : (n : ℕ) → lo ≤ n → n < hi → NodePlace lo hi (numbered 12 n)
  misfit n a b = (omega arith, omega arith, a, b)

  product-places : (q : TyRec) (t n : ℕ) → lo ≤ n → n < hi → Judged (NodePlace lo hi) Any (product q t n)
  product-places rec01 t n a b = refusal (misfit n a b)
  product-places (rec02 x y) t n a b = value tt
  product-places (rec03 x y) t n a b = refusal (misfit n a b)
  product-places (rec04 x y) t n a b = refusal (misfit n a b)

  sharable-places : (q : TyRec) (t n : ℕ) → lo ≤ n → n < hi → Judged (NodePlace lo hi) Any (sharable_arrow q t n)
  sharable-places rec01 t n a b = refusal (misfit n a b)
  sharable-places (rec02 x y) t n a b = refusal (misfit n a b)
  sharable-places (rec03 x y) t n a b = value tt
  sharable-places (rec04 x y) t n a b = refusal (misfit n a b)

  linear-places : (q : TyRec) (t n : ℕ) → lo ≤ n → n < hi → Judged (NodePlace lo hi) Any (linear_arrow q t n)
  linear-places rec01 t n a b = refusal (misfit n a b)
  linear-places (rec02 x y) t n a b = refusal (misfit n a b)
  linear-places (rec03 x y) t n a b = refusal (misfit n a b)
  linear-places (rec04 x y) t n a b = value tt

  under-places : (b : Binder) (a : Answer Found) → Judged (NodePlace lo hi) Any a → Judged (NodePlace lo hi) Any (under b a)
  under-places b (good r) h = value tt
  under-places b (refused why) (refusal h) = refusal h

  shared-places : (st : Stack) (i n : ℕ) → lo ≤ n → n < hi → Judged (NodePlace lo hi) Any (use_shared st i n)
  shared-places [] i n a b = refusal {why = numbered 10 n} (omega arith, omega arith, a, b)
  shared-places (shared t ∷ st) zero n a b = value tt
  shared-places (linear t u ∷ st) zero n a b = refusal {why = numbered 11 n} (omega arith, omega arith, a, b)
  shared-places (shared t ∷ st) (suc i) n a b = under-places (shared t) (use_shared st i n) (shared-places st i n a b)
  shared-places (linear t u ∷ st) (suc i) n a b = under-places (linear t u) (use_shared st i n) (shared-places st i n a b)

  used-places : (st : Stack) (i n : ℕ) → lo ≤ n → n < hi → Judged (NodePlace lo hi) Any (use_linear st i n)
  used-places [] i n a b = refusal {why = numbered 10 n} (omega arith, omega arith, a, b)
  used-places (shared t ∷ st) zero n a b = refusal {why = numbered 11 n} (omega arith, omega arith, a, b)
  used-places (linear t false ∷ st) zero n a b = value tt
  used-places (linear t true ∷ st) zero n a b = refusal {why = numbered 13 n} (omega arith, omega arith, a, b)
  used-places (shared t ∷ st) (suc i) n a b = under-places (shared t) (use_linear st i n) (used-places st i n a b)
  used-places (linear t u ∷ st) (suc i) n a b = under-places (linear t u) (use_linear st i n) (used-places st i n a b)

  node_in : (E : Edition) (Θ : Table) (e : Term) (n : ℕ) (st : Stack) → lo ≤ n → n + nodes e ≤ hi → Judged (NodePlace lo hi) Any (walk E Θ e n st)
  node_in E Θ (var i) n st a b = shared-places st i n a (omega arith)
  node_in E Θ (lvar i) n st a b = used-places st i n a (omega arith)
  node_in E Θ (fun t e) n st a b =
      let l : n < hi = omega arith in
      of_bind (sharable_arrow (rec_at Θ t) t n) _ (sharable-places (rec_at Θ t) t n a l) λ τ _ _.
      of_bind (walk E Θ e (n + 1) (shared τ.left ∷ st)) _ (node_in E Θ e _ _ (omega arith) (omega arith)) λ r _ _.
      of_require (eqb r.type τ.right) _ _ (λ _. misfit n a l) λ _. value tt
  node_in E Θ (app f x) n st a b =
      let l : n < hi = omega arith in
      of_bind (walk E Θ f (n + 1) st) _ (node_in E Θ f _ _ (omega arith) (omega arith)) λ u _ _.
      of_bind (walk E Θ x (n + 1 + nodes f) u.stack) _ (node_in E Θ x _ _ (omega arith) (omega arith)) λ v _ _.
      of_bind (sharable_arrow (rec_at Θ u.type) u.type n) _ (sharable-places (rec_at Θ u.type) u.type n a l) λ τ _ _.
      of_require (eqb v.type τ.left) _ _ (λ _. misfit n a l) λ _. value tt
  node_in E Θ (lfun t e) n st a b =
      let l : n < hi = omega arith in
      of_bind (linear_arrow (rec_at Θ t) t n) _ (linear-places (rec_at Θ t) t n a l) λ τ _ _.
      of_bind (walk E Θ e (n + 1) (linear τ.left false ∷ st)) _ (node_in E Θ e _ _ (omega arith) (omega arith)) λ r _ _.
      of_require (top_used r.stack) (numbered 14 n) _ (λ _. (omega arith, omega arith, a, l)) λ _.
      of_require (eqb r.type τ.right) _ _ (λ _. misfit n a l) λ _. value tt
  node_in E Θ (lapp f x) n st a b =
      let l : n < hi = omega arith in
      of_bind (walk E Θ f (n + 1) st) _ (node_in E Θ f _ _ (omega arith) (omega arith)) λ u _ _.
      of_bind (walk E Θ x (n + 1 + nodes f) u.stack) _ (node_in E Θ x _ _ (omega arith) (omega arith)) λ v _ _.
      of_bind (linear_arrow (rec_at Θ u.type) u.type n) _ (linear-places (rec_at Θ u.type) u.type n a l) λ τ _ _.
      of_require (eqb v.type τ.left) _ _ (λ _. misfit n a l) λ _. value tt
  node_in E Θ (pair t x y) n st a b =
      let l : n < hi = omega arith in
      of_bind (product (rec_at Θ t) t n) _ (product-places (rec_at Θ t) t n a l) λ τ _ _.
      of_bind (walk E Θ x (n + 1) st) _ (node_in E Θ x _ _ (omega arith) (omega arith)) λ u _ _.
      of_bind (walk E Θ y (n + 1 + nodes x) u.stack) _ (node_in E Θ y _ _ (omega arith) (omega arith)) λ v _ _.
      of_require (eqb u.type τ.left) _ _ (λ _. misfit n a l) λ _.
      of_require (eqb v.type τ.right) _ _ (λ _. misfit n a l) λ _. value tt
  node_in E Θ (proj x e) n st a b =
      let l : n < hi = omega arith in
      of_bind (walk E Θ x (n + 1) st) _ (node_in E Θ x _ _ (omega arith) (omega arith)) λ u _ _.
      of_bind (product (rec_at Θ u.type) u.type n) _ (product-places (rec_at Θ u.type) u.type n a l) λ τ _ _.
      of_bind (walk E Θ e (n + 1 + nodes x) (shared τ.right ∷ shared τ.left ∷ u.stack)) _ (node_in E Θ e _ _ (omega arith) (omega arith)) λ v _ _. value tt
  node_in E Θ (fix t e) n st a b =
      let l : n < hi = omega arith in
      of_require (sharable (tree Θ t)) _ _ (λ _. misfit n a l) λ _.
      of_bind (walk E Θ e (n + 1) (shared t ∷ st)) _ (node_in E Θ e _ _ (omega arith) (omega arith)) λ r _ _.
      of_require (eqb r.type t) _ _ (λ _. misfit n a l) λ _. value tt
  node_in E Θ (con p t) n st a b =
      let l : n < hi = omega arith in
      of_require (ltb p (length parts)) (numbered 15 n) _ (λ _. (omega arith, omega arith, a, l)) λ _.
      of_require (ty_eq (tree Θ t) ((part_at p).type E)) _ _ (λ _. misfit n a l) λ _. value tt
  node_in E Θ (name x e) n st a b =
      let l : n < hi = omega arith in
      of_bind (walk E Θ x (n + 1) st) _ (node_in E Θ x _ _ (omega arith) (omega arith)) λ u _ _.
      of_require (sharable (tree Θ u.type)) _ _ (λ _. misfit n a l) λ _.
      of_bind (walk E Θ e (n + 1 + nodes x) (shared u.type ∷ u.stack)) _ (node_in E Θ e _ _ (omega arith) (omega arith)) λ v _ _. value tt

-- a refusal of the walk stands at a node of the term
pub walk-places : (E : Edition) (Θ : Table) (e : Term) (n : ℕ) (st : Stack) → Judged (NodePlace n (n + nodes e)) Any (walk E Θ e n st)
walk-places E Θ e n st = node_in n (n + nodes e) E Θ e n st (le_refl n) (le_refl (n + nodes e))

-- ---- the types that a refusal names

-- 12: the type wanted and the one found differ; found is a type of the sheet's table, and wanted is one, or 256; every other names none
pub record TypesNamed (s : List ℕ) (why : Refusal) : Type 0 where
  pub clash : why.number ≡ 12 → (σ : Sheet) × (read_sheet s ≡ good σ) × Clash σ.table why
  pub other : ¬ (why.number ≡ 12) → (why.wanted ≡ 0) × (why.found ≡ 0)

pub no_names : (s : List ℕ) (why : Refusal) → ¬ (why.number ≡ 12) → (why.wanted ≡ 0) × (why.found ≡ 0) → TypesNamed s why
no_names s why d h = record { clash = λ e. absurd (d e); other = λ _. h }

-- both fit twelve bits
pub names_small : (s : List ℕ) (why : Refusal) → TypesNamed s why → (why.wanted ≤ 256) × (why.found ≤ 256)
names_small s why N = elim (ℕ_discrete why.number 12) [
  | yes e ↦
      let (σ, r, c) = N.clash e in
      let f = (laid s σ r).table.few in
      (⊎_elim (λ l. omega arith) (λ q. omega arith) c.wanted_in, omega (arith, c.found_in))
  | no d ↦ let (w, f) = N.other d in (omega arith, omega arith)
]

-- ---- a call

-- a refusal before the netlist is made
pub record EarlyPlace (s : List ℕ) (why : Refusal) : Type 0 where
  pub from : 2 ≤ why.number
  pub to : why.number ≤ 16
  pub few : why.place ≤ 16384
  pub names : TypesNamed s why

both : {P P' : Refusal → Type 0} {A : Type 0} {Q R : A → Type 0} {a : Answer A} → Judged P Q a → Judged P' R a → Judged (λ why. P why × P' why) Q a
both (value h) (value k) = value h
both (refusal {why} h) (refusal k) = refusal {why = why} (h, k)

pub full-places : (s : List ℕ) → Judged (EarlyPlace s) Any (full s)
unfolding full
full-places s =
    of_bind (read_sheet s) _ (weaker (λ why o. record { from = o.from; to = omega (arith, o.to); few = o.few; names = no_names s why (λ e. absurd (omega (arith, o.to))) o.plain }) (read-places s)) λ σ e _.
    let l = laid s σ e in
    of_bind (walk σ.edition σ.table σ.term 0 []) _
    (weaker (λ why o. let p = o.0 in record { from = omega (arith, p.0); to = omega (arith, p.1); few = omega (arith, p.3, l.few); names = record { clash = λ q. (σ, e, o.1.clash q); other = o.1.other } })
    (both (walk-places σ.edition σ.table σ.term 0 []) (walk_tells σ.edition σ.table l.table σ.term 0 [] l.ranged tt))) λ r _ _.
    of_require (leb (make σ.table σ.term [] 0).next 8192) (numbered 16 0) _ (λ _. record { from = omega arith; to = omega arith; few = omega arith; names = no_names s (numbered 16 0) (λ e. absurd (omega arith)) (refl, refl) }) λ _. value tt

-- The walk at one node, in the steps of the code. Assumes nothing.
use Prim.Native.Nat.{ℕ, ◌+◌, ◌<◌}
use mathlib.Core.Path.{◌≡◌, refl, sym}
use mathlib.Core.Bool.{Bool, true, false, cond}
use mathlib.Core.List.{[], ◌∷◌}
use native.Mathlib.Omega.{arith}
use lib.Dec.{eqb, leb}
use lib.ListN.{length, drop}
use Rattle.calculus.specs.Answer.{Answer, good, refused, ◌>>=◌, a_form, need, fit}
use Rattle.calculus.specs.Types.{TyRec, rec01, rec02, rec03, rec04, Table, rec_at}
use Rattle.calculus.specs.Terms.{Edition, Term, var, lvar, fun, app, lfun, lapp, pair, proj, fix, con, name, nodes, part_at}
use Rattle.sheet_theorems.specs.Laid.{TableOk, Ranged}
use Rattle.calculus.specs.Walk.{shared, linear, Stack, product, sharable_arrow, linear_arrow, Found, found, pop, top_used, walk}
use Rattle.records.specs.Heads.{node_of}
use Rattle.records.specs.declared.Rule.TheVariants as rule
use Rattle.sheet_theorems.specs.Numbers.{Numbers}
use Rattle.std.specs.declared.result.Result.TheVariants.{Ok, Err}
use Rattle.records.specs.TypeNumbers.{kind_no}
use Rattle.typing.specs.Steps.{Types, misfit_of, constant_of, leaf_of, opening_of, opened_stack, enter_of, wanted_of, used_up, leave_one, between_of, applied_of, paired_of, joined_of, closes_of, fitted, leave_two, enters_of}
use Rattle.typing.proofs.Ranges.{sharable-is, stands-for, number_is, kept}

-- ---- answers

-- two ways to go on that agree where the first step is good
pub bind-same : {A B : Type 0} (m : Answer A) {f g : A → Answer B} → ((a : A) → m ≡ good a → f a ≡ g a) → (m >>= f) ≡ (m >>= g)
bind-same (good a) h = h a refl
bind-same (refused why) h = refl

pub bind_assoc : {A B C : Type 0} (m : Answer A) (f : A → Answer B) (g : B → Answer C) → ((m >>= f) >>= g) ≡ (m >>= λ a. f a >>= g)
bind_assoc (good a) f g = refl
bind_assoc (refused why) f g = refl

-- ---- the subterms

abbrev pub first_subterm : Term → Term
first_subterm (var i) = var i
first_subterm (lvar i) = lvar i
first_subterm (fun t e) = e
first_subterm (app f a) = f
first_subterm (lfun t e) = e
first_subterm (lapp f a) = f
first_subterm (pair t a b) = a
first_subterm (proj a e) = a
first_subterm (fix t e) = e
first_subterm (con p t) = con p t
first_subterm (name a e) = a

abbrev pub second_of : Term → Term
second_of (var i) = var i
second_of (lvar i) = lvar i
second_of (fun t e) = e
second_of (app f a) = a
second_of (lfun t e) = e
second_of (lapp f a) = a
second_of (pair t a b) = b
second_of (proj a e) = e
second_of (fix t e) = e
second_of (con p t) = con p t
second_of (name a e) = e

-- ---- the rules on one record

pop-is : (st : Stack) → drop 1 st ≡ pop st
pop-is [] = refl
pop-is (b ∷ st) = refl

pop-two : (st : Stack) → drop 2 st ≡ pop (pop st)
pop-two [] = refl
pop-two (b ∷ []) = refl
pop-two (b ∷ d ∷ st) = refl

fit-test : (b : Bool) (t x y n : ℕ) (st : Stack) → fitted (cond b (Ok t) (Err (misfit_of x y))) 0 n st ≡ (fit b n x y >>= λ _. found t st)
fit-test true t x y n st = refl
fit-test false t x y n st = refl

app_end : (q : TyRec) (f u n : ℕ) (st : Stack) → fitted (applied_of q 3 f u) 0 n st ≡ (sharable_arrow q f n >>= λ τ. fit (eqb u τ.left) n τ.left u >>= λ _. found τ.right st)
unfolding applied_of
app_end rec01 f u n st = refl
app_end (rec02 a b) f u n st = refl
app_end (rec03 a b) f u n st = fit-test (eqb u a) b a u n st
app_end (rec04 a b) f u n st = refl

lapp_end : (q : TyRec) (f u n : ℕ) (st : Stack) → fitted (applied_of q 4 f u) 0 n st ≡ (linear_arrow q f n >>= λ τ. fit (eqb u τ.left) n τ.left u >>= λ _. found τ.right st)
unfolding applied_of
lapp_end rec01 f u n st = refl
lapp_end (rec02 a b) f u n st = refl
lapp_end (rec03 a b) f u n st = refl
lapp_end (rec04 a b) f u n st = fit-test (eqb u a) b a u n st

pair_tests : (x y : Bool) (t i a j b n : ℕ) (st : Stack) → fitted (cond x (cond y (Ok t) (Err (misfit_of j b))) (Err (misfit_of i a))) 0 n st ≡ (fit x n i a >>= λ _. fit y n j b >>= λ _. found t st)
pair_tests true y t i a j b n st = fit-test y t j b n st
pair_tests false y t i a j b n st = refl

-- ---- the walk after a node's first subterm, in the code's steps

abbrev pub walk_after : Types → Edition → Table → Term → ℕ → Found → Answer Found
walk_after R E Θ (var i) n x = good x
walk_after R E Θ (lvar i) n x = good x
walk_after R E Θ (fun t e) n x = leave_one R rule.Function t n x
walk_after R E Θ (app f a) n x = between_of R rule.Application n x >>= λ m. walk E Θ a (n + 1 + nodes f) m.stack >>= leave_two R rule.Application 0 n m.type
walk_after R E Θ (lfun t e) n x = leave_one R rule.LinearFunction t n x
walk_after R E Θ (lapp f a) n x = between_of R rule.LinearApplication n x >>= λ m. walk E Θ a (n + 1 + nodes f) m.stack >>= leave_two R rule.LinearApplication 0 n m.type
walk_after R E Θ (pair t a b) n x = between_of R rule.Pair n x >>= λ m. walk E Θ b (n + 1 + nodes a) m.stack >>= leave_two R rule.Pair t n m.type
walk_after R E Θ (proj a e) n x = between_of R rule.Projection n x >>= λ m. walk E Θ e (n + 1 + nodes a) m.stack >>= leave_two R rule.Projection 0 n m.type
walk_after R E Θ (fix t e) n x = leave_one R rule.FixedPoint t n x
walk_after R E Θ (con p t) n x = good x
walk_after R E Θ (name a e) n x = between_of R rule.Naming n x >>= λ m. walk E Θ e (n + 1 + nodes a) m.stack >>= leave_two R rule.Naming 0 n m.type

-- ---- each kind of node

module _ (R : Types) (E : Edition) (Θ : Table) (ok : TableOk Θ) (same : (t : ℕ) → t < length Θ → R t ≡ rec_at Θ t) (n : ℕ) where
  constant-walk : (l p t : ℕ) (st : Stack) → l ≡ length Θ → t < length Θ → constant_of R l E p t n st ≡ walk E Θ (con p t) n st
  unfolding constant_of
  constant-walk l p t st e h = rw (stands-for Θ ok R same ((part_at p).type E) t h, number_is Θ ok R same ((part_at p).type E) l e)

  module _ (go : ℕ → Stack → Answer Found) where
    fun-steps : (q : TyRec) (t : ℕ) (st : Stack) → R t ≡ q
        → (sharable_arrow q t n >>= λ τ. go (n + 1) (shared τ.left ∷ st) >>= λ r. fit (eqb r.type τ.right) n τ.right r.type >>= λ _. found t (pop r.stack))
        ≡ (opened_stack (opening_of rule.Function t q) t n st >>= λ o. go (n + 1) o.stack >>= leave_one R rule.Function t n)
    unfolding opening_of leave_one used_up wanted_of
    fun-steps rec01 t st e = refl
    fun-steps (rec02 a b) t st e = refl
    fun-steps (rec03 a b) t st e = bind-same (go (n + 1) (shared a ∷ st)) (λ r h. rw (e, pop-is r.stack))
    fun-steps (rec04 a b) t st e = refl

    lfun-steps : (q : TyRec) (t : ℕ) (st : Stack) → R t ≡ q
        → (linear_arrow q t n >>= λ τ. go (n + 1) (linear τ.left false ∷ st) >>= λ r. need (top_used r.stack) 14 n >>= λ _. fit (eqb r.type τ.right) n τ.right r.type >>= λ _. found t (pop r.stack))
        ≡ (opened_stack (opening_of rule.LinearFunction t q) t n st >>= λ o. go (n + 1) o.stack >>= leave_one R rule.LinearFunction t n)
    unfolding opening_of leave_one used_up wanted_of
    lfun-steps rec01 t st e = refl
    lfun-steps (rec02 a b) t st e = refl
    lfun-steps (rec03 a b) t st e = refl
    lfun-steps (rec04 a b) t st e = bind-same (go (n + 1) (linear a false ∷ st)) (λ r h. rw (e, pop-is r.stack))

    fix-steps : (q : TyRec) (t : ℕ) (st : Stack)
        → (fit (leb (kind_no q) 2) n a_form t >>= λ _. go (n + 1) (shared t ∷ st) >>= λ r. fit (eqb r.type t) n t r.type >>= λ _. found t (pop r.stack))
        ≡ (opened_stack (opening_of rule.FixedPoint t q) t n st >>= λ o. go (n + 1) o.stack >>= leave_one R rule.FixedPoint t n)
    unfolding opening_of leave_one used_up wanted_of
    fix-steps rec01 t st = bind-same (go (n + 1) (shared t ∷ st)) (λ r h. rw (pop-is r.stack))
    fix-steps (rec02 a b) t st = bind-same (go (n + 1) (shared t ∷ st)) (λ r h. rw (pop-is r.stack))
    fix-steps (rec03 a b) t st = refl
    fix-steps (rec04 a b) t st = refl

  app-steps : (f a : Term) (st : Stack) → Ranged E Θ f → Numbers st (length Θ)
      → walk E Θ (app f a) n st ≡ (enter_of R rule.Application 0 n st >>= λ o. walk E Θ f (n + 1) o.stack >>= walk_after R E Θ (app f a) n)
  unfolding opening_of between_of enters_of joined_of closes_of
  app-steps f a st r k =
      bind-same (walk E Θ f (n + 1) st) λ x h.
      bind-same (walk E Θ a (n + 1 + nodes f) x.stack) λ y g.
      rw (same x.type (kept E Θ ok f r (n + 1) st k x h).type_in_lem) (sym (app_end (rec_at Θ x.type) x.type y.type n y.stack))

  lapp-steps : (f a : Term) (st : Stack) → Ranged E Θ f → Numbers st (length Θ)
      → walk E Θ (lapp f a) n st ≡ (enter_of R rule.LinearApplication 0 n st >>= λ o. walk E Θ f (n + 1) o.stack >>= walk_after R E Θ (lapp f a) n)
  unfolding opening_of between_of enters_of joined_of closes_of
  lapp-steps f a st r k =
      bind-same (walk E Θ f (n + 1) st) λ x h.
      bind-same (walk E Θ a (n + 1 + nodes f) x.stack) λ y g.
      rw (same x.type (kept E Θ ok f r (n + 1) st k x h).type_in_lem) (sym (lapp_end (rec_at Θ x.type) x.type y.type n y.stack))

  pair-rest : (q : TyRec) (t : ℕ) (a b : Term) (st : Stack) → R t ≡ q
      → (product q t n >>= λ τ. walk E Θ a (n + 1) st >>= λ x. walk E Θ b (n + 1 + nodes a) x.stack >>= λ y. fit (eqb x.type τ.left) n τ.left x.type >>= λ _. fit (eqb y.type τ.right) n τ.right y.type >>= λ _. found t y.stack)
      ≡ (opened_stack (opening_of rule.Pair t q) t n st >>= λ o. walk E Θ a (n + 1) o.stack >>= walk_after R E Θ (pair t a b) n)
  unfolding opening_of between_of enters_of joined_of closes_of paired_of
  pair-rest rec01 t a b st e = refl
  pair-rest (rec02 u v) t a b st e =
      bind-same (walk E Θ a (n + 1) st) λ x h.
      bind-same (walk E Θ b (n + 1 + nodes a) x.stack) λ y g.
      rw e (sym (pair_tests (eqb x.type u) (eqb y.type v) t u x.type v y.type n y.stack))
  pair-rest (rec03 u v) t a b st e = refl
  pair-rest (rec04 u v) t a b st e = refl

  proj-rest : (q : TyRec) (a e : Term) (x : Found) → R x.type ≡ q
      → (product q x.type n >>= λ τ. walk E Θ e (n + 1 + nodes a) (shared τ.right ∷ shared τ.left ∷ x.stack) >>= λ y. found y.type (pop (pop y.stack))) ≡ walk_after R E Θ (proj a e) n x
  unfolding between_of enters_of joined_of closes_of
  proj-rest rec01 a e x h = rw h
  proj-rest (rec02 u v) a e x h = rw h (bind-same (walk E Θ e (n + 1 + nodes a) (shared v ∷ shared u ∷ x.stack)) (λ y g. rw (pop-two y.stack)))
  proj-rest (rec03 u v) a e x h = rw h
  proj-rest (rec04 u v) a e x h = rw h

  proj-steps : (a e : Term) (st : Stack) → Ranged E Θ a → Numbers st (length Θ)
      → walk E Θ (proj a e) n st ≡ (enter_of R rule.Projection 0 n st >>= λ o. walk E Θ a (n + 1) o.stack >>= walk_after R E Θ (proj a e) n)
  unfolding opening_of
  proj-steps a e st r k =
      bind-same (walk E Θ a (n + 1) st) λ x h.
      proj-rest (rec_at Θ x.type) a e x (same x.type (kept E Θ ok a r (n + 1) st k x h).type_in_lem)

  name-rest : (q : TyRec) (a e : Term) (x : Found) → R x.type ≡ q
      → (fit (leb (kind_no q) 2) n a_form x.type >>= λ _. walk E Θ e (n + 1 + nodes a) (shared x.type ∷ x.stack) >>= λ y. found y.type (pop y.stack)) ≡ walk_after R E Θ (name a e) n x
  unfolding between_of enters_of joined_of closes_of
  name-rest rec01 a e x h = rw h (bind-same (walk E Θ e (n + 1 + nodes a) (shared x.type ∷ x.stack)) (λ y g. rw (pop-is y.stack)))
  name-rest (rec02 u v) a e x h = rw h (bind-same (walk E Θ e (n + 1 + nodes a) (shared x.type ∷ x.stack)) (λ y g. rw (pop-is y.stack)))
  name-rest (rec03 u v) a e x h = rw h
  name-rest (rec04 u v) a e x h = rw h

  name-steps : (a e : Term) (st : Stack) → Ranged E Θ a → Numbers st (length Θ)
      → walk E Θ (name a e) n st ≡ (enter_of R rule.Naming 0 n st >>= λ o. walk E Θ a (n + 1) o.stack >>= walk_after R E Θ (name a e) n)
  unfolding opening_of
  name-steps a e st r k =
      bind-same (walk E Θ a (n + 1) st) λ x h.
      rw (← sharable-is Θ ok x.type) (name-rest (rec_at Θ x.type) a e x (same x.type (kept E Θ ok a r (n + 1) st k x h).type_in_lem))

-- ---- a node by its record

module _ (R : Types) (E : Edition) (Θ : Table) (ok : TableOk Θ) (same : (t : ℕ) → t < length Θ → R t ≡ rec_at Θ t) (at n : ℕ) (st : Stack) (k : Numbers st (length Θ)) where
  -- without subterms
  pub walk_leaf : (l : ℕ) → l ≡ length Θ → (e : Term) → Ranged E Θ e → (node_of e at).subterms ≡ 0 → leaf_of R l E (node_of e at).rule (node_of e at).first (node_of e at).second n st ≡ walk E Θ e n st
  unfolding leaf_of
  walk_leaf l c (var i) r z = refl
  walk_leaf l c (lvar i) r z = refl
  walk_leaf l c (fun t e) r z = absurd (omega arith)
  walk_leaf l c (app f a) r z = absurd (omega arith)
  walk_leaf l c (lfun t e) r z = absurd (omega arith)
  walk_leaf l c (lapp f a) r z = absurd (omega arith)
  walk_leaf l c (pair t a b) r z = absurd (omega arith)
  walk_leaf l c (proj a e) r z = absurd (omega arith)
  walk_leaf l c (fix t e) r z = absurd (omega arith)
  walk_leaf l c (con p t) r z = constant-walk R E Θ ok same n l p t st c r
  walk_leaf l c (name a e) r z = absurd (omega arith)

  -- with subterms: entering, the first subterm, and what comes after it
  pub walk_steps : (e : Term) → Ranged E Θ e → ¬ ((node_of e at).subterms ≡ 0)
      → walk E Θ e n st ≡ (enter_of R (node_of e at).rule (node_of e at).first n st >>= λ o. walk E Θ (first_subterm e) (n + 1) o.stack >>= walk_after R E Θ e n)
  walk_steps (var i) r d = absurd (d refl)
  walk_steps (lvar i) r d = absurd (d refl)
  walk_steps (fun t e) r d = rw (← same t r.0) (fun-steps R E Θ ok same n (walk E Θ e) (R t) t st refl)
  walk_steps (app f a) r d = app-steps R E Θ ok same n f a st r.0 k
  walk_steps (lfun t e) r d = rw (← same t r.0) (lfun-steps R E Θ ok same n (walk E Θ e) (R t) t st refl)
  walk_steps (lapp f a) r d = lapp-steps R E Θ ok same n f a st r.0 k
  walk_steps (pair t a b) r d = rw (← same t r.0) (pair-rest R E Θ ok same n (R t) t a b st refl)
  walk_steps (proj a e) r d = proj-steps R E Θ ok same n a e st r.0 k
  walk_steps (fix t e) r d = rw (← sharable-is Θ ok t, ← same t r.0) (fix-steps R E Θ ok same n (walk E Θ e) (R t) t st)
  walk_steps (con p t) r d = absurd (d refl)
  walk_steps (name a e) r d = name-steps R E Θ ok same n a e st r.1 k

module _ (R : Types) (E : Edition) (Θ : Table) (at n : ℕ) (x : Found) where
  pub after_one : (e : Term) → (node_of e at).subterms ≡ 1 → leave_one R (node_of e at).rule (node_of e at).first n x ≡ walk_after R E Θ e n x
  after_one (var i) z = absurd (omega arith)
  after_one (lvar i) z = absurd (omega arith)
  after_one (fun t e) z = refl
  after_one (app f a) z = absurd (omega arith)
  after_one (lfun t e) z = refl
  after_one (lapp f a) z = absurd (omega arith)
  after_one (pair t a b) z = absurd (omega arith)
  after_one (proj a e) z = absurd (omega arith)
  after_one (fix t e) z = refl
  after_one (con p t) z = absurd (omega arith)
  after_one (name a e) z = absurd (omega arith)

  pub after_two : (e : Term) → ¬ ((node_of e at).subterms ≡ 0) → ¬ ((node_of e at).subterms ≡ 1)
      → (between_of R (node_of e at).rule n x >>= λ m. walk E Θ (second_of e) (n + 1 + nodes (first_subterm e)) m.stack >>= leave_two R (node_of e at).rule (node_of e at).first n m.type)
      ≡ walk_after R E Θ e n x
  after_two (var i) d f = absurd (d refl)
  after_two (lvar i) d f = absurd (d refl)
  after_two (fun t e) d f = absurd (f refl)
  after_two (app g a) d f = refl
  after_two (lfun t e) d f = absurd (f refl)
  after_two (lapp g a) d f = refl
  after_two (pair t a b) d f = refl
  after_two (proj a e) d f = refl
  after_two (fix t e) d f = absurd (f refl)
  after_two (con p t) d f = absurd (d refl)
  after_two (name a e) d f = refl

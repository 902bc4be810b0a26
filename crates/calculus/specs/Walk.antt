-- The typing walk (document 01, "Numbers of the refusals": 10 to 15; document 02, L3 and L7), on type numbers. Its places are node numbers. Assumes
-- nothing.
use Rattle.std.specs.Prelude.{ℕ, zero, suc, ◌+◌, Bool, true, false, cond, List, [], ◌∷◌, ltb, eqb, length}
use Rattle.calculus.specs.Answer.{Answer, good, refused, ◌>>=◌, refuse, clash, a_form, need, fit}
use Rattle.calculus.specs.Types.{Ty, sharable, ty_eq, TyRec, rec01, rec02, rec03, rec04, Table, rec_at, tys_from, tree}
use Rattle.calculus.specs.Terms.{Edition, Term, var, lvar, fun, app, lfun, lapp, pair, proj, fix, con, name, nodes, parts, part_at}

-- a binder's sort, its type number, and for a linear one if it has been used
pub data Binder : Type 0 where
  shared : ℕ → Binder
  linear : ℕ → Bool → Binder

-- the nearest binder first
abbrev pub Stack : Type 0
Stack = List Binder

-- ---- the forms of types that the rules ask for, of type number t at node n (12)

abbrev pub misfit : {A : Type 0} → ℕ → ℕ → Answer A
misfit t n = refused (clash n a_form t)

pub record Sides : Type 0 where
  pub left : ℕ
  pub right : ℕ

abbrev pub sides : ℕ → ℕ → Answer Sides
sides a b = good (record { left = a; right = b })

abbrev pub product : TyRec → ℕ → ℕ → Answer Sides
product rec01 t n = misfit t n
product (rec02 a b) t n = sides a b
product (rec03 a b) t n = misfit t n
product (rec04 a b) t n = misfit t n

abbrev pub sharable_arrow : TyRec → ℕ → ℕ → Answer Sides
sharable_arrow rec01 t n = misfit t n
sharable_arrow (rec02 a b) t n = misfit t n
sharable_arrow (rec03 a b) t n = sides a b
sharable_arrow (rec04 a b) t n = misfit t n

abbrev pub linear_arrow : TyRec → ℕ → ℕ → Answer Sides
linear_arrow rec01 t n = misfit t n
linear_arrow (rec02 a b) t n = misfit t n
linear_arrow (rec03 a b) t n = misfit t n
linear_arrow (rec04 a b) t n = sides a b

-- ---- variables

-- a type number, and the binders with their marks of use
pub record Found : Type 0 where
  pub type : ℕ
  pub stack : Stack

abbrev pub found : ℕ → Stack → Answer Found
found t st = good (record { type = t; stack = st })

abbrev pub under : Binder → Answer Found → Answer Found
under b (good r) = found r.type (b ∷ r.stack)
under b (refused why) = refused why

-- a sharable variable: 10, 11
abbrev pub use_shared : Stack → ℕ → ℕ → Answer Found
use_shared [] i n = refuse 10 n
use_shared (shared t ∷ st) zero n = found t (shared t ∷ st)
use_shared (linear t u ∷ st) zero n = refuse 11 n
use_shared (b ∷ st) (suc i) n = under b (use_shared st i n)

-- a linear variable: 10, 11, 13
abbrev pub use_linear : Stack → ℕ → ℕ → Answer Found
use_linear [] i n = refuse 10 n
use_linear (shared t ∷ st) zero n = refuse 11 n
use_linear (linear t false ∷ st) zero n = found t (linear t true ∷ st)
use_linear (linear t true ∷ st) zero n = refuse 13 n
use_linear (b ∷ st) (suc i) n = under b (use_linear st i n)

-- ---- leaving a binder's scope: it is there (theorem `walk_keeps`), so the clauses for the empty stack are never reached

abbrev pub pop : Stack → Stack
pop [] = []
pop (b ∷ st) = st

abbrev pub top_used : Stack → Bool
top_used [] = false
top_used (shared t ∷ st) = true
top_used (linear t u ∷ st) = u

-- ---- a part's type among the sheet's own

abbrev pub number_from : ℕ → List Ty → Ty → ℕ
number_from k [] τ = a_form
number_from k (σ ∷ σs) τ = cond (ty_eq σ τ) k (number_from (suc k) σs τ)

-- the number of the type τ where it stands in the sheet, else 256
abbrev pub type_number : Table → Ty → ℕ
type_number Θ τ = number_from 0 (tys_from [] Θ) τ

-- ---- the walk, at node n. A misfit names the parts that differ: the type wanted, then the one found

abbrev pub walk : Edition → Table → Term → ℕ → Stack → Answer Found
walk E Θ (var i) n st = use_shared st i n
walk E Θ (lvar i) n st = use_linear st i n
walk E Θ (fun t e) n st = do
  τ ← sharable_arrow (rec_at Θ t) t n
  r ← walk E Θ e (n + 1) (shared τ.left ∷ st)
  _ ← fit (eqb r.type τ.right) n τ.right r.type
  found t (pop r.stack)
walk E Θ (app f a) n st = do
  x ← walk E Θ f (n + 1) st
  y ← walk E Θ a (n + 1 + nodes f) x.stack
  τ ← sharable_arrow (rec_at Θ x.type) x.type n
  _ ← fit (eqb y.type τ.left) n τ.left y.type
  found τ.right y.stack
walk E Θ (lfun t e) n st = do
  τ ← linear_arrow (rec_at Θ t) t n
  r ← walk E Θ e (n + 1) (linear τ.left false ∷ st)
  _ ← need (top_used r.stack) 14 n
  _ ← fit (eqb r.type τ.right) n τ.right r.type
  found t (pop r.stack)
walk E Θ (lapp g b) n st = do
  x ← walk E Θ g (n + 1) st
  y ← walk E Θ b (n + 1 + nodes g) x.stack
  τ ← linear_arrow (rec_at Θ x.type) x.type n
  _ ← fit (eqb y.type τ.left) n τ.left y.type
  found τ.right y.stack
walk E Θ (pair t a b) n st = do
  τ ← product (rec_at Θ t) t n
  x ← walk E Θ a (n + 1) st
  y ← walk E Θ b (n + 1 + nodes a) x.stack
  _ ← fit (eqb x.type τ.left) n τ.left x.type
  _ ← fit (eqb y.type τ.right) n τ.right y.type
  found t y.stack
walk E Θ (proj a e) n st = do
  x ← walk E Θ a (n + 1) st
  τ ← product (rec_at Θ x.type) x.type n
  y ← walk E Θ e (n + 1 + nodes a) (shared τ.right ∷ shared τ.left ∷ x.stack)
  found y.type (pop (pop y.stack))
walk E Θ (fix t e) n st = do
  _ ← fit (sharable (tree Θ t)) n a_form t
  r ← walk E Θ e (n + 1) (shared t ∷ st)
  _ ← fit (eqb r.type t) n t r.type
  found t (pop r.stack)
walk E Θ (con p t) n st = do
  _ ← need (ltb p (length parts)) 15 n
  _ ← fit (ty_eq (tree Θ t) ((part_at p).type E)) n (type_number Θ ((part_at p).type E)) t
  found t st
walk E Θ (name a e) n st = do
  x ← walk E Θ a (n + 1) st
  _ ← fit (sharable (tree Θ x.type)) n a_form x.type
  y ← walk E Θ e (n + 1 + nodes a) (shared x.type ∷ x.stack)
  found y.type (pop y.stack)

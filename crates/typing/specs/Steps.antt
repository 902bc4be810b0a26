-- The typing walk in the steps of the code, over the sheet's own type records: leaves, entering, between two subterms, leaving.
-- Assumes nothing.
use Rattle.std.specs.Prelude.{ℕ, zero, suc, ◌≡◌, Bool, true, false, ◌&&◌, cond, Option, Some, None, Result, Ok, Err, ◌∷◌, leb, ltb, eqb, length, drop}
use Rattle.calculus.specs.Answer.{Answer, refused, ◌>>=◌, clash, a_form, need, fit}
use Rattle.calculus.specs.Types.{Ty, bit, prod, arrow, lolli, TyRec}
use Rattle.calculus.specs.Terms.{Edition, first, second, parts, part_at}
use Rattle.calculus.specs.Walk.{shared, linear, Stack, Found, found, use_shared, use_linear, top_used}
use Rattle.records.specs.Rules.{is_linear_function, is_projection, is_fixed_point, is_naming}
use Rattle.records.specs.TypeNumbers.{kind_no, left_no, right_no}
use Rattle.records.specs.declared.Rule.{Rule}
use Rattle.records.specs.declared.Rule.TheVariants as rule
use Rattle.typing.specs.declared.rules.Opening.{Opening}
use Rattle.typing.specs.declared.rules.Opening.TheVariants as opening
use Rattle.typing.specs.declared.rules.Binding.{Binding}
use Rattle.parts.specs.Table.{PartEntry}
use Rattle.typing.specs.declared.rules.Halves.{Halves}
use Rattle.typing.specs.declared.rules.Misfit.{Misfit}

-- the records of the types, by number
abbrev pub Types : Type 0
Types = ℕ → TyRec

-- ---- leaves

-- a record of kind k whose sides pass two tests
abbrev pub both_sides : ℕ → TyRec → (ℕ → Bool) → (ℕ → Bool) → Bool
both_sides k q f g = eqb (kind_no q) k && (f (left_no q) && g (right_no q))

-- what is said of a number's test is what a function answers
abbrev pub AnswersTest : (ℕ → Bool → Type 0) → (ℕ → Bool) → Type 0
AnswersTest says f = (t : ℕ) (b : Bool) → says t b → b ≡ f t

-- a type number stands for a type
unfoldable pub stands_for : Types → Ty → ℕ → Bool
stands_for R bit t = eqb (kind_no (R t)) 1
stands_for R (prod σ τ) t = both_sides 2 (R t) (stands_for R σ) (stands_for R τ)
stands_for R (arrow σ τ) t = both_sides 3 (R t) (stands_for R σ) (stands_for R τ)
stands_for R (lolli σ τ) t = both_sides 4 (R t) (stands_for R σ) (stands_for R τ)

-- the first of m numbers from k on that passes a test, or 256
abbrev pub number_below : (ℕ → Bool) → ℕ → ℕ → ℕ
number_below f zero k = a_form
number_below f (suc m) k = cond (f k) k (number_below f m (suc k))

-- the type of a part in an edition
abbrev pub ty_in : PartEntry → Edition → Ty
ty_in x first = x.in_first
ty_in x second = x.in_second

-- 15, then 12; of l types
unfoldable pub constant_of : Types → ℕ → Edition → ℕ → ℕ → ℕ → Stack → Answer Found
constant_of R l E p t n st = do
  _ ← need (ltb p (length parts)) 15 n
  _ ← fit (stands_for R ((part_at p).type E) t) n (number_below (stands_for R ((part_at p).type E)) l 0) t
  found t st

-- by rule, with the record's two bytes
unfoldable pub leaf_of : Types → ℕ → Edition → Rule → ℕ → ℕ → ℕ → Stack → Answer Found
leaf_of R l E rule.Variable x y n st = use_shared st x n
leaf_of R l E rule.LinearVariable x y n st = use_linear st x n
leaf_of R l E rule.Function x y n st = constant_of R l E x y n st
leaf_of R l E rule.Application x y n st = constant_of R l E x y n st
leaf_of R l E rule.LinearFunction x y n st = constant_of R l E x y n st
leaf_of R l E rule.LinearApplication x y n st = constant_of R l E x y n st
leaf_of R l E rule.Pair x y n st = constant_of R l E x y n st
leaf_of R l E rule.Projection x y n st = constant_of R l E x y n st
leaf_of R l E rule.FixedPoint x y n st = constant_of R l E x y n st
leaf_of R l E rule.Constant x y n st = constant_of R l E x y n st
leaf_of R l E rule.Naming x y n st = constant_of R l E x y n st

-- ---- entering

-- an opening where a record has kind k
abbrev pub where_kind : ℕ → TyRec → Opening → Option Opening
where_kind k q o = cond (eqb (kind_no q) k) (Some o) None

unfoldable pub opening_of : Rule → ℕ → TyRec → Option Opening
opening_of rule.Variable t q = Some opening.Nothing
opening_of rule.LinearVariable t q = Some opening.Nothing
opening_of rule.Function t q = where_kind 3 q (opening.Shared (left_no q))
opening_of rule.Application t q = Some opening.Nothing
opening_of rule.LinearFunction t q = where_kind 4 q (opening.Linear (left_no q))
opening_of rule.LinearApplication t q = Some opening.Nothing
opening_of rule.Pair t q = where_kind 2 q opening.Nothing
opening_of rule.Projection t q = Some opening.Nothing
opening_of rule.FixedPoint t q = cond (leb (kind_no q) 2) (Some (opening.Shared t)) None
opening_of rule.Constant t q = Some opening.Nothing
opening_of rule.Naming t q = Some opening.Nothing

-- an opening as numbers
abbrev pub binding_of : Opening → Binding
binding_of opening.Nothing = record { count = 0; ty = 0; sort = 0 }
binding_of (opening.Shared t) = record { count = 1; ty = t; sort = 0 }
binding_of (opening.Linear t) = record { count = 1; ty = t; sort = 1 }

abbrev pub opened_stack : Option Opening → ℕ → ℕ → Stack → Answer Found
opened_stack (Some opening.Nothing) t n st = found t st
opened_stack (Some (opening.Shared x)) t n st = found t (shared x ∷ st)
opened_stack (Some (opening.Linear x)) t n st = found t (linear x false ∷ st)
opened_stack None t n st = refused (clash n a_form t)

abbrev pub enter_of : Types → Rule → ℕ → ℕ → Stack → Answer Found
enter_of R u t n st = opened_stack (opening_of u t (R t)) t n st

-- ---- leaving a node with one subterm

unfoldable pub wanted_of : Rule → ℕ → TyRec → ℕ
wanted_of u t q = cond (is_fixed_point u) t (right_no q)

unfoldable pub used_up : Rule → Stack → Bool
used_up u st = cond (is_linear_function u) (top_used st) true

-- 14, then 12
unfoldable pub leave_one : Types → Rule → ℕ → ℕ → Found → Answer Found
leave_one R u t n x = do
  _ ← need (used_up u x.stack) 14 n
  _ ← fit (eqb x.type (wanted_of u t (R t))) n (wanted_of u t (R t)) x.type
  found t (drop 1 x.stack)

-- ---- between two subterms

-- the form that the rule wants of the first subterm's type: a product at a projection, a sharable type at 1B
unfoldable pub enters_of : Rule → TyRec → Bool
enters_of u q = cond (is_projection u) (eqb (kind_no q) 2) (cond (is_naming u) (leb (kind_no q) 2) true)

-- the types that are bound by a first subterm of type t: a projection's two halves, or t itself
unfoldable pub halves_in : Rule → ℕ → TyRec → Halves
halves_in u t q = cond (is_projection u) (record { first = left_no q; second = right_no q }) (record { first = t; second = 0 })

-- the binders on entering a second subterm: of a projection's two variables the second is nearer
abbrev pub halves_of : Types → Rule → ℕ → Stack → Stack
halves_of R u t st = cond (is_projection u) (shared (right_no (R t)) ∷ shared (left_no (R t)) ∷ st) (cond (is_naming u) (shared t ∷ st) st)

-- on entering a second subterm: 12
unfoldable pub between_of : Types → Rule → ℕ → Found → Answer Found
between_of R u n x = do
  _ ← fit (enters_of u (R x.type)) n a_form x.type
  found x.type (halves_of R u x.type x.stack)

-- ---- leaving a node with two subterms

-- the type of a node, or two types that do not fit
abbrev pub Fitting : Type 0
Fitting = Result ℕ Misfit

abbrev pub misfit_of : ℕ → ℕ → Misfit
misfit_of wanted found = record { wanted = wanted; found = found }

-- a function of type f, whose record is q, an arrow of kind k, at an argument of type a
unfoldable pub applied_of : TyRec → ℕ → ℕ → ℕ → Fitting
applied_of q k f a = cond (eqb (kind_no q) k) (cond (eqb a (left_no q)) (Ok (right_no q)) (Err (misfit_of (left_no q) a))) (Err (misfit_of a_form f))

-- the first half that differs is named
unfoldable pub paired_of : TyRec → ℕ → ℕ → ℕ → Fitting
paired_of q t a b = cond (eqb a (left_no q)) (cond (eqb b (right_no q)) (Ok t) (Err (misfit_of (right_no q) b))) (Err (misfit_of (left_no q) a))

-- the types a and b of the subterms to the type of the node
unfoldable pub joined_of : Types → Rule → ℕ → ℕ → ℕ → Fitting
joined_of R rule.Variable t a b = Ok b
joined_of R rule.LinearVariable t a b = Ok b
joined_of R rule.Function t a b = Ok b
joined_of R rule.Application t a b = applied_of (R a) 3 a b
joined_of R rule.LinearFunction t a b = Ok b
joined_of R rule.LinearApplication t a b = applied_of (R a) 4 a b
joined_of R rule.Pair t a b = paired_of (R t) t a b
joined_of R rule.Projection t a b = Ok b
joined_of R rule.FixedPoint t a b = Ok b
joined_of R rule.Constant t a b = Ok b
joined_of R rule.Naming t a b = Ok b

-- the binders that go out of scope
unfoldable pub closes_of : Rule → ℕ
closes_of u = cond (is_projection u) 2 (cond (is_naming u) 1 0)

abbrev pub fitted : Fitting → ℕ → ℕ → Stack → Answer Found
fitted (Ok t) closes n st = found t (drop closes st)
fitted (Err m) closes n st = refused (clash n m.wanted m.found)

abbrev pub leave_two : Types → Rule → ℕ → ℕ → ℕ → Found → Answer Found
leave_two R u t n a y = fitted (joined_of R u t a y.type) (closes_of u) n y.stack

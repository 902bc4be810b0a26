-- Laws of the steps of the walk, by what the code has tested: types and their forms. Assumes nothing.
use Prim.Native.Nat.{ℕ, zero, suc, ◌+◌, ◌-◌, ◌≤◌, ◌<◌}
use mathlib.Core.Path.{◌≡◌, refl, sym, ap}
use mathlib.Core.Bool.{Bool, true, false, cond}
use mathlib.Core.List.{List, [], ◌∷◌}
use native.Mathlib.Omega.{arith}
use native.Mathlib.Numerals.{add-one}
use denote.Enum.Declared.{tag_of}
use types.Run.{OneOf, miss}
use borrow.Author.Tests.{eq-eqb, ne_eqb, le-leb, lt-leb}
use lib.Dec.{eqb, ltb, leb}
use lib.ListN.{length}
use Rattle.calculus.specs.Answer.{refused, refuse, clash, a_form}
use Rattle.calculus.specs.Types.{TyRec}
use Rattle.calculus.specs.Terms.{Edition, first, second, parts, part_at}
use Rattle.calculus.specs.Walk.{Stack, found, top_used}
use Rattle.records.specs.Rules.{is_linear_function, is_projection, is_fixed_point, is_naming}
use Rattle.records.specs.declared.Rule.{Rule}
use Rattle.records.specs.declared.Rule.TheVariants as rule
use Rattle.records.specs.contracts.Rule.{the_type}
use Rattle.parts.specs.Table.{PartEntry, said_part, entry_of, named, shape_ty}
use Rattle.parts.specs.declared.Part.{Part}
use Rattle.records.specs.declared.Sided.{Sided}
use Rattle.typing.specs.declared.rules.Opening.TheVariants as opening
use Rattle.std.specs.declared.result.Result.TheVariants.{Ok, Err}
use Rattle.std.specs.declared.option.Option.TheVariants.{Some, None}
use Rattle.records.specs.TypeNumbers.{kind_no, left_no, right_no, sided_of}
use Rattle.typing.specs.Steps.{Types, misfit_of, both_sides, stands_for, number_below, ty_in, constant_of, opening_of, wanted_of, used_up, enters_of, halves_in, applied_of, paired_of, joined_of, closes_of}

-- ---- by the numbers of a type record

module _ {q : Sided} (r : TyRec) (e : q ≡ sided_of r) where
  pub kind_is : kind_no r ≡ q.kind
  unfolding sided_of
  kind_is = sym (ap (λ (x : Sided). x.kind) e)

  pub left_is : left_no r ≡ q.left
  unfolding sided_of
  left_is = sym (ap (λ (x : Sided). x.left) e)

  pub right_is : right_no r ≡ q.right
  unfolding sided_of
  right_is = sym (ap (λ (x : Sided). x.right) e)

  pub bit_test : eqb q.kind 1 ≡ eqb (kind_no r) 1
  bit_test = rw kind_is

  -- a record of kind k whose sides pass two tests
  module _ (k : ℕ) (f g : ℕ → Bool) where
    pub both-kind : ¬ (q.kind ≡ k) → false ≡ both_sides k r f g
    both-kind d = rw (kind_is, ne_eqb q.kind k d)

    pub both_left : q.kind ≡ k → f q.left ≡ false → false ≡ both_sides k r f g
    both_left h d = rw (kind_is, eq-eqb q.kind k h, left_is, d)

    pub both_right : q.kind ≡ k → f q.left ≡ true → g q.right ≡ both_sides k r f g
    both_right h d = rw (kind_is, eq-eqb q.kind k h, left_is, d, right_is)

  -- entering
  module _ (w : Rule) (t : ℕ) where
    pub open-fun : w ≡ rule.Function → q.kind ≡ 3 → Some (opening.Shared q.left) ≡ opening_of w t r
    unfolding opening_of
    open-fun h d = rw (h, kind_is, d, left_is)

    pub open-fun-not : w ≡ rule.Function → ¬ (q.kind ≡ 3) → None ≡ opening_of w t r
    unfolding opening_of
    open-fun-not h d = rw (h, kind_is, ne_eqb q.kind 3 d)

    pub open-lfun : w ≡ rule.LinearFunction → q.kind ≡ 4 → Some (opening.Linear q.left) ≡ opening_of w t r
    unfolding opening_of
    open-lfun h d = rw (h, kind_is, d, left_is)

    pub open-lfun-not : w ≡ rule.LinearFunction → ¬ (q.kind ≡ 4) → None ≡ opening_of w t r
    unfolding opening_of
    open-lfun-not h d = rw (h, kind_is, ne_eqb q.kind 4 d)

    pub open-pair : w ≡ rule.Pair → q.kind ≡ 2 → Some opening.Nothing ≡ opening_of w t r
    unfolding opening_of
    open-pair h d = rw (h, kind_is, d)

    pub open-pair-not : w ≡ rule.Pair → ¬ (q.kind ≡ 2) → None ≡ opening_of w t r
    unfolding opening_of
    open-pair-not h d = rw (h, kind_is, ne_eqb q.kind 2 d)

    pub open-fix : w ≡ rule.FixedPoint → q.kind ≤ 2 → Some (opening.Shared t) ≡ opening_of w t r
    unfolding opening_of
    open-fix h d = rw (h, kind_is, le-leb q.kind 2 d)

    pub open-fix-not : w ≡ rule.FixedPoint → 2 < q.kind → None ≡ opening_of w t r
    unfolding opening_of
    open-fix-not h d = rw (h, kind_is, lt-leb q.kind 2 d)

    pub wanted-right : is_fixed_point w ≡ false → q.right ≡ wanted_of w t r
    unfolding wanted_of
    wanted-right d = rw (d, right_is)

  -- between two subterms
  module _ (w : Rule) where
    pub enters-product : w ≡ rule.Projection → eqb q.kind 2 ≡ enters_of w r
    unfolding enters_of
    enters-product h = rw (h, kind_is)

    pub enters-sharable : w ≡ rule.Naming → leb q.kind 2 ≡ enters_of w r
    unfolding enters_of
    enters-sharable h = rw (h, kind_is)

    pub halves-two : (t : ℕ) → w ≡ rule.Projection → record { first = q.left; second = q.right } ≡ halves_in w t r
    unfolding halves_in
    halves-two t h = rw (h, left_is, right_is)

  -- an application
  module _ (k f a : ℕ) where
    pub applied-kind : ¬ (q.kind ≡ k) → Err (misfit_of a_form f) ≡ applied_of r k f a
    unfolding applied_of
    applied-kind d = rw (kind_is, ne_eqb q.kind k d)

    pub applied-left : {x : ℕ} → x ≡ q.left → q.kind ≡ k → ¬ (a ≡ q.left) → Err (misfit_of x a) ≡ applied_of r k f a
    unfolding applied_of
    applied-left e h d = rw (e, kind_is, eq-eqb q.kind k h, left_is, ne_eqb a q.left d)

    pub applied-fits : q.kind ≡ k → a ≡ q.left → Ok q.right ≡ applied_of r k f a
    unfolding applied_of
    applied-fits h d = rw (kind_is, eq-eqb q.kind k h, left_is, eq-eqb a q.left d, right_is)

  -- a pair
  module _ (t a b : ℕ) where
    pub paired-left : {x : ℕ} → x ≡ q.left → ¬ (a ≡ q.left) → Err (misfit_of x a) ≡ paired_of r t a b
    unfolding paired_of
    paired-left e d = rw (e, left_is, ne_eqb a q.left d)

    pub paired-right : {x : ℕ} → x ≡ q.right → a ≡ q.left → ¬ (b ≡ q.right) → Err (misfit_of x b) ≡ paired_of r t a b
    unfolding paired_of
    paired-right e h d = rw (e, left_is, eq-eqb a q.left h, right_is, ne_eqb b q.right d)

    pub paired-fits : a ≡ q.left → b ≡ q.right → Ok t ≡ paired_of r t a b
    unfolding paired_of
    paired-fits h d = rw (left_is, eq-eqb a q.left h, right_is, eq-eqb b q.right d)

-- ---- by the rule alone

-- the tags that are left where a match names the rules of written types, or those that join two types
abbrev unwritten : List ℕ
unwritten = 0 ∷ 1 ∷ 3 ∷ 5 ∷ 7 ∷ 9 ∷ 10 ∷ []

abbrev unjoined : List ℕ
unjoined = 0 ∷ 1 ∷ 2 ∷ 4 ∷ 7 ∷ 8 ∷ 9 ∷ 10 ∷ []

pub open_none : (w : Rule) (t : ℕ) (r : TyRec) → OneOf unwritten (tag_of the_type w) → Some opening.Nothing ≡ opening_of w t r
unfolding opening_of
open_none rule.Variable t r o = refl
open_none rule.LinearVariable t r o = refl
open_none rule.Function t r o = absurd (miss unwritten 2 tt o)
open_none rule.Application t r o = refl
open_none rule.LinearFunction t r o = absurd (miss unwritten 4 tt o)
open_none rule.LinearApplication t r o = refl
open_none rule.Pair t r o = absurd (miss unwritten 6 tt o)
open_none rule.Projection t r o = refl
open_none rule.FixedPoint t r o = absurd (miss unwritten 8 tt o)
open_none rule.Constant t r o = refl
open_none rule.Naming t r o = refl

pub wanted_fix : (w : Rule) (t : ℕ) (r : TyRec) → w ≡ rule.FixedPoint → t ≡ wanted_of w t r
unfolding wanted_of
wanted_fix w t r h = rw h

pub used_linear : (w : Rule) (st : Stack) → w ≡ rule.LinearFunction → top_used st ≡ used_up w st
unfolding used_up
used_linear w st h = rw h

pub used_other : (w : Rule) (st : Stack) → is_linear_function w ≡ false → true ≡ used_up w st
unfolding used_up
used_other w st d = rw d

module _ (R : Types) (w : Rule) (t a b : ℕ) where
  pub join_app : w ≡ rule.Application → applied_of (R a) 3 a b ≡ joined_of R w t a b
  unfolding joined_of
  join_app h = rw h

  pub join_lapp : w ≡ rule.LinearApplication → applied_of (R a) 4 a b ≡ joined_of R w t a b
  unfolding joined_of
  join_lapp h = rw h

  pub join_pair : w ≡ rule.Pair → paired_of (R t) t a b ≡ joined_of R w t a b
  unfolding joined_of
  join_pair h = rw h

pub join_last : (R : Types) (w : Rule) (t a b : ℕ) → OneOf unjoined (tag_of the_type w) → Ok b ≡ joined_of R w t a b
unfolding joined_of
join_last R rule.Variable t a b o = refl
join_last R rule.LinearVariable t a b o = refl
join_last R rule.Function t a b o = refl
join_last R rule.Application t a b o = absurd (miss unjoined 3 tt o)
join_last R rule.LinearFunction t a b o = refl
join_last R rule.LinearApplication t a b o = absurd (miss unjoined 5 tt o)
join_last R rule.Pair t a b o = absurd (miss unjoined 6 tt o)
join_last R rule.Projection t a b o = refl
join_last R rule.FixedPoint t a b o = refl
join_last R rule.Constant t a b o = refl
join_last R rule.Naming t a b o = refl

pub closes_two : (w : Rule) → w ≡ rule.Projection → 2 ≡ closes_of w
unfolding closes_of
closes_two w h = rw h

pub closes_one : (w : Rule) → w ≡ rule.Naming → 1 ≡ closes_of w
unfolding closes_of
closes_one w h = rw h

-- the tags that are left where a match names the rules that bind between two subterms
abbrev unbound : List ℕ
unbound = 0 ∷ 1 ∷ 2 ∷ 3 ∷ 4 ∷ 5 ∷ 6 ∷ 8 ∷ 9 ∷ []

unbound-both : (w : Rule) → OneOf unbound (tag_of the_type w) → (is_projection w ≡ false) × (is_naming w ≡ false)
unbound-both rule.Variable o = (refl, refl)
unbound-both rule.LinearVariable o = (refl, refl)
unbound-both rule.Function o = (refl, refl)
unbound-both rule.Application o = (refl, refl)
unbound-both rule.LinearFunction o = (refl, refl)
unbound-both rule.LinearApplication o = (refl, refl)
unbound-both rule.Pair o = (refl, refl)
unbound-both rule.Projection o = absurd (miss unbound 7 tt o)
unbound-both rule.FixedPoint o = (refl, refl)
unbound-both rule.Constant o = (refl, refl)
unbound-both rule.Naming o = absurd (miss unbound 10 tt o)

pub closes_none : (w : Rule) → OneOf unbound (tag_of the_type w) → 0 ≡ closes_of w
unfolding closes_of
closes_none w o = let d = unbound-both w o in rw (d.0, d.1)

pub enters_any : (w : Rule) (r : TyRec) → OneOf unbound (tag_of the_type w) → true ≡ enters_of w r
unfolding enters_of
enters_any w r o = let d = unbound-both w o in rw (d.0, d.1)

pub halves_one : (w : Rule) (t : ℕ) (r : TyRec) → is_projection w ≡ false → record { first = t; second = 0 } ≡ halves_in w t r
unfolding halves_in
halves_one w t r d = rw d

-- ---- constants

looked_none : (x : PartEntry) (b : Bool) → None ≡ cond b (Some x) None → b ≡ false
looked_none x true e = absurd (let z : ◌≡◌ {A = ℕ} 0 1 = cc in omega arith)
looked_none x false e = refl

looked_is : (x y : PartEntry) (b : Bool) → Some y ≡ cond b (Some x) None → (b ≡ true) × (y ≡ x)
looked_is x y true e = (refl, cc)
looked_is x y false e = absurd (let z : ◌≡◌ {A = ℕ} 0 1 = cc in omega arith)

module _ (p : ℕ) where
  unknown_part : None ≡ named p → ltb p (length parts) ≡ false
  unfolding named
  unknown_part e = looked_none (entry_of p) (ltb p (length parts)) e

  module _ (q : Part) (e : Some (said_part q) ≡ named p) where
    known-part : (ltb p (length parts) ≡ true) × (said_part q ≡ entry_of p)
    unfolding named
    known-part = looked_is (entry_of p) (said_part q) (ltb p (length parts)) e

    pub shape_is : shape_ty q.shape ≡ (part_at p).type first
    shape_is = ap (λ (x : PartEntry). x.in_first) known-part.1

    type-of : (E : Edition) → ty_in (said_part q) E ≡ (part_at p).type E
    type-of first = ap (λ (x : PartEntry). x.in_first) known-part.1
    type-of second = ap (λ (x : PartEntry). x.in_second) known-part.1

module _ (R : Types) (l : ℕ) (E : Edition) (p t n : ℕ) (st : Stack) where
  pub constant-unknown : None ≡ named p → refuse 15 n ≡ constant_of R l E p t n st
  unfolding constant_of
  constant-unknown e = rw (unknown_part p e)

  module _ (q : Part) (e : Some (said_part q) ≡ named p) where
    pub constant-misfit : {x : ℕ} → x ≡ number_below (stands_for R (ty_in (said_part q) E)) l 0 → stands_for R (ty_in (said_part q) E) t ≡ false → refused (clash n x t) ≡ constant_of R l E p t n st
    unfolding constant_of
    constant-misfit h d = rw (h, (known-part p q e).0, ← type-of p q e E, d)

    pub constant-fits : stands_for R (ty_in (said_part q) E) t ≡ true → found t st ≡ constant_of R l E p t n st
    unfolding constant_of
    constant-fits d = rw ((known-part p q e).0, ← type-of p q e E, d)

-- ---- the number of a type, as a loop goes

module _ (f : ℕ → Bool) where
  pub number-here : (m k : ℕ) → 0 < m → f k ≡ true → k ≡ number_below f m k
  number-here zero k h e = absurd (omega arith)
  number-here (suc m) k h e = rw e

  pub number-next : (m k : ℕ) → 0 < m → f k ≡ false → number_below f m k ≡ number_below f (m - 1) (k + 1)
  number-next zero k h e = absurd (omega arith)
  number-next (suc m) k h e = let z : suc m - 1 ≡ m = omega arith in rw (e, z, add-one k)

  pub number-none : (m k : ℕ) → m ≡ 0 → a_form ≡ number_below f m k
  number-none m k e = rw e

-- What passes is what the walk accepts; the walk's steps by themselves, a form and a variable's use, against their sentences. Assumes nothing.
use Prim.Native.Nat.{ℕ, zero, suc, ◌≤◌}
use mathlib.Core.Path.{◌≡◌, refl, ap, ◌∙◌}
use mathlib.Core.Logic.{◌↔◌}
use mathlib.Core.Bool.{Bool, true, false}
use mathlib.Core.List.{[], ◌∷◌}
use native.Mathlib.Omega.{arith}
use lib.ListN.{length}
use Rattle.calculus.specs.Answer.{Refusal, Answer, good, refused, numbered, clash, a_form}
use Rattle.calculus.specs.Types.{TyRec, rec01, rec02, rec03, rec04, Table}
use Rattle.calculus.specs.Terms.{Edition, Term}
use Rattle.calculus.specs.Walk.{Binder, shared, linear, Stack, misfit, product, sharable_arrow, linear_arrow, Found, found, under, use_shared, use_linear, walk}
use Rattle.calculus.specs.Rules.{Ctx}
use Rattle.sheet_theorems.specs.Laid.{TableOk, Ranged}
use Rattle.sheet_theorems.specs.Numbers.{Numbers}
use Rattle.sheet_theorems.specs.Uses.{Uses, uses_end, uses_shared, uses_not, uses_it}
use Rattle.sheet_theorems.proofs.Sound.{derived}
use Rattle.sheet_theorems.proofs.Complete.{complete}
use Rattle.sheet_theorems.proofs.WalkKeeps.{walk_in}
use Rattle.sheet_theorems.proofs.Judging.{Judged, value, refusal, Any}
use Rattle.refusal_theorems.specs.Refuses.{Passes, IsBinder, nearest, outwards, NoneOf}

-- ---- what passes is what the walk accepts

pub uses_numbers : {Θ : Table} {st st' : Stack} {Γ : Ctx} (l : ℕ) → Uses Θ st st' Γ → Numbers st l → Numbers st' l
uses_numbers l uses_end k = k
uses_numbers l (uses_shared s) k = (k.0, uses_numbers l s k.1)
uses_numbers l (uses_not s) k = (k.0, uses_numbers l s k.1)
uses_numbers l (uses_it s) k = (k.0, uses_numbers l s k.1)

module _ (E : Edition) (Θ : Table) (ok : TableOk Θ) where
  pub passed : (e : Term) (n : ℕ) (st : Stack) (r : Found) → Ranged E Θ e → Numbers st (length Θ) → walk E Θ e n st ≡ good r → Passes E Θ st e r.type r.stack
  passed e n st r g k h =
      let d = derived E Θ ok e g n st r h in
      record { ctx = d.ctx; uses = d.uses; typed = d.typed; type_in_lem = walk_in Θ ok E e n st r g k h }

  pub passes-walk : (e : Term) (n : ℕ) (st : Stack) (t : ℕ) (st' : Stack) → Ranged E Θ e → Numbers st (length Θ) → Passes E Θ st e t st' → walk E Θ e n st ≡ found t st'
  passes-walk e n st t st' g k p =
      let c = complete E Θ ok p.typed g n p.uses k in
      c.answer ∙ ap (λ (u : ℕ). found u st') (ok.distinct c.type t c.type_in_lem p.type_in_lem c.type_is)

  -- the subterm passes exactly when the walk accepts it
  pub passes-exact : (e : Term) (n : ℕ) (st : Stack) (t : ℕ) (st' : Stack) → Ranged E Θ e → Numbers st (length Θ) → (walk E Θ e n st ≡ found t st') ↔ Passes E Θ st e t st'
  passes-exact e n st t st' g k = ((λ h. passed e n st (record { type = t; stack = st' }) g k h), (λ p. passes-walk e n st t st' g k p))

-- ---- forms

pub no_03 : (q : TyRec) (t n : ℕ) → NoneOf rec03 q → sharable_arrow q t n ≡ misfit t n
no_03 rec01 t n d = refl
no_03 (rec02 a b) t n d = refl
no_03 (rec03 a b) t n d = absurd (d a b refl)
no_03 (rec04 a b) t n d = refl

pub no_04 : (q : TyRec) (t n : ℕ) → NoneOf rec04 q → linear_arrow q t n ≡ misfit t n
no_04 rec01 t n d = refl
no_04 (rec02 a b) t n d = refl
no_04 (rec03 a b) t n d = refl
no_04 (rec04 a b) t n d = absurd (d a b refl)

pub no_02 : (q : TyRec) (t n : ℕ) → NoneOf rec02 q → product q t n ≡ misfit t n
no_02 rec01 t n d = refl
no_02 (rec02 a b) t n d = absurd (d a b refl)
no_02 (rec03 a b) t n d = refl
no_02 (rec04 a b) t n d = refl

kind_number : TyRec → ℕ
kind_number rec01 = 1
kind_number (rec02 a b) = 2
kind_number (rec03 a b) = 3
kind_number (rec04 a b) = 4

none_by : (form : ℕ → ℕ → TyRec) (q : TyRec) → ((a b : ℕ) → ¬ (kind_number q ≡ kind_number (form a b))) → NoneOf form q
none_by form q d a b e = d a b (ap kind_number e)

-- each form: its two numbers, or 12
module _ {P : Refusal → Type 0} where
  pub arrow_or : (q : TyRec) (t n : ℕ) → (NoneOf rec03 q → P (clash n a_form t)) → Judged P Any (sharable_arrow q t n)
  unfolding kind_number
  arrow_or rec01 t n f = refusal (f (none_by rec03 rec01 (λ a b e. absurd (omega (arith, e)))))
  arrow_or (rec02 x y) t n f = refusal (f (none_by rec03 (rec02 x y) (λ a b e. absurd (omega (arith, e)))))
  arrow_or (rec03 x y) t n f = value tt
  arrow_or (rec04 x y) t n f = refusal (f (none_by rec03 (rec04 x y) (λ a b e. absurd (omega (arith, e)))))

  pub linear_or : (q : TyRec) (t n : ℕ) → (NoneOf rec04 q → P (clash n a_form t)) → Judged P Any (linear_arrow q t n)
  unfolding kind_number
  linear_or rec01 t n f = refusal (f (none_by rec04 rec01 (λ a b e. absurd (omega (arith, e)))))
  linear_or (rec02 x y) t n f = refusal (f (none_by rec04 (rec02 x y) (λ a b e. absurd (omega (arith, e)))))
  linear_or (rec03 x y) t n f = refusal (f (none_by rec04 (rec03 x y) (λ a b e. absurd (omega (arith, e)))))
  linear_or (rec04 x y) t n f = value tt

  pub product_or : (q : TyRec) (t n : ℕ) → (NoneOf rec02 q → P (clash n a_form t)) → Judged P Any (product q t n)
  unfolding kind_number
  product_or rec01 t n f = refusal (f (none_by rec02 rec01 (λ a b e. absurd (omega (arith, e)))))
  product_or (rec02 x y) t n f = value tt
  product_or (rec03 x y) t n f = refusal (f (none_by rec02 (rec03 x y) (λ a b e. absurd (omega (arith, e)))))
  product_or (rec04 x y) t n f = refusal (f (none_by rec02 (rec04 x y) (λ a b e. absurd (omega (arith, e)))))

-- ---- variables

-- what a variable's use is refused by
pub data WrongUse : Bool → Stack → ℕ → ℕ → Type 0 where
  use_10 : {lin : Bool} {st : Stack} {i : ℕ} → length st ≤ i → WrongUse lin st i 10
  use_11 : {st : Stack} {i t : ℕ} {u : Bool} → IsBinder st i (linear t u) → WrongUse false st i 11
  use_11_linear : {st : Stack} {i t : ℕ} → IsBinder st i (shared t) → WrongUse true st i 11
  use_13 : {st : Stack} {i t : ℕ} → IsBinder st i (linear t true) → WrongUse true st i 13

pub further : {lin : Bool} {b : Binder} {st : Stack} {i number : ℕ} → WrongUse lin st i number → WrongUse lin (b ∷ st) (suc i) number
further {b = b} {st = st} {i = i} (use_10 h) = use_10 {st = b ∷ st} {i = suc i} (omega (arith, h))
further (use_11 h) = use_11 (outwards h)
further (use_11_linear h) = use_11_linear (outwards h)
further (use_13 h) = use_13 (outwards h)

abbrev pub UseAt : Bool → Stack → ℕ → ℕ → Refusal → Type 0
UseAt lin st i n why = (why ≡ numbered why.number n) × WrongUse lin st i why.number

under_or : {lin : Bool} (b : Binder) (st : Stack) (i n : ℕ) (m : Answer Found) → Judged (UseAt lin st i n) Any m → Judged (UseAt lin (b ∷ st) (suc i) n) Any (under b m)
under_or b st i n (good r) (value h) = value tt
under_or b st i n (refused why) (refusal h) = refusal (h.0, further h.1)

pub shared_or : (st : Stack) (i n : ℕ) → Judged (UseAt false st i n) Any (use_shared st i n)
shared_or [] i n = refusal (refl, use_10 {st = []} {i = i} (omega arith))
shared_or (shared t ∷ st) zero n = value tt
shared_or (linear t u ∷ st) zero n = refusal (refl, use_11 nearest)
shared_or (shared t ∷ st) (suc i) n = under_or (shared t) st i n (use_shared st i n) (shared_or st i n)
shared_or (linear t u ∷ st) (suc i) n = under_or (linear t u) st i n (use_shared st i n) (shared_or st i n)

pub linear_use_or : (st : Stack) (i n : ℕ) → Judged (UseAt true st i n) Any (use_linear st i n)
linear_use_or [] i n = refusal (refl, use_10 {st = []} {i = i} (omega arith))
linear_use_or (shared t ∷ st) zero n = refusal (refl, use_11_linear nearest)
linear_use_or (linear t false ∷ st) zero n = value tt
linear_use_or (linear t true ∷ st) zero n = refusal (refl, use_13 nearest)
linear_use_or (shared t ∷ st) (suc i) n = under_or (shared t) st i n (use_linear st i n) (linear_use_or st i n)
linear_use_or (linear t u ∷ st) (suc i) n = under_or (linear t u) st i n (use_linear st i n) (linear_use_or st i n)

-- .. and the other way
pub under_refused : (b : Binder) (m : Answer Found) (why : Refusal) → m ≡ refused why → under b m ≡ refused why
under_refused b m why e = rw e

pub shared_10 : (st : Stack) (i n : ℕ) → length st ≤ i → use_shared st i n ≡ refused (numbered 10 n)
shared_10 [] i n h = refl
shared_10 (shared t ∷ st) zero n h = absurd (omega (arith, h))
shared_10 (linear t u ∷ st) zero n h = absurd (omega (arith, h))
shared_10 (shared t ∷ st) (suc i) n h = under_refused (shared t) _ _ (shared_10 st i n (omega (arith, h)))
shared_10 (linear t u ∷ st) (suc i) n h = under_refused (linear t u) _ _ (shared_10 st i n (omega (arith, h)))

pub linear_10 : (st : Stack) (i n : ℕ) → length st ≤ i → use_linear st i n ≡ refused (numbered 10 n)
linear_10 [] i n h = refl
linear_10 (shared t ∷ st) zero n h = absurd (omega (arith, h))
linear_10 (linear t false ∷ st) zero n h = absurd (omega (arith, h))
linear_10 (linear t true ∷ st) zero n h = absurd (omega (arith, h))
linear_10 (shared t ∷ st) (suc i) n h = under_refused (shared t) _ _ (linear_10 st i n (omega (arith, h)))
linear_10 (linear t u ∷ st) (suc i) n h = under_refused (linear t u) _ _ (linear_10 st i n (omega (arith, h)))

-- an outer binder is used as it would be without the nearer one
shared_out : (c : Binder) (st : Stack) (i n : ℕ) → use_shared (c ∷ st) (suc i) n ≡ under c (use_shared st i n)
shared_out (shared t) st i n = refl
shared_out (linear t u) st i n = refl

linear_out : (c : Binder) (st : Stack) (i n : ℕ) → use_linear (c ∷ st) (suc i) n ≡ under c (use_linear st i n)
linear_out (shared t) st i n = refl
linear_out (linear t u) st i n = refl

module _ (n : ℕ) where
  pub shared_11 : {st : Stack} {i : ℕ} {b : Binder} → IsBinder st i b → (t : ℕ) (u : Bool) → b ≡ linear t u → use_shared st i n ≡ refused (numbered 11 n)
  shared_11 (nearest {st = st}) t u e = rw e
  shared_11 (outwards {c = c} {st = st} {i = i} h) t u e = shared_out c st i n ∙ under_refused c _ _ (shared_11 h t u e)

  pub linear_11 : {st : Stack} {i : ℕ} {b : Binder} → IsBinder st i b → (t : ℕ) → b ≡ shared t → use_linear st i n ≡ refused (numbered 11 n)
  linear_11 (nearest {st = st}) t e = rw e
  linear_11 (outwards {c = c} {st = st} {i = i} h) t e = linear_out c st i n ∙ under_refused c _ _ (linear_11 h t e)

  pub linear_13 : {st : Stack} {i : ℕ} {b : Binder} → IsBinder st i b → (t : ℕ) → b ≡ linear t true → use_linear st i n ≡ refused (numbered 13 n)
  linear_13 (nearest {st = st}) t e = rw e
  linear_13 (outwards {c = c} {st = st} {i = i} h) t e = linear_out c st i n ∙ under_refused c _ _ (linear_13 h t e)

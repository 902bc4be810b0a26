-- The refusals 10 to 15, one sentence of document 01 ("Numbers of the refusals") and document 02 (L3, L7) after the other, over Figure 2
-- (`Typed`) and with no walk. What is in quotes is the documents' own. Assumes nothing.
use Rattle.std.specs.Prelude.{ℕ, zero, suc, ◌+◌, ◌<◌, ◌≤◌, ◌≡◌, Bool, true, false, ◌∷◌, T, length}
use Rattle.calculus.specs.Answer.{Refusal, numbered, clash, a_form}
use Rattle.calculus.specs.Types.{Ty, sharable, TyRec, rec02, rec03, rec04, Table, rec_at, tree}
use Rattle.calculus.specs.Terms.{Edition, Term, var, lvar, fun, app, lfun, lapp, pair, proj, fix, con, name, nodes, parts, part_at}
use Rattle.calculus.specs.Walk.{Binder, shared, linear, Stack}
use Rattle.calculus.specs.Rules.{Ctx, Typed}
use Rattle.sheet_theorems.specs.Uses.{Uses}

-- ---- what stands before a place is in order

-- the subterm e, with the binders st before it and st' behind it, has type number t by the rules; the linear binders that it uses are its Δ
pub record Passes (E : Edition) (Θ : Table) (st : Stack) (e : Term) (t : ℕ) (st' : Stack) : Type 0 where
  pub ctx : Ctx
  pub uses : Uses Θ st st' ctx
  pub typed : Typed E Θ ctx e (tree Θ t)
  pub type_in_lem : t < length Θ

-- ---- words of the sentences

-- binder number i is b: 0 is the nearest
pub data IsBinder : Stack → ℕ → Binder → Type 0 where
  nearest : {b : Binder} {st : Stack} → IsBinder (b ∷ st) zero b
  outwards : {b c : Binder} {st : Stack} {i : ℕ} → IsBinder st i b → IsBinder (c ∷ st) (suc i) b

-- a type record that is no product (`rec02`), no sharable arrow (`rec03`), no linear arrow (`rec04`)
abbrev pub NoneOf : (ℕ → ℕ → TyRec) → TyRec → Type 0
NoneOf form q = (a b : ℕ) → ¬ (q ≡ form a b)

-- two type numbers stand for different types
abbrev pub Differ : Table → ℕ → ℕ → Type 0
Differ Θ a b = ¬ (tree Θ a ≡ tree Θ b)

-- the number of a part's type. "For a constant, where the part's type stands nowhere in the sheet, it is 256 too"
pub data NumberOf (Θ : Table) (τ : Ty) : ℕ → Type 0 where
  stands : {w : ℕ} → w < length Θ → tree Θ w ≡ τ → NumberOf Θ τ w
  nowhere : ((w : ℕ) → w < length Θ → ¬ (tree Θ w ≡ τ)) → NumberOf Θ τ a_form

-- ---- what is wrong at a node itself: WrongNode st e n why, where the term e is node n. 12 is `clash` of the node, the type wanted and the
-- one found. Document 02 says what is wanted; found is the type that stands where another was wanted: the written one, or the subterm's

pub data WrongNode (E : Edition) (Θ : Table) : Stack → Term → ℕ → Refusal → Type 0 where
  -- "On entering a node: 10, 11, 13 for a variable". 10: "binder number not in scope"
  not_in_scope_lem :
      {st : Stack} {i n : ℕ}
      → length st ≤ i
      → WrongNode E Θ st (var i) n (numbered 10 n)
  not_in_scope_linear :
      {st : Stack} {i n : ℕ}
      → length st ≤ i
      → WrongNode E Θ st (lvar i) n (numbered 10 n)
  -- 11: "variable of the other sort"
  other_sort_lem :
      {st : Stack} {i n t : ℕ} {u : Bool}
      → IsBinder st i (linear t u)
      → WrongNode E Θ st (var i) n (numbered 11 n)
  other_sort_linear :
      {st : Stack} {i n t : ℕ}
      → IsBinder st i (shared t)
      → WrongNode E Θ st (lvar i) n (numbered 11 n)
  -- 13: "linear variable used again", at the "node of that use"
  used_again_lem :
      {st : Stack} {i n t : ℕ}
      → IsBinder st i (linear t true)
      → WrongNode E Θ st (lvar i) n (numbered 13 n)
  -- "15, then 12 for a constant". 15: "unknown part"
  unknown_part :
      {st : Stack} {p t n : ℕ}
      → length parts ≤ p
      → WrongNode E Θ st (con p t) n (numbered 15 n)
  -- "a constant has its part's type"
  not_the_parts :
      {st : Stack} {p t n w : ℕ}
      → p < length parts
      → ¬ (tree Θ t ≡ (part_at p).type E)
      → NumberOf Θ ((part_at p).type E) w
      → WrongNode E Θ st (con p t) n (clash n w t)
  -- "12 if a written type has the wrong shape". "Where a rule wants a form and not one type .. the wanted number is 256"
  no_arrow_written :
      {st : Stack} {t n : ℕ} {e : Term}
      → NoneOf rec03 (rec_at Θ t)
      → WrongNode E Θ st (fun t e) n (clash n a_form t)
  no_linear_arrow_written :
      {st : Stack} {t n : ℕ} {e : Term}
      → NoneOf rec04 (rec_at Θ t)
      → WrongNode E Θ st (lfun t e) n (clash n a_form t)
  no_product_written :
      {st : Stack} {t n : ℕ} {a b : Term}
      → NoneOf rec02 (rec_at Θ t)
      → WrongNode E Θ st (pair t a b) n (clash n a_form t)
  not_sharable_written :
      {st : Stack} {t n : ℕ} {e : Term}
      → ¬ T (sharable (tree Θ t))
      → WrongNode E Θ st (fix t e) n (clash n a_form t)
  -- "On entering a projection's body: 12 if the first subterm is no product"
  no_product :
      {st st₁ : Stack} {t n : ℕ} {a e : Term}
      → Passes E Θ st a t st₁
      → NoneOf rec02 (rec_at Θ t)
      → WrongNode E Θ st (proj a e) n (clash n a_form t)
  -- "12 at the new node on entering its body if the first subterm isn't sharable"
  not_sharable :
      {st st₁ : Stack} {t n : ℕ} {a e : Term}
      → Passes E Θ st a t st₁
      → ¬ T (sharable (tree Θ t))
      → WrongNode E Θ st (name a e) n (clash n a_form t)
  -- "On leaving: 14, then 12". 14: "linear variable unused", at the "node of its function"
  unused :
      {st st₁ : Stack} {t a b r n : ℕ} {e : Term}
      → rec_at Θ t ≡ rec04 a b
      → Passes E Θ (linear a false ∷ st) e r (linear a false ∷ st₁)
      → WrongNode E Θ st (lfun t e) n (numbered 14 n)
  -- "A written type must equal the one that the rule gives": the body's type is the right side
  other_body :
      {st st₁ : Stack} {t a b r n : ℕ} {e : Term}
      → rec_at Θ t ≡ rec03 a b
      → Passes E Θ (shared a ∷ st) e r st₁
      → Differ Θ r b
      → WrongNode E Θ st (fun t e) n (clash n b r)
  other_linear_body :
      {st st₁ : Stack} {t a b r n : ℕ} {e : Term}
      → rec_at Θ t ≡ rec04 a b
      → Passes E Θ (linear a false ∷ st) e r (linear a true ∷ st₁)
      → Differ Θ r b
      → WrongNode E Θ st (lfun t e) n (clash n b r)
  -- .. the fixed point's body has its type
  other_fixed :
      {st st₁ : Stack} {t r n : ℕ} {e : Term}
      → T (sharable (tree Θ t))
      → Passes E Θ (shared t ∷ st) e r st₁
      → Differ Θ r t
      → WrongNode E Θ st (fix t e) n (clash n t r)
  -- "At a pair the first half that differs is named"
  first_half_lem :
      {st st₁ st₂ : Stack} {t l r x y n : ℕ} {a b : Term}
      → rec_at Θ t ≡ rec02 l r
      → Passes E Θ st a x st₁
      → Passes E Θ st₁ b y st₂
      → Differ Θ x l
      → WrongNode E Θ st (pair t a b) n (clash n l x)
  second_half_lem :
      {st st₁ st₂ : Stack} {t l r y n : ℕ} {a b : Term}
      → rec_at Θ t ≡ rec02 l r
      → Passes E Θ st a l st₁
      → Passes E Θ st₁ b y st₂
      → Differ Θ y r
      → WrongNode E Θ st (pair t a b) n (clash n r y)
  -- "A misfit at an application is judged after both subterms. A sharable application needs a sharable arrow and a linear application a
  -- linear one"
  no_arrow :
      {st st₁ st₂ : Stack} {x y n : ℕ} {f a : Term}
      → Passes E Θ st f x st₁
      → Passes E Θ st₁ a y st₂
      → NoneOf rec03 (rec_at Θ x)
      → WrongNode E Θ st (app f a) n (clash n a_form x)
  no_linear_arrow :
      {st st₁ st₂ : Stack} {x y n : ℕ} {f a : Term}
      → Passes E Θ st f x st₁
      → Passes E Θ st₁ a y st₂
      → NoneOf rec04 (rec_at Θ x)
      → WrongNode E Θ st (lapp f a) n (clash n a_form x)
  -- "If an application's arrow is of the right sort but its left side differs, wanted is that left side"
  other_argument :
      {st st₁ st₂ : Stack} {x y l r n : ℕ} {f a : Term}
      → Passes E Θ st f x st₁
      → Passes E Θ st₁ a y st₂
      → rec_at Θ x ≡ rec03 l r
      → Differ Θ y l
      → WrongNode E Θ st (app f a) n (clash n l y)
  other_linear_argument :
      {st st₁ st₂ : Stack} {x y l r n : ℕ} {f a : Term}
      → Passes E Θ st f x st₁
      → Passes E Θ st₁ a y st₂
      → rec_at Θ x ≡ rec04 l r
      → Differ Θ y l
      → WrongNode E Θ st (lapp f a) n (clash n l y)

-- ---- "The walk goes in prefix order": from node n into a subterm, with the binders that are in scope there. What is asked on entering
-- it, and each subterm before it, is in order. "Nodes are numbered from 0 in record order"

pub data Enters (E : Edition) (Θ : Table) : Stack → Term → ℕ → Stack → Term → ℕ → Type 0 where
  function_body :
      {st : Stack} {t a b n : ℕ} {e : Term}
      → rec_at Θ t ≡ rec03 a b
      → Enters E Θ st (fun t e) n (shared a ∷ st) e (n + 1)
  linear_function_body :
      {st : Stack} {t a b n : ℕ} {e : Term}
      → rec_at Θ t ≡ rec04 a b
      → Enters E Θ st (lfun t e) n (linear a false ∷ st) e (n + 1)
  fixed_body :
      {st : Stack} {t n : ℕ} {e : Term}
      → T (sharable (tree Θ t))
      → Enters E Θ st (fix t e) n (shared t ∷ st) e (n + 1)
  -- "function first"
  function :
      {st : Stack} {n : ℕ} {f a : Term}
      → Enters E Θ st (app f a) n st f (n + 1)
  argument :
      {st st₁ : Stack} {x n : ℕ} {f a : Term}
      → Passes E Θ st f x st₁
      → Enters E Θ st (app f a) n st₁ a (n + 1 + nodes f)
  linear_function :
      {st : Stack} {n : ℕ} {f a : Term}
      → Enters E Θ st (lapp f a) n st f (n + 1)
  linear_argument :
      {st st₁ : Stack} {x n : ℕ} {f a : Term}
      → Passes E Θ st f x st₁
      → Enters E Θ st (lapp f a) n st₁ a (n + 1 + nodes f)
  first_of_pair :
      {st : Stack} {t l r n : ℕ} {a b : Term}
      → rec_at Θ t ≡ rec02 l r
      → Enters E Θ st (pair t a b) n st a (n + 1)
  second_of_pair :
      {st st₁ : Stack} {t l r x n : ℕ} {a b : Term}
      → rec_at Θ t ≡ rec02 l r
      → Passes E Θ st a x st₁
      → Enters E Θ st (pair t a b) n st₁ b (n + 1 + nodes a)
  -- "the pair, then the body; binds two sharable variables"; "the second is nearer"
  projected :
      {st : Stack} {n : ℕ} {a e : Term}
      → Enters E Θ st (proj a e) n st a (n + 1)
  projection_body :
      {st st₁ : Stack} {t l r n : ℕ} {a e : Term}
      → Passes E Θ st a t st₁
      → rec_at Θ t ≡ rec02 l r
      → Enters E Θ st (proj a e) n (shared r ∷ shared l ∷ st₁) e (n + 1 + nodes a)
  -- "binds one sharable variable to the first"
  named :
      {st : Stack} {n : ℕ} {a e : Term}
      → Enters E Θ st (name a e) n st a (n + 1)
  name_body :
      {st st₁ : Stack} {t n : ℕ} {a e : Term}
      → Passes E Θ st a t st₁
      → T (sharable (tree Θ t))
      → Enters E Θ st (name a e) n (shared t ∷ st₁) e (n + 1 + nodes a)

-- the term e at node n is refused: at its own node, or inside a subterm
pub data Refuses (E : Edition) (Θ : Table) : Stack → Term → ℕ → Refusal → Type 0 where
  here :
      {st : Stack} {e : Term} {n : ℕ} {why : Refusal}
      → WrongNode E Θ st e n why
      → Refuses E Θ st e n why
  inside :
      {st st' : Stack} {e e' : Term} {n n' : ℕ} {why : Refusal}
      → Enters E Θ st e n st' e' n'
      → Refuses E Θ st' e' n' why
      → Refuses E Θ st e n why

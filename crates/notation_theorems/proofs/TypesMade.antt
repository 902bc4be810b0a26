-- A type that a tree means is worked out, or a limit is passed. Assumes nothing.
use Prim.Native.Nat.{ℕ, zero, suc, ◌+◌, ◌<◌}
use mathlib.Core.Path.{◌≡◌, refl, sym, ap, subst, ◌∙◌}
use mathlib.Core.Bool.{Bool, true, false, cond}
use mathlib.Core.List.{List, [], ◌∷◌}
use native.Mathlib.Omega.{arith}
use lib.Dec.{T, leb, ltb}
use lib.ListN.{length, take}
use Rattle.calculus.specs.Answer.{Answer, good, refused, ◌>>=◌, need}
use Rattle.calculus.proofs.Answers.{good-inj, on-bind}
use Rattle.calculus.specs.Types.{Ty, size, sharable, TyRec, rec02, Table, tree, ty_of, tys_from}
use Rattle.calculus.specs.Read.{formed, repeated}
use Rattle.laws.proofs.Tests.{T-is, not_true, and_of}
use Rattle.notation_calculus.specs.Words.{Name}
use Rattle.notation_calculus.specs.Trees.{Number, Form, product, arrow, linear, TypeTree, typed, TypeAtom, one, ones, inside, typeNamed, Side, nothing, side, TypeTrees, no_types, types, Body, of_type, Clause, Text}
use Rattle.notation_calculus.specs.Making.{most_puts, most_entries, State, Found, Scope, number_in, form_of, listed, entries, number_of, numbers_of, numbers_in, Put, put_of, meant, clause_for, one_put, FoundAll, waiting, found_all, put_in, joined, more_bits, ones_of, atom_type, body_type, type_of}
use Rattle.notation_calculus.specs.Means.{Here, First, first_here, first_later, in_clause, may_join, TypeIs, type_is, AtomIs, ones_is, inside_is, parameter-is, put_is, SideIs, no-side, a-side, TypesAre, no_types_lem, more_types}
use Rattle.notation_theorems.specs.Limited.{Limited}
use Rattle.notation_theorems.proofs.Answering.{On}
use Rattle.notation_theorems.proofs.Growing.{Ready, Grown, grown_same, grown_on, grown_length, grown_tree, tree_one, Listed, listed-holds}
use Rattle.notation_theorems.proofs.TypesMean.{here_of, Low, LowScope, here_grown, low-more, lookup_says, Reached, Works, WorksAll, ReachedAll, trees_of, trees_length, all_hold, type_with, bound_low, numbers_in_lem, put_here, one_put_lem, works_of, works_all, BitsAt, row_more, atom_holds, side_holds, type_sound}
use Rattle.notation_theorems.proofs.MeansOne.{type_one, atom_one, side_one, types_one}
use Rattle.notation_theorems.proofs.Sorting.{bits_share}

-- ---- answers

pub limited-step : {A B : Type 0} (P : A → Type 0) (m : Answer A) (f : A → Answer B) → On P m → Limited m → ((a : A) → P a → Limited (f a)) → Limited (m >>= f)
limited-step P (good a) f h l k = k a h
limited-step P (refused why) f h l k = l

pub limited-any : {A B : Type 0} (m : Answer A) (f : A → Answer B) → Limited m → ((a : A) → Limited (f a)) → Limited (m >>= f)
limited-any (good a) f l k = k a
limited-any (refused why) f l k = l

-- a limit
pub limited_by : {B : Type 0} (t : Bool) (p : ℕ) (f : Unit {0} → Answer B) → Limited (f tt) → Limited (need t 34 p >>= f)
limited_by true p f k = k
limited_by false p f k = refl

-- another test, that passes
pub limited-test : {B : Type 0} (t : Bool) (n p : ℕ) (f : Unit {0} → Answer B) → T t → Limited (f tt) → Limited (need t n p >>= f)
limited-test true n p f h k = k
limited-test false n p f h k = absurd h

pub limited-either : {B : Type 0} (t : Bool) (a b : Answer B) → Limited a → Limited b → Limited (cond t a b)
limited-either true a b h k = h
limited-either false a b h k = k

-- ---- the table

pub listed-limited : (σ : State) (r : TyRec) (at : ℕ) → T (formed σ.table r) → Limited (listed σ r at)
unfolding listed
listed-limited σ r at h = limited-either (repeated σ.table r) (good (record { type = number_in σ.table 0 r; state = σ })) _ tt (limited-test (formed σ.table r) 35 at _ h (limited_by (leb (size (ty_of (tys_from [] σ.table) r)) 128) at _ (limited_by (ltb (length σ.table) 256) at _ tt)))

formed_by : (Θ : Table) (f : Form) (a b : ℕ) → T (may_join f (tree Θ a) (tree Θ b)) → T (formed Θ (form_of f a b))
formed_by Θ product a b t = t
formed_by Θ arrow a b t = t
formed_by Θ linear a b t = t

-- ---- bits in a row

row-limited : (at n m : ℕ) (x : Found) → BitsAt m x → Limited (more_bits at n x)
row-limited at zero m x row = tt
row-limited at (suc n) m x row =
    let Θ : Table = x.state.table in
    let bit-shares : T (sharable (tree Θ 0)) = subst (λ (τ : Ty). T (sharable τ)) (sym (tree_one Θ row.0)) tt in
    let row-shares : T (sharable (tree Θ x.type)) = subst (λ (τ : Ty). T (sharable τ)) (sym row.2) (bits_share m) in
    limited-step (Listed x.state (rec02 0 x.type)) (listed x.state (rec02 0 x.type) at) (λ y. more_bits at n y) (listed-holds x.state (rec02 0 x.type) at row.0 (row.0.some, row.1)) (listed-limited x.state (rec02 0 x.type) at (and_of (sharable (tree Θ 0)) (sharable (tree Θ x.type)) bit-shares row-shares)) λ y h.
    row-limited at n (suc m) y (row_more m x y row h)

-- ---- sides and arguments

abbrev LimitedIn : Text → Here → Table → (State → TypeTree → Answer Found) → Type 0
LimitedIn X H Θ go = (τ : State) (t : TypeTree) (ρ : Ty) → Ready τ.table → Grown Θ τ.table → TypeIs X H t ρ → Limited (go τ t)

side_limited :
    (X : Text) (H : Here) (Θ : Table) (go : State → TypeTree → Answer Found) (x : Found) (p : Side) (α ρ : Ty)
    → Works X H Θ go → LimitedIn X H Θ go → Ready x.state.table → Grown Θ x.state.table → x.type < length x.state.table
    → tree x.state.table x.type ≡ α → SideIs X H α p ρ → Limited (joined go x p)
side_limited X H Θ go x nothing α ρ W L R g l e (no-side d) = tt
side_limited X H Θ go x (side f at t) α ρ W L R g l e (a-side {ρ = υ} is may d) =
    limited-step (Reached x.state (TypeIs X H t)) (go x.state t) (λ y. listed y.state (form_of f x.type y.type) at) (W x.state t R g) (L x.state t υ R g is) λ y (Ry, gy, ly, iy).
    let Φ : Table = y.state.table in
    let a : α ≡ tree Φ x.type = sym e ∙ sym (grown_tree x.state.table Φ x.type gy l) in
    listed-limited y.state (form_of f x.type y.type) at (formed_by Φ f x.type y.type (subst (λ (τ : Ty). T (may_join f τ (tree Φ y.type))) a (subst (λ (τ : Ty). T (may_join f α τ)) (type_one is iy) may)))

pub all-limited :
    (X : Text) (H : Here) (Θ : Table) (go : Scope → State → TypeTree → Answer Found) (S : Scope) (at i : ℕ) (σ : State) (ts : TypeTrees) (τs : List Ty)
    → WorksAll X H Θ go S → ((k : ℕ) → LimitedIn X H Θ (λ τ t. go (waiting S k) τ t)) → Ready σ.table → Grown Θ σ.table → TypesAre X H ts τs
    → Limited (found_all go S at i σ ts)
all-limited X H Θ go S at i σ no_types τs W L R g no_types_lem = tt
all-limited X H Θ go S at i σ (types t ts) τs W L R g (more_types {τ = τ} d ds) = limited_by (leb (entries S + suc i) most_entries) at _ (limited-step (Reached σ (TypeIs X H t)) (go (waiting S i) σ t) (λ x. found_all go S at (suc i) x.state ts >>= λ xs. good (record { types = x.type ∷ xs.types; state = xs.state })) (W i σ t R g) (L i σ t τ R g d) λ x (Rx, gx, lx, is).
    limited-any (found_all go S at (suc i) x.state ts) (λ xs. good (record { types = x.type ∷ xs.types; state = xs.state })) (all-limited X H Θ go S at (suc i) x.state ts _ W L Rx (grown_on Θ σ.table x.state.table g gx) ds) λ xs. tt)

pub numbers-limited : (S : Scope) (at i : ℕ) (ks : List Number) (ns : List ℕ) → numbers_of S.numbers ks ≡ good ns → Limited (numbers_in S at i ks)
numbers-limited S at i [] ns e = tt
numbers-limited S at i (k ∷ ks) ns e = limited_by (leb (entries S + suc i) most_entries) at _ (on-bind (number_of S.numbers k) (λ n. numbers_of S.numbers ks >>= λ ms. good (n ∷ ms)) ns e λ n en f. on-bind (numbers_of S.numbers ks) (λ ms. good (n ∷ ms)) ns f λ ms em g. subst (λ (m : Answer ℕ). Limited (m >>= λ v. numbers_in S at (suc i) ks >>= λ vs. good (v ∷ vs))) (sym en) (limited-any (numbers_in S at (suc i) ks) (λ vs. good (n ∷ vs)) (numbers-limited S at (suc i) ks ms em) λ vs. tt))

-- ---- clauses

-- the first clause that is meant is found
pub first_found : (under : ℕ) (all : List Clause) (sort : Bool) (n : Name) (ts ns : List ℕ) (at k : ℕ) {cs : List Clause} {j : ℕ} {c : Clause} → First sort n (length ts) ns cs j c → clause_for under all cs k sort n ts ns at ≡ good (put_of under all c (k + j) ts ns)
first_found under all sort n ts ns at k (first_here {c = c} {cs = cs} t) =
    let z : k ≡ k + 0 = omega arith in
    ap (λ (b : Bool). cond b (good (put_of under all c k ts ns)) (clause_for under all cs (suc k) sort n ts ns at)) (T-is (meant c sort n (length ts) ns) t) ∙ ap (λ (i : ℕ). good (put_of under all c i ts ns)) z
first_found under all sort n ts ns at k (first_later {b = b} {c = c} {cs = cs} {i = i} t f) =
    let z : suc k + i ≡ k + suc i = omega arith in
    ap (λ (x : Bool). cond x (good (put_of under all b k ts ns)) (clause_for under all cs (suc k) sort n ts ns at)) (not_true (meant b sort n (length ts) ns) t) ∙ first_found under all sort n ts ns at (suc k) f ∙ ap (λ (m : ℕ). good (put_of under all c m ts ns)) z

-- what is put in is limited if the body of the clause that is meant is, in its scope
pub put-limited :
    {A : Type 0} (X : Text) (sort : Bool) (S : Scope) (H : Here) (type : Scope → State → TypeTree → Answer Found) (go : Scope → State → Body → Answer A) (σ : State) (at : ℕ) (n : Name) (ts : TypeTrees) (ks : List Number) (τs : List Ty) (ns : List ℕ) (j : ℕ) (c : Clause)
    → On (ReachedAll σ (TypesAre X H ts)) (found_all type S at 0 σ ts)
    → Limited (found_all type S at 0 σ ts)
    → TypesAre X H ts τs
    → numbers_of S.numbers ks ≡ good ns
    → First sort n (length τs) ns (take S.seen X.clauses) j c
    → ((P : Scope) (τ : State) → Ready τ.table → LowScope (length τ.table) P → here_of τ.table P ≡ in_clause X.clauses c j τs ns → Limited (go P τ c.body))
    → Limited (put_in X sort S type go σ at n ts ks)
put-limited {A = A} X sort S H type go σ at n ts ks τs ns j c all limits are ne first body =
    limited-step (ReachedAll σ (TypesAre X H ts)) (found_all type S at 0 σ ts) (λ xs. numbers_in S at (length xs.types) ks >>= λ ms. behind xs ms) all limits λ xs (Rs, gs, ls, is).
    let Θ : Table = xs.state.table in
    let same : trees_of Θ xs.types ≡ τs = types_one is are in
    let long : length τs ≡ length xs.types = ap (λ (l : List Ty). length l) (sym same) ∙ trees_length Θ xs.types in
    limited-step (λ (ms : List ℕ). numbers_of S.numbers ks ≡ good ms) (numbers_in S at (length xs.types) ks) (λ ms. behind xs ms) (numbers_in_lem S at (length xs.types) ks) (numbers-limited S at (length xs.types) ks ns ne) λ ms em.
    let nm : ns ≡ ms = good-inj (sym ne ∙ em) in
    let found : clause_for (entries S) X.clauses (take S.seen X.clauses) 0 sort n xs.types ms at ≡ good (put_of (entries S) X.clauses c (0 + j) xs.types ms) = first_found (entries S) X.clauses sort n xs.types ms at 0 (subst (λ (l : List ℕ). First sort n (length xs.types) l (take S.seen X.clauses) j c) nm (subst (λ (k : ℕ). First sort n k ns (take S.seen X.clauses) j c) long first)) in
    let P : Scope = (put_of (entries S) X.clauses c (0 + j) xs.types ms).scope in
    let z : 0 + j ≡ j = omega arith in
    subst (λ (m : Answer Put). Limited (m >>= λ p. one_put xs.state p.cost at >>= λ τ. go p.scope τ p.body)) (sym found) (limited-step (λ (τ : State). τ.table ≡ Θ) (one_put xs.state (put_of (entries S) X.clauses c (0 + j) xs.types ms).cost at) (λ τ. go P τ c.body) (one_put_lem xs.state (put_of (entries S) X.clauses c (0 + j) xs.types ms).cost at) (limited_by (leb (xs.state.puts + (put_of (entries S) X.clauses c (0 + j) xs.types ms).cost) most_puts) at _ tt) λ τ st.
    body P τ (subst (λ (Φ : Table). Ready Φ) (sym st) Rs) (subst (λ (Φ : Table). Low (length Φ) P.types) (sym st) (bound_low (length Θ) c.types xs.types ls), tt) (ap (λ (Φ : Table). here_of Φ P) st ∙ put_here Θ (entries S) X.clauses c (0 + j) xs.types ms ∙ ap (λ (i : ℕ). in_clause X.clauses c i (trees_of Θ xs.types) ms) z ∙ ap (λ (l : List Ty). in_clause X.clauses c j l ms) same ∙ ap (λ (l : List ℕ). in_clause X.clauses c j τs l) (sym nm)))
  where
    behind : FoundAll → List ℕ → Answer A
    behind xs ms = clause_for (entries S) X.clauses (take S.seen X.clauses) 0 sort n xs.types ms at >>= λ p. one_put xs.state p.cost at >>= λ τ. go p.scope τ p.body

-- ---- types

abbrev pub TypeLimited : Text → ℕ → Type 0
TypeLimited X more = (S : Scope) (σ : State) (t : TypeTree) (ρ : Ty) → Ready σ.table → LowScope (length σ.table) S → TypeIs X (here_of σ.table S) t ρ → Limited (type_of X more S σ t)

limited_in : (X : Text) (more : ℕ) (S : Scope) (σ : State) → TypeLimited X more → LowScope (length σ.table) S → LimitedIn X (here_of σ.table S) σ.table (λ τ t. type_of X more S τ t)
limited_in X more S σ H low τ t ρ R g is =
    let h = grown_length σ.table τ.table g in
    H S τ t ρ R (low-more _ _ S.types h low.0, low-more _ _ S.variables h low.1) (subst (λ (G : Here). TypeIs X G t ρ) (sym (here_grown σ.table τ.table S g low)) is)

pub limited-all : (X : Text) (more : ℕ) (S : Scope) (σ : State) → TypeLimited X more → LowScope (length σ.table) S → (k : ℕ) → LimitedIn X (here_of σ.table S) σ.table (λ τ t. type_of X more (waiting S k) τ t)
limited-all X more S σ H low k τ t ρ R g is = limited_in X more (waiting S k) σ H (low.0, tt) τ t ρ R g (type_with [] is)

module _ (X : Text) (more : ℕ) (limits : TypeLimited X more) (S : Scope) (σ : State) (R : Ready σ.table) (low : LowScope (length σ.table) S) where
  abbrev H : Here
  H = here_of σ.table S

  abbrev go : Scope → State → TypeTree → Answer Found
  go Q τ t = type_of X more Q τ t

  abbrev put : Scope → State → Body → Answer Found
  put = body_type (λ Q τ t. type_of X more Q τ t)

  named-limited :
      (at : ℕ) (n : Name) (ts : TypeTrees) (ks : List Number) {τs : List Ty} {ns : List ℕ} {j : ℕ} {c : Clause} {t : TypeTree} {τ : Ty}
      → TypesAre X H ts τs → numbers_of S.numbers ks ≡ good ns → First true n (length τs) ns (take S.seen X.clauses) j c → c.body ≡ of_type t → TypeIs X (in_clause X.clauses c j τs ns) t τ
      → Limited (put_in X true S go put σ at n ts ks)
  named-limited at n ts ks {τs = τs} {ns} {j} {c} {t} {τ} are ne first be is = put-limited X true S H go put σ at n ts ks τs ns j c (all_hold X H σ.table go S at 0 σ ts (works_all X more S σ (type_sound X more) low) R (grown_same σ.table)) (all-limited X H σ.table go S at 0 σ ts τs (works_all X more S σ (type_sound X more) low) (limited-all X more S σ limits low) R (grown_same σ.table) are) are ne first λ P ρ Rρ lowρ here.
      subst (λ (b : Body). Limited (put P ρ b)) (sym be) (limits P ρ t τ Rρ lowρ (subst (λ (G : Here). TypeIs X G t τ) (sym here) is))

  atom-limited : (a : TypeAtom) (τ : Ty) → AtomIs X H a τ → Limited (atom_type X S go put σ a)
  atom-limited one τ d = tt
  atom-limited (ones at k) τ (ones_is {n = n} d e) = subst (λ (m : Answer ℕ). Limited (m >>= λ i. ones_of at k.place i σ)) (sym d) (row-limited at n 0 (record { type = 0; state = σ }) (R, R.some, tree_one σ.table R))
  atom-limited (inside t) τ (inside_is d) = limits S σ t τ R low d
  atom-limited (typeNamed at n ts ks) τ (parameter-is {i = i} h) = lookup_says (λ (m : Answer Found). Limited m) σ.table n S.types 0 (length σ.table) (λ j v. good (record { type = v; state = σ })) (put_in X true S go put σ at n no_types []) low.0 (λ j v l near'. tt) λ none. absurd (none i τ h)
  atom-limited (typeNamed at n no_types []) τ (put_is free are ne first be is) = lookup_says (λ (m : Answer Found). Limited m) σ.table n S.types 0 (length σ.table) (λ j v. good (record { type = v; state = σ })) (put_in X true S go put σ at n no_types []) low.0 (λ j v l near'. tt) λ none. named-limited at n no_types [] are ne first be is
  atom-limited (typeNamed at n no_types (k ∷ ks)) τ (put_is free are ne first be is) = named-limited at n no_types (k ∷ ks) are ne first be is
  atom-limited (typeNamed at n (types t ts) ks) τ (put_is free are ne first be is) = named-limited at n (types t ts) ks are ne first be is

-- a type that a tree means is worked out, or a limit is passed
pub type_limited : (X : Text) (more : ℕ) → TypeLimited X more
type_limited X zero S σ (typed at a p q) ρ R low d = refl
type_limited X (suc more) S σ (typed at a p q) ρ R low (type_is {τ₁ = τ₁} {τ₂ = τ₂} ia ip iq) =
    let H₀ : Here = here_of σ.table S in
    let go₀ : State → TypeTree → Answer Found = λ τ t. type_of X more S τ t in
    let W : Works X H₀ σ.table go₀ = works_of X more S σ (type_sound X more) low in
    let L : LimitedIn X H₀ σ.table go₀ = limited_in X more S σ (type_limited X more) low in
    limited-step (Reached σ (AtomIs X H₀ a)) (atom_type X S (λ G τ t. type_of X more G τ t) (body_type (λ G τ t. type_of X more G τ t)) σ a) (λ x. joined go₀ x p >>= λ y. joined go₀ y q) (atom_holds X more (type_sound X more) S σ R low a) (atom-limited X more (type_limited X more) S σ R low a τ₁ ia) λ x (Rx, gx, lx, ix).
    let e₁ = atom_one ix ia in
    limited-step (Reached x.state (SideIs X H₀ (tree x.state.table x.type) p)) (joined go₀ x p) (λ y. joined go₀ y q) (side_holds X H₀ σ.table go₀ x p W Rx gx lx) (side_limited X H₀ σ.table go₀ x p τ₁ τ₂ W L Rx gx lx e₁ ip) λ y (Ry, gy, ly, iy).
    side_limited X H₀ σ.table go₀ y q τ₂ ρ W L Ry (grown_on σ.table x.state.table y.state.table gx gy) ly (side_one iy ip e₁) iq

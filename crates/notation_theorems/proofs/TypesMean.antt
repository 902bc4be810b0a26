-- The type that is worked out for a tree is the one that the tree means. Assumes nothing.
use Prim.Native.Nat.{ℕ, zero, suc, ◌+◌, ◌<◌, ◌≤◌}
use mathlib.Core.Path.{◌≡◌, refl, sym, ap, subst, ◌∙◌}
use mathlib.Core.Bool.{Bool, true, false, cond}
use mathlib.Core.List.{List, [], ◌∷◌}
use native.Mathlib.Omega.{arith}
use lib.Dec.{T, leb, eqb, eqb→eq, eqb_refl}
use lib.ListN.{length, take}
use Rattle.calculus.specs.Answer.{Answer, good, ◌>>=◌}
use Rattle.calculus.specs.Types.{Ty, bit, prod, sharable, rec02, Table, tree}
use Rattle.laws.proofs.Tests.{and_both, and_of}
use Rattle.sheet_theorems.specs.Laid.{Agrees, Below}
use Rattle.notation_calculus.specs.Words.{Name, same_name}
use Rattle.notation_calculus.specs.Trees.{Bound, Number, Form, product, arrow, linear, TypeTree, typed, TypeAtom, one, ones, inside, typeNamed, Side, nothing, side, TypeTrees, no_types, types, Body, of_type, of_term, Clause, Text}
use Rattle.notation_calculus.specs.Making.{most_puts, State, Found, Entry, Scope, lookup, form_of, listed, entries, room_for, number_of, numbers_of, numbers_in, bind_numbers, bind_types, seen_by, Put, put_of, meant, clause_for, one_put, FoundAll, waiting, found_all, put_in, joined, more_bits, ones_of, atom_type, body_type, type_of}
use Rattle.notation_calculus.specs.Means.{TypeEntry, Here, with, Nearest, near, far, Free, First, first_here, first_later, type_entries, in_clause, may_join, bits_ty, TypeIs, type_is, AtomIs, one_is, ones_is, inside_is, parameter-is, put_is, SideIs, no-side, a-side, TypesAre, no_types_lem, more_types}
use Rattle.notation_calculus.specs.Means as Means
use Rattle.notation_theorems.proofs.Answering.{On, on_step, on_any, on_test, on_tests, on_map, on_is}
use Rattle.notation_theorems.proofs.Growing.{Ready, Grown, grown_same, grown_on, grown_length, grown_tree, tree_one, Listed, listed-holds}

-- ---- scopes, with the types that the numbers stand for

abbrev pub shown : Table → List Entry → List TypeEntry
shown Θ [] = []
shown Θ (e ∷ es) = record { name = e.name; type = tree Θ e.value } ∷ shown Θ es

abbrev pub here_of : Table → Scope → Here
here_of Θ S = record { seen = S.seen; types = shown Θ S.types; numbers = S.numbers; variables = shown Θ S.variables }

-- all type numbers are below n
abbrev pub Low : ℕ → List Entry → Type 0
Low n [] = Unit {0}
Low n (e ∷ es) = (e.value < n) × Low n es

abbrev pub LowScope : ℕ → Scope → Type 0
LowScope n S = Low n S.types × Low n S.variables

pub shown_grown : (Θ Φ : Table) (Γ : List Entry) → Grown Θ Φ → Low (length Θ) Γ → shown Φ Γ ≡ shown Θ Γ
shown_grown Θ Φ [] g h = refl
shown_grown Θ Φ (e ∷ es) g h = ap (λ (τ : Ty). record { name = e.name; type = τ } ∷ shown Φ es) (grown_tree Θ Φ e.value g h.0) ∙ ap (λ (Γ : List TypeEntry). record { name = e.name; type = tree Θ e.value } ∷ Γ) (shown_grown Θ Φ es g h.1)

pub here_grown : (Θ Φ : Table) (S : Scope) → Grown Θ Φ → LowScope (length Θ) S → here_of Φ S ≡ here_of Θ S
here_grown Θ Φ S g h =
    ap (λ (Γ : List TypeEntry). record { seen = S.seen; types = Γ; numbers = S.numbers; variables = shown Φ S.variables }) (shown_grown Θ Φ S.types g h.0) ∙ ap (λ (Γ : List TypeEntry). record { seen = S.seen; types = shown Θ S.types; numbers = S.numbers; variables = Γ }) (shown_grown Θ Φ S.variables g h.1)

pub low-more : (m n : ℕ) (Γ : List Entry) → m ≤ n → Low m Γ → Low n Γ
low-more m n [] h l = tt
low-more m n (e ∷ es) h l = (omega (arith, l.0), low-more m n es h l.1)

-- ---- names

pub same→eq : (a b : Name) → T (same_name a b) → a ≡ b
same→eq [] [] t = refl
same→eq [] (b ∷ bs) t = absurd t
same→eq (a ∷ xs) [] t = absurd t
same→eq (a ∷ xs) (b ∷ bs) t =
    let (p, q) = and_both (eqb a b) (same_name xs bs) t in
    ap (λ (x : ℕ). x ∷ xs) (eqb→eq a b p) ∙ ap (λ (l : Name). b ∷ l) (same→eq xs bs q)

same_self : (a : Name) → T (same_name a a)
same_self [] = tt
same_self (a ∷ xs) = and_of (eqb a a) (same_name xs xs) (eqb_refl a) (same_self xs)

not_same : (a b : Name) → same_name a b ≡ false → a ≡ b → ⊥
not_same a b e g = subst (λ (x : Bool). T x) e (subst (λ (x : Name). T (same_name a x)) g (same_self a))

nearest-none : {n : Name} {i : ℕ} {τ : Ty} → Nearest n [] i τ → ⊥
nearest-none = elim [ ]

not_nearest : (n : Name) (e : TypeEntry) (Γ : List TypeEntry) → (n ≡ e.name → ⊥) → ((i : ℕ) (τ : Ty) → Nearest n Γ i τ → ⊥) → (i : ℕ) (τ : Ty) → Nearest n (e ∷ Γ) i τ → ⊥
not_nearest n e Γ f g zero τ (near p q) = f p
not_nearest n e Γ f g (suc i) τ (far p h) = g i τ h

-- what is found is the nearest of its name; or there is none
pub lookup_says :
    {A : Type 0} (P : A → Type 0) (Θ : Table) (n : Name) (Γ : List Entry) (k N : ℕ) (found : ℕ → ℕ → A) (other : A)
    → Low N Γ
    → ((j v : ℕ) → v < N → Nearest n (shown Θ Γ) j (tree Θ v) → P (found (k + j) v))
    → (((i : ℕ) (τ : Ty) → Nearest n (shown Θ Γ) i τ → ⊥) → P other)
    → P (lookup n Γ k found other)
lookup_says P Θ n [] k N found other l f g = g (λ i τ h. nearest-none h)
lookup_says P Θ n (e ∷ es) k N found other l f g = by (same_name n e.name) refl (λ f' g'. lookup_says P Θ n es (suc k) N found other l.1 f' g')
  where
    entry : TypeEntry
    entry = record { name = e.name; type = tree Θ e.value }

    by :
        (b : Bool) → same_name n e.name ≡ b
        → (((j v : ℕ) → v < N → Nearest n (shown Θ es) j (tree Θ v) → P (found (suc k + j) v)) → (((i : ℕ) (τ : Ty) → Nearest n (shown Θ es) i τ → ⊥) → P other) → P (lookup n es (suc k) found other))
        → P (cond (same_name n e.name) (found k e.value) (lookup n es (suc k) found other))
    by true p go = subst (λ (b : Bool). P (cond b (found k e.value) (lookup n es (suc k) found other))) (sym p) (subst (λ (m : ℕ). P (found m e.value)) {x = k + 0} {y = k} (omega arith) (f 0 e.value l.0 (near (same→eq n e.name (subst (λ (b : Bool). T b) (sym p) tt)) refl)))
    by false p go = subst (λ (b : Bool). P (cond b (found k e.value) (lookup n es (suc k) found other))) (sym p) (go (λ j v h q. subst (λ (m : ℕ). P (found m v)) {x = k + suc j} {y = suc k + j} (omega arith) (f (suc j) v h (far (not_same n e.name p) q))) (λ none. g (not_nearest n entry (shown Θ es) (not_same n e.name p) none)))

-- ---- what is known of a type that was worked out, in a scope H whose types stand in the table Θ

-- the state went from τ to x's, and x's number stands for a type of which P tells
abbrev pub Reached : State → (Ty → Type 0) → Found → Type 0
Reached τ P x = Ready x.state.table × Grown τ.table x.state.table × (x.type < length x.state.table) × P (tree x.state.table x.type)

-- what works types out does so rightly, from every state that Θ has grown to
abbrev pub Works : Text → Here → Table → (State → TypeTree → Answer Found) → Type 0
Works X H Θ go = (τ : State) (t : TypeTree) → Ready τ.table → Grown Θ τ.table → On (Reached τ (TypeIs X H t)) (go τ t)

-- ---- sides

form_below : (f : Form) (a b n : ℕ) → a < n → b < n → Below n (form_of f a b)
form_below product a b n h k = (h, k)
form_below arrow a b n h k = (h, k)
form_below linear a b n h k = (h, k)

form_agrees : (Θ : Table) (f : Form) (a b : ℕ) (τ : Ty) → Agrees Θ (form_of f a b) τ → (τ ≡ Means.joined_ty f (tree Θ a) (tree Θ b)) × T (may_join f (tree Θ a) (tree Θ b))
form_agrees Θ product a b τ h = (h.0, and_of (sharable (tree Θ a)) (sharable (tree Θ b)) h.1 h.2)
form_agrees Θ arrow a b τ h = (h.0, h.1)
form_agrees Θ linear a b τ h = (h.0, h.1)

pub side_holds :
    (X : Text) (H : Here) (Θ : Table) (go : State → TypeTree → Answer Found) (x : Found) (p : Side)
    → Works X H Θ go → Ready x.state.table → Grown Θ x.state.table → x.type < length x.state.table
    → On (Reached x.state (SideIs X H (tree x.state.table x.type) p)) (joined go x p)
side_holds X H Θ go x nothing W R g l = (R, grown_same x.state.table, l, no-side refl)
side_holds X H Θ go x (side f at t) W R g l = on_step (Reached x.state (TypeIs X H t)) Q (go x.state t) (λ y. listed y.state (form_of f x.type y.type) at) (W x.state t R g) λ y (Ry, gy, ly, is).
    on_map (Listed y.state (form_of f x.type y.type)) Q (listed y.state (form_of f x.type y.type) at) (listed-holds y.state (form_of f x.type y.type) at Ry (form_below f x.type y.type (length y.state.table) (omega (arith, grown_length x.state.table y.state.table gy)) ly)) λ z (Rz, gz, lz, agrees).
    let (e, may) = form_agrees z.state.table f x.type y.type (tree z.state.table z.type) agrees in
    let gxz = grown_on x.state.table y.state.table z.state.table gy gz in
    let ex = grown_tree x.state.table z.state.table x.type gxz l in
    let ey = grown_tree y.state.table z.state.table y.type gz ly in
    (Rz, gxz, lz, a-side is (rw (ex, ey) at may) (rw (ex, ey) at e))
  where
    Q : Found → Type 0
    Q = Reached x.state (SideIs X H (tree x.state.table x.type) (side f at t))

-- ---- bits in a row

-- x stands for m bits and one more
abbrev pub BitsAt : ℕ → Found → Type 0
BitsAt m x = Ready x.state.table × (x.type < length x.state.table) × (tree x.state.table x.type ≡ bits_ty m)

-- one bit more
pub row_more : (m : ℕ) (x y : Found) → BitsAt m x → Listed x.state (rec02 0 x.type) y → BitsAt (suc m) y
row_more m x y (R, l, e) (Ry, gy, ly, agrees) =
    let Φ : Table = y.state.table in
    (Ry, ly, agrees.0 ∙ ap (λ (τ : Ty). prod τ (tree Φ x.type)) (tree_one Φ Ry) ∙ ap (λ (τ : Ty). prod bit τ) (grown_tree x.state.table Φ x.type gy l ∙ e))

row-holds : (at n m : ℕ) (x : Found) → BitsAt m x → On (Reached x.state (λ (τ : Ty). τ ≡ bits_ty (n + m))) (more_bits at n x)
row-holds at zero m x (R, l, e) =
    let s : m ≡ 0 + m = omega arith in
    (R, grown_same x.state.table, l, e ∙ ap bits_ty s)
row-holds at (suc n) m x row = on_step (Listed x.state (rec02 0 x.type)) Q (listed x.state (rec02 0 x.type) at) (λ y. more_bits at n y) (listed-holds x.state (rec02 0 x.type) at row.0 (row.0.some, row.1)) λ y h.
    on_map (Reached y.state (λ (τ : Ty). τ ≡ bits_ty (n + suc m))) Q (more_bits at n y) (row-holds at n (suc m) y (row_more m x y row h)) λ z (Rz, gz, lz, ez).
    let s : n + suc m ≡ suc n + m = omega arith in
    (Rz, grown_on x.state.table y.state.table z.state.table h.1 gz, lz, ez ∙ ap bits_ty s)
  where
    Q : Found → Type 0
    Q = Reached x.state (λ (τ : Ty). τ ≡ bits_ty (suc n + m))

-- ---- arguments

abbrev pub trees_of : Table → List ℕ → List Ty
trees_of Θ [] = []
trees_of Θ (t ∷ ts) = tree Θ t ∷ trees_of Θ ts

abbrev pub LowAll : ℕ → List ℕ → Type 0
LowAll n [] = Unit {0}
LowAll n (t ∷ ts) = (t < n) × LowAll n ts

pub trees_length : (Θ : Table) (ts : List ℕ) → length (trees_of Θ ts) ≡ length ts
trees_length Θ [] = refl
trees_length Θ (t ∷ ts) = ap (λ (n : ℕ). suc n) (trees_length Θ ts)

abbrev pub ReachedAll : State → (List Ty → Type 0) → FoundAll → Type 0
ReachedAll τ P x = Ready x.state.table × Grown τ.table x.state.table × LowAll (length x.state.table) x.types × P (trees_of x.state.table x.types)

-- `go` works out types of a scope, whatever waits
abbrev pub WorksAll : Text → Here → Table → (Scope → State → TypeTree → Answer Found) → Scope → Type 0
WorksAll X H Θ go S = (i : ℕ) → Works X H Θ (λ τ t. go (waiting S i) τ t)

pub all_hold : (X : Text) (H : Here) (Θ : Table) (go : Scope → State → TypeTree → Answer Found) (S : Scope) (at i : ℕ) (σ : State) (ts : TypeTrees) → WorksAll X H Θ go S → Ready σ.table → Grown Θ σ.table → On (ReachedAll σ (TypesAre X H ts)) (found_all go S at i σ ts)
all_hold X H Θ go S at i σ no_types W R g = (R, grown_same σ.table, tt, no_types_lem)
all_hold X H Θ go S at i σ (types t ts) W R g = on_any Q (room_for S (suc i) at) (λ _. go (waiting S i) σ t >>= λ x. found_all go S at (suc i) x.state ts >>= λ xs. good (record { types = x.type ∷ xs.types; state = xs.state })) λ _.
    on_step (Reached σ (TypeIs X H t)) Q (go (waiting S i) σ t) (λ x. found_all go S at (suc i) x.state ts >>= λ xs. good (record { types = x.type ∷ xs.types; state = xs.state })) (W i σ t R g) λ x (Rx, gx, lx, is).
    on_step (ReachedAll x.state (TypesAre X H ts)) Q (found_all go S at (suc i) x.state ts) (λ xs. good (record { types = x.type ∷ xs.types; state = xs.state })) (all_hold X H Θ go S at (suc i) x.state ts W Rx (grown_on Θ σ.table x.state.table g gx)) λ xs (Rs, gs, ls, are).
    let e = grown_tree x.state.table xs.state.table x.type gs lx in
    (Rs, grown_on σ.table x.state.table xs.state.table gx gs, (omega (arith, lx, grown_length x.state.table xs.state.table gs), ls), rw e (more_types is are))
  where
    Q : FoundAll → Type 0
    Q = ReachedAll σ (TypesAre X H (types t ts))

-- numbers as arguments are those that are meant
pub numbers_in_lem : (S : Scope) (at i : ℕ) (ks : List Number) → On (λ (ns : List ℕ). numbers_of S.numbers ks ≡ good ns) (numbers_in S at i ks)
numbers_in_lem S at i [] = refl
numbers_in_lem S at i (k ∷ ks) = on_any Q (room_for S (suc i) at) (λ _. number_of S.numbers k >>= λ n. numbers_in S at (suc i) ks >>= λ ns. good (n ∷ ns)) λ _.
    on_is Q (number_of S.numbers k) (λ n. numbers_in S at (suc i) ks >>= λ ns. good (n ∷ ns)) λ n e.
    on_step (λ (ns : List ℕ). numbers_of S.numbers ks ≡ good ns) Q (numbers_in S at (suc i) ks) (λ ns. good (n ∷ ns)) (numbers_in_lem S at (suc i) ks) λ ns h.
    ap (λ (m : Answer ℕ). m >>= λ x. numbers_of S.numbers ks >>= λ xs. good (x ∷ xs)) e ∙ ap (λ (m : Answer (List ℕ)). m >>= λ xs. good (n ∷ xs)) h
  where
    Q : List ℕ → Type 0
    Q ns = numbers_of S.numbers (k ∷ ks) ≡ good ns

-- ---- a type knows no variables

mutual
  pub type_with : {X : Text} {H : Here} {t : TypeTree} {τ : Ty} (Γ : List TypeEntry) → TypeIs X H t τ → TypeIs X (with H Γ) t τ
  type_with Γ (type_is a p q) = type_is (atom-with Γ a) (side-with Γ p) (side-with Γ q)

  atom-with : {X : Text} {H : Here} {a : TypeAtom} {τ : Ty} (Γ : List TypeEntry) → AtomIs X H a τ → AtomIs X (with H Γ) a τ
  atom-with Γ one_is = one_is
  atom-with Γ (ones_is d e) = ones_is d e
  atom-with Γ (inside_is t) = inside_is (type_with Γ t)
  atom-with Γ (parameter-is h) = parameter-is h
  atom-with Γ (put_is free are ne first be is) = put_is free (types-with Γ are) ne first be is

  side-with : {X : Text} {H : Here} {τ ρ : Ty} {p : Side} (Γ : List TypeEntry) → SideIs X H τ p ρ → SideIs X (with H Γ) τ p ρ
  side-with Γ (no-side e) = no-side e
  side-with Γ (a-side t may e) = a-side (type_with Γ t) may e

  types-with : {X : Text} {H : Here} {ts : TypeTrees} {τs : List Ty} (Γ : List TypeEntry) → TypesAre X H ts τs → TypesAre X (with H Γ) ts τs
  types-with Γ no_types_lem = no_types_lem
  types-with Γ (more_types t ts) = more_types (type_with Γ t) (types-with Γ ts)

-- ---- clauses

-- the clause that is found is the first that is meant
abbrev pub Chosen : ℕ → List Clause → List Clause → ℕ → Bool → Name → List ℕ → List ℕ → Put → Type 0
Chosen under all cs k sort n ts ns p = (j : ℕ) × (c : Clause) × (p ≡ put_of under all c (k + j) ts ns) × First sort n (length ts) ns cs j c

pub clause_chosen : (under : ℕ) (all cs : List Clause) (k : ℕ) (sort : Bool) (n : Name) (ts ns : List ℕ) (at : ℕ) → On (Chosen under all cs k sort n ts ns) (clause_for under all cs k sort n ts ns at)
clause_chosen under all [] k sort n ts ns at = tt
clause_chosen under all (c ∷ cs) k sort n ts ns at = on_tests Q (meant c sort n (length ts) ns) (good (put_of under all c k ts ns)) (clause_for under all cs (suc k) sort n ts ns at) (λ t. let e : k ≡ k + 0 = omega arith in (0, c, ap (λ (i : ℕ). put_of under all c i ts ns) e, first_here t)) λ t.
    on_map (Chosen under all cs (suc k) sort n ts ns) Q (clause_for under all cs (suc k) sort n ts ns at) (clause_chosen under all cs (suc k) sort n ts ns at) λ p (j, d, e, f).
    let g : suc k + j ≡ k + suc j = omega arith in
    (suc j, d, e ∙ ap (λ (i : ℕ). put_of under all d i ts ns) g, first_later t f)
  where
    Q : Put → Type 0
    Q = Chosen under all (c ∷ cs) k sort n ts ns

-- the parameters of a clause, with the types that their numbers stand for
pub bound_shown : (Θ : Table) (xs : List Bound) (ts : List ℕ) → shown Θ (bind_types xs ts) ≡ type_entries xs (trees_of Θ ts)
bound_shown Θ [] ts = refl
bound_shown Θ (x ∷ xs) [] = refl
bound_shown Θ (x ∷ xs) (t ∷ ts) = ap (λ (Γ : List TypeEntry). record { name = x.name; type = tree Θ t } ∷ Γ) (bound_shown Θ xs ts)

pub bound_low : (n : ℕ) (xs : List Bound) (ts : List ℕ) → LowAll n ts → Low n (bind_types xs ts)
bound_low n [] ts l = tt
bound_low n (x ∷ xs) [] l = tt
bound_low n (x ∷ xs) (t ∷ ts) l = (l.0, bound_low n xs ts l.1)

-- the scope of a clause that is put in is the one of its meaning
pub put_here : (Θ : Table) (under : ℕ) (all : List Clause) (c : Clause) (i : ℕ) (ts ns : List ℕ) → here_of Θ (put_of under all c i ts ns).scope ≡ in_clause all c i (trees_of Θ ts) ns
put_here Θ under all c i ts ns = ap (λ (Γ : List TypeEntry). record { seen = seen_by all c i; types = Γ; numbers = bind_numbers c.numbers ns; variables = [] }) (bound_shown Θ c.types ts)

pub one_put_lem : (σ : State) (cost at : ℕ) → On (λ (τ : State). τ.table ≡ σ.table) (one_put σ cost at)
one_put_lem σ cost at = on_test (λ (τ : State). τ.table ≡ σ.table) (leb (σ.puts + cost) most_puts) 34 at (λ _. good (record { table = σ.table; nodes = σ.nodes; puts = σ.puts + cost })) λ _. refl

-- ---- types

-- types are worked out rightly with so many levels
abbrev pub Sound : Text → ℕ → Type 0
Sound X more = (S : Scope) (σ : State) (t : TypeTree) → Ready σ.table → LowScope (length σ.table) S → On (Reached σ (TypeIs X (here_of σ.table S) t)) (type_of X more S σ t)

pub works_of : (X : Text) (more : ℕ) (S : Scope) (σ : State) → Sound X more → LowScope (length σ.table) S → Works X (here_of σ.table S) σ.table (λ τ t. type_of X more S τ t)
works_of X more S σ sound low τ t R g =
    let h = grown_length σ.table τ.table g in
    let low' : LowScope (length τ.table) S = (low-more _ _ S.types h low.0, low-more _ _ S.variables h low.1) in
    on_map (Reached τ (TypeIs X (here_of τ.table S) t)) (Reached τ (TypeIs X (here_of σ.table S) t)) (type_of X more S τ t) (sound S τ t R low') λ x (Rx, gx, lx, is).
    (Rx, gx, lx, subst (λ (H : Here). TypeIs X H t (tree x.state.table x.type)) (here_grown σ.table τ.table S g low) is)

pub works_all : (X : Text) (more : ℕ) (S : Scope) (σ : State) → Sound X more → LowScope (length σ.table) S → WorksAll X (here_of σ.table S) σ.table (λ R τ t. type_of X more R τ t) S
works_all X more S σ sound low i τ t R g =
    let B : Scope = waiting S i in
    on_map (Reached τ (TypeIs X (here_of σ.table B) t)) (Reached τ (TypeIs X (here_of σ.table S) t)) (type_of X more B τ t) (works_of X more B σ sound (low.0, tt) τ t R g) λ x (Rx, gx, lx, is). (Rx, gx, lx, type_with (shown σ.table S.variables) is)

module _ (X : Text) (more : ℕ) (sound : Sound X more) (S : Scope) (σ : State) (R : Ready σ.table) (low : LowScope (length σ.table) S) where
  abbrev H : Here
  H = here_of σ.table S

  abbrev go : Scope → State → TypeTree → Answer Found
  go Q τ t = type_of X more Q τ t

  abbrev put : Scope → State → Body → Answer Found
  put = body_type (λ Q τ t. type_of X more Q τ t)

  -- the body of clause c, number j, that was put in with arguments xs and ns, in a state τ with the table of xs
  body-holds :
      (at : ℕ) (n : Name) (ts : TypeTrees) (ks : List Number) (xs : FoundAll) (ns : List ℕ) (c : Clause) (j : ℕ) (τ : State) (b : Body)
      → Free n H.types ts ks
      → ReachedAll σ (TypesAre X H ts) xs
      → numbers_of S.numbers ks ≡ good ns
      → First true n (length xs.types) ns (take S.seen X.clauses) j c
      → τ.table ≡ xs.state.table
      → c.body ≡ b
      → On (Reached σ (AtomIs X H (typeNamed at n ts ks))) (put (put_of (entries S) X.clauses c j xs.types ns).scope τ b)
  body-holds at n ts ks xs ns c j τ (of_term e) free all ne first same be = tt
  body-holds at n ts ks xs ns c j τ (of_type t) free (Rs, gs, ls, are) ne first same be =
      let P : Scope = (put_of (entries S) X.clauses c j xs.types ns).scope in
      let Rτ : Ready τ.table = subst (λ (Θ : Table). Ready Θ) (sym same) Rs in
      let lowτ : LowScope (length τ.table) P = (subst (λ (Θ : Table). Low (length Θ) P.types) (sym same) (bound_low (length xs.state.table) c.types xs.types ls), tt) in
      let here : here_of τ.table P ≡ in_clause X.clauses c j (trees_of xs.state.table xs.types) ns = ap (λ (Θ : Table). here_of Θ P) same ∙ put_here xs.state.table (entries S) X.clauses c j xs.types ns in
      on_map (Reached τ (TypeIs X (here_of τ.table P) t)) (Reached σ (AtomIs X H (typeNamed at n ts ks))) (type_of X more P τ t) (sound P τ t Rτ lowτ) λ y (Ry, gy, ly, is). (
        Ry,
        grown_on σ.table xs.state.table y.state.table gs (subst (λ (Θ : Table). Grown Θ y.state.table) same gy),
        ly,
        put_is free are ne (subst (λ (k : ℕ). First true n k ns (take S.seen X.clauses) j c) (sym (trees_length xs.state.table xs.types)) first) be (subst (λ (G : Here). TypeIs X G t (tree y.state.table y.type)) here is),
      )

  put_holds : (at : ℕ) (n : Name) (ts : TypeTrees) (ks : List Number) → Free n H.types ts ks → On (Reached σ (AtomIs X H (typeNamed at n ts ks))) (put_in X true S go put σ at n ts ks)
  put_holds at n ts ks free =
      let Q : Found → Type 0 = Reached σ (AtomIs X H (typeNamed at n ts ks)) in
      let cs : List Clause = take S.seen X.clauses in
      on_step (ReachedAll σ (TypesAre X H ts)) Q (found_all go S at 0 σ ts) (λ xs. numbers_in S at (length xs.types) ks >>= λ ns. clause_for (entries S) X.clauses cs 0 true n xs.types ns at >>= λ p. one_put xs.state p.cost at >>= λ τ. put p.scope τ p.body) (all_hold X H σ.table go S at 0 σ ts (works_all X more S σ sound low) R (grown_same σ.table)) λ xs all.
      on_step (λ (ns : List ℕ). numbers_of S.numbers ks ≡ good ns) Q (numbers_in S at (length xs.types) ks) (λ ns. clause_for (entries S) X.clauses cs 0 true n xs.types ns at >>= λ p. one_put xs.state p.cost at >>= λ τ. put p.scope τ p.body) (numbers_in_lem S at (length xs.types) ks) λ ns ne.
      on_step (Chosen (entries S) X.clauses cs 0 true n xs.types ns) Q (clause_for (entries S) X.clauses cs 0 true n xs.types ns at) (λ p. one_put xs.state p.cost at >>= λ τ. put p.scope τ p.body) (clause_chosen (entries S) X.clauses cs 0 true n xs.types ns at) λ p (j, c, e, first).
      on_step (λ (τ : State). τ.table ≡ xs.state.table) Q (one_put xs.state p.cost at) (λ τ. put p.scope τ p.body) (one_put_lem xs.state p.cost at) λ τ same.
      let z : 0 + j ≡ j = omega arith in
      let e' : p ≡ put_of (entries S) X.clauses c j xs.types ns = e ∙ ap (λ (i : ℕ). put_of (entries S) X.clauses c i xs.types ns) z in
      subst (λ (q : Put). On Q (put q.scope τ q.body)) (sym e') (body-holds at n ts ks xs ns c j τ c.body free all ne first same refl)

  ones-hold : (at : ℕ) (k : Number) (n : ℕ) → number_of S.numbers k ≡ good n → On (Reached σ (AtomIs X H (ones at k))) (ones_of at k.place n σ)
  ones-hold at k zero e = tt
  ones-hold at k (suc n) e = on_map (Reached σ (λ (τ : Ty). τ ≡ bits_ty (n + 0))) (Reached σ (AtomIs X H (ones at k))) (more_bits at n (record { type = 0; state = σ })) (row-holds at n 0 (record { type = 0; state = σ }) (R, R.some, tree_one σ.table R)) λ z (Rz, gz, lz, ez).
      let s : n + 0 ≡ n = omega arith in
      (Rz, gz, lz, ones_is e (ez ∙ ap bits_ty s))

  pub atom_holds : (a : TypeAtom) → On (Reached σ (AtomIs X H a)) (atom_type X S go put σ a)
  atom_holds one = (R, grown_same σ.table, R.some, subst (λ (τ : Ty). AtomIs X H one τ) (sym (tree_one σ.table R)) one_is)
  atom_holds (ones at k) = on_is (Reached σ (AtomIs X H (ones at k))) (number_of S.numbers k) (λ n. ones_of at k.place n σ) λ n e. ones-hold at k n e
  atom_holds (inside t) = on_map (Reached σ (TypeIs X H t)) (Reached σ (AtomIs X H (inside t))) (go S σ t) (works_of X more S σ sound low σ t R (grown_same σ.table)) λ x (Rx, gx, lx, is). (Rx, gx, lx, inside_is is)
  atom_holds (typeNamed at n no_types []) = lookup_says (On (Reached σ (AtomIs X H (typeNamed at n no_types [])))) σ.table n S.types 0 (length σ.table) (λ i v. good (record { type = v; state = σ })) (put_in X true S go put σ at n no_types []) low.0 (λ j v h near'. (R, grown_same σ.table, h, parameter-is near')) λ none. put_holds at n no_types [] λ _. none
  atom_holds (typeNamed at n no_types (k ∷ ks)) = put_holds at n no_types (k ∷ ks) λ t. absurd t
  atom_holds (typeNamed at n (types t ts) ks) = put_holds at n (types t ts) ks λ t'. absurd t'

-- the type that a tree means
pub type_sound : (X : Text) (more : ℕ) → Sound X more
type_sound X zero S σ (typed at a p q) R low = tt
type_sound X (suc more) S σ (typed at a p q) R low =
    let H₀ : Here = here_of σ.table S in
    let go₀ : State → TypeTree → Answer Found = λ τ t. type_of X more S τ t in
    let W : Works X H₀ σ.table go₀ = works_of X more S σ (type_sound X more) low in
    let Q : Found → Type 0 = Reached σ (TypeIs X H₀ (typed at a p q)) in
    on_step (Reached σ (AtomIs X H₀ a)) Q (atom_type X S (λ G τ t. type_of X more G τ t) (body_type (λ G τ t. type_of X more G τ t)) σ a) (λ x. joined go₀ x p >>= λ y. joined go₀ y q) (atom_holds X more (type_sound X more) S σ R low a) λ x (Rx, gx, lx, ix).
    on_step (Reached x.state (SideIs X H₀ (tree x.state.table x.type) p)) Q (joined go₀ x p) (λ y. joined go₀ y q) (side_holds X H₀ σ.table go₀ x p W Rx gx lx) λ y (Ry, gy, ly, iy).
    on_map (Reached y.state (SideIs X H₀ (tree y.state.table y.type) q)) Q (joined go₀ y q) (side_holds X H₀ σ.table go₀ y q W Ry (grown_on σ.table x.state.table y.state.table gx gy) ly) λ z (Rz, gz, lz, iz).
    (Rz, grown_on σ.table y.state.table z.state.table (grown_on σ.table x.state.table y.state.table gx gy) gz, lz, type_is ix iy iz)

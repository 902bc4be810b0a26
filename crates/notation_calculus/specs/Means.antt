-- What a text means, as a relation without limits, states or type numbers: the term of its `main`, with types where a sheet has their
-- numbers. Assumes nothing.
use Rattle.std.specs.Prelude.{ℕ, zero, suc, ◌≡◌, Bool, true, false, not, ◌&&◌, cond, List, [], ◌∷◌, T, length, take}
use Rattle.calculus.specs.Answer.{good}
use Rattle.calculus.specs.Types.{Ty, bit, prod, lolli, sharable, is_arrow, Table, tree}
use Rattle.calculus.specs.Types as Types
use Rattle.calculus.specs.Terms.{Edition, is_second, Term, part_at}
use Rattle.calculus.specs.Terms as Terms
use Rattle.notation_calculus.specs.Words.{Name}
use Rattle.notation_calculus.specs.Trees.{Bound, Number, Form, product, arrow, linear, TypeTree, typed, TypeAtom, one, ones, inside, typeNamed, Side, nothing, side, TypeTrees, no_types, types, Tree, spine, Atom, named, part, tuple, Atoms, noAtoms, atoms, Trees, noTrees, trees, Body, of_type, of_term, Clause, Text}
use Rattle.notation_calculus.specs.Trees as Trees
use Rattle.notation_calculus.specs.Making.{Entry, number_of, numbers_of, bind_numbers, seen_by, no_arguments, meant}
use Rattle.notation_calculus.specs.Make.{main_name}

-- ---- terms with their types

pub data Full : Type 0 where
  var lvar : ℕ → Full
  fun lfun fix : Ty → Full → Full
  app lapp proj name : Full → Full → Full
  pair : Ty → Full → Full → Full
  con : ℕ → Ty → Full

-- the term of a sheet
abbrev pub full : Table → Term → Full
full Θ (Terms.var i) = var i
full Θ (Terms.lvar i) = lvar i
full Θ (Terms.fun t e) = fun (tree Θ t) (full Θ e)
full Θ (Terms.app f a) = app (full Θ f) (full Θ a)
full Θ (Terms.lfun t e) = lfun (tree Θ t) (full Θ e)
full Θ (Terms.lapp f a) = lapp (full Θ f) (full Θ a)
full Θ (Terms.pair t a b) = pair (tree Θ t) (full Θ a) (full Θ b)
full Θ (Terms.proj a e) = proj (full Θ a) (full Θ e)
full Θ (Terms.fix t e) = fix (tree Θ t) (full Θ e)
full Θ (Terms.con p t) = con p (tree Θ t)
full Θ (Terms.name a e) = name (full Θ a) (full Θ e)

-- ---- scopes

pub record TypeEntry : Type 0 where
  pub name : Name
  pub type : Ty

-- as `Scope` of Making, with types
pub record Here : Type 0 where
  pub seen : ℕ
  pub types : List TypeEntry
  pub numbers : List Entry
  pub variables : List TypeEntry

abbrev pub entry : Bound → Ty → TypeEntry
entry x τ = record { name = x.name; type = τ }

abbrev pub with : Here → List TypeEntry → Here
with S Γ = record { seen = S.seen; types = S.types; numbers = S.numbers; variables = Γ }

abbrev pub enter : List Bound → Ty → List TypeEntry → List TypeEntry
enter [] θ Γ = Γ
enter (x ∷ xs) θ Γ = enter xs θ (entry x θ ∷ Γ)

-- the nearest entry of a name is number i, of type τ
pub data Nearest : Name → List TypeEntry → ℕ → Ty → Type 0 where
  near : {n : Name} {e : TypeEntry} {Γ : List TypeEntry} {τ : Ty} → n ≡ e.name → τ ≡ e.type → Nearest n (e ∷ Γ) zero τ
  far : {n : Name} {e : TypeEntry} {Γ : List TypeEntry} {i : ℕ} {τ : Ty} → (n ≡ e.name → ⊥) → Nearest n Γ i τ → Nearest n (e ∷ Γ) (suc i) τ

-- a name that stands alone and has an entry means that one, and no definition
abbrev pub Free : Name → List TypeEntry → TypeTrees → List Number → Type 0
Free n Γ ts ks = T (no_arguments ts ks) → (i : ℕ) (τ : Ty) → Nearest n Γ i τ → ⊥

-- ---- definitions

-- clause c, number i, is the first of those known that is meant
pub data First (sort : Bool) (n : Name) (k : ℕ) (ns : List ℕ) : List Clause → ℕ → Clause → Type 0 where
  first_here : {c : Clause} {cs : List Clause} → T (meant c sort n k ns) → First sort n k ns (c ∷ cs) zero c
  first_later : {b c : Clause} {cs : List Clause} {i : ℕ} → T (not (meant b sort n k ns)) → First sort n k ns cs i c → First sort n k ns (b ∷ cs) (suc i) c

abbrev pub type_entries : List Bound → List Ty → List TypeEntry
type_entries [] τs = []
type_entries (x ∷ xs) [] = []
type_entries (x ∷ xs) (τ ∷ τs) = entry x τ ∷ type_entries xs τs

-- where the body of clause c stands: its parameters, and no variables
abbrev pub in_clause : List Clause → Clause → ℕ → List Ty → List ℕ → Here
in_clause cs c i τs ns = record { seen = seen_by cs c i; types = type_entries c.types τs; numbers = bind_numbers c.numbers ns; variables = [] }

-- ---- types

abbrev pub joined_ty : Form → Ty → Ty → Ty
joined_ty product a b = prod a b
joined_ty arrow a b = Types.arrow a b
joined_ty linear a b = lolli a b

abbrev pub may_join : Form → Ty → Ty → Bool
may_join product a b = sharable a && sharable b
may_join arrow a b = sharable a
may_join linear a b = is_arrow a

-- a bit, and so many more left of it
abbrev pub bits_ty : ℕ → Ty
bits_ty zero = bit
bits_ty (suc n) = prod bit (bits_ty n)

mutual
  pub data TypeIs (X : Text) : Here → TypeTree → Ty → Type 0 where
    type_is : {S : Here} {at : ℕ} {a : TypeAtom} {p q : Side} {τ₁ τ₂ τ₃ : Ty} → AtomIs X S a τ₁ → SideIs X S τ₁ p τ₂ → SideIs X S τ₂ q τ₃ → TypeIs X S (typed at a p q) τ₃

  pub data AtomIs (X : Text) : Here → TypeAtom → Ty → Type 0 where
    one_is : {S : Here} → AtomIs X S one bit
    ones_is : {S : Here} {at n : ℕ} {k : Number} {τ : Ty} → number_of S.numbers k ≡ good (suc n) → τ ≡ bits_ty n → AtomIs X S (ones at k) τ
    inside_is : {S : Here} {t : TypeTree} {τ : Ty} → TypeIs X S t τ → AtomIs X S (inside t) τ
    parameter-is : {S : Here} {at i : ℕ} {n : Name} {τ : Ty} → Nearest n S.types i τ → AtomIs X S (typeNamed at n no_types []) τ
    put_is :
        {S : Here} {at i : ℕ} {n : Name} {ts : TypeTrees} {ks : List Number} {τs : List Ty} {ns : List ℕ} {c : Clause} {t : TypeTree} {τ : Ty}
        → Free n S.types ts ks
        → TypesAre X S ts τs
        → numbers_of S.numbers ks ≡ good ns
        → First true n (length τs) ns (take S.seen X.clauses) i c
        → c.body ≡ of_type t
        → TypeIs X (in_clause X.clauses c i τs ns) t τ
        → AtomIs X S (typeNamed at n ts ks) τ

  pub data SideIs (X : Text) : Here → Ty → Side → Ty → Type 0 where
    no-side : {S : Here} {τ ρ : Ty} → ρ ≡ τ → SideIs X S τ nothing ρ
    a-side : {S : Here} {f : Form} {at : ℕ} {t : TypeTree} {τ ρ υ : Ty} → TypeIs X S t ρ → T (may_join f τ ρ) → υ ≡ joined_ty f τ ρ → SideIs X S τ (side f at t) υ

  pub data TypesAre (X : Text) : Here → TypeTrees → List Ty → Type 0 where
    no_types_lem : {S : Here} → TypesAre X S no_types []
    more_types : {S : Here} {t : TypeTree} {ts : TypeTrees} {τ : Ty} {τs : List Ty} → TypeIs X S t τ → TypesAre X S ts τs → TypesAre X S (types t ts) (τ ∷ τs)

-- ---- terms: what the rules give, and **1** where they give nothing

abbrev pub full_variable : ℕ → Ty → Full
full_variable i τ = cond (sharable τ) (var i) (lvar i)

abbrev pub arrow_ty : Ty → Ty → Ty
arrow_ty θ τ = cond (sharable θ) (Types.arrow θ τ) (lolli θ τ)

abbrev pub full_function : Ty → Ty → Full → Full
full_function θ τ e = cond (sharable θ) (fun (arrow_ty θ τ) e) (lfun (arrow_ty θ τ) e)

-- the type of functions of so many variables of one type, and the functions
abbrev pub arrows_of : List Bound → Ty → Ty → Ty
arrows_of [] θ τ = τ
arrows_of (x ∷ xs) θ τ = arrow_ty θ (arrows_of xs θ τ)

abbrev pub full_functions : List Bound → Ty → Ty → Full → Full
full_functions [] θ τ e = e
full_functions (x ∷ xs) θ τ e = full_function θ (arrows_of xs θ τ) (full_functions xs θ τ e)

abbrev pub app_of : Ty → Ty → Full → Full → Full
app_of bit α f a = cond (sharable α) (app f a) (lapp f a)
app_of (prod x y) α f a = cond (sharable α) (app f a) (lapp f a)
app_of (Types.arrow x y) α f a = app f a
app_of (lolli x y) α f a = lapp f a

abbrev pub result_of : Ty → Ty
result_of bit = bit
result_of (prod x y) = bit
result_of (Types.arrow x y) = y
result_of (lolli x y) = y

abbrev pub first_of : Ty → Ty
first_of bit = bit
first_of (prod x y) = x
first_of (Types.arrow x y) = bit
first_of (lolli x y) = bit

abbrev pub second_of : Ty → Ty
second_of bit = bit
second_of (prod x y) = y
second_of (Types.arrow x y) = bit
second_of (lolli x y) = bit

abbrev pub half_ty : Ty → Ty
half_ty τ = cond (sharable τ) τ bit

abbrev pub named_of : Edition → Ty → Ty → Full → Full → Full
named_of E α τ v e = cond (is_second E && sharable α) (name v e) (cond (sharable α) (app (full_function α τ e) v) (lapp (full_function α τ e) v))

-- the rest of a pair, under a name that no text has
abbrev pub rest_entry : Ty → TypeEntry
rest_entry τ = record { name = []; type = τ }

mutual
  -- a tree, in a scope, is a term of a type
  pub data Is (X : Text) : Here → Tree → Full → Ty → Type 0 where
    spine-is : {S : Here} {at : ℕ} {a : Atom} {rest : Atoms} {f e : Full} {φ τ : Ty} → AtomMeans X S a f φ → Applied X S f φ rest e τ → Is X S (spine at a rest) e τ
    fun-is :
        {S : Here} {at : ℕ} {xs : List Bound} {t : TypeTree} {b : Tree} {e f : Full} {θ τ φ : Ty}
        → TypeIs X S t θ
        → Is X (with S (enter xs θ S.variables)) b e τ
        → f ≡ full_functions xs θ τ e
        → φ ≡ arrows_of xs θ τ
        → Is X S (Trees.fun at xs t b) f φ
    fix_is :
        {S : Here} {at : ℕ} {x : Bound} {t : TypeTree} {b : Tree} {e : Full} {θ τ : Ty}
        → TypeIs X S t θ
        → Is X (with S (entry x θ ∷ S.variables)) b e τ
        → Is X S (Trees.fix at x t b) (fix θ e) θ
    name_is :
        {S : Here} {at : ℕ} {x : Bound} {a b : Tree} {v e f : Full} {α τ : Ty}
        → Is X S a v α
        → Is X (with S (entry x α ∷ S.variables)) b e τ
        → f ≡ named_of X.edition α τ v e
        → Is X S (Trees.name at x a b) f τ
    apart-is :
        {S : Here} {at : ℕ} {xs : List Bound} {a b : Tree} {v e : Full} {α τ : Ty}
        → Is X S a v α
        → Apart X S xs v α b e τ
        → Is X S (Trees.apart at xs a b) e τ

  -- a pair v of type α is taken apart into names, for a body
  pub data Apart (X : Text) : Here → List Bound → Full → Ty → Tree → Full → Ty → Type 0 where
    apart-two :
        {S : Here} {x y : Bound} {b : Tree} {v e : Full} {α τ : Ty}
        → Is X (with S (entry y (second_of α) ∷ entry x (first_of α) ∷ S.variables)) b e τ
        → Apart X S (x ∷ y ∷ []) v α b (proj v e) τ
    apart_more :
        {S : Here} {x y z : Bound} {zs : List Bound} {b : Tree} {v e : Full} {α τ : Ty}
        → Apart X (with S (rest_entry (second_of α) ∷ entry x (first_of α) ∷ S.variables)) (y ∷ z ∷ zs) (var 0) (second_of α) b e τ
        → Apart X S (x ∷ y ∷ z ∷ zs) v α b (proj v e) τ

  pub data AtomMeans (X : Text) : Here → Atom → Full → Ty → Type 0 where
    variable-means : {S : Here} {at i : ℕ} {n : Name} {e : Full} {τ : Ty} → Nearest n S.variables i τ → e ≡ full_variable i τ → AtomMeans X S (named at n no_types []) e τ
    part-means : {S : Here} {at p : ℕ} {τ : Ty} → τ ≡ (part_at p).type X.edition → AtomMeans X S (part at p) (con p τ) τ
    tuple-means : {S : Here} {e : Tree} {es : Trees} {v : Full} {τ : Ty} → Tuple X S e es v τ → AtomMeans X S (tuple e es) v τ
    -- a definition is put in: its body is a closed term, whatever the variables of S
    put_means :
        {S : Here} {at i : ℕ} {n : Name} {ts : TypeTrees} {ks : List Number} {τs : List Ty} {ns : List ℕ} {c : Clause} {b : Tree} {e : Full} {τ : Ty}
        → Free n S.variables ts ks
        → TypesAre X S ts τs
        → numbers_of S.numbers ks ≡ good ns
        → First false n (length τs) ns (take S.seen X.clauses) i c
        → c.body ≡ of_term b
        → Is X (in_clause X.clauses c i τs ns) b e τ
        → AtomMeans X S (named at n ts ks) e τ

  pub data Tuple (X : Text) : Here → Tree → Trees → Full → Ty → Type 0 where
    alone : {S : Here} {e : Tree} {v : Full} {τ : Ty} → Is X S e v τ → Tuple X S e noTrees v τ
    pairs :
        {S : Here} {at : ℕ} {e d : Tree} {es : Trees} {v w : Full} {τ ρ π : Ty}
        → Is X S e v τ
        → Tuple X S d es w ρ
        → π ≡ prod (half_ty τ) (half_ty ρ)
        → Tuple X S e (trees at d es) (pair π v w) π

  -- f of type φ applied to atoms
  pub data Applied (X : Text) : Here → Full → Ty → Atoms → Full → Ty → Type 0 where
    to_none : {S : Here} {f : Full} {φ : Ty} → Applied X S f φ noAtoms f φ
    to-more :
        {S : Here} {f x e : Full} {φ α τ : Ty} {a : Atom} {rest : Atoms}
        → AtomMeans X S a x α
        → Applied X S (app_of φ α f x) (result_of φ) rest e τ
        → Applied X S f φ (atoms a rest) e τ

-- nothing is bound at the top, and every clause is known
abbrev pub top : Text → Here
top X = record { seen = length X.clauses; types = []; numbers = []; variables = [] }

-- the text means the term e
abbrev pub Means : Text → Full → Type 0
Means X e = (τ : Ty) × AtomMeans X (top X) (named X.end main_name no_types []) e τ

-- The term of a text: definitions put in where they are named, types of results worked out; refusals 33, 34 and 35. Assumes nothing.
-- Types are not judged: a term whose types do not fit is made, and **1** taken where a rule gives no type. Type 0 is **1**.
use Rattle.std.specs.Prelude.{ℕ, zero, suc, ◌+◌, ◌-◌, ◌/◌, Bool, true, false, ◌&&◌, cond, List, [], ◌∷◌, ◌++◌, eqb, leb, ltb, length, take}
use Rattle.calculus.specs.Answer.{Answer, good, ◌>>=◌, refuse, need}
use Rattle.calculus.specs.Types.{size, TyRec, rec01, rec02, rec03, rec04, rec_eq, Table, rec_at, ty_of, tys_from}
use Rattle.calculus.specs.Read.{formed, repeated}
use Rattle.calculus.specs.Terms.{Edition, first, second, is_second, Term, var, lvar, app, lfun, lapp, proj, con, part_at}
use Rattle.calculus.specs.Terms as Terms
use Rattle.notation_calculus.specs.Words.{Name, same_name}
use Rattle.notation_calculus.specs.Trees.{Bound, Number, Form, product, arrow, linear, TypeTree, typed, TypeAtom, one, ones, inside, typeNamed, Side, nothing, side, TypeTrees, no_types, types, Tree, spine, fun, fix, name, apart, Atom, named, part, tuple, Atoms, noAtoms, atoms, Trees, noTrees, trees, Body, of_type, of_term, Clause, Text}
use Rattle.notation_calculus.specs.Grammar.{is_type, namesake}

-- what all definitions that are put in may cost, types too: this bounds the time
abbrev pub most_puts : ℕ
most_puts = 32767

-- entries of names in scope, those of the definitions around it too, and arguments that wait for later ones
abbrev pub most_entries : ℕ
most_entries = 1024

-- the table so far, the nodes so far, and what the definitions that were put in have cost
pub record State : Type 0 where
  pub table : Table
  pub nodes : ℕ
  pub puts : ℕ

-- ---- the table of types

abbrev pub is_sharable : TyRec → Bool
is_sharable rec01 = true
is_sharable (rec02 a b) = true
is_sharable (rec03 a b) = false
is_sharable (rec04 a b) = false

-- the sides of a product are sharable, so a type is if its record is no arrow
abbrev pub shares : Table → ℕ → Bool
shares Θ t = is_sharable (rec_at Θ t)

-- where a record stands in the table from number n on, or where it would come
abbrev pub number_in : Table → ℕ → TyRec → ℕ
number_in [] n r = n
number_in (q ∷ Θ) n r = cond (rec_eq q r) n (number_in Θ (suc n) r)

-- a type's number, and what was made up to here
pub record Found : Type 0 where
  pub type : ℕ
  pub state : State

abbrev pub with_type : State → TyRec → State
with_type σ r = record { table = σ.table ++ r ∷ []; nodes = σ.nodes; puts = σ.puts }

-- the number of a type record, put at the table's end where it is new
unfoldable pub listed : State → TyRec → ℕ → Answer Found
listed σ r at = cond (repeated σ.table r) (good (record { type = number_in σ.table 0 r; state = σ })) (do
  _ ← need (formed σ.table r) 35 at
  _ ← need (leb (size (ty_of (tys_from [] σ.table) r)) 128) 34 at
  _ ← need (ltb (length σ.table) 256) 34 at
  good (record { type = length σ.table; state = with_type σ r }))

abbrev pub form_of : Form → ℕ → ℕ → TyRec
form_of product a b = rec02 a b
form_of arrow a b = rec03 a b
form_of linear a b = rec04 a b

-- the arrow of the left side's sort
abbrev pub arrow_of : Table → ℕ → ℕ → TyRec
arrow_of Θ a b = cond (shares Θ a) (rec03 a b) (rec04 a b)

-- ---- names

-- a name with a number: a variable with its type, a type parameter with its type, a number parameter with its number
pub record Entry : Type 0 where
  pub name : Name
  pub value : ℕ

-- how many clauses are known, how many entries stand under this definition's variables, its parameters, and its variables, the nearest
-- first
pub record Scope : Type 0 where
  pub seen : ℕ
  pub under : ℕ
  pub types : List Entry
  pub numbers : List Entry
  pub variables : List Entry

-- the first entry of a name, by its number in the list and its value; or else
abbrev pub lookup : {A : Type 0} → Name → List Entry → ℕ → (ℕ → ℕ → A) → A → A
lookup n [] i found else = else
lookup n (e ∷ es) i found else = cond (same_name n e.name) (found i e.value) (lookup n es (suc i) found else)

abbrev pub bind : Bound → ℕ → List Entry → List Entry
bind x v Γ = record { name = x.name; value = v } ∷ Γ

abbrev pub bind_all : List Bound → ℕ → List Entry → List Entry
bind_all [] v Γ = Γ
bind_all (x ∷ xs) v Γ = bind_all xs v (bind x v Γ)

abbrev pub with_variables : Scope → List Entry → Scope
with_variables S Γ = record { seen = S.seen; under = S.under; types = S.types; numbers = S.numbers; variables = Γ }

abbrev pub entries : Scope → ℕ
entries S = S.under + length S.variables

-- so many more entries are no more than there may be
abbrev pub room_for : Scope → ℕ → ℕ → Answer (Unit {0})
room_for S more at = need (leb (entries S + more) most_entries) 34 at

-- ---- numbers

abbrev pub number_of : List Entry → Number → Answer ℕ
number_of Γ k = cond k.is_open (do
  n ← lookup k.name Γ 0 (λ i v. good v) (refuse 33 k.place)
  _ ← need (leb (n + k.plus) 255) 34 k.place
  good (n + k.plus)) (good k.plus)

abbrev pub numbers_of : List Entry → List Number → Answer (List ℕ)
numbers_of Γ [] = good []
numbers_of Γ (k ∷ ks) = do
  n ← number_of Γ k
  ns ← numbers_of Γ ks
  good (n ∷ ns)

-- .. as arguments, where `i` arguments wait already: each waits too
abbrev pub numbers_in : Scope → ℕ → ℕ → List Number → Answer (List ℕ)
numbers_in S at i [] = good []
numbers_in S at i (k ∷ ks) = do
  _ ← room_for S (suc i) at
  n ← number_of S.numbers k
  ns ← numbers_in S at (suc i) ks
  good (n ∷ ns)

abbrev pub fits : Number → ℕ → Bool
fits k n = cond k.is_open (leb k.plus n) (eqb k.plus n)

abbrev pub fit_all : List Number → List ℕ → Bool
fit_all [] [] = true
fit_all [] (n ∷ ns) = false
fit_all (k ∷ ks) [] = false
fit_all (k ∷ ks) (n ∷ ns) = fits k n && fit_all ks ns

abbrev pub bind_numbers : List Number → List ℕ → List Entry
bind_numbers [] ns = []
bind_numbers (k ∷ ks) [] = []
bind_numbers (k ∷ ks) (n ∷ ns) = cond k.is_open (record { name = k.name; value = n - k.plus } ∷ bind_numbers ks ns) (bind_numbers ks ns)

abbrev pub bind_types : List Bound → List ℕ → List Entry
bind_types [] ts = []
bind_types (x ∷ xs) [] = []
bind_types (x ∷ xs) (t ∷ ts) = bind x t (bind_types xs ts)

-- ---- definitions

-- a definition as it is put in: the body, the scope that it has, and what it costs
pub record Put : Type 0 where
  pub body : Body
  pub scope : Scope
  pub cost : ℕ

-- one, and one more for each 32 bytes from the clause's name to the word behind the clause
abbrev pub cost_of : Clause → ℕ
cost_of c = 1 + (c.end - c.head.place) / 32

abbrev pub has_numbers : List Number → Bool
has_numbers [] = false
has_numbers (k ∷ ks) = true

-- how many clauses there are up to the last one of a sort and name, from number i on; `seen` where there is none
abbrev pub up_to : List Clause → Bool → Name → ℕ → ℕ → ℕ
up_to [] sort n i seen = seen
up_to (c ∷ cs) sort n i seen = up_to cs sort n (suc i) (cond (namesake c sort n) (suc i) seen)

-- clause i knows those above it; with number parameters it knows all up to the last one of its name, so itself too
abbrev pub seen_by : List Clause → Clause → ℕ → ℕ
seen_by cs c i = cond (has_numbers c.numbers) (up_to cs (is_type c.body) c.head.name 0 i) i

abbrev pub parameters : Clause → ℕ
parameters c = length c.types + length c.numbers

-- .. put in over so many entries
abbrev pub put_of : ℕ → List Clause → Clause → ℕ → List ℕ → List ℕ → Put
put_of under all c i ts ns = record {
  body = c.body;
  scope = record {
    seen = seen_by all c i;
    under = under + parameters c;
    types = bind_types c.types ts;
    numbers = bind_numbers c.numbers ns;
    variables = [];
  };
  cost = cost_of c;
}

-- a clause is meant by a name with so many type arguments and these numbers
abbrev pub meant : Clause → Bool → Name → ℕ → List ℕ → Bool
meant c sort n k ns = namesake c sort n && eqb (length c.types) k && fit_all c.numbers ns

-- the first clause that is meant, among those that are known, of `all`
abbrev pub clause_for : ℕ → List Clause → List Clause → ℕ → Bool → Name → List ℕ → List ℕ → ℕ → Answer Put
clause_for under all [] i sort n ts ns at = refuse 33 at
clause_for under all (c ∷ cs) i sort n ts ns at = cond (meant c sort n (length ts) ns) (good (put_of under all c i ts ns)) (clause_for under all cs (suc i) sort n ts ns at)

abbrev pub one_put : State → ℕ → ℕ → Answer State
one_put σ cost at = do
  _ ← need (leb (σ.puts + cost) most_puts) 34 at
  good (record { table = σ.table; nodes = σ.nodes; puts = σ.puts + cost })

-- ---- types

pub record FoundAll : Type 0 where
  pub types : List ℕ
  pub state : State

-- where a type argument is worked out: a type knows no variables, and `i` arguments that wait are entries above them
abbrev pub waiting : Scope → ℕ → Scope
waiting S i = record { seen = S.seen; under = entries S + i; types = S.types; numbers = S.numbers; variables = [] }

-- type arguments, where `i` arguments wait already: each is worked out, by `go`, over those before it
abbrev pub found_all : (Scope → State → TypeTree → Answer Found) → Scope → ℕ → ℕ → State → TypeTrees → Answer FoundAll
found_all go S at i σ no_types = good (record { types = []; state = σ })
found_all go S at i σ (types t ts) = do
  _ ← room_for S (suc i) at
  x ← go (waiting S i) σ t
  xs ← found_all go S at (suc i) x.state ts
  good (record { types = x.type ∷ xs.types; state = xs.state })

abbrev pub no_arguments : TypeTrees → List Number → Bool
no_arguments no_types [] = true
no_arguments no_types (k ∷ ks) = false
no_arguments (types t ts) ks = false

-- a definition is put in: its arguments are worked out, its clause is found, and `go` makes its body
abbrev pub put_in : {A : Type 0} → Text → Bool → Scope → (Scope → State → TypeTree → Answer Found) → (Scope → State → Body → Answer A) → State → ℕ → Name → TypeTrees → List Number → Answer A
put_in X sort S type_of go σ at n ts ks = do
  xs ← found_all type_of S at 0 σ ts
  ns ← numbers_in S at (length xs.types) ks
  p ← clause_for (entries S) X.clauses (take S.seen X.clauses) 0 sort n xs.types ns at
  σ₁ ← one_put xs.state p.cost at
  go p.scope σ₁ p.body

-- a side joined to what stands left of it
abbrev pub joined : (State → TypeTree → Answer Found) → Found → Side → Answer Found
joined go x nothing = good x
joined go x (side f at t) = do
  y ← go x.state t
  listed y.state (form_of f x.type y.type) at

-- so many bits more left of a row, each in a product that is listed
abbrev pub more_bits : ℕ → ℕ → Found → Answer Found
more_bits at zero x = good x
more_bits at (suc n) x = do
  y ← listed x.state (rec02 0 x.type) at
  more_bits at n y

-- n bits in a row; zero bits are no type
abbrev pub ones_of : ℕ → ℕ → ℕ → State → Answer Found
ones_of at place zero σ = refuse 33 place
ones_of at place (suc n) σ = more_bits at n (record { type = 0; state = σ })

-- `go` works out a type of a scope, `put` the body of a definition
abbrev pub atom_type : Text → Scope → (Scope → State → TypeTree → Answer Found) → (Scope → State → Body → Answer Found) → State → TypeAtom → Answer Found
atom_type X S go put σ one = good (record { type = 0; state = σ })
atom_type X S go put σ (ones at k) = do
  n ← number_of S.numbers k
  ones_of at k.place n σ
atom_type X S go put σ (inside t) = go S σ t
atom_type X S go put σ (typeNamed at n ts ks) =
    let there = put_in X true S go put σ at n ts ks in
    cond (no_arguments ts ks) (lookup n S.types 0 (λ i v. good (record { type = v; state = σ })) there) there

abbrev pub body_type : (Scope → State → TypeTree → Answer Found) → Scope → State → Body → Answer Found
body_type go S σ (of_type t) = go S σ t
body_type go S σ (of_term e) = refuse 33 0

-- the type of a tree; `more` is how many levels there may still be
abbrev pub type_of : Text → ℕ → Scope → State → TypeTree → Answer Found
type_of X zero S σ (typed at a p q) = refuse 34 at
type_of X (suc more) S σ (typed at a p q) = do
  x ← atom_type X S (λ R τ t. type_of X more R τ t) (body_type (λ R τ t. type_of X more R τ t)) σ a
  y ← joined (λ τ t. type_of X more S τ t) x p
  joined (λ τ t. type_of X more S τ t) y q

-- ---- nodes

-- a term that was made: its type's number, its depth, where its nodes came from, and what was made up to here
pub record Made : Type 0 where
  pub term : Term
  pub type : ℕ
  pub deep : ℕ
  pub places : List ℕ
  pub state : State

abbrev pub counted : State → State
counted σ = record { table = σ.table; nodes = suc σ.nodes; puts = σ.puts }

-- a new node from a word at a place, above terms of some depth with these places
unfoldable pub node : ℕ → Term → ℕ → ℕ → List ℕ → State → Answer Made
node at e t below places σ = do
  _ ← need (ltb σ.nodes 2048) 34 at
  _ ← need (ltb below 64) 34 at
  good (record { term = e; type = t; deep = suc below; places = at ∷ places; state = counted σ })

abbrev pub larger : ℕ → ℕ → ℕ
larger a b = cond (leb a b) b a

-- over two terms, the state being the later one's
abbrev pub over : ℕ → (Term → Term → Term) → ℕ → Made → Made → State → Answer Made
over at build t a b σ = node at (build a.term b.term) t (larger a.deep b.deep) (a.places ++ b.places) σ

abbrev pub variable : Table → ℕ → ℕ → Term
variable Θ i t = cond (shares Θ t) (var i) (lvar i)

-- a part's type: in the second edition the two-input gates take a pair
abbrev pub part_type : Edition → ℕ → State → ℕ → Answer Found
part_type E zero σ at = good (record { type = 0; state = σ })
part_type E (suc zero) σ at = listed σ (rec03 0 0) at
part_type first (suc (suc n)) σ at = do
  x ← listed σ (rec03 0 0) at
  listed x.state (rec03 0 x.type) at
part_type second (suc (suc n)) σ at = do
  x ← listed σ (rec02 0 0) at
  listed x.state (rec03 x.type 0) at

abbrev pub part_of : Edition → State → ℕ → ℕ → Answer Made
part_of E σ at p = do
  t ← part_type E (part_at p).inputs σ at
  node at (con p t.type) t.type 0 [] t.state

-- a function of a variable with a type, over a body
abbrev pub function_of : Bound → ℕ → Made → Answer Made
function_of x t e = do
  w ← listed e.state (arrow_of e.state.table t e.type) x.place
  node x.place (cond (shares e.state.table t) (Terms.fun w.type e.term) (lfun w.type e.term)) w.type e.deep e.places w.state

abbrev pub functions_of : List Bound → ℕ → Made → Answer Made
functions_of [] t e = good e
functions_of (x ∷ xs) t e = do
  f ← functions_of xs t e
  function_of x t f

-- a projection with one variable in the second edition; in the first, and for a circuit, which 1B cannot name, a function applied
abbrev pub name_of : Edition → Bound → Made → Made → Answer Made
name_of E x v e = cond (is_second E && shares e.state.table v.type) (over x.place Terms.name e.type v e e.state) (do
  f ← function_of x v.type e
  over x.place (cond (shares e.state.table v.type) app lapp) e.type f v f.state)

pub record Halves : Type 0 where
  pub left : ℕ
  pub right : ℕ

abbrev pub halves_of : TyRec → Halves
halves_of rec01 = record { left = 0; right = 0 }
halves_of (rec02 a b) = record { left = a; right = b }
halves_of (rec03 a b) = record { left = 0; right = 0 }
halves_of (rec04 a b) = record { left = 0; right = 0 }

-- the rest of a pair that is taken apart has a name that no text has
abbrev pub rest : Bound
rest = record { name = []; place = 0 }

-- one projection for two names; for more the rest of the pair is taken apart in its body. Fewer than two are never read
abbrev pub apart_of : (List Entry → State → Answer Made) → List Entry → List Bound → Made → Answer Made
apart_of go Γ [] v = refuse 32 0
apart_of go Γ (x ∷ []) v = refuse 32 0
apart_of go Γ (x ∷ y ∷ []) v = do
  let h = halves_of (rec_at v.state.table v.type)
  e ← go (bind y h.right (bind x h.left Γ)) v.state
  over x.place proj e.type v e e.state
apart_of go Γ (x ∷ y ∷ z ∷ zs) v = do
  let h = halves_of (rec_at v.state.table v.type)
  r ← node y.place (var 0) h.right 0 [] v.state
  e ← apart_of go (bind rest h.right (bind x h.left Γ)) (y ∷ z ∷ zs) r
  over x.place proj e.type v e e.state

-- a half that is not sharable counts as **1**, and the sheet is refused at this node
abbrev pub half_of : Table → ℕ → ℕ
half_of Θ t = cond (shares Θ t) t 0

abbrev pub pair_of : ℕ → Made → Made → Answer Made
pair_of at a b = do
  t ← listed b.state (rec02 (half_of b.state.table a.type) (half_of b.state.table b.type)) at
  over at (Terms.pair t.type) t.type a b t.state

-- by the function's type, or else by the argument's sort
abbrev pub applied : ℕ → TyRec → Made → Made → Answer Made
applied at rec01 f a = over at (cond (shares a.state.table a.type) app lapp) 0 f a a.state
applied at (rec02 x y) f a = over at (cond (shares a.state.table a.type) app lapp) 0 f a a.state
applied at (rec03 x y) f a = over at app y f a a.state
applied at (rec04 x y) f a = over at lapp y f a a.state

-- ---- terms

-- ( e, e, e ) is ( e, ( e, e ) )
abbrev pub tuple_of : (State → Tree → Answer Made) → State → Tree → Trees → Answer Made
tuple_of go σ e noTrees = go σ e
tuple_of go σ e (trees at e₁ es) = do
  a ← go σ e
  b ← tuple_of go a.state e₁ es
  pair_of at a b

abbrev pub body_term : (Scope → State → Tree → Answer Made) → Scope → State → Body → Answer Made
body_term go S σ (of_type t) = refuse 33 0
body_term go S σ (of_term e) = go S σ e

-- `go` makes a term of the scope, `put` the body of a definition, `type_of` works out a type of a scope
abbrev pub atom_of : Text → Scope → (Scope → State → TypeTree → Answer Found) → (State → Tree → Answer Made) → (Scope → State → Body → Answer Made) → State → Atom → Answer Made
atom_of X S type_of go put σ (part at p) = part_of X.edition σ at p
atom_of X S type_of go put σ (tuple e es) = tuple_of go σ e es
atom_of X S type_of go put σ (named at n ts ks) =
    let there = put_in X false S type_of put σ at n ts ks in
    cond (no_arguments ts ks) (lookup n S.variables 0 (λ i t. node at (variable σ.table i t) t 0 [] σ) there) there

abbrev pub spine_of : (State → Atom → Answer Made) → ℕ → Made → Atoms → Answer Made
spine_of go at f noAtoms = good f
spine_of go at f (atoms a rest') = do
  x ← go f.state a
  g ← applied at (rec_at x.state.table f.type) f x
  spine_of go at g rest'

-- the term of a tree; `more` is how many levels there may still be
abbrev pub term_of : Text → ℕ → Scope → State → Tree → Answer Made
term_of X zero S σ (spine at a rest') = refuse 34 at
term_of X zero S σ (fun at xs t e) = refuse 34 at
term_of X zero S σ (fix at x t e) = refuse 34 at
term_of X zero S σ (name at x v e) = refuse 34 at
term_of X zero S σ (apart at xs v e) = refuse 34 at
term_of X (suc more) S σ (spine at a rest') = do
  let go = atom_of X S (λ R τ t. type_of X more R τ t) (λ τ e. term_of X more S τ e) (body_term (λ R τ e. term_of X more R τ e))
  f ← go σ a
  spine_of go at f rest'
term_of X (suc more) S σ (fun at xs t e) = do
  θ ← type_of X more S σ t
  _ ← room_for S (length xs) at
  b ← term_of X more (with_variables S (bind_all xs θ.type S.variables)) θ.state e
  functions_of xs θ.type b
term_of X (suc more) S σ (fix at x t e) = do
  θ ← type_of X more S σ t
  _ ← room_for S 1 at
  b ← term_of X more (with_variables S (bind x θ.type S.variables)) θ.state e
  node x.place (Terms.fix θ.type b.term) θ.type b.deep b.places b.state
term_of X (suc more) S σ (name at x v e) = do
  a ← term_of X more S σ v
  _ ← room_for S 1 at
  b ← term_of X more (with_variables S (bind x a.type S.variables)) a.state e
  name_of X.edition x a b
term_of X (suc more) S σ (apart at xs v e) = do
  a ← term_of X more S σ v
  _ ← room_for S (length xs + length xs) at
  apart_of (λ Γ τ. term_of X more (with_variables S Γ) τ e) S.variables xs a

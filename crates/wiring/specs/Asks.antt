-- What the making walk asks of a term's place, and what it leaves there. Assumes nothing.
use Rattle.std.specs.Prelude.{ℕ, ◌+◌, ◌*◌, ◌-◌, ◌/◌, ◌%◌, ◌≤◌, ◌<◌, ◌≡◌, ◌⊎◌, Bool, cond, true, false, ◌||◌, List, [], ◌∷◌, ◌++◌, map, length, get_or, replicate, eqb}
use Rattle.std.proofs.lemmas.List.Edits.{sets}
use Rattle.calculus.specs.Types.{Ty, size, Table, tree}
use Rattle.calculus.specs.Terms.{Edition, Term}
use Rattle.calculus.specs.Write.{term_bytes}
use Rattle.sheet_theorems.specs.Laid.{Stands, Ranged, depth}
use Rattle.calculus.specs.Rules.{Ctx, Typed}
use Rattle.calculus.specs.Net.{turns, Interface, out_side, Bound, unbound, Made, make}
use Rattle.records.specs.Heads.{node_of}
use Rattle.records.specs.Forms.{rec_in}
use Rattle.records.specs.TypeNumbers.{left_no, right_no, bound_in}
use Rattle.records.specs.declared.Node.{Node}
use Rattle.records.specs.declared.Rule.{Rule}
use Rattle.records.specs.Rules.{is_pair, is_projection, is_fixed_point, is_naming}
use Rattle.memory.specs.Map.{stack_at, binders_at, memory_size, region, code}
use Rattle.circuit_theorems.specs.Scope.{Env}
use Rattle.wiring.specs.declared.walk.State.{State}
use Rattle.wiring.specs.declared.walk.Built.{Built}
use Rattle.wiring.specs.Sides.{Knows, KnownType, face}
use Rattle.wiring.specs.Links.{links, Apart}
use Rattle.wiring.specs.Store.{Store, Holds, with_made}

-- ---- binders: for each, the outermost first, its type number, and where its output interface is

-- the points from terminal n on, as 2 n + 1
pub record OfPoints (τ : Ty) (place : ℕ) (side : Interface) : Type 0 where
  pub first : ℕ
  pub place_is : place ≡ 2 * first + 1
  pub few : first + 2 * size τ ≤ 8192
  pub shown : side ≡ out_side (turns false τ) first

-- codes from height h of the stack on, as 2 h
pub record OfStack (stack : List ℕ) (τ : Ty) (place : ℕ) (side : Interface) : Type 0 where
  pub height : ℕ
  pub place_is : place ≡ 2 * height
  pub below : height + size τ ≤ length stack
  pub shown : map code side ≡ region stack height (size τ)

pub record BoundAt (Θ : Table) (stack : List ℕ) (t place : ℕ) (b : Bound) : Type 0 where
  pub named : t < length Θ
  pub type : b.type ≡ tree Θ t
  pub side : OfPoints (tree Θ t) place b.side ⊎ OfStack stack (tree Θ t) place b.side

-- the codes of a binder's output interface, of n bits
unfoldable pub shown : Table → ℕ → List ℕ → ℕ → ℕ → List ℕ
shown Θ n w t place = cond (eqb (place % 2) 1) (face true (turns false (tree Θ t)) (place / 2)) (region w (stack_at + place / 2) n)

pub record Showable (s sizes : List ℕ) (size to t place : ℕ) : Type 0 where
  pub known : KnownType s sizes t
  pub room : to + get_or sizes t 0 ≤ size
  pub points : place % 2 ≡ 1 → place / 2 + 2 * get_or sizes t 0 ≤ 8192
  pub stack : (place % 2 ≡ 1 → ⊥) → stack_at + place / 2 + get_or sizes t 0 ≤ to

-- binder number i counts outwards
abbrev pub slot : ℕ → ℕ → ℕ
slot scope i = 2 * (scope - 1 - i)

pub record Binds (Θ : Table) (stack binders : List ℕ) (scope : ℕ) (env : List Bound) : Type 0 where
  pub count : length binders ≡ 2 * scope
  pub all : length env ≡ scope
  pub each : (i : ℕ) → i < scope → BoundAt Θ stack (get_or binders (slot scope i) 0) (get_or binders (slot scope i + 1) 0) (get_or env i unbound)

-- ---- a term at an offset

pub record Asks (s sizes w : List ℕ) (at : ℕ) (st : State) : Type 0 where
  pub edition : Edition
  pub table : Table
  pub knows : Knows s sizes table
  pub term : Term
  pub stands : Stands s at term
  pub ranged : Ranged edition table term
  pub context : Ctx
  pub type : Ty
  pub typed : Typed edition table context term type
  pub env : List Bound
  pub fits : Env context env
  pub store : Store
  pub holds : Holds w store
  pub elements : length store.kinds ≡ st.elements
  pub wires : length store.targets ≡ st.wires
  pub top : length store.stack ≡ st.top
  pub binds : Binds table store.stack store.binders st.scope env
  pub few : (make table term env st.next).next ≤ 8192
  pub few_elements : st.elements + length (make table term env st.next).elements ≤ 5120
  pub few_wires : st.wires + length (make table term env st.next).wires ≤ 5632
  pub deep : st.top + 128 * depth term ≤ 8448
  pub scoped : st.scope + 2 * depth term ≤ 128

abbrev pub made_of : {s sizes w : List ℕ} {at : ℕ} {st : State} → Asks s sizes w at st → Made
made_of {st = st} q = make q.table q.term q.env st.next

pub record Leaves {s sizes w : List ℕ} {at : ℕ} {st : State} (q : Asks s sizes w at st) (r : Built) (w' : List ℕ) : Type 0 where
  pub holds : Holds w' (with_made q.store (made_of q))
  pub past : r.past ≡ at + length (term_bytes q.term)
  pub named : r.ty < length q.table
  pub type : tree q.table r.ty ≡ q.type
  pub len : r.len ≡ length (made_of q).side
  pub next : r.next ≡ (made_of q).next
  pub elements : r.elements ≡ st.elements + length (made_of q).elements
  pub wires : r.wires ≡ st.wires + length (made_of q).wires

-- .. whose first record is read
pub record Here (s sizes w : List ℕ) (node : Node) (st : State) : Type 0 where
  pub at : ℕ
  pub asks : Asks s sizes w at st
  pub node_is : node ≡ node_of asks.term at

-- ---- a function or a fixed point

-- with its points, its input interface on the stack and its binder
abbrev pub opened : Store → Table → ℕ → ℕ → Store
opened m Θ t n = record {
  drivers = m.drivers;
  targets = m.targets;
  kinds = m.kinds ++ replicate (size (tree Θ t)) 7;
  stack = m.stack ++ face false (turns false (tree Θ t)) n;
  binders = m.binders ++ t ∷ (2 * n + 1) ∷ [];
  rest = m.rest;
}

-- behind l points
abbrev pub inner : ℕ → State → State
inner l st = record { next = st.next + 2 * l; elements = st.elements + l; wires = st.wires; top = st.top + l; scope = st.scope + 1 }

pub record Opened {s sizes w : List ℕ} {node : Node} {st : State} (q : Here s sizes w node st) (r : State) (w' : List ℕ) : Type 0 where
  pub state : r ≡ inner (size (tree q.asks.table (bound_in s node))) st
  pub holds : Holds w' (opened q.asks.store q.asks.table (bound_in s node) st.next)

-- .. or neither, where it has two subterms
pub record Entered {s sizes w : List ℕ} {node : Node} {st : State} (q : Here s sizes w node st) (r : State) (w' : List ℕ) : Type 0 where
  pub one : node.subterms ≡ 1 → Opened q r w'
  pub more : (node.subterms ≡ 1 → ⊥) → (st ≡ r) × (w ≡ w')

-- the body's interface wired to the input interface below it, and moved down
unfoldable pub looped : List ℕ → ℕ → ℕ → ℕ → List ℕ
looped w at l k =
    let v = links w k (region w (at + l) l) (region w at l) in
    sets v at (region v (at + l) l)

unfoldable pub closed_in : List ℕ → Node → ℕ → ℕ → Built → List ℕ
closed_in w node top l r = cond (is_fixed_point node.rule) (looped w (stack_at + top) l r.wires) w

unfoldable pub closed : Node → ℕ → Built → Built
closed node l r = record {
  past = r.past;
  ty = node.first;
  len = cond (is_fixed_point node.rule) l (l + r.len);
  next = r.next;
  elements = r.elements;
  wires = cond (is_fixed_point node.rule) (r.wires + l) r.wires;
}

pub record Closable (w : List ℕ) (node : Node) (top l : ℕ) (r : Built) : Type 0 where
  pub small : (l ≤ 128) × (r.len ≤ 128) × (top ≤ 8448) × (r.wires ≤ 5632)
  pub apart : is_fixed_point node.rule ≡ true → Apart w (stack_at + top + l) (stack_at + top) l r.wires

-- ---- a node of two subterms

-- the halves of a product that stands at height `top`, bound: the second is the nearer
unfoldable pub halved : List ℕ → List ℕ → List ℕ → ℕ → ℕ → ℕ → List ℕ
halved s sizes w t scope top =
    let x = rec_in s t in
    sets (sets w (binders_at + 2 * scope) (left_no x ∷ 2 * top ∷ [])) (binders_at + 2 * (scope + 1)) (right_no x ∷ 2 * (top + get_or sizes (left_no x) 0) ∷ [])

-- the whole of a term of type t that stands at height `top`, bound
abbrev pub named_in : List ℕ → ℕ → ℕ → ℕ → List ℕ
named_in w t scope top = sets w (binders_at + 2 * scope) (t ∷ 2 * top ∷ [])

-- the body's interface is the result
abbrev pub of_body : Rule → Bool
of_body u = is_projection u || is_naming u

-- by the rule: of a projection, of 1B, of any other
abbrev pub by_binding : {A : Type 0} → Rule → A → A → A → A
by_binding u a b c = cond (is_projection u) a (cond (is_naming u) b c)

-- between the subterms
unfoldable pub between_in : List ℕ → List ℕ → List ℕ → Node → State → Built → List ℕ
between_in s sizes w node st f = by_binding node.rule (halved s sizes w f.ty st.scope st.top) (named_in w f.ty st.scope st.top) w

unfoldable pub middle : Node → State → Built → State
middle node st f = record {
  next = f.next;
  elements = f.elements;
  wires = f.wires;
  top = st.top + f.len;
  scope = by_binding node.rule (st.scope + 2) (st.scope + 1) st.scope;
}

pub record Between (sizes w : List ℕ) (st : State) (f : Built) : Type 0 where
  pub all : length sizes ≡ 256
  pub memory : memory_size ≤ length w
  pub small : (st.top ≤ 8448) × (f.len ≤ 128) × (st.scope + 1 < 128)

-- an argument's interface, of m bits, stands above the function's, of l bits: it is wired to the start of that, and the rest moved down
unfoldable pub applied_in : List ℕ → ℕ → ℕ → ℕ → ℕ → List ℕ
applied_in w at l m k =
    let v = links w k (region w (at + l) m) (region w at m) in
    sets v at (region v (at + m) (l - m))

unfoldable pub finished_in : List ℕ → Node → ℕ → Built → Built → List ℕ
finished_in w node top f x =
    cond (of_body node.rule) (sets w (stack_at + top) (region w (stack_at + top + f.len) x.len))
    (cond (is_pair node.rule) w (applied_in w (stack_at + top) f.len x.len x.wires))

unfoldable pub finished : List ℕ → Node → Built → Built → Built
finished s node f x = record {
  past = x.past;
  ty = cond (of_body node.rule) x.ty (cond (is_pair node.rule) node.first (right_no (rec_in s f.ty)));
  len = cond (of_body node.rule) x.len (cond (is_pair node.rule) (f.len + x.len) (f.len - x.len));
  next = x.next;
  elements = x.elements;
  wires = cond (of_body node.rule) x.wires (cond (is_pair node.rule) x.wires (x.wires + x.len));
}

pub record Finishable (w : List ℕ) (node : Node) (top : ℕ) (f x : Built) : Type 0 where
  pub memory : memory_size ≤ length w
  pub small : (f.len ≤ 128) × (x.len ≤ 128) × (x.wires ≤ 5632)
  pub height : top + f.len + x.len ≤ 8448
  pub apart : (of_body node.rule ≡ false) → (is_pair node.rule ≡ false) → (x.len ≤ f.len) × Apart w (stack_at + top + f.len) (stack_at + top) x.len x.wires

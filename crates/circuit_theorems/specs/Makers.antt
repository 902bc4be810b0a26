-- Which element a node makes (document 01, "The full netlist"; document 02, L6). Assumes nothing.
use Rattle.std.specs.Prelude.{ℕ, zero, suc, ◌+◌, ◌*◌, ◌<◌, ◌≡◌, List, [], ◌∷◌, get_or}
use Rattle.calculus.specs.Types.{size, Table, tree}
use Rattle.calculus.specs.Terms.{Term, var, lvar, fun, app, lfun, lapp, pair, proj, fix, con, name, part_at}
use Rattle.calculus.specs.Net.{left_of, Element, point, part}
use Rattle.sheet_theorems.specs.Subterms.{subterms}

-- the single bits of the type that a function or a fixed point binds; every other node binds none or makes no points
abbrev pub bound_bits : Table → Term → ℕ
bound_bits Θ (var i) = 0
bound_bits Θ (lvar i) = 0
bound_bits Θ (fun t e) = size (left_of (tree Θ t))
bound_bits Θ (app f a) = 0
bound_bits Θ (lfun t e) = size (left_of (tree Θ t))
bound_bits Θ (lapp f a) = 0
bound_bits Θ (pair t a b) = 0
bound_bits Θ (proj a e) = 0
bound_bits Θ (fix t e) = size (tree Θ t)
bound_bits Θ (con p t) = 0
bound_bits Θ (name a e) = 0

-- the terminals that a node itself takes, without its subterms: two for each point, a constant those of its part
abbrev pub own : Table → Term → ℕ
own Θ (var i) = 0
own Θ (lvar i) = 0
own Θ (fun t e) = 2 * size (left_of (tree Θ t))
own Θ (app f a) = 0
own Θ (lfun t e) = 2 * size (left_of (tree Θ t))
own Θ (lapp f a) = 0
own Θ (pair t a b) = 0
own Θ (proj a e) = 0
own Θ (fix t e) = 2 * size (tree Θ t)
own Θ (con p t) = (part_at p).inputs + 1
own Θ (name a e) = 0

-- the first free terminal of node k: the nodes before it have taken theirs
abbrev pub start_of : Table → List Term → ℕ → ℕ
start_of Θ [] k = 0
start_of Θ (x ∷ xs) zero = 0
start_of Θ (x ∷ xs) (suc k) = own Θ x + start_of Θ xs k

-- node x, whose first terminal is n, makes the element: a point of a function or fixed point, or a constant's part
abbrev pub Makes : Table → Term → ℕ → Element → Type 0
Makes Θ x n (point i) = (j : ℕ) × (j < bound_bits Θ x) × (i ≡ n + 2 * j)
Makes Θ x n (part p i) = (t : ℕ) × (x ≡ con p t) × (i ≡ n)

-- node k of a term makes the element. A variable makes none, so k is one of its nodes
abbrev pub MadeAt : Table → Term → Element → ℕ → Type 0
MadeAt Θ e x k = Makes Θ (get_or (subterms e) k (var 0)) (start_of Θ (subterms e) k) x

-- two lists of one length, with a fact of each pair
abbrev pub Each : (Element → ℕ → Type 0) → List Element → List ℕ → Type 0
Each P [] [] = Unit {0}
Each P [] (k ∷ ks) = ⊥
Each P (x ∷ xs) [] = ⊥
Each P (x ∷ xs) (k ∷ ks) = P x k × Each P xs ks

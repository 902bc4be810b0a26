-- Terms of the first edition whose constants carry marks, and records of bits on the parts by these marks (document 02, L13: "parts
-- matched by the constant that made them"). Assumes nothing.
use Rattle.std.specs.Prelude.{ℕ, ◌+◌, ◌<◌, ◌≤◌, ◌≡◌, List, [], ◌∷◌, ◌++◌, drop}
use Rattle.calculus.specs.Terms.{Term, var, lvar, fun, app, lfun, lapp, pair, proj, fix, con, nodes, part_at}
use Rattle.calculus.specs.Net.{Element, point, part, Net}
use Rattle.calculus.specs.Makers.{maker}
use Rattle.calculus.specs.Record.{Bits, Law, Outside}
use Rattle.calculus.specs.Inputs.{tally}

pub data Marked : Type 0 where
  mvar mlvar : ℕ → Marked
  mfun mlfun mfix : ℕ → Marked → Marked
  mapp mlapp mproj : Marked → Marked → Marked
  mpair : ℕ → Marked → Marked → Marked
  mcon : ℕ → ℕ → ℕ → Marked  -- part, type, mark

-- the term without its marks
abbrev pub plain : Marked → Term
plain (mvar i) = var i
plain (mlvar i) = lvar i
plain (mfun t e) = fun t (plain e)
plain (mapp f a) = app (plain f) (plain a)
plain (mlfun t e) = lfun t (plain e)
plain (mlapp f a) = lapp (plain f) (plain a)
plain (mpair t a b) = pair t (plain a) (plain b)
plain (mproj a e) = proj (plain a) (plain e)
plain (mfix t e) = fix t (plain e)
plain (mcon p t k) = con p t

-- the marks in record order, which is the order in which the parts are made
abbrev pub marks : Marked → List ℕ
marks (mvar i) = []
marks (mlvar i) = []
marks (mfun t e) = marks e
marks (mapp f a) = marks f ++ marks a
marks (mlfun t e) = marks e
marks (mlapp f a) = marks f ++ marks a
marks (mpair t a b) = marks a ++ marks b
marks (mproj a e) = marks a ++ marks e
marks (mfix t e) = marks e
marks (mcon p t k) = k ∷ []

-- the nodes of the constants in the same order, where the term is node n
abbrev pub constant_nodes : Marked → ℕ → List ℕ
constant_nodes (mvar i) n = []
constant_nodes (mlvar i) n = []
constant_nodes (mfun t e) n = constant_nodes e (n + 1)
constant_nodes (mapp f a) n = constant_nodes f (n + 1) ++ constant_nodes a (n + 1 + nodes (plain f))
constant_nodes (mlfun t e) n = constant_nodes e (n + 1)
constant_nodes (mlapp f a) n = constant_nodes f (n + 1) ++ constant_nodes a (n + 1 + nodes (plain f))
constant_nodes (mpair t a b) n = constant_nodes a (n + 1) ++ constant_nodes b (n + 1 + nodes (plain a))
constant_nodes (mproj a e) n = constant_nodes a (n + 1) ++ constant_nodes e (n + 1 + nodes (plain a))
constant_nodes (mfix t e) n = constant_nodes e (n + 1)
constant_nodes (mcon p t k) n = n ∷ []

-- each constant's mark is its node number, where the term is node n
abbrev pub ByNode : Marked → ℕ → Type 0
ByNode (mvar i) n = Unit {0}
ByNode (mlvar i) n = Unit {0}
ByNode (mfun t e) n = ByNode e (n + 1)
ByNode (mapp f a) n = ByNode f (n + 1) × ByNode a (n + 1 + nodes (plain f))
ByNode (mlfun t e) n = ByNode e (n + 1)
ByNode (mlapp f a) n = ByNode f (n + 1) × ByNode a (n + 1 + nodes (plain f))
ByNode (mpair t a b) n = ByNode a (n + 1) × ByNode b (n + 1 + nodes (plain a))
ByNode (mproj a e) n = ByNode a (n + 1) × ByNode e (n + 1 + nodes (plain a))
ByNode (mfix t e) n = ByNode e (n + 1)
ByNode (mcon p t k) n = k ≡ n

-- of elements and the nodes that made them (document 02, L6): those of the parts
abbrev pub part_makers : List Element → List ℕ → List ℕ
part_makers [] ks = []
part_makers (point i ∷ es) ks = part_makers es (drop 1 ks)
part_makers (part p i ∷ es) ks = maker ks ∷ part_makers es (drop 1 ks)

-- how often k stands in a list
abbrev pub times : ℕ → List ℕ → ℕ
times k [] = 0
times k (x ∷ xs) = tally k x + times k xs

-- ---- records on marked parts

-- for each mark a bit at each of the part's own terminals, counted from 0 in their order, at each tick
abbrev pub Seen : Type 0
Seen = ℕ → Bits

-- the part at terminal i has in π the bits that s gives it, at each of n ticks
abbrev pub PartSeen : ℕ → Bits → Bits → ℕ → ℕ → Type 0
PartSeen n s π p i = (x : ℕ) → x ≤ (part_at p).inputs → (t : ℕ) → t < n → s x t ≡ π (i + x) t

-- the parts, in making order, have the marks ks, and in π the bits that ρ gives these marks
abbrev pub PartsSeen : ℕ → Seen → Bits → List ℕ → List Element → Type 0
PartsSeen n ρ π ks [] = ks ≡ []
PartsSeen n ρ π ks (point i ∷ es) = PartsSeen n ρ π ks es
PartsSeen n ρ π [] (part p i ∷ es) = ⊥
PartsSeen n ρ π (k ∷ ks) (part p i ∷ es) = PartSeen n (ρ k) π p i × PartsSeen n ρ π ks es

-- a record over pin positions γ and marked parts ρ is possible if it is one over pin positions and part terminals
pub record ByMarks (law : Law) (m : Net) (ks : List ℕ) (n : ℕ) (γ : Bits) (ρ : Seen) : Type 0 where
  pub terminals : Bits
  pub outside : Outside law m n γ terminals
  pub parts : PartsSeen n ρ terminals ks m.elements

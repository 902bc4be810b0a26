-- What a text's term keeps while it is made: places and nodes go together, within the sheet's limits; P holds of the places, K of the
-- parts, where they do in the trees. Assumes nothing.
use Rattle.std.specs.Prelude.{ℕ, ◌+◌, ◌≤◌, ◌≡◌, length}
use Rattle.calculus.specs.Record.{All}
use Rattle.calculus.specs.Terms.{Edition, second, Term, var, lvar, app, lfun, lapp, proj, con, nodes}
use Rattle.calculus.specs.Terms as Terms
use Rattle.sheet_theorems.specs.Laid.{depth}
use Rattle.notation_calculus.specs.Trees.{Bound, Tree, spine, fun, fix, name, apart, Atom, named, part, tuple, Atoms, noAtoms, atoms, Trees, noTrees, trees, Body, of_type, of_term, Clause}
use Rattle.notation_calculus.specs.Making.{Made}

-- 1B stands in the second edition alone, and K holds of the parts
abbrev pub Spelt : (ℕ → Type 0) → Edition → Term → Type 0
Spelt K E (var i) = Unit {0}
Spelt K E (lvar i) = Unit {0}
Spelt K E (Terms.fun t e) = Spelt K E e
Spelt K E (app f a) = Spelt K E f × Spelt K E a
Spelt K E (lfun t e) = Spelt K E e
Spelt K E (lapp f a) = Spelt K E f × Spelt K E a
Spelt K E (Terms.pair t a b) = Spelt K E a × Spelt K E b
Spelt K E (proj a e) = Spelt K E a × Spelt K E e
Spelt K E (Terms.fix t e) = Spelt K E e
Spelt K E (con p t) = K p
Spelt K E (Terms.name a e) = (E ≡ second) × Spelt K E a × Spelt K E e

-- a term that was made where there were n nodes
pub record Kept (P K : ℕ → Type 0) (E : Edition) (n : ℕ) (m : Made) : Type 0 where
  pub placed : length m.places ≡ nodes m.term
  pub below : All P m.places
  pub deep : depth m.term ≡ m.deep
  pub shallow : m.deep ≤ 64
  pub count : m.state.nodes ≡ n + nodes m.term
  pub few : m.state.nodes ≤ 2048
  pub written : Spelt K E m.term

-- ---- trees

abbrev pub BoundIn : (ℕ → Type 0) → Bound → Type 0
BoundIn P x = P x.place

abbrev mutual
  pub TreeIn : (ℕ → Type 0) → (ℕ → Type 0) → Tree → Type 0
  TreeIn P K (spine at a es) = P at × AtomIn P K a × AtomsIn P K es
  TreeIn P K (fun at xs t e) = All (BoundIn P) xs × TreeIn P K e
  TreeIn P K (fix at x t e) = BoundIn P x × TreeIn P K e
  TreeIn P K (name at x v e) = BoundIn P x × TreeIn P K v × TreeIn P K e
  TreeIn P K (apart at xs v e) = All (BoundIn P) xs × TreeIn P K v × TreeIn P K e

  pub AtomIn : (ℕ → Type 0) → (ℕ → Type 0) → Atom → Type 0
  AtomIn P K (named at n ts ks) = P at
  AtomIn P K (part at p) = P at × K p
  AtomIn P K (tuple e es) = TreeIn P K e × TreesIn P K es

  pub AtomsIn : (ℕ → Type 0) → (ℕ → Type 0) → Atoms → Type 0
  AtomsIn P K noAtoms = Unit {0}
  AtomsIn P K (atoms a es) = AtomIn P K a × AtomsIn P K es

  pub TreesIn : (ℕ → Type 0) → (ℕ → Type 0) → Trees → Type 0
  TreesIn P K noTrees = Unit {0}
  TreesIn P K (trees at e es) = P at × TreeIn P K e × TreesIn P K es

abbrev pub BodyIn : (ℕ → Type 0) → (ℕ → Type 0) → Body → Type 0
BodyIn P K (of_type t) = Unit {0}
BodyIn P K (of_term e) = TreeIn P K e

abbrev pub ClauseIn : (ℕ → Type 0) → (ℕ → Type 0) → Clause → Type 0
ClauseIn P K c = BodyIn P K c.body

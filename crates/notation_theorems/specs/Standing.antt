-- P holds of every place that a tree names, and a list that is taken apart has two names at least. Assumes nothing.
use Rattle.std.specs.Prelude.{ℕ, List, [], ◌∷◌}
use Rattle.calculus.specs.Record.{All}
use Rattle.notation_calculus.specs.Trees.{Bound, Number, TypeTree, typed, TypeAtom, one, ones, inside, typeNamed, Side, nothing, side, TypeTrees, no_types, types, Tree, spine, fun, fix, name, apart, Atom, named, part, tuple, Atoms, noAtoms, atoms, Trees, noTrees, trees, Body, of_type, of_term, Clause, Line, Text}

abbrev pub Two : List Bound → Type 0
Two [] = ⊥
Two (x ∷ []) = ⊥
Two (x ∷ y ∷ xs) = Unit {0}

abbrev pub BoundOn : (ℕ → Type 0) → Bound → Type 0
BoundOn P x = P x.place

abbrev pub NumberOn : (ℕ → Type 0) → Number → Type 0
NumberOn P k = P k.place

abbrev mutual
  pub TypeOn : (ℕ → Type 0) → TypeTree → Type 0
  TypeOn P (typed at a p q) = P at × TypeAtomOn P a × SideOn P p × SideOn P q

  pub TypeAtomOn : (ℕ → Type 0) → TypeAtom → Type 0
  TypeAtomOn P one = Unit {0}
  TypeAtomOn P (ones at k) = P at × NumberOn P k
  TypeAtomOn P (inside t) = TypeOn P t
  TypeAtomOn P (typeNamed at n ts ks) = P at × TypesOn P ts × All (NumberOn P) ks

  pub SideOn : (ℕ → Type 0) → Side → Type 0
  SideOn P nothing = Unit {0}
  SideOn P (side f at t) = P at × TypeOn P t

  pub TypesOn : (ℕ → Type 0) → TypeTrees → Type 0
  TypesOn P no_types = Unit {0}
  TypesOn P (types t ts) = TypeOn P t × TypesOn P ts

abbrev mutual
  pub TreeOn : (ℕ → Type 0) → Tree → Type 0
  TreeOn P (spine at a es) = P at × AtomOn P a × AtomsOn P es
  TreeOn P (fun at xs t e) = P at × All (BoundOn P) xs × TypeOn P t × TreeOn P e
  TreeOn P (fix at x t e) = P at × BoundOn P x × TypeOn P t × TreeOn P e
  TreeOn P (name at x v e) = P at × BoundOn P x × TreeOn P v × TreeOn P e
  TreeOn P (apart at xs v e) = P at × Two xs × All (BoundOn P) xs × TreeOn P v × TreeOn P e

  pub AtomOn : (ℕ → Type 0) → Atom → Type 0
  AtomOn P (named at n ts ks) = P at × TypesOn P ts × All (NumberOn P) ks
  AtomOn P (part at p) = P at
  AtomOn P (tuple e es) = TreeOn P e × TreesOn P es

  pub AtomsOn : (ℕ → Type 0) → Atoms → Type 0
  AtomsOn P noAtoms = Unit {0}
  AtomsOn P (atoms a es) = AtomOn P a × AtomsOn P es

  pub TreesOn : (ℕ → Type 0) → Trees → Type 0
  TreesOn P noTrees = Unit {0}
  TreesOn P (trees at e es) = P at × TreeOn P e × TreesOn P es

abbrev pub BodyOn : (ℕ → Type 0) → Body → Type 0
BodyOn P (of_type t) = TypeOn P t
BodyOn P (of_term e) = TreeOn P e

abbrev pub ClauseOn : (ℕ → Type 0) → Clause → Type 0
ClauseOn P c = BoundOn P c.head × BodyOn P c.body

abbrev pub TypeLineOn : (ℕ → Type 0) → Line → Type 0
TypeLineOn P l = TypeOn P l.type

pub record TextOn (P : ℕ → Type 0) (X : Text) : Type 0 where
  pub clauses : All (ClauseOn P) X.clauses
  pub lines : All (TypeLineOn P) X.lines
  pub end : P X.end

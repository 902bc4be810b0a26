-- What a text says: its definitions, with their terms and types as trees; a place is the offset of a word. Assumes nothing.
-- A tree has a level for each call of `term_at` or `type_at` (Grammar) that reads it, parentheses too, so that one number bounds both
-- reading and putting in; but a list of `fun`, and each list in a list, is the tree of one more `let`, which has a level of its own where it is put in. The place that a tree begins with is that of its first word.
use Rattle.std.specs.Prelude.{ℕ, Bool, List}
use Rattle.calculus.specs.Terms.{Edition}
use Rattle.notation_calculus.specs.Words.{Name}

-- a name where it is bound
pub record Bound : Type 0 where
  pub name : Name
  pub place : ℕ

-- k, n or n + k, as an argument and as a parameter: a parameter k fits k alone, and n + k every number that is not below k
pub record Number : Type 0 where
  pub is_open : Bool  -- has a name
  pub name : Name
  pub plus : ℕ
  pub place : ℕ

pub data Form : Type 0 where
  product arrow linear : Form

mutual
  -- a * a * .., then perhaps an arrow and what is right of it
  pub data TypeTree : Type 0 where
    typed : ℕ → TypeAtom → Side → Side → TypeTree

  pub data TypeAtom : Type 0 where
    one : TypeAtom
    ones : ℕ → Number → TypeAtom  -- 1 ^ n: n bits in a row; the place is that of the sign
    inside : TypeTree → TypeAtom  -- ( type )
    typeNamed : ℕ → Name → TypeTrees → List Number → TypeAtom

  pub data Side : Type 0 where
    nothing : Side
    side : Form → ℕ → TypeTree → Side

  pub data TypeTrees : Type 0 where
    no_types : TypeTrees
    types : TypeTree → TypeTrees → TypeTrees

mutual
  pub data Tree : Type 0 where
    spine : ℕ → Atom → Atoms → Tree  -- f a b ..
    fun : ℕ → List Bound → TypeTree → Tree → Tree
    fix : ℕ → Bound → TypeTree → Tree → Tree
    name : ℕ → Bound → Tree → Tree → Tree  -- let x = e in e
    apart : ℕ → List Bound → Tree → Tree → Tree  -- let (x, y, ..) = e in e

  pub data Atom : Type 0 where
    named : ℕ → Name → TypeTrees → List Number → Atom
    part : ℕ → ℕ → Atom
    tuple : Tree → Trees → Atom  -- ( e ), or ( e, e, .. )

  pub data Atoms : Type 0 where
    noAtoms : Atoms
    atoms : Atom → Atoms → Atoms

  -- each behind the comma at a place
  pub data Trees : Type 0 where
    noTrees : Trees
    trees : ℕ → Tree → Trees → Trees

pub data Body : Type 0 where
  of_type : TypeTree → Body
  of_term : Tree → Body

-- NAME [ a, b ] { n + 1 } = .., up to the place of the word behind it
pub record Clause : Type 0 where
  pub head : Bound
  pub types : List Bound
  pub numbers : List Number
  pub body : Body
  pub end : ℕ

-- a line `table`, with the number of clauses above it
pub record Line : Type 0 where
  pub seen : ℕ
  pub type : TypeTree

pub record Text : Type 0 where
  pub edition : Edition
  pub clauses : List Clause
  pub lines : List Line
  pub end : ℕ

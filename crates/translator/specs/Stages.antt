-- What the stages of a call know of the sheet once the walk has accepted its term. Assumes nothing.
use Rattle.std.specs.Prelude.{ℕ, ◌≡◌, Bool, List, []}
use Rattle.calculus.specs.Answer.{good}
use Rattle.calculus.specs.Walk.{Found, walk}
use Rattle.calculus.specs.Read.{edition_of}
use Rattle.records.specs.Editions.{edition_by}
use Rattle.wiring.specs.Whole.{Read}

-- .. and before, once the reader has: the number of types and the edition that the walk is told
pub record ReadStage (s sizes : List ℕ) (types : ℕ) (second : Bool) (start nodes : ℕ) : Type 0 where
  pub read : Read s sizes start nodes
  pub count : types ≡ read.types
  pub edition : edition_by second ≡ edition_of read.whole

-- the number of the root's type is that of the walk
pub record WellTyped (s sizes : List ℕ) (start nodes root : ℕ) : Type 0 where
  pub read : Read s sizes start nodes
  pub found : Found
  pub walked : walk read.told.sheet.edition read.told.sheet.table read.told.sheet.term 0 [] ≡ good found
  pub root_is : found.type ≡ root

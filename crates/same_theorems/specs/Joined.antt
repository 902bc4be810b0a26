-- Three sheets as bytes: two, and one that is read as both joined. Each line can be decided on the bytes. Assumes nothing.
use Rattle.std.specs.Prelude.{◌≡◌, List, ℕ, T}
use Rattle.calculus.specs.Answer.{good}
use Rattle.calculus.specs.Types.{Table}
use Rattle.calculus.specs.Read.{Sheet, read_sheet}
use Rattle.calculus.specs.Net.{Net}
use Rattle.calculus.specs.Translate.{full}
use Rattle.same_theorems.specs.Joint.{takes_bits, root_of, against_over}

pub record JoinsSheets (s a b : List ℕ) (m k l : Net) : Type 0 where
  -- what the two are read as
  pub one : Sheet
  pub other : Sheet
  pub reads_one : read_sheet a ≡ good one
  pub reads_other : read_sheet b ≡ good other
  -- over some table of types, s is read as both joined
  pub table : Table
  pub reads : read_sheet s ≡ good (against_over table one other)
  -- all three are accepted, with these full netlists
  pub of_joint : full s ≡ good m
  pub of_one : full a ≡ good k
  pub of_other : full b ≡ good l
  -- the two have one type, which takes bits and gives bits
  pub one_type : root_of one ≡ root_of other
  pub of_bits : T (takes_bits (root_of one))

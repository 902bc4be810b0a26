-- What a caller knows of a sheet that has been read: its counts, where its term begins behind the opening, and the sizes of its types. Assumes nothing.
use Rattle.std.specs.Prelude.{ℕ, ◌-◌, ◌≡◌, List, [], ◌++◌, map, length, replicate}
use Rattle.calculus.specs.Answer.{good}
use Rattle.calculus.specs.Types.{size, Table, tys_from}
use Rattle.calculus.specs.Terms.{nodes}
use Rattle.calculus.specs.Read.{Sheet, read_sheet}
use Rattle.calculus.specs.Write.{table_bytes}

-- the size of each type, and 0 past them, up to 256
unfoldable pub sizes_of : Table → List ℕ
sizes_of Θ = map size (tys_from [] Θ) ++ replicate (256 - length Θ) 0

pub record Told (s : List ℕ) (sizes : List ℕ) (types n start : ℕ) : Type 0 where
  pub sheet : Sheet
  pub is : read_sheet s ≡ good sheet
  pub types_are : types ≡ length sheet.table
  pub nodes_are : n ≡ nodes sheet.term
  pub start_is : start ≡ length (table_bytes sheet.table)
  pub sizes_are : sizes ≡ sizes_of sheet.table

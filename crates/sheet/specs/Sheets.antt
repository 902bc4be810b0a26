-- What `read` and `stretch_bounds` answer, in the terms of the definitions: one case for each variant. Assumes nothing.
use Rattle.std.specs.Prelude.{ℕ, Result, Ok, Err, List, length}
use Rattle.calculus.specs.Answer.{Answer, good, refused}
use Rattle.calculus.specs.Terms.{nodes}
use Rattle.calculus.specs.Read.{Sheet}
use Rattle.calculus.specs.Write.{table_bytes}
use Rattle.calculus.specs.Stretch.{Stretch}
use Rattle.records.specs.Told.{sizes_of}
use Rattle.answers.specs.declared.Refusal.{Refusal}
use Rattle.answers.specs.Refusals.{said_why}
use Rattle.sheet.specs.declared.Reading.{Reading}
use Rattle.sheet.specs.declared.Bounds.{Bounds}

-- ---- a sheet

-- its number of types, its number of nodes, where its term begins behind the opening, and the sizes of its types
pub record ReadSaid : Type 0 where
  pub types : ℕ
  pub nodes : ℕ
  pub start : ℕ
  pub sizes : List ℕ

abbrev pub whole_sheet : ℕ → ℕ → ℕ → List ℕ → Answer ReadSaid
whole_sheet types n start sizes = good (record { types = types; nodes = n; start = start; sizes = sizes })

abbrev pub said_reading : Result Reading Refusal → Answer ReadSaid
said_reading (Ok r) = whole_sheet r.types r.nodes r.start r.sizes
said_reading (Err why) = refused (said_why why)

unfoldable pub reading_of : Answer Sheet → Answer ReadSaid
reading_of (good σ) = whole_sheet (length σ.table) (nodes σ.term) (length (table_bytes σ.table)) (sizes_of σ.table)
reading_of (refused why) = refused why

-- ---- a part of the sheet

abbrev pub said_bounds : Bounds → Stretch
said_bounds b = record { start = b.start; size = b.size }

-- `corpus::case` meets its contract: sheet, output and memory of a case are parts of the rooms. Assumes nothing.
use mathlib.Core.Path.{sym}
use lib.Seq.{length-take-le}
use native.Mathlib.Omega.{arith}
use Rattle.corpus.proofs.case.Goals as goal

pub slice_bounds-sheet_of-end-2 : goal.slice_bounds-sheet_of-end-2
slice_bounds-sheet_of-end-2 c = sym (length-take-le _ _ (omega arith))

pub slice_bounds-sheet_of-end-4 : goal.slice_bounds-sheet_of-end-4
slice_bounds-sheet_of-end-4 c = sym (length-take-le _ _ (omega arith))

pub slice_bounds-sheet_of-end-6 : goal.slice_bounds-sheet_of-end-6
slice_bounds-sheet_of-end-6 c = sym (length-take-le _ _ (omega arith))

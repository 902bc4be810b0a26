-- The definition, over the pairs of sheets that were worked out by hand. Assumes nothing.
use mathlib.Core.Path.{◌≡◌, refl}
use mathlib.Core.Bool.{xor}
use mathlib.Core.List.{map}
use Rattle.calculus.specs.Read.{edition_of, records_of, read_sheet, read_records, read_types, read_term, head_at}
use Rattle.calculus.specs.Write.{record_bytes, sheet_bytes}
use Rattle.calculus.specs.Lean.{root, lean}
use Rattle.calculus.specs.Translate.{full}
use Rattle.trace_calculus.specs.Trace.{run, on_ring, source}
use Rattle.never_calculus.specs.Search.{examined, explored}
use Rattle.same_theorems.specs.Joint.{root_of, against}
use Rattle.same_theorems.specs.Worked.{joins, worked_joints}

pub worked_joints_lem : map joins worked_joints ≡ worked_joints
unfolding edition_of records_of read_sheet read_records read_types read_term head_at record_bytes sheet_bytes root lean full run on_ring source examined explored root_of against xor
worked_joints_lem = refl

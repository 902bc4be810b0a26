-- `sheet::stands` meets its contract. The invariant: none of the first t records is the same. Assumes nothing.
use mathlib.Core.Bool.{false}
use mathlib.Core.Path.{◌≡◌}
use Rattle.calculus.specs.Read.{repeated}
use Rattle.records.specs.Forms.{rec_of}
use Rattle.sheet.specs.Tables.{table_in}
use Rattle.sheet.proofs.types.stands.Given as goal

abbrev pub invariant-loop-t : goal.invariant-loop-t
invariant-loop-t l = repeated (table_in l.s l.t) (rec_of l.kind l.left l.right) ≡ false

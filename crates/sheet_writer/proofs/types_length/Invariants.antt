-- The invariant: the bytes of the types up to here. Assumes nothing.
use mathlib.Core.Path.{◌≡◌}
use Prim.Native.Nat.{◌*◌, ◌≤◌}
use lib.ListN.{length}
use Rattle.sheet_writer.specs.Bytes.{types_bytes}
use Rattle.sheet_writer.proofs.types_length.Given as goal

abbrev pub invariant-loop-t : goal.invariant-loop-t
invariant-loop-t l = (l.total ≡ length (types_bytes l.work l.t)) × (l.total ≤ 3 * l.t)

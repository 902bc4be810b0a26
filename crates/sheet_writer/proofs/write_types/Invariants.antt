-- The invariant: the types up to here are written. Assumes nothing.
use mathlib.Core.Path.{◌≡◌}
use Prim.Native.Nat.{◌+◌}
use lib.ListN.{length}
use lib.Seq.{sets}
use Rattle.sheet_writer.specs.Bytes.{types_bytes}
use Rattle.sheet_writer.proofs.write_types.Given as goal

abbrev pub invariant-loop-t : goal.invariant-loop-t
invariant-loop-t l = (l.at ≡ l.from + length (types_bytes l.work l.t)) × ((l.out ≡ sets l.initial.out l.from (types_bytes l.work l.t)) × (length l.out ≡ length l.initial.out))

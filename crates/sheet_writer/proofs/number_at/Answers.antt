-- A number of the memory. Assumes nothing.
use native.Mathlib.Omega.{arith}
use Prim.Native.Nat.{◌+◌, ◌*◌}
use Rattle.making_memory.specs.Map.{nodes_at}
use Rattle.sheet_writer.proofs.number_at.Goals as goal

pub overflow_cast-result : goal.overflow_cast-result
overflow_cast-result c = omega (arith, c.type_inv.work (nodes_at + 5 * c.args.k + c.args.j))

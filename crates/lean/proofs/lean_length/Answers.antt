-- The sum of the sizes. Assumes nothing.
use native.Mathlib.Omega.{arith}
use lib.ListN.{drop}
use Rattle.memory.specs.Map.{makers_at}
use Rattle.lean.proofs.PutLaws.{table-size}
use Rattle.lean.proofs.lean_length.Goals as goal

pub returns : goal.returns
returns c =
    let a = c.args in
    omega (arith, c.size.ensures.0, table-size a.plain a.work.now a.end a.pins c.requires (drop makers_at a.work.now))

-- `wiring::faces::terminals_of` meets its contract: by the table of parts. Assumes nothing.
use Prim.Native.Nat.{◌+◌}
use mathlib.Core.Path.{ap₂}
use Rattle.parts.proofs.PartInputs.{table-inputs, table-outputs}
use Rattle.wiring.proofs.faces.terminals_of.Goals as goal

pub returns : goal.returns
returns c =
    let p = c.part_of-part in
    let k = c.args.number in
    ap₂ ◌+◌ (table-inputs p.result k p.ensures) (table-outputs p.result k p.ensures)

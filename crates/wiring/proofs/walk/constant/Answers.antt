-- `wiring::constant` meets its contract: one kind behind the elements, and the part's terminals on the stack. Assumes nothing.
use Prim.Native.Nat.{◌+◌}
use native.Mathlib.Omega.{arith}
use mathlib.Core.Path.{ap₂}
use lib.ListN.{length-set}
use Rattle.parts.proofs.PartInputs.{table-inputs, table-outputs}
use Rattle.wiring.proofs.LeafLaws.{con_room, con_leaves}
use Rattle.wiring.proofs.walk.constant.Goals as goal

pub terminals-requires : goal.terminals-requires
terminals-requires c =
    let p = c.requires in
    let h = con_room p.0 p.1 in
    let q = c.part_of-part in
    let e = table-inputs q.result c.args.node.first q.ensures in
    (simp length-set (omega (arith, p.0.asks.holds.size)), omega arith)

pub overflow_add-result : goal.overflow_add-result
overflow_add-result c =
    let q = c.part_of-part in
    let h = con_room c.requires.0 c.requires.1 in
    let e = table-inputs q.result c.args.node.first q.ensures in
    omega (arith, table-outputs q.result c.args.node.first q.ensures)

pub returns : goal.returns
returns c =
    let q = c.part_of-part in
    let e = table-inputs q.result c.args.node.first q.ensures in
    let f = table-outputs q.result c.args.node.first q.ensures in
    λ h. con_leaves h c.requires.1 q.result.inputs (q.result.inputs + q.result.outputs) e (ap₂ ◌+◌ e f) _ c.terminals.ensures

-- `wiring::count` meets its contract. The invariant: a row of terms stands at the offset, whose terminals are those still to be counted.
-- Assumes nothing.
use Rattle.wiring.proofs.FullLaws.{counting}
use native.Mathlib.Omega.{arith}
use Prim.Native.Nat.{◌+◌, ◌-◌}
use mathlib.Core.Path.{◌≡◌}
use Rattle.wiring.proofs.CountLaws.{row-start, row_room, row-then, row-end}
use Rattle.wiring.proofs.count.Goals as goal

pub loop-init : goal.loop-init
loop-init c =
    let e : c.args.nodes - 0 ≡ c.args.nodes = omega arith in
    λ q. rw e (row-start q)

pub own_terminals-total-requires : goal.own_terminals-total-requires
own_terminals-total-requires c =
    let p = c.requires in
    (counting p p.told.sheet p.told.is).knows.all

pub overflow_add-total : goal.overflow_add-total
overflow_add-total c =
    let p = c.requires in
    let q = counting p p.told.sheet p.told.is in
    let r = row_room q (c.loop.invariant q) (omega (arith, c.loop-test.true)) c.node_at-node.ensures in
    omega (arith, c.own_terminals-total.ensures)

pub loop-preserved : goal.loop-preserved
loop-preserved c =
    let again : c.args.nodes - (c.loop.counter + 1) ≡ c.args.nodes - c.loop.counter - 1 = omega arith in
    λ q. rw (again, c.own_terminals-total.ensures) (row-then q (c.loop.invariant q) (omega (arith, c.loop-test.true)) c.node_at-node.ensures)

pub returns : goal.returns
returns c =
    λ p. let q = counting p p.told.sheet p.told.is in row-end q (c.loop.invariant q) (omega arith)

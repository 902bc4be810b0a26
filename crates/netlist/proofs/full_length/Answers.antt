-- The invariant: the wires, the pins and the first i elements are counted. Assumes nothing.
use native.Mathlib.Omega.{arith}
use mathlib.Core.Path.{◌≡◌}
use Prim.Native.Nat.{◌+◌}
use lib.ListN.{get_or}
use Rattle.memory.specs.Map.{elements_at}
use Rattle.netlist.proofs.Elements.{size_small}
use Rattle.netlist.proofs.InMemory.{element_length, written-here}
use Rattle.netlist.proofs.full_length.Goals as goal

pub loop-i-preserved : goal.loop-i-preserved
loop-i-preserved c =
    let w = c.args.work.now in
    let i = c.loop-i.i in
    let kind = get_or w (elements_at + i) 0 in
    let e = element_length w elements_at i (omega arith) in
    let s = size_small kind in
    (omega arith, omega arith)

pub returns : goal.returns
returns c =
    let a = c.args in
    let l = c.loop-i in
    let n : l.i ≡ a.elements = omega arith in
    let sum = rw n at l.invariant.0 in
    omega (arith, c.node_size.ensures, written-here a.work.now a.elements a.wires a.pins c.requires a.plain)

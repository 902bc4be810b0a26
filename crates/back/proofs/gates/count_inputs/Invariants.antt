-- The invariant: what is counted and what is left are the whole. Assumes nothing.
use mathlib.Core.Path.{◌≡◌}
use Prim.Native.Nat.{◌+◌, ◌*◌, ◌≤◌}
use lib.ListN.{drop}
use Rattle.back_calculus.specs.Back.{gates_from, gates, open_ins}
use Rattle.back.specs.Gates.{net_here, input_total}
use Rattle.back.proofs.gates.count_inputs.Given as goal

abbrev pub invariant-loop : goal.invariant-loop
invariant-loop l =
    let m = net_here l.net in
    (l.at ≡ 4 * l.counter) × (l.undriven ≤ 2 * l.counter) × (l.inputs ≤ 2 * l.counter) × (l.undriven + open_ins (gates_from m (drop l.counter m.elements) l.undriven) ≡ open_ins (gates m))
    × (l.inputs + input_total (drop l.counter m.elements) ≡ input_total m.elements)

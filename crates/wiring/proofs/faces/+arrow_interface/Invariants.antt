-- `wiring::faces::interface` and `wiring::faces::arrow` meet their contracts. The invariant: once the interface of what is due stands too,
-- all does (`Making`); what is due is a type of a lower number each time. Assumes nothing.
use mathlib.Core.Path.{◌≡◌}
use Prim.Native.Nat.{◌+◌, ◌*◌, ◌-◌}
use lib.ListN.{length}
use Rattle.wiring.specs.Sides.{KnownType}
use Rattle.wiring.proofs.DueLaws.{Making}
use Rattle.wiring.proofs.faces.+arrow_interface.Given as goal

-- an arrow stands between its type and the higher of its two sides
abbrev pub decreases-arrow : goal.decreases-arrow
decreases-arrow l = 2 * (l.x.left - l.x.right + l.x.right) + 1

abbrev pub decreases-interface : goal.decreases-interface
decreases-interface l = 2 * l.t

abbrev pub invariant-interface-loop-x : goal.invariant-interface-loop-x
invariant-interface-loop-x l = (length l.work ≡ length l.initial.work) × ((q : KnownType l.s l.sizes l.t) → Making q l.to l.n l.output l.initial.work l.work l.due l.x)

abbrev pub decreases-interface-loop-x : goal.decreases-interface-loop-x
decreases-interface-loop-x l = l.due.ty

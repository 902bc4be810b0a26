-- The invariant: the elements of the first k nodes are named, and node k's record stands at the offset. Assumes nothing.
use mathlib.Core.Path.{◌≡◌}
use lib.ListN.{length}
use Rattle.makers.specs.Naming.{Nameable}
use Rattle.makers.proofs.NameLaws.{NamedSoFar}
use Rattle.makers.proofs.name.Given as goal

abbrev pub invariant-loop-k : goal.invariant-loop-k
invariant-loop-k l =
    (length l.work ≡ length l.initial.work) × ((q : Nameable l.s l.sizes l.initial.work l.from l.nodes) → NamedSoFar l.s l.sizes l.initial.work l.from l.nodes q l.work l.at l.to l.k)

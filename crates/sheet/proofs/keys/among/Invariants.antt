-- `sheet::among` meets its contract. The invariant: what is found is found among the first t. Assumes nothing.
use mathlib.Core.Path.{◌≡◌}
use Rattle.sheet.specs.Keys.{among_first}
use Rattle.sheet.proofs.keys.among.Given as goal

abbrev pub invariant-loop-t : goal.invariant-loop-t
invariant-loop-t l = l.found ≡ among_first l.keys l.t l.key

-- `sheet::skip` meets its contract. The invariant: as many records are passed as the counter says. Assumes nothing.
use mathlib.Core.Path.{◌≡◌}
use Rattle.sheet_theorems.specs.Subterms.{skip}
use Rattle.sheet.proofs.skip.Given as goal

abbrev pub invariant-loop : goal.invariant-loop
invariant-loop l = l.at ≡ skip l.s l.counter l.start

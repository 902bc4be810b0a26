-- The invariant: the first j rows stand. Assumes nothing.
use mathlib.Core.Path.{◌≡◌}
use lib.Seq.{sets}
use Rattle.back.specs.Rows.{rows_up_to, arrow_row}
use Rattle.back.proofs.write.put_arrows.Given as goal

abbrev pub invariant-loop-j : goal.invariant-loop-j
invariant-loop-j l = l.out ≡ sets l.initial.out l.from (rows_up_to (arrow_row l.t) l.j)

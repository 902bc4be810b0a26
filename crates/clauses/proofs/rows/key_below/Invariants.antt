-- `clauses::key_below` meets its contract. The invariant: no row from here on has the key. Assumes nothing.
use Rattle.clauses.specs.Rows.{KeyBelow}
use Rattle.clauses.proofs.rows.key_below.Given as goal

abbrev pub invariant-loop-i : goal.invariant-loop-i
invariant-loop-i l = KeyBelow l.work l.key l.k l.i

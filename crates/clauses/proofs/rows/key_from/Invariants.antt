-- `clauses::key_from` meets its contract. The invariant: no row up to here has the key. Assumes nothing.
use Rattle.clauses.specs.Rows.{KeyFrom}
use Rattle.clauses.proofs.rows.key_from.Given as goal

abbrev pub invariant-loop-i : goal.invariant-loop-i
invariant-loop-i l = KeyFrom l.work l.key l.k l.n l.i

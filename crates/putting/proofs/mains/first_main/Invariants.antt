-- `putting::first_main` meets its contract. The invariant: no row that was passed is one of `main`. Assumes nothing.
use Prim.Native.Nat.{ℕ}
use Rattle.clauses.specs.Rows.{row_in}
use Rattle.putting.specs.Main.{row_main}
use Rattle.putting.proofs.FirstLaws.{Searching}
use Rattle.putting.proofs.mains.first_main.Given as goal

abbrev pub invariant-loop-k : goal.invariant-loop-k
invariant-loop-k l = Searching (λ (j : ℕ). row_main l.text (row_in l.work j)) l.n l.k

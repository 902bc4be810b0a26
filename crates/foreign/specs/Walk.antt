-- The records one after the other, by the table. Assumes nothing.
use Rattle.std.specs.Prelude.{ℕ, ◌≡◌, List, Result, Ok, Err}
use Rattle.calculus.specs.Answer.{Answer, good, refused}
use Rattle.answers.specs.Refusals.{said_why}
use Rattle.answers.specs.declared.Refusal.{Refusal}
use Rattle.foreign_calculus.specs.Foreign.{Reading, Checked}
use Rattle.foreign.specs.Table.{TableHolds}

-- the answer of the walk and the table that it leaves are those of the definition's reading
abbrev pub WalkAgrees : Result ℕ Refusal → List ℕ → Answer Reading → Type 0
WalkAgrees (Ok n) w a = (τ : Reading) × (a ≡ good τ) × (n ≡ τ.next) × TableHolds w τ.net
WalkAgrees (Err why) w a = a ≡ refused (said_why why)

abbrev pub said_check : Result (Unit {0}) Refusal → Answer (Unit {0})
said_check (Ok done) = good tt
said_check (Err why) = refused (said_why why)

-- what a call answers and leaves
abbrev pub called_check : Result (Unit {0}) Refusal → List ℕ → Checked
called_check r w = record { said = said_check r; work = w }

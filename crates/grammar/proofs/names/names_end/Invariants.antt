-- `grammar::names_end` meets its contract. The invariant: the rounds that are left read what is left of the names. Assumes nothing.
use Prim.Native.Nat.{ℕ, ◌<◌}
use lib.ListN.{length}
use Rattle.calculus.specs.Answer.{good}
use Rattle.words.specs.Lexed.{from}
use Rattle.grammar.specs.Skips.{names_more_lem, names_end}
use Rattle.grammar.proofs.LoopLaws.{Loops}
use Rattle.grammar.proofs.names.names_end.Given as goal
use Rattle.std.proofs.Common.{Ok}

abbrev pub invariant-loop-at : goal.invariant-loop-at
invariant-loop-at l = (n : ℕ) → length (from l.text l.at) < n → Loops l.text names_more_lem (λ us. good us) (names_end n (from l.text l.at)) (length (from l.text l.at)) (Ok l.x)

abbrev pub decreases-loop-at : goal.decreases-loop-at
decreases-loop-at l = length (from l.text l.x)

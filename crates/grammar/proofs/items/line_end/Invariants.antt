-- `grammar::line_end` meets its contract. The invariant: the rounds that are left read what is left of the list. Assumes nothing.
use Prim.Native.Nat.{ℕ, ◌<◌}
use mathlib.Core.Bool.{false}
use lib.ListN.{length}
use Rattle.calculus.specs.Answer.{good}
use Rattle.words.specs.Lexed.{from}
use Rattle.grammar.specs.Ends.{type_step}
use Rattle.grammar.specs.Skips.{list_more, list_end}
use Rattle.grammar.proofs.LoopLaws.{Loops}
use Rattle.grammar.proofs.items.line_end.Given as goal
use Rattle.std.proofs.Common.{Ok}

abbrev pub invariant-loop-c : goal.invariant-loop-c
invariant-loop-c l = (n : ℕ) → length (from l.text l.at) < n → Loops l.text (list_more (type_step l.more false)) (λ us. good us) (list_end (type_step l.more false) n (from l.text l.at)) (length (from l.text l.at)) (Ok l.t)

abbrev pub decreases-loop-c : goal.decreases-loop-c
decreases-loop-c l = length (from l.text l.t)

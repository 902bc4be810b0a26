-- Lists in lists meet their contracts: one proof of the cycle of calls. The measure is the levels that are left, and in a level the order of the calls;
-- the loop's invariant: the rounds that are left read what is left of the list. Assumes nothing.
use Prim.Native.Nat.{ℕ, ◌+◌, ◌*◌, ◌<◌}
use lib.ListN.{length}
use Rattle.notation_calculus.specs.Words.{endRound}
use Rattle.notation_calculus.specs.Grammar.{expect}
use Rattle.words.specs.Lexed.{from}
use Rattle.grammar.specs.Skips.{list_more, apart_end, one_end, lists_end}
use Rattle.grammar.proofs.LoopLaws.{Loops}
use Rattle.grammar.proofs.names.+apart_end_one_end.Given as goal
use Rattle.std.proofs.Common.{Ok}

abbrev pub decreases-apart_end : goal.decreases-apart_end
decreases-apart_end l = 2 * l.more + 1

abbrev pub decreases-one_end : goal.decreases-one_end
decreases-one_end l = 2 * l.more

abbrev pub invariant-apart_end-loop-c : goal.invariant-apart_end-loop-c
invariant-apart_end-loop-c l = (n : ℕ) → length (from l.text l.at) < n → Loops l.text (list_more (one_end (lists_end l.more))) (λ us. expect endRound us) (apart_end (one_end (lists_end l.more)) n (from l.text l.at)) (length (from l.text l.at)) (Ok l.x)

abbrev pub decreases-apart_end-loop-c : goal.decreases-apart_end-loop-c
decreases-apart_end-loop-c l = length (from l.text l.x)

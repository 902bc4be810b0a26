-- `grammar::numbers_end` meets its contract. The invariant: the rounds that are left read what is left of the list. Assumes nothing.
use lib.ListN.{length}
use Rattle.std.proofs.Common.{Ok}
use Rattle.notation_calculus.specs.Words.{curly, endCurly}
use Rattle.notation_calculus.specs.Grammar.{expect}
use Rattle.words.specs.Lexed.{from}
use Rattle.grammar.specs.Skips.{list_more, group_end, number_end}
use Rattle.grammar.proofs.LoopLaws.{Loops}
use Rattle.grammar.proofs.steps.numbers_end.Given as goal

abbrev pub invariant-loop-c : goal.invariant-loop-c
invariant-loop-c l = Loops l.text (list_more number_end) (λ us. expect endCurly us) (group_end curly endCurly number_end (from l.text l.at)) (length (from l.text l.at)) (Ok l.k)

abbrev pub decreases-loop-c : goal.decreases-loop-c
decreases-loop-c l = length (from l.text l.k)

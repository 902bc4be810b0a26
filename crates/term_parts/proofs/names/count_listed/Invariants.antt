-- The invariant: so many names were read, and what stands at the offset decides. The measure is how many words are left. Assumes nothing.
use Rattle.term_parts.proofs.NameLaws.{NamesGoing, no_comma, listed_by_one}
use Rattle.notation_calculus.specs.Grammar.{behind, list_from}
use Rattle.notation_machine.specs.Lists.{head_at}
use lib.ListN.{length}
use Rattle.words.specs.Lexed.{from}
use Rattle.term_parts.proofs.names.count_listed.Given as goal

abbrev pub invariant-loop-x : goal.invariant-loop-x
invariant-loop-x l = NamesGoing head_at behind (list_from head_at) no_comma listed_by_one l.text l.at l.p l.count

abbrev pub decreases-loop-x : goal.decreases-loop-x
decreases-loop-x l = length (from l.text l.p)

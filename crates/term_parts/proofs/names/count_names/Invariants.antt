-- The invariant: so many names were read, and what stands at the offset decides. The measure is how many words are left. Assumes nothing.
use Rattle.term_parts.proofs.NameLaws.{NamesGoing, spaced_by_one}
use Rattle.term_parts.specs.Names.{spaced}
use Rattle.notation_calculus.specs.Grammar.{is, name_at, names_from}
use Rattle.notation_calculus.specs.Words.{colon}
use lib.ListN.{length}
use Rattle.words.specs.Lexed.{from}
use Rattle.term_parts.proofs.names.count_names.Given as goal

abbrev pub invariant-loop-x : goal.invariant-loop-x
invariant-loop-x l = NamesGoing name_at spaced names_from (λ us. is colon us) spaced_by_one l.text l.at l.p l.count

abbrev pub decreases-loop-x : goal.decreases-loop-x
decreases-loop-x l = length (from l.text l.p)

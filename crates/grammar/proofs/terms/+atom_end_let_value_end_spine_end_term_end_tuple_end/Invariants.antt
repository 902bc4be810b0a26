-- Terms meet their contracts: one proof of the cycle of calls. The measure is the levels that are left, and in a level the order of the calls.
-- Assumes nothing.
use Prim.Native.Nat.{ℕ, ◌+◌, ◌*◌, ◌≤◌, ◌<◌}
use mathlib.Core.Bool.{false}
use lib.ListN.{length}
use Rattle.calculus.specs.Answer.{good}
use Rattle.notation_calculus.specs.Words.{endRound}
use Rattle.notation_calculus.specs.Grammar.{expect}
use Rattle.words.specs.Lexed.{from, Lexed}
use Rattle.grammar.specs.Ends.{type_step, term_step, WordThere}
use Rattle.grammar.specs.Skips.{trees_end, tuple_end, atom_end, atoms_end, spine_end}
use Rattle.grammar.proofs.LoopLaws.{Inner, Turning}
use Rattle.grammar.proofs.terms.+atom_end_let_value_end_spine_end_term_end_tuple_end.Given as goal

abbrev pub decreases-atom_end : goal.decreases-atom_end
decreases-atom_end l = 8 * l.more + 2

abbrev pub decreases-let_value_end : goal.decreases-let_value_end
decreases-let_value_end l = 8 * l.more + 1

abbrev pub decreases-spine_end : goal.decreases-spine_end
decreases-spine_end l = 8 * l.more + 3

abbrev pub decreases-term_end : goal.decreases-term_end
decreases-term_end l = 8 * l.more

abbrev pub invariant-term_end-loop-left : goal.invariant-term_end-loop-left
invariant-term_end-loop-left l = Lexed l.text l.next × (l.left ≤ l.more × Inner l.text (length (from l.text l.at)) (term_step l.more (from l.text l.at)) (length (from l.text l.next)) (term_step l.left (from l.text l.next)))

abbrev pub decreases-term_end-loop-left : goal.decreases-term_end-loop-left
decreases-term_end-loop-left l = l.left

abbrev pub decreases-tuple_end : goal.decreases-tuple_end
decreases-tuple_end l = 8 * l.more + 1

abbrev pub invariant-spine_end-loop-t : goal.invariant-spine_end-loop-t
invariant-spine_end-loop-t l = Lexed l.text l.next × (WordThere l.text l.next l.code l.place l.behind × Turning l.text (atoms_end (term_step l.more) (type_step l.more false)) (λ us. good us) (spine_end (term_step l.more) (type_step l.more false) (from l.text l.at)) (length (from l.text l.at)) (length (from l.text l.next)) (atom_end (term_step l.more) (type_step l.more false) (from l.text l.next)))

abbrev pub decreases-spine_end-loop-t : goal.decreases-spine_end-loop-t
decreases-spine_end-loop-t l = length (from l.text l.next)

abbrev pub invariant-tuple_end-loop-t : goal.invariant-tuple_end-loop-t
invariant-tuple_end-loop-t l = Lexed l.text l.next × ((n : ℕ) → length (from l.text l.at) < n → Turning l.text (trees_end (term_step l.more)) (λ us. expect endRound us) (tuple_end (term_step l.more) n (from l.text l.at)) (length (from l.text l.at)) (length (from l.text l.next)) (term_step l.more (from l.text l.next)))

abbrev pub decreases-tuple_end-loop-t : goal.decreases-tuple_end-loop-t
decreases-tuple_end-loop-t l = length (from l.text l.next)

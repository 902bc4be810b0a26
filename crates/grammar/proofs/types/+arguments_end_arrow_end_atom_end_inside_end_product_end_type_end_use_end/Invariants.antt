-- Types meet their contracts: one proof of the cycle of calls. The measure is the levels that are left, and in a level the order of the calls.
-- Assumes nothing.
use Prim.Native.Nat.{◌+◌, ◌*◌}
use lib.ListN.{length}
use Rattle.notation_calculus.specs.Words.{square, endSquare}
use Rattle.notation_calculus.specs.Grammar.{expect}
use Rattle.words.specs.Lexed.{from, Lexed}
use Rattle.grammar.specs.Skips.{list_more, group_end}
use Rattle.grammar.proofs.LoopLaws.{Turning}
use mathlib.Core.Bool.{false}
use Rattle.grammar.specs.Ends.{type_step}
use Rattle.grammar.proofs.types.+arguments_end_arrow_end_atom_end_inside_end_product_end_type_end_use_end.Given as goal

abbrev pub decreases-arguments_end : goal.decreases-arguments_end
decreases-arguments_end l = 8 * l.more + 1

abbrev pub decreases-arrow_end : goal.decreases-arrow_end
decreases-arrow_end l = 8 * l.more + 1

abbrev pub decreases-atom_end : goal.decreases-atom_end
decreases-atom_end l = 8 * l.more + 3

abbrev pub decreases-inside_end : goal.decreases-inside_end
decreases-inside_end l = 8 * l.more + 1

abbrev pub decreases-product_end : goal.decreases-product_end
decreases-product_end l = 8 * l.more + 2

abbrev pub decreases-type_end : goal.decreases-type_end
decreases-type_end l = 8 * l.more

abbrev pub decreases-use_end : goal.decreases-use_end
decreases-use_end l = 8 * l.more + 2

abbrev pub invariant-arguments_end-loop-t : goal.invariant-arguments_end-loop-t
invariant-arguments_end-loop-t l = Lexed l.text l.next × Turning l.text (list_more (type_step l.more false)) (λ us. expect endSquare us) (group_end square endSquare (type_step l.more false) (from l.text l.at)) (length (from l.text l.at)) (length (from l.text l.next)) (type_step l.more false (from l.text l.next))

abbrev pub decreases-arguments_end-loop-t : goal.decreases-arguments_end-loop-t
decreases-arguments_end-loop-t l = length (from l.text l.next)

-- `type_walk::type_at` meets its contract. The loop holds a state of the machine whose run leads to what `type_from` gives, and the counter is no less than the steps that the machine may still take; so it is the measure, and never too small. Assumes nothing.
use Rattle.notation_calculus.specs.Trees.{Text}
use Rattle.notation_calculus.specs.Making.{State, Scope}
use Rattle.words.specs.Lexed.{from}
use Rattle.walks.specs.Walkable.{Walkable}
use Rattle.type_walk.proofs.LoopLaws.{Walks, leads}
use Rattle.type_walk.proofs.type_at.Given as goal

abbrev pub invariant-loop-work : goal.invariant-loop-work
invariant-loop-work l = (X : Text) (S : Scope) (σ : State) → Walkable l.text l.initial.work l.frame l.top X S σ → Walks l.text l.initial.work X (leads X l.more S σ (from l.text l.at)) l.more l.top l.work l.s l.left

abbrev pub decreases-loop-work : goal.decreases-loop-work
decreases-loop-work l = l.left

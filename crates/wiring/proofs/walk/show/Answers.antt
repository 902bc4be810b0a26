-- `wiring::show` meets its contract: each way by the function that it calls. Assumes nothing.
use borrow.Author.Tests.{eq-eqb, ne_eqb}
use Rattle.wiring.specs.Asks.{shown}
use Rattle.wiring.proofs.walk.show.Goals as goal

pub returns-then-place-eq1 : goal.returns-then-place-eq1
unfolding shown
returns-then-place-eq1 c =
    λ q. rw (eq-eqb _ _ c.if-place-eq1.true) (c.interface.ensures q)

pub returns-else-place-eq1 : goal.returns-else-place-eq1
unfolding shown
returns-else-place-eq1 c =
    λ q. rw (ne_eqb _ _ c.if-place-eq1.false, ← c.size_of.ensures) c.copy.ensures

-- `typing::rules::is_bit` meets its contract. Assumes nothing.
use Rattle.typing.specs.Steps.{stands_for}
use Rattle.typing.proofs.StepLaws.{bit_test}
use Rattle.typing.proofs.rules.is_bit.Goals as goal

pub returns : goal.returns
unfolding stands_for
returns c = bit_test _ c.sides_of.ensures

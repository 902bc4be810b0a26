-- `typing::leave_two` meets its contract: what was bound between the two goes. Assumes nothing.
use Rattle.typing.specs.Steps.{closes_of}
use Rattle.typing.specs.Verdicts.{held}
use Rattle.typing.proofs.VerdictLaws.{follows_left}
use Rattle.typing.proofs.leave_two.Goals as goal

pub returns : goal.returns
returns c b k n = let a = c.args in follows_left (held b a.y) (closes_of a.n.rule) k n (c.after_two.ensures _)

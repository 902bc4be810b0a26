-- `binders::digit` meets its contract: a shift is a quotient. Assumes nothing.
use Rattle.binders.proofs.Bits.{digit_at}
use Rattle.binders.proofs.digit.Goals as goal

pub returns : goal.returns
returns c = digit_at 64 c.args.j c.args.word c.requires

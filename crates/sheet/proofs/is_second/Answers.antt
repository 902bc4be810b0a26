-- `sheet::is_second` meets its contract, by the first byte. Assumes nothing.
use Rattle.sheet.proofs.ReadLaws.{second_none, second-first}
use Rattle.sheet.proofs.is_second.Goals as goal

pub returns-then-s-eq0 : goal.returns-then-s-eq0
returns-then-s-eq0 c = second_none _ c.if-s-eq0.true

pub returns : goal.returns
returns c = second-first _

-- `type_walk::sides::ask_side` meets its contract: the level waits for the other side of the sign. Assumes nothing.
use Rattle.type_walk.proofs.MoveLaws.{side_asked}
use Rattle.type_walk.proofs.sides.ask_side.Goals as goal

pub returns : goal.returns
returns c = side_asked _ _ _ _ _ _ _ _ _ _ _ _ c.requires.0 c.requires.1.0 c.number.ensures c.flag_of.ensures c.wait.ensures

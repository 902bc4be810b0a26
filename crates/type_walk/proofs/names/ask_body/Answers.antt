-- `type_walk::names::ask_body` meets its contract: the level waits for the body, in the scope that its frame holds. Assumes nothing.
use Rattle.type_walk.proofs.NameLaws.{body-asked}
use Rattle.type_walk.proofs.names.ask_body.Goals as goal

pub returns : goal.returns
returns c = body-asked _ _ _ _ _ _ _ c.requires.can c.flag_of.ensures c.wait.ensures

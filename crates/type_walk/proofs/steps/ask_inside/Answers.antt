-- `type_walk::steps::ask_inside` meets its contract: the level waits for the type in parentheses. Assumes nothing.
use Rattle.type_walk.proofs.StepLaws.{inside-asked}
use Rattle.type_walk.proofs.steps.ask_inside.Goals as goal

pub returns : goal.returns
returns c = inside-asked _ _ _ _ _ _ _ c.requires.0 c.requires.1 c.flag_of.ensures c.wait.ensures

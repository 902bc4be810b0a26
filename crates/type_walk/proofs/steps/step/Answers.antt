-- `type_walk::steps::step` meets its contract: by whether a type is wanted or came. Assumes nothing.
use Rattle.type_walk.proofs.StepLaws.{step_can, step_as}
use Rattle.type_walk.proofs.steps.step.Goals as goal

pub want_step-requires : goal.want_step-requires
want_step-requires c = step_can _ _ _ _ c.in-Wanted.is c.requires

pub come_step-requires : goal.come_step-requires
come_step-requires c = step_can _ _ _ _ c.in-Came.is c.requires

pub returns-in-Wanted : goal.returns-in-Wanted
returns-in-Wanted c = step_as _ _ _ _ _ _ c.in-Wanted.is c.want_step.ensures

pub returns-in-Came : goal.returns-in-Came
returns-in-Came c = step_as _ _ _ _ _ _ c.in-Came.is c.come_step.ensures

-- `type_walk::going` meets its contract: by what the walk is at. Assumes nothing.
use mathlib.Core.Path.{sym, ap}
use Rattle.type_walk.specs.declared.levels.Walking as code
use Rattle.type_walk.specs.Loop.{going_in}
use Rattle.type_walk.proofs.going.Goals as goal

pub returns-in-Came : goal.returns-in-Came
returns-in-Came c = sym (ap (λ (y : code.Walking). going_in y c.args.more) c.in-Came.is)

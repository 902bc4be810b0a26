-- `type_walk::steps::after_side` meets its contract: an arrow may follow a product, and nothing else. Assumes nothing.
use mathlib.Core.Path.{ap}
use Rattle.type_walk.specs.Wishes.{number_said}
use Rattle.type_walk.proofs.MoveLaws.{done_moved}
use Rattle.type_walk.proofs.StepLaws.{side_product, side_done_lem, not-product}
use Rattle.type_walk.proofs.steps.after_side.Goals as goal

pub returns-in-Product : goal.returns-in-Product
returns-in-Product c = side_product _ _ _ _ _ _ _ _ (ap number_said c.in-Product.is) c.arrow_from.ensures

pub returns-in-Arrow : goal.returns-in-Arrow
returns-in-Arrow c = side_done_lem _ _ _ _ _ _ _ _ (not-product _ c.in-Arrow.is) (done_moved _ _ _ _ _ _ c.requires.1 c.done.ensures)

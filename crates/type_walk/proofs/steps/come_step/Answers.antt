-- `type_walk::steps::come_step` meets its contract: by what the level waits for. Assumes nothing.
use Rattle.type_walk.proofs.StepLaws.{come_room}
use Rattle.type_walk.proofs.ComeLaws.{form-few, inside-can, inside-stepped, body-can, body-stepped, argument-can, argument-stepped, side-can, side-stepped}
use Rattle.type_walk.proofs.steps.come_step.Goals as goal

pub here_at-h-requires : goal.here_at-h-requires
here_at-h-requires c = come_room _ _ _ c.requires

pub waits_at-l-requires : goal.waits_at-l-requires
waits_at-l-requires c = come_room _ _ _ c.requires

pub wish_of-requires : goal.wish_of-requires
wish_of-requires c = form-few _ _ _ _ c.here_at-h.ensures _ c.waits_at-l.ensures c.requires

pub behind_inside-requires : goal.behind_inside-requires
behind_inside-requires c = inside-can _ _ _ _ c.here_at-h.ensures _ c.waits_at-l.ensures c.in-Inside.ensures c.requires

pub returns-in-Inside : goal.returns-in-Inside
returns-in-Inside c = inside-stepped _ _ _ _ c.here_at-h.ensures _ c.waits_at-l.ensures c.in-Inside.ensures _ _ c.behind_inside.ensures

pub side_from-requires : goal.side_from-requires
side_from-requires c = body-can _ _ _ _ c.here_at-h.ensures _ c.waits_at-l.ensures c.in-Body.ensures c.requires _ c.from.ensures

pub returns-in-Body : goal.returns-in-Body
returns-in-Body c = body-stepped _ _ _ _ c.here_at-h.ensures _ c.waits_at-l.ensures c.in-Body.ensures _ _ _ c.from.ensures c.side_from.ensures

pub behind_argument-requires : goal.behind_argument-requires
behind_argument-requires c = argument-can _ _ _ _ c.here_at-h.ensures _ c.waits_at-l.ensures c.in-Argument.ensures _ _ c.from-name.ensures c.from-given.ensures c.requires

pub returns-in-Argument : goal.returns-in-Argument
returns-in-Argument c = argument-stepped _ _ _ _ c.here_at-h.ensures _ c.waits_at-l.ensures c.in-Argument.ensures _ _ c.from-name.ensures c.from-given.ensures _ _ c.behind_argument.ensures

pub behind_side-requires : goal.behind_side-requires
behind_side-requires c = side-can _ _ _ _ c.here_at-h.ensures _ c.waits_at-l.ensures _ c.in-Other.ensures c.requires

pub returns-in-Other : goal.returns-in-Other
returns-in-Other c = side-stepped _ _ _ _ c.here_at-h.ensures _ c.waits_at-l.ensures _ c.in-Other.ensures _ _ c.behind_side.ensures

-- `type_walk::names::plain_at` meets its contract: the first parameter of that name, or a definition. Assumes nothing.
use Rattle.type_walk.proofs.NameLaws.{plain-asked, plain-none, plain-low, plain-found, can-side, can_top}
use Rattle.type_walk.specs.Moves.{Anything}
use Rattle.type_walk.proofs.names.plain_at.Goals as goal

pub first_of-e-requires : goal.first_of-e-requires
first_of-e-requires c = plain-asked _ _ _ _ c.args.at c.requires.1.1 _ c.frame_at-f.ensures c.requires.0

pub put_type-requires : goal.put_type-requires
put_type-requires c = (c.requires.0, (c.requires.1.0, (c.requires.1.1.inside, can_top _ _ _ Anything c.requires.0)))

pub returns-then-e-f : goal.returns-then-e-f
returns-then-e-f c = plain-none _ _ _ _ _ c.requires.1.1 _ c.frame_at-f.ensures _ c.first_of-e.ensures _ _ c.if-e-f.true c.put_type.ensures

pub value_of-t-requires : goal.value_of-t-requires
value_of-t-requires c = (plain-low _ _ _ _ c.args.at c.requires.1.1 _ c.frame_at-f.ensures _ c.first_of-e.ensures c.if-e-f.false c.requires.0, c.requires.0.held.walkable.room)

pub side_from-requires : goal.side_from-requires
side_from-requires c = (can-side _ _ _ _ c.args.at c.requires.1.1 _ c.frame_at-f.ensures _ c.first_of-e.ensures _ c.if-e-f.false c.value_of-t.ensures.0 c.requires.0, c.requires.1.0)

pub returns : goal.returns
returns c = plain-found _ _ _ _ _ c.requires.1.1 _ c.frame_at-f.ensures _ c.first_of-e.ensures _ _ _ c.if-e-f.false c.value_of-t.ensures.0 c.side_from.ensures

-- `type_walk::steps::behind_side` meets its contract: what the table answers of both sides. Assumes nothing.
use Rattle.answers.proofs.Passed.{passed}
use Rattle.type_walk.proofs.StepLaws.{listable_as, listed_as, can_list, can-after, side_refused, side-listed}
use Rattle.type_walk.proofs.steps.behind_side.Goals as goal

pub listed-requires : goal.listed-requires
listed-requires c = listable_as _ _ _ _ _ c.kind.ensures (can_list c.args.text.now _ c.args.work.now c.args.h c.args.l _ c.requires.1.1 _ c.args.at c.requires.0)

pub after_side-requires : goal.after_side-requires
after_side-requires c = (can-after _ _ _ _ c.args.l _ c.requires.1.1 _ c.args.at c.requires.0 _ _ c.in_ok-t.was (listed_as _ _ _ _ _ _ _ _ c.kind.ensures c.listed.ensures), c.requires.1.0)

pub returns : goal.returns
returns c = side-listed _ _ _ _ c.args.l _ c.requires.1.1 _ _ c.requires.0 _ _ c.in_ok-t.was (listed_as _ _ _ _ _ _ _ _ c.kind.ensures c.listed.ensures) _ _ c.after_side.ensures

pub returns-in_err-t : goal.returns-in_err-t
returns-in_err-t c = rw (passed c.from_residual.result c.from_residual.ensures.1) (side_refused _ _ _ _ c.args.l _ c.requires.1.1 _ _ c.requires.0 _ _ c.in_err-t.was (listed_as _ _ _ _ _ _ _ _ c.kind.ensures c.listed.ensures))

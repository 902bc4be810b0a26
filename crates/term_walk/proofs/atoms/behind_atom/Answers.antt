-- Without a function so far the atom is the function; else it is applied to it. Assumes nothing.
use Rattle.term_walk.proofs.StepLaws.{behind-first, behind-applied, left_small}
use Rattle.term_walk.proofs.atoms.behind_atom.Goals as goal

pub returns-in_default : goal.returns-in_default
returns-in_default c = behind-first c.args.work.now c.args.h c.args.s c.args.x c.args.at c.in_default.is _ c.applies.ensures

pub applied-made-requires : goal.applied-made-requires
applied-made-requires c = (c.requires.workable, (left_small c.args.work.now c.args.s c.requires.p c.requires.workable c.requires.left _ c.in-Some.is, c.requires.type))

pub returns : goal.returns
returns c = behind-applied c.args.work.now c.args.h c.args.s c.args.x c.args.at _ c.in-Some.is _ _ c.applied-made.ensures _ c.applies-2.ensures

-- The form says which wish waits; the fixed point is made over the body. Assumes nothing.
use Rattle.term_walk.proofs.LeaveLaws.{leave_workable, fix_facts, fix_done}
use Rattle.term_walk.proofs.leaving.leave_fix.Goals as goal

pub fixed_point-made-requires : goal.fixed_point-made-requires
fixed_point-made-requires c = (leave_workable c.args.text.now c.args.work.now c.args.h c.args.l c.args.h.sub c.requires.0, fix_facts c.args.text.now c.args.work.now c.args.h c.args.l c.args.h.sub c.requires.0 c.requires.1)

pub returns : goal.returns
returns c = fix_done c.args.text.now c.args.work.now c.args.h c.args.l c.args.h.sub c.requires.0 _ _ _ c.done.ensures c.requires.1 c.fixed_point-made.ensures

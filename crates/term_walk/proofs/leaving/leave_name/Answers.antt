-- The form says which wish waits; the name is made over the body. Assumes nothing.
use Rattle.term_walk.proofs.LeaveLaws.{leave_workable, leave_type, name_facts, name_done, type_as, naming_as}
use Rattle.term_walk.proofs.leaving.leave_name.Goals as goal

pub naming-made-requires : goal.naming-made-requires
naming-made-requires c = (leave_workable c.args.text.now c.args.work.now c.args.h c.args.l c.args.h.sub c.requires.0, (type_as _ _ c.term_of.ensures (name_facts c.args.text.now c.args.work.now c.args.h c.args.l c.args.h.sub c.requires.0 c.requires.1), leave_type c.args.text.now c.args.work.now c.args.h c.args.l c.args.h.sub c.requires.0))

pub returns : goal.returns
returns c = name_done c.args.text.now c.args.work.now c.args.h c.args.l c.args.h.sub c.requires.0 _ _ _ c.done.ensures c.requires.1 (naming_as _ _ _ _ _ _ _ c.term_of.ensures c.naming-made.ensures)

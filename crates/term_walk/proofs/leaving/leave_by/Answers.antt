-- By the form, which is one of the eight. Assumes nothing.
use Rattle.term_walk.proofs.LeaveLaws.{some_form}
use Rattle.term_walk.proofs.leaving.leave_by.Goals as goal

pub of-requires : goal.of-requires
of-requires c = some_form c.args.text.now c.args.work.now c.args.h c.args.l c.args.h.sub c.requires

-- The form says which wish waits; the functions are made over the body. Assumes nothing.
use Rattle.term_walk.proofs.LeaveLaws.{leave_workable, leave_type, function_facts, function_done}
use Rattle.term_walk.proofs.leaving.leave_function.Goals as goal

pub functions-made-requires : goal.functions-made-requires
functions-made-requires c = (leave_workable c.args.text.now c.args.work.now c.args.h c.args.l c.args.h.sub c.requires.0, ((function_facts c.args.text.now c.args.work.now c.args.h c.args.l c.args.h.sub c.requires.0 c.requires.1).0, (leave_type c.args.text.now c.args.work.now c.args.h c.args.l c.args.h.sub c.requires.0, (function_facts c.args.text.now c.args.work.now c.args.h c.args.l c.args.h.sub c.requires.0 c.requires.1).1)))

pub returns : goal.returns
returns c = function_done c.args.text.now c.args.work.now c.args.h c.args.l c.args.h.sub c.requires.0 _ _ _ c.done.ensures c.requires.1 c.functions-made.ensures

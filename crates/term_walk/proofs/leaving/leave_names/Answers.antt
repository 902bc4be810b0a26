-- The form says which wish waits; the projections are made over the body. Assumes nothing.
use Rattle.term_walk.proofs.LeaveLaws.{join_as, names_facts, names-done, projections_as}
use Rattle.term_walk.proofs.leaving.leave_names.Goals as goal

pub join-made-requires : goal.join-made-requires
join-made-requires c = join_as _ _ _ _ _ c.from.ensures (names_facts c.args.text.now c.args.work.now c.args.h c.args.l c.args.h.sub c.requires.0 c.requires.1)

pub returns : goal.returns
returns c = names-done c.args.text.now c.args.work.now c.args.h c.args.l c.args.h.sub c.requires.0 _ _ _ c.done.ensures c.requires.1 (projections_as _ _ _ _ _ _ _ c.from.ensures c.join-made.ensures)

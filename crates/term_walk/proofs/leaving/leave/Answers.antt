-- The level that waits is the one above, as the memory holds it. Assumes nothing.
use Rattle.term_walk.proofs.RoundLaws.{level_room, can-leave-by, leave-says-by}
use native.Mathlib.Numerals.{add-one}
use native.Mathlib.Omega.{arith}
use Rattle.term_walk.proofs.leaving.leave.Goals as goal

pub overflow_add-m : goal.overflow_add-m
overflow_add-m c = omega (arith, (level_room c.args.text.now c.args.work.now c.args.n c.requires.1 c.requires.0).0)

pub overflow_cast-m : goal.overflow_cast-m
overflow_cast-m c = omega (arith, (level_room c.args.text.now c.args.work.now c.args.n c.requires.1 c.requires.0).0)

pub level_at-l-requires : goal.level_at-l-requires
level_at-l-requires c = ((level_room c.args.text.now c.args.work.now c.args.n c.requires.1 c.requires.0).1, omega (arith, (level_room c.args.text.now c.args.work.now c.args.n c.requires.1 c.requires.0).0))

pub overflow_cast-m-2 : goal.overflow_cast-m-2
overflow_cast-m-2 c = omega (arith, (level_room c.args.text.now c.args.work.now c.args.n c.requires.1 c.requires.0).0)

pub scope_at-s-requires : goal.scope_at-s-requires
scope_at-s-requires c = ((level_room c.args.text.now c.args.work.now c.args.n c.requires.1 c.requires.0).1, omega (arith, (level_room c.args.text.now c.args.work.now c.args.n c.requires.1 c.requires.0).0))

pub leave_by-requires : goal.leave_by-requires
leave_by-requires c = can-leave-by c.args.text.now c.args.work.now c.args.n c.requires.1 _ _ _ _ _ _ (add-one c.args.n.more) c.level_at-l.ensures c.scope_at-s.ensures c.from.ensures c.from-2.ensures c.from-3.ensures c.requires.0

pub returns : goal.returns
returns c = leave-says-by c.args.text.now c.args.work.now c.args.n c.requires.1 _ _ _ _ _ _ (add-one c.args.n.more) c.level_at-l.ensures c.scope_at-s.ensures c.from.ensures c.from-2.ensures c.from-3.ensures _ _ c.leave_by.ensures

-- The pairs wait, and the next list is taken apart in the body of this one. Assumes nothing.
use Rattle.std.proofs.lemmas.Result.{err_from_is_err_and}
use Rattle.term_walk.proofs.LeaveLaws.{leave_enter, values_facts, apart_as, aparted_as, values_refused, values_most, values-can, values-taken, lexed_as, under_as}
use Rattle.term_walk.proofs.StepLaws.{can_ask}
use native.Mathlib.Omega.{arith}
use Rattle.term_walk.proofs.leaving.take_apart.Goals as goal

pub apart-requires : goal.apart-requires
apart-requires c = apart_as c.args.text.now c.args.work.now c.args.h c.args.l c.args.h.sub _ _ c.from.ensures c.from-2.ensures (values_facts c.args.text.now c.args.work.now c.args.h c.args.l c.args.h.sub c.requires.0 c.requires.1.0 c.requires.1.1)

pub overflow_sub-after : goal.overflow_sub-after
overflow_sub-after c = (values_most c.args.text.now c.args.work.now c.args.h c.args.l c.args.h.sub c.requires.0 c.requires.1.0 c.requires.1.1 _ _ _ _ c.in_ok-a.was (aparted_as c.args.text.now c.args.work.now c.args.h c.args.l c.args.h.sub _ _ _ _ c.from.ensures c.from-2.ensures c.apart.ensures)).0

pub overflow_cast-after : goal.overflow_cast-after
overflow_cast-after c = omega (arith, (values_most c.args.text.now c.args.work.now c.args.h c.args.l c.args.h.sub c.requires.0 c.requires.1.0 c.requires.1.1 _ _ _ _ c.in_ok-a.was (aparted_as c.args.text.now c.args.work.now c.args.h c.args.l c.args.h.sub _ _ _ _ c.from.ensures c.from-2.ensures c.apart.ensures)).1)

pub below-n-requires : goal.below-n-requires
below-n-requires c = can_ask c.args.text.now c.args.work.now c.args.h (leave_enter c.args.text.now c.args.work.now c.args.h c.args.l c.args.h.sub c.requires.0) _ c.apart.ensures.only.walked.same

pub under_lists-requires : goal.under_lists-requires
under_lists-requires c = (values-can c.args.text.now c.args.work.now c.args.h c.args.l c.args.h.sub c.requires.0 c.requires.1.0 c.requires.1.1 _ _ _ _ c.in_ok-a.was (aparted_as c.args.text.now c.args.work.now c.args.h c.args.l c.args.h.sub _ _ _ _ c.from.ensures c.from-2.ensures c.apart.ensures) (can_ask c.args.text.now c.args.work.now c.args.h (leave_enter c.args.text.now c.args.work.now c.args.h c.args.l c.args.h.sub c.requires.0) _ c.apart.ensures.only.walked.same) _ _ c.below-n.ensures, (c.requires.0.readable, lexed_as c.args.text.now _ c.args.l.next c.from-3.ensures (values_facts c.args.text.now c.args.work.now c.args.h c.args.l c.args.h.sub c.requires.0 c.requires.1.0 c.requires.1.1).names.lexed))

pub returns-in_err-a : goal.returns-in_err-a
returns-in_err-a c = let p = err_from_is_err_and c.from_residual.result c.from_residual.ensures.1 in rw (p.1, p.2) (values_refused c.args.text.now c.args.work.now c.args.h c.args.l c.args.h.sub c.requires.0 c.requires.1.0 c.requires.1.1 _ _ _ c.in_err-a.was (aparted_as c.args.text.now c.args.work.now c.args.h c.args.l c.args.h.sub _ _ _ _ c.from.ensures c.from-2.ensures c.apart.ensures))

pub returns : goal.returns
returns c = values-taken c.args.text.now c.args.work.now c.args.h c.args.l c.args.h.sub c.requires.0 c.requires.1.0 c.requires.1.1 _ _ _ _ c.in_ok-a.was (aparted_as c.args.text.now c.args.work.now c.args.h c.args.l c.args.h.sub _ _ _ _ c.from.ensures c.from-2.ensures c.apart.ensures) (can_ask c.args.text.now c.args.work.now c.args.h (leave_enter c.args.text.now c.args.work.now c.args.h c.args.l c.args.h.sub c.requires.0) _ c.apart.ensures.only.walked.same) _ _ c.below-n.ensures _ _ (under_as c.args.text.now _ _ c.args.l.next c.args.h.at _ _ _ c.from-3.ensures c.under_lists.ensures)

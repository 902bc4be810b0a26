-- Behind a comma the element waits and the next is wanted; else the pairs are an atom. Assumes nothing.
use mathlib.Core.Path.{refl}
use Rattle.term_walk.specs.Holding.{left_by}
use Rattle.term_walk.proofs.StepLaws.{made-behind, made_refused_lem}
use Rattle.term_walk.specs.Steps.{CanApplyMade}
use mathlib.Core.Path.{subst}
use Rattle.std.proofs.lemmas.Result.{err_from_is_err_and}
use Prim.Native.Nat.{◌+◌}
use Rattle.term_walk.proofs.LeaveLaws.{leave_workable, leave_short, leave_enter, join_as, element_facts, tuple_can, tuple-done, half_length, waiting_as, element_asks, pairs_as, element_room}
use Rattle.term_walk.proofs.StepLaws.{can_ask}
use native.Mathlib.Omega.{arith}
use Rattle.term_walk.proofs.leaving.leave_element.Goals as goal

pub join-requires : goal.join-requires
join-requires c = join_as _ _ _ _ _ c.from.ensures (element_facts c.args.text.now c.args.work.now c.args.h c.args.l c.args.h.sub c.requires.0 c.requires.1).0

pub behind_atom-requires : goal.behind_atom-requires
behind_atom-requires c = subst (CanApplyMade c.join.new.work c.left_of.result) c.in_ok-made.was (tuple_can c.args.text.now c.args.work.now c.args.h c.args.l c.args.h.sub c.requires.0 c.requires.1 _ _ (pairs_as _ _ _ _ _ _ _ c.from.ensures c.join.ensures) _ c.left_of.ensures)

pub returns-then-w-ne-COMMA : goal.returns-then-w-ne-COMMA
returns-then-w-ne-COMMA c = tuple-done c.args.text.now c.args.work.now c.args.h c.args.l c.args.h.sub c.requires.0 c.requires.1 c.look-w.result c.look-w.ensures c.if-w-ne-COMMA.true _ _ (pairs_as _ _ _ _ _ _ _ c.from.ensures c.join.ensures) _ c.left_of.ensures _ _ (made-behind c.join.new.work c.args.h c.left_of.result c.join.result c.look-w.result.end _ c.in_ok-made.was _ _ c.behind_atom.ensures)

pub overflow_cast-half : goal.overflow_cast-half
overflow_cast-half c = omega (arith, c.look-w.ensures.inside, leave_short c.args.text.now c.args.work.now c.args.h c.args.l c.args.h.sub c.requires.0)

pub overflow_add-i : goal.overflow_add-i
overflow_add-i c = omega (arith, c.from-2.ensures, (element_facts c.args.text.now c.args.work.now c.args.h c.args.l c.args.h.sub c.requires.0 c.requires.1).1.0)

pub put_half-requires : goal.put_half-requires
put_half-requires c = ((leave_workable c.args.text.now c.args.work.now c.args.h c.args.l c.args.h.sub c.requires.0).room, omega (arith, c.from-2.ensures, (element_facts c.args.text.now c.args.work.now c.args.h c.args.l c.args.h.sub c.requires.0 c.requires.1).1.0))

pub overflow_add-l : goal.overflow_add-l
overflow_add-l c = omega (arith, (element_facts c.args.text.now c.args.work.now c.args.h c.args.l c.args.h.sub c.requires.0 c.requires.1).1.0)

pub overflow_add-i-2 : goal.overflow_add-i-2
overflow_add-i-2 c = omega (arith, c.from-2.ensures, (element_facts c.args.text.now c.args.work.now c.args.h c.args.l c.args.h.sub c.requires.0 c.requires.1).1.0)

pub ask-requires : goal.ask-requires
ask-requires c = can_ask c.args.text.now c.args.work.now c.args.h (leave_enter c.args.text.now c.args.work.now c.args.h c.args.l c.args.h.sub c.requires.0) _ (half_length c.args.work.now (c.args.h.waiting + c.from-2.result) (record { node = c.args.h.sub.node; ty = c.args.h.sub.ty; deep = c.args.h.sub.deep; place = c.look-w.result.start }) _ c.put_half.ensures (element_room c.args.text.now c.args.work.now c.args.h c.args.l c.args.h.sub c.requires.0 c.requires.1 _ (waiting_as _ _ _ c.from-2.ensures)))

pub returns : goal.returns
returns c = element_asks c.args.text.now c.args.work.now c.args.h c.args.l c.args.h.sub c.requires.0 c.requires.1 c.look-w.result c.look-w.ensures c.if-w-ne-COMMA.false (c.args.h.waiting + c.from-2.result) (waiting_as _ _ _ c.from-2.ensures) _ c.put_half.ensures (can_ask c.args.text.now c.args.work.now c.args.h (leave_enter c.args.text.now c.args.work.now c.args.h c.args.l c.args.h.sub c.requires.0) _ (half_length c.args.work.now (c.args.h.waiting + c.from-2.result) (record { node = c.args.h.sub.node; ty = c.args.h.sub.ty; deep = c.args.h.sub.deep; place = c.look-w.result.start }) _ c.put_half.ensures (element_room c.args.text.now c.args.work.now c.args.h c.args.l c.args.h.sub c.requires.0 c.requires.1 _ (waiting_as _ _ _ c.from-2.ensures)))) _ _ c.left_of-2.ensures c.part_level-after.ensures _ _ c.ask.ensures

pub returns-in_err-made : goal.returns-in_err-made
returns-in_err-made c = let p = err_from_is_err_and c.from_residual.result c.from_residual.ensures.1 in rw (p.1, p.2) (tuple-done c.args.text.now c.args.work.now c.args.h c.args.l c.args.h.sub c.requires.0 c.requires.1 c.look-w.result c.look-w.ensures c.if-w-ne-COMMA.true _ _ (pairs_as _ _ _ _ _ _ _ c.from.ensures c.join.ensures) (left_by c.args.l) refl _ _ (made_refused_lem c.join.new.work c.args.h (left_by c.args.l) c.join.result c.look-w.result.end _ c.in_err-made.was))

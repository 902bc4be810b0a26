-- If there is room the variable is bound and the function waits for its body, in which the list is taken apart. Assumes nothing.
use Rattle.term_walk.proofs.PairLaws.{in-can, in-goes}
use Rattle.term_walk.proofs.BinderLaws.{room_refused, room_there, leb_less, room-sum}
use Rattle.term_walk.proofs.StepLaws.{can_ask}
use Rattle.term_walk.proofs.AtomLaws.{enter-room}
use mathlib.Core.Path.{sym, ◌∙◌}
use Rattle.words.proofs.WordLaws.{not_yes, not_no}
use native.Mathlib.Omega.{arith}
use Rattle.term_walk.proofs.binders.bind_pair.Goals as goal

pub returns-then-not-has_room : goal.returns-then-not-has_room
returns-then-not-has_room c = rw c.at.ensures (room_refused c.args.text.now c.args.work.now c.args.h c.args.place 1 _ (sym c.has_room.ensures ∙ not_yes _ c.if-not-has_room.true-raw))

pub bind_name-requires : goal.bind_name-requires
bind_name-requires c = (leb_less c.args.h.top 1024 (sym c.has_room.ensures ∙ not_no _ c.if-not-has_room.false-raw), (c.requires.0.can.here.scope.walkable.room, omega (arith, c.requires.1.inside, c.requires.0.can.here.scope.walkable.short)))

pub overflow_add-h : goal.overflow_add-h
overflow_add-h c = omega (arith, room-sum c.args.h.top 1 (sym c.has_room.ensures ∙ not_no _ c.if-not-has_room.false-raw))

pub below-n-requires : goal.below-n-requires
below-n-requires c = can_ask c.args.text.now c.args.work.now c.args.h c.requires.0.can _ c.bind_name.ensures.only.same

pub list_in-requires : goal.list_in-requires
list_in-requires c = (in-can c.args.text.now c.args.work.now c.args.h c.args.items.round c.args.items.from c.args.items.count c.args.ty c.args.at (room-sum c.args.h.top 1 (sym c.has_room.ensures ∙ not_no _ c.if-not-has_room.false-raw)) (enter-room c.args.text.now c.args.work.now c.args.h c.requires.0.can).1 c.requires.0.known c.requires.1 c.requires.0.readable _ c.bind_name.ensures (can_ask c.args.text.now c.args.work.now c.args.h c.requires.0.can _ c.bind_name.ensures.only.same) _ _ c.below-n.ensures c.requires.0.can, (c.requires.0.readable, c.requires.1))

pub returns : goal.returns
returns c = room_there c.args.text.now c.args.work.now c.args.h c.args.place 1 _ (sym c.has_room.ensures ∙ not_no _ c.if-not-has_room.false-raw) _ _ (in-goes c.args.text.now c.args.work.now c.args.h c.args.items.round c.args.items.from c.args.items.count c.args.ty c.args.at (room-sum c.args.h.top 1 (sym c.has_room.ensures ∙ not_no _ c.if-not-has_room.false-raw)) (enter-room c.args.text.now c.args.work.now c.args.h c.requires.0.can).1 c.requires.0.known c.requires.1 c.requires.0.readable _ c.bind_name.ensures (can_ask c.args.text.now c.args.work.now c.args.h c.requires.0.can _ c.bind_name.ensures.only.same) _ _ c.below-n.ensures _ _ c.list_in.ensures)

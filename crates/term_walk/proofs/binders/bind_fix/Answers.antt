-- If there is room the name is bound, and the body is wanted. Assumes nothing.
use Rattle.term_walk.proofs.BinderLaws.{room_refused, room_there, fix_asks, leb_less, room-sum}
use Rattle.term_walk.proofs.AtomLaws.{enter-room}
use Rattle.term_walk.proofs.StepLaws.{can_ask}
use mathlib.Core.Path.{sym, ◌∙◌}
use Rattle.words.proofs.WordLaws.{not_yes, not_no}
use native.Mathlib.Omega.{arith}
use Rattle.term_walk.proofs.binders.bind_fix.Goals as goal

pub returns-then-not-has_room : goal.returns-then-not-has_room
returns-then-not-has_room c = rw c.at.ensures (room_refused c.args.text.now c.args.work.now c.args.h c.args.place 1 _ (sym c.has_room.ensures ∙ not_yes _ c.if-not-has_room.true-raw))

pub bind_name-requires : goal.bind_name-requires
bind_name-requires c = ((leb_less c.args.h.top 1024 (sym c.has_room.ensures ∙ not_no _ c.if-not-has_room.false-raw)), (c.requires.0.can.here.scope.walkable.room, omega (arith, c.requires.1.inside, c.requires.0.can.here.scope.walkable.short)))

pub overflow_add-h : goal.overflow_add-h
overflow_add-h c = omega (arith, (room-sum c.args.h.top 1 (sym c.has_room.ensures ∙ not_no _ c.if-not-has_room.false-raw)))

pub ask-requires : goal.ask-requires
ask-requires c = can_ask c.args.text.now c.args.work.now c.args.h c.requires.0.can _ c.bind_name.ensures.only.same

pub returns : goal.returns
returns c = room_there c.args.text.now c.args.work.now c.args.h c.args.place 1 _ (sym c.has_room.ensures ∙ not_no _ c.if-not-has_room.false-raw) _ _ (fix_asks c.args.text.now c.args.work.now c.args.h c.args.name c.args.ty c.args.at (room-sum c.args.h.top 1 (sym c.has_room.ensures ∙ not_no _ c.if-not-has_room.false-raw)) (enter-room c.args.text.now c.args.work.now c.args.h c.requires.0.can).1 c.requires.0.known c.requires.1 c.look-dot.result c.look-dot.ensures _ c.bind_name.ensures (can_ask c.args.text.now c.args.work.now c.args.h c.requires.0.can _ c.bind_name.ensures.only.same) _ _ c.ask.ensures)

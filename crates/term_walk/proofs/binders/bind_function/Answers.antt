-- If there is room the names are bound as `bind_all` binds them, and the body is wanted. Assumes nothing.
use Rattle.term_walk.proofs.BinderLaws.{room_refused, room_there, function_asks, room-sum}
use Rattle.term_walk.proofs.AtomLaws.{enter-room}
use Rattle.term_walk.proofs.StepLaws.{can_ask}
use mathlib.Core.Path.{sym, ◌∙◌}
use Rattle.words.proofs.WordLaws.{not_yes, not_no}
use native.Mathlib.Omega.{arith}
use Rattle.term_walk.proofs.binders.bind_function.Goals as goal

pub returns-then-not-has_room : goal.returns-then-not-has_room
returns-then-not-has_room c = rw c.at.ensures (room_refused c.args.text.now c.args.work.now c.args.h c.args.place c.args.count _ (sym c.has_room.ensures ∙ not_yes _ c.if-not-has_room.true-raw))

pub bind_names-requires : goal.bind_names-requires
bind_names-requires c = record { names = c.requires.1.0; can = record { short = c.requires.0.can.here.scope.walkable.short; room = c.requires.0.can.here.scope.walkable.room; few = (room-sum c.args.h.top c.args.count (sym c.has_room.ensures ∙ not_no _ c.if-not-has_room.false-raw)) } }

pub overflow_add-h : goal.overflow_add-h
overflow_add-h c = omega (arith, (room-sum c.args.h.top c.args.count (sym c.has_room.ensures ∙ not_no _ c.if-not-has_room.false-raw)))

pub ask-requires : goal.ask-requires
ask-requires c = can_ask c.args.text.now c.args.work.now c.args.h c.requires.0.can _ c.bind_names.ensures.only.same

pub returns : goal.returns
returns c = room_there c.args.text.now c.args.work.now c.args.h c.args.place c.args.count _ (sym c.has_room.ensures ∙ not_no _ c.if-not-has_room.false-raw) _ _ (function_asks c.args.text.now c.args.work.now c.args.h c.args.from c.args.count c.args.ty c.args.at (room-sum c.args.h.top c.args.count (sym c.has_room.ensures ∙ not_no _ c.if-not-has_room.false-raw)) (enter-room c.args.text.now c.args.work.now c.args.h c.requires.0.can).1 c.requires.0.known c.look-dot.result c.look-dot.ensures _ c.bind_names.ensures (can_ask c.args.text.now c.args.work.now c.args.h c.requires.0.can _ c.bind_names.ensures.only.same) _ _ c.ask.ensures)

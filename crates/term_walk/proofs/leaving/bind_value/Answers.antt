-- The name is bound to the value's type, and the body is wanted. Assumes nothing.
use Rattle.term_walk.proofs.LeaveLaws.{leave_workable, leave_short, leave_enter, value_facts, value_bound}
use Rattle.term_walk.proofs.StepLaws.{can_ask}
use borrow.Author.Tests.{le-leb}
use native.Mathlib.Omega.{arith}
use Rattle.term_walk.proofs.leaving.bind_value.Goals as goal

pub bind_name-requires : goal.bind_name-requires
bind_name-requires c = (omega (arith, c.requires.1.1), ((leave_workable c.args.text.now c.args.work.now c.args.h c.args.l c.args.h.sub c.requires.0).room, omega (arith, c.from.ensures, value_facts c.args.text.now c.args.work.now c.args.h c.args.l c.args.h.sub c.requires.0 c.requires.1.0, leave_short c.args.text.now c.args.work.now c.args.h c.args.l c.args.h.sub c.requires.0)))

pub overflow_add-h : goal.overflow_add-h
overflow_add-h c = omega (arith, c.requires.1.1)

pub ask-requires : goal.ask-requires
ask-requires c = can_ask c.args.text.now c.args.work.now c.args.h (leave_enter c.args.text.now c.args.work.now c.args.h c.args.l c.args.h.sub c.requires.0) _ c.bind_name.ensures.only.same

pub returns : goal.returns
returns c = value_bound c.args.text.now c.args.work.now c.args.h c.args.l c.args.h.sub c.requires.0 c.requires.1.0 (le-leb _ _ c.requires.1.1) c.requires.1.1 c.look-within.result c.look-within.ensures _ c.from.ensures _ c.bind_name.ensures (can_ask c.args.text.now c.args.work.now c.args.h (leave_enter c.args.text.now c.args.work.now c.args.h c.args.l c.args.h.sub c.requires.0) _ c.bind_name.ensures.only.same) _ _ c.ask.ensures

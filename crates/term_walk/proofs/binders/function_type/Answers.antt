-- The type is that of `type_from` behind the colon. Assumes nothing.
use Rattle.std.proofs.lemmas.Result.{err_from_is_err_and}
use Rattle.term_walk.proofs.BinderLaws.{function_tail, typed_can, typed_refused, typed_bound}
use Rattle.term_walk.proofs.AtomLaws.{enter-room}
use Rattle.term_walk.proofs.binders.function_type.Goals as goal

pub bind_function-requires : goal.bind_function-requires
bind_function-requires c = (typed_can c.args.text.now c.args.work.now c.args.h _ _ c.look-colon.ensures.rest (enter-room c.args.text.now c.args.work.now c.args.h c.requires.0).1 c.requires.0 _ _ _ _ c.in_ok-t.was c.type_behind.ensures, (c.requires.1.1.0, c.requires.1.1.1))

pub returns-in_err-t : goal.returns-in_err-t
returns-in_err-t c = let p = err_from_is_err_and c.from_residual.result c.from_residual.ensures.1 in rw (p.1, p.2) (typed_refused c.args.text.now c.args.work.now c.args.h _ _ c.look-colon.ensures.rest (enter-room c.args.text.now c.args.work.now c.args.h c.requires.0).1 (function_tail c.args.text.now c.args.place c.args.from c.args.count) _ _ _ c.in_err-t.was c.type_behind.ensures)

pub returns : goal.returns
returns c = typed_bound c.args.text.now c.args.work.now c.args.h _ _ c.look-colon.ensures.rest (enter-room c.args.text.now c.args.work.now c.args.h c.requires.0).1 (function_tail c.args.text.now c.args.place c.args.from c.args.count) _ _ _ _ c.in_ok-t.was c.type_behind.ensures _ _ c.bind_function.ensures

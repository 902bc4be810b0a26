-- The type is that of `type_from` behind the colon. Assumes nothing.
use Rattle.std.proofs.lemmas.Result.{err_from_is_err_and}
use Rattle.term_walk.proofs.PairLaws.{pair_tail}
use Rattle.term_walk.proofs.BinderLaws.{typed_can, typed_refused, typed_bound}
use Rattle.term_walk.proofs.AtomLaws.{enter-room}
use mathlib.Core.Path.{refl}
use Rattle.term_walk.proofs.binders.pair_type.Goals as goal

pub bind_pair-requires : goal.bind_pair-requires
bind_pair-requires c = (typed_can c.args.text.now c.args.work.now c.args.h c.args.at _ refl (enter-room c.args.text.now c.args.work.now c.args.h c.requires.0).1 c.requires.0 _ _ _ _ c.in_ok-t.was c.type_behind.ensures, c.requires.1.1)

pub returns-in_err-t : goal.returns-in_err-t
returns-in_err-t c = let p = err_from_is_err_and c.from_residual.result c.from_residual.ensures.1 in rw (p.1, p.2) (typed_refused c.args.text.now c.args.work.now c.args.h c.args.at _ refl (enter-room c.args.text.now c.args.work.now c.args.h c.requires.0).1 (pair_tail c.args.text.now c.args.place c.args.items.round c.args.items.from c.args.items.count) _ _ _ c.in_err-t.was c.type_behind.ensures)

pub returns : goal.returns
returns c = typed_bound c.args.text.now c.args.work.now c.args.h c.args.at _ refl (enter-room c.args.text.now c.args.work.now c.args.h c.requires.0).1 (pair_tail c.args.text.now c.args.place c.args.items.round c.args.items.from c.args.items.count) _ _ _ _ c.in_ok-t.was c.type_behind.ensures _ _ c.bind_pair.ensures

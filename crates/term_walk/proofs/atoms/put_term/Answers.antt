-- The type arguments are those of `types_from`; then the definition is put in. Assumes nothing.
use Rattle.std.proofs.lemmas.Result.{err_from_is_err_and}
use Rattle.term_walk.proofs.AtomLaws.{enter-room, put_can, put_refused, put-behind}
use Rattle.term_walk.proofs.atoms.put_term.Goals as goal

pub put_clause-requires : goal.put_clause-requires
put_clause-requires c = put_can c.args.text.now c.args.work.now c.args.h c.args.s c.args.name c.args.at c.requires.0 c.requires.1.1 _ _ _ _ c.in_ok-t.was c.types_from.ensures

pub returns-in_err-t : goal.returns-in_err-t
returns-in_err-t c = let p = err_from_is_err_and c.from_residual.result c.from_residual.ensures.1 in rw (p.1, p.2) (put_refused c.args.text.now c.args.work.now c.args.h c.args.s c.args.name c.args.at (enter-room c.args.text.now c.args.work.now c.args.h c.requires.0.can).1 _ _ _ c.in_err-t.was c.types_from.ensures)

pub returns : goal.returns
returns c = put-behind c.args.text.now c.args.work.now c.args.h c.args.s c.args.name c.args.at (enter-room c.args.text.now c.args.work.now c.args.h c.requires.0.can).1 _ _ _ _ c.in_ok-t.was c.types_from.ensures _ _ c.put_clause.ensures

-- The definition is put in by `put_from`, and its body is wanted below. Assumes nothing.
use Rattle.std.proofs.lemmas.Result.{err_from_is_err_and}
use Rattle.term_walk.proofs.AtomLaws.{enter-room, put_end_small, clause_refused, clause_put}
use Rattle.term_walk.proofs.StepLaws.{can_ask}
use native.Mathlib.Omega.{arith}
use Rattle.term_walk.proofs.atoms.put_clause.Goals as goal

pub overflow_cast-q : goal.overflow_cast-q
overflow_cast-q c = omega (arith, put_end_small c.args.text.now c.args.work.now c.args.h c.args.name c.args.at c.args.types c.requires.0.can c.requires.1.1.1.1 _ _ _ c.in_ok-q.was c.put_in.ensures)

pub ask-requires : goal.ask-requires
ask-requires c = can_ask c.args.text.now c.args.work.now c.args.h c.requires.0.can _ c.put_in.ensures.walked.same

pub returns-in_err-q : goal.returns-in_err-q
returns-in_err-q c = let p = err_from_is_err_and c.from_residual.result c.from_residual.ensures.1 in rw (p.1, p.2) (clause_refused c.args.text.now c.args.work.now c.args.h c.args.s c.args.name c.args.at c.args.types c.requires.1.1.1.1 (omega (arith, c.requires.0.can.is)) (enter-room c.args.text.now c.args.work.now c.args.h c.requires.0.can).1 _ _ _ c.in_err-q.was c.put_in.ensures)

pub returns : goal.returns
returns c = clause_put c.args.text.now c.args.work.now c.args.h c.args.s c.args.name c.args.at c.args.types c.requires.1.1.1.1 (omega (arith, c.requires.0.can.is)) (enter-room c.args.text.now c.args.work.now c.args.h c.requires.0.can).1 _ _ _ (can_ask c.args.text.now c.args.work.now c.args.h c.requires.0.can _ c.put_in.ensures.walked.same) c.in_ok-q.was c.put_in.ensures _ c.part_level-l.ensures _ _ c.ask.ensures

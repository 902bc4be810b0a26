-- The variable is what `lookup` finds; else the name is a definition's. Assumes nothing.
use Rattle.term_walk.proofs.StepLaws.{made-behind, made_refused_lem}
use Rattle.term_walk.specs.Steps.{CanApplyMade}
use mathlib.Core.Path.{subst}
use Rattle.std.proofs.lemmas.Result.{err_from_is_err_and}
use Rattle.term_walk.proofs.AtomLaws.{enter-room, enter_workable, look_small, can_made, plain-none, plain_here}
use Rattle.term_walk.proofs.atoms.plain_at.Goals as goal

pub variable-requires : goal.variable-requires
variable-requires c = ((enter_workable c.args.text.now c.args.work.now c.args.h c.requires.0.can).room, look_small c.args.text.now c.args.work.now c.args.h c.args.name _ _ c.requires.0.can _ c.in-Some.is c.variable_at.ensures)

pub behind_atom-requires : goal.behind_atom-requires
behind_atom-requires c = subst (CanApplyMade c.variable.new.work c.args.s) c.in_ok-made.was (can_made c.args.text.now c.args.work.now c.args.h c.args.s c.requires.0 _ c.variable.ensures.only c.variable.result c.variable.ensures.small)

pub returns-in_default : goal.returns-in_default
returns-in_default c = plain-none c.args.text.now c.args.work.now c.args.h c.args.s c.args.name c.args.at c.requires.1.0 _ c.in_default.is c.variable_at.ensures _ _ c.put_term.ensures

pub returns : goal.returns
returns c = plain_here c.args.text.now c.args.work.now c.args.h c.args.s c.args.name c.args.at c.requires.1.0 (enter-room c.args.text.now c.args.work.now c.args.h c.requires.0.can).0 (enter-room c.args.text.now c.args.work.now c.args.h c.requires.0.can).1 _ _ _ c.in-Some.is c.variable_at.ensures _ _ c.variable.ensures _ _ (made-behind c.variable.new.work c.args.h c.args.s c.variable.result c.args.at _ c.in_ok-made.was _ _ c.behind_atom.ensures)

pub returns-in_err-made : goal.returns-in_err-made
returns-in_err-made c = let p = err_from_is_err_and c.from_residual.result c.from_residual.ensures.1 in rw (p.1, p.2) (plain_here c.args.text.now c.args.work.now c.args.h c.args.s c.args.name c.args.at c.requires.1.0 (enter-room c.args.text.now c.args.work.now c.args.h c.requires.0.can).0 (enter-room c.args.text.now c.args.work.now c.args.h c.requires.0.can).1 _ _ _ c.in-Some.is c.variable_at.ensures _ _ c.variable.ensures _ _ (made_refused_lem c.variable.new.work c.args.h c.args.s c.variable.result c.args.at _ c.in_err-made.was))

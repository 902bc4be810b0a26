-- The name is that of `name_at`. Assumes nothing.
use Rattle.term_walk.proofs.BinderLaws.{fix_refused, fix_named}
use Rattle.term_walk.proofs.BinderLaws.{fix_refused, fix_named}
use native.Mathlib.Omega.{arith}
use Rattle.std.proofs.lemmas.Result.{err_from_is_err_and}
use mathlib.Core.Path.{subst}
use Rattle.term_parts.specs.Names.{NameSays}
use Rattle.term_walk.proofs.binders.fix_from.Goals as goal

pub returns-in_err-x : goal.returns-in_err-x
returns-in_err-x c = let p = err_from_is_err_and c.from_residual.result c.from_residual.ensures.1 in rw (p.1, p.2) (fix_refused c.args.text.now c.args.work.now c.args.h c.args.start c.args.at c.requires.1 _ (subst (NameSays c.args.text.now c.args.at) c.in_err-x.was c.name_at.ensures))

pub fix_type-requires : goal.fix_type-requires
fix_type-requires c =
    let N = (subst (NameSays c.args.text.now c.args.at) c.in_ok-x.was c.name_at.ensures) in
    (c.requires.0, ((λ _. N.onward.lexed), record { inside = omega (arith, N.inside); plain = N.plain }))

pub returns : goal.returns
returns c = fix_named c.args.text.now c.args.work.now c.args.h c.args.start c.args.at c.requires.1 c.in_ok-x.x (subst (NameSays c.args.text.now c.args.at) c.in_ok-x.was c.name_at.ensures) _ _ c.fix_type.ensures

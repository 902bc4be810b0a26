-- By the word behind `let`: names in parentheses, or a name. Assumes nothing.
use Rattle.term_walk.proofs.BinderLaws.{let_names, let_refused, let_name}
use Rattle.term_walk.proofs.BinderLaws.{let_names, let_refused, let_name}
use native.Mathlib.Omega.{arith}
use Rattle.std.proofs.lemmas.Result.{err_from_is_err_and}
use mathlib.Core.Path.{subst}
use Rattle.term_parts.specs.Names.{NameSays}
use Rattle.term_walk.proofs.binders.let_from.Goals as goal

pub names_from-requires : goal.names_from-requires
names_from-requires c = (c.requires.0, (c.requires.1.0, ((c.word_at-w.ensures.onward (λ z. absurd (omega (arith, z, c.if-w-eq-ROUND.true)))).lexed, ((c.word_at-w.ensures.onward (λ z. absurd (omega (arith, z, c.if-w-eq-ROUND.true)))).rest, (c.word_at-w.ensures.onward (λ z. absurd (omega (arith, z, c.if-w-eq-ROUND.true)))).fewer))))

pub returns-then-w-eq-ROUND : goal.returns-then-w-eq-ROUND
returns-then-w-eq-ROUND c = let_names c.args.text.now c.args.work.now c.args.h c.args.place c.args.at c.word_at-w.result c.word_at-w.ensures c.if-w-eq-ROUND.true _ _ c.names_from.ensures

pub returns-in_err-x : goal.returns-in_err-x
returns-in_err-x c = let p = err_from_is_err_and c.from_residual.result c.from_residual.ensures.1 in rw (p.1, p.2) (let_refused c.args.text.now c.args.work.now c.args.h c.args.place c.args.at c.word_at-w.result c.word_at-w.ensures c.if-w-eq-ROUND.false _ (subst (NameSays c.args.text.now c.args.at) c.in_err-x.was c.name_at.ensures))

pub ask_value-requires : goal.ask_value-requires
ask_value-requires c =
    let N = (subst (NameSays c.args.text.now c.args.at) c.in_ok-x.was c.name_at.ensures) in
    (c.requires.0, ((λ _. N.onward.lexed), (record { inside = omega (arith, N.inside); plain = N.plain }, c.requires.1.0)))

pub returns : goal.returns
returns c = let_name c.args.text.now c.args.work.now c.args.h c.args.place c.args.at c.word_at-w.result c.word_at-w.ensures c.if-w-eq-ROUND.false c.in_ok-x.x (subst (NameSays c.args.text.now c.args.at) c.in_ok-x.was c.name_at.ensures) _ _ c.ask_value.ensures

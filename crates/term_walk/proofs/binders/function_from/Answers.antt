-- The names are those of `names_from`, or of a list. Assumes nothing.
use Rattle.term_walk.proofs.PairLaws.{opened, function_pair, function_plain}
use Rattle.term_walk.proofs.BinderLaws.{function_refused, function_named}
use native.Mathlib.Omega.{arith}
use Rattle.std.proofs.lemmas.Result.{err_from_is_err_and}
use mathlib.Core.Path.{subst}
use Rattle.term_parts.specs.Names.{SpacedSay}
use Rattle.term_walk.proofs.binders.function_from.Goals as goal

pub pair_from-requires : goal.pair_from-requires
pair_from-requires c = (c.requires.0, opened c.args.text.now c.args.work.now c.args.h c.args.start c.args.at c.requires.1 c.word_at-w.result c.word_at-w.ensures c.if-w-eq-ROUND.true)

pub returns-then-w-eq-ROUND : goal.returns-then-w-eq-ROUND
returns-then-w-eq-ROUND c = function_pair c.args.text.now c.args.work.now c.args.h c.args.start c.args.at c.requires.1 c.word_at-w.result c.word_at-w.ensures c.if-w-eq-ROUND.true _ _ c.pair_from.ensures

pub returns-in_err-x : goal.returns-in_err-x
returns-in_err-x c = let p = err_from_is_err_and c.from_residual.result c.from_residual.ensures.1 in rw (p.1, p.2) (function_plain c.args.text.now c.args.work.now c.args.h c.args.start c.args.at c.requires.1 c.word_at-w.result c.word_at-w.ensures c.if-w-eq-ROUND.false _ _ (function_refused c.args.text.now c.args.work.now c.args.h c.args.start c.args.at c.requires.1 _ (subst (SpacedSay c.args.text.now c.args.at) c.in_err-x.was c.count_names.ensures)))

pub function_type-requires : goal.function_type-requires
function_type-requires c =
    let N = (subst (SpacedSay c.args.text.now c.args.at) c.in_ok-x.was c.count_names.ensures) in
    (c.requires.0, ((λ _. N.lexed), (N.stand, omega (arith, N.few, c.requires.0.here.scope.walkable.short))))

pub returns : goal.returns
returns c = function_plain c.args.text.now c.args.work.now c.args.h c.args.start c.args.at c.requires.1 c.word_at-w.result c.word_at-w.ensures c.if-w-eq-ROUND.false _ _ (function_named c.args.text.now c.args.work.now c.args.h c.args.start c.args.at c.requires.1 c.in_ok-x.x (subst (SpacedSay c.args.text.now c.args.at) c.in_ok-x.was c.count_names.ensures) _ _ c.function_type.ensures)

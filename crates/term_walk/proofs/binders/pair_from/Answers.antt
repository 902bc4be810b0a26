-- The items are those of `list_from headAt`, and `)` and `:` stand behind them. Assumes nothing.
use Rattle.term_walk.proofs.PairLaws.{pair_refused, pair-open, pair-named}
use native.Mathlib.Omega.{arith}
use Rattle.std.proofs.lemmas.Result.{err_from_is_err_and}
use mathlib.Core.Path.{subst}
use Rattle.term_parts.specs.Names.{ListedSay}
use Rattle.grammar.specs.Ends.{Ends}
use lib.ListN.{length}
use Rattle.words.specs.Lexed.{from}
use Rattle.term_walk.specs.Steps.{closed_by}
use Rattle.term_walk.proofs.binders.pair_from.Goals as goal

pub returns-in_err-x : goal.returns-in_err-x
returns-in_err-x c = let p = err_from_is_err_and c.from_residual.result c.from_residual.ensures.1 in rw (p.1, p.2) (pair_refused c.args.text.now c.args.work.now c.args.h c.args.place c.args.round c.args.start c.args.at c.requires.1 _ (subst (ListedSay c.args.text.now c.args.at) c.in_err-x.was c.count_listed.ensures))

pub closed-requires : goal.closed-requires
closed-requires c = ((subst (ListedSay c.args.text.now c.args.at) c.in_ok-x.was c.count_listed.ensures).lexed, omega arith)

pub returns-in_err-behind : goal.returns-in_err-behind
returns-in_err-behind c = let p = err_from_is_err_and c.from_residual-in_err-behind.result c.from_residual-in_err-behind.ensures.1 in rw (p.1, p.2) (pair-open c.args.text.now c.args.work.now c.args.h c.args.place c.args.round c.args.start c.args.at c.requires.1 c.in_ok-x.x (subst (ListedSay c.args.text.now c.args.at) c.in_ok-x.was c.count_listed.ensures) _ (subst (Ends c.args.text.now (length (from c.args.text.now c.in_ok-x.x.end)) (closed_by 15 (from c.args.text.now c.in_ok-x.x.end))) c.in_err-behind.was c.closed.ensures))

pub pair_type-requires : goal.pair_type-requires
pair_type-requires c =
    let N = (subst (ListedSay c.args.text.now c.args.at) c.in_ok-x.was c.count_listed.ensures) in
    let C = (subst (Ends c.args.text.now (length (from c.args.text.now c.in_ok-x.x.end)) (closed_by 15 (from c.args.text.now c.in_ok-x.x.end))) c.in_ok-behind.was c.closed.ensures) in
    (c.requires.0, ((λ _. C.lexed), record { inside = c.requires.1.inside; opens = c.requires.1.opens; names = N.stand; few = omega (arith, N.few, c.requires.0.here.scope.walkable.short) }))

pub returns : goal.returns
returns c = pair-named c.args.text.now c.args.work.now c.args.h c.args.place c.args.round c.args.start c.args.at c.requires.1 c.in_ok-x.x (subst (ListedSay c.args.text.now c.args.at) c.in_ok-x.was c.count_listed.ensures) _ (subst (Ends c.args.text.now (length (from c.args.text.now c.in_ok-x.x.end)) (closed_by 15 (from c.args.text.now c.in_ok-x.x.end))) c.in_ok-behind.was c.closed.ensures) _ _ c.pair_type.ensures

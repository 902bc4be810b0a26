-- By the word at which the scan ends: a list, or none. Assumes nothing.
use Rattle.term_walk.proofs.ListLaws.{under_none, under_refused, under_some, under-stands}
use native.Mathlib.Omega.{arith}
use Rattle.std.proofs.lemmas.Result.{err_from_is_err_and}
use mathlib.Core.Path.{subst}
use Rattle.term_parts.specs.Names.{ListedSay, NextSays}
use Rattle.term_walk.proofs.lists.under_lists.Goals as goal

pub look-within-requires : goal.look-within-requires
look-within-requires c = (c.requires.1.0, omega (arith, c.requires.0.here.scope.walkable.short))

pub returns-in_default : goal.returns-in_default
returns-in_default c = under_none c.args.text.now c.args.work.now c.args.n c.args.next c.args.at (subst (NextSays c.args.text.now c.args.next) c.in_default.is c.next_list.ensures) c.look-within.result c.look-within.ensures _ c.wanted.ensures

pub count_listed-requires : goal.count_listed-requires
count_listed-requires c = (subst (NextSays c.args.text.now c.args.next) (c.in-Some.is) c.next_list.ensures).opens.lexed

pub returns-in_err-x : goal.returns-in_err-x
returns-in_err-x c = let p = err_from_is_err_and c.from_residual.result c.from_residual.ensures.1 in rw (p.1, p.2) (under_refused c.args.text.now c.args.work.now c.args.n c.args.next c.args.at c.in-Some.l (subst (NextSays c.args.text.now c.args.next) (c.in-Some.is) c.next_list.ensures) _ (subst (ListedSay c.args.text.now c.in-Some.l.end) c.in_err-x.was c.count_listed.ensures))

pub list_in-requires : goal.list_in-requires
list_in-requires c = (c.requires.0, (c.requires.1.0, under-stands c.args.text.now c.args.work.now c.args.n c.args.next c.args.at c.in-Some.l (subst (NextSays c.args.text.now c.args.next) (c.in-Some.is) c.next_list.ensures) c.requires.0 c.in_ok-x.x (subst (ListedSay c.args.text.now c.in-Some.l.end) c.in_ok-x.was c.count_listed.ensures)))

pub returns : goal.returns
returns c = under_some c.args.text.now c.args.work.now c.args.n c.args.next c.args.at c.in-Some.l (subst (NextSays c.args.text.now c.args.next) (c.in-Some.is) c.next_list.ensures) c.in_ok-x.x (subst (ListedSay c.args.text.now c.in-Some.l.end) c.in_ok-x.was c.count_listed.ensures) _ _ c.list_in.ensures

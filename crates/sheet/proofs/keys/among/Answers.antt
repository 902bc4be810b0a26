-- `sheet::among` meets its contract. The invariant: what is found is found among the first t. Assumes nothing.
use borrow.Author.Rules.{rules}
use mathlib.Core.Path.{sym, ap, ◌∙◌}
use mathlib.Core.Bool.{Bool, ◌||◌}
use native.Mathlib.Omega.{arith}
use lib.Dec.{eqb}
use lib.ListN.{get_or}
use Rattle.sheet.proofs.KeyLaws.{among-more, among_none, among-all}
use Rattle.sheet.proofs.keys.among.Goals as goal

pub loop-t-init : goal.loop-t-init
loop-t-init c = among_none _ _

pub offset_bounds-keys-t : goal.offset_bounds-keys-t
offset_bounds-keys-t c = let l = c.loop-t-test.true in let k = c.requires in search rules

pub bounds-keys-t : goal.bounds-keys-t
bounds-keys-t c = omega (arith, c.loop-t-test.true, c.requires)

pub loop-t-preserved : goal.loop-t-preserved
loop-t-preserved c =
    let l = c.loop-t in
    let a = c.args in
    c.either-found.ensures ∙ ap (λ (b : Bool). b || eqb (get_or a.keys.now l.t 0) a.key) l.invariant ∙ sym (among-more a.keys.now l.t a.key)

pub returns : goal.returns
returns c =
    let l = c.loop-t in
    let a = c.args in
    l.invariant ∙ among-all a.keys.now a.key (omega arith) c.loop-t-test.false

-- `clauses::up_to` meets its contract. The invariant: no row from here on is of the sort and name. The measure is how many rows stand
-- above. Assumes nothing.
use Prim.Native.Nat.{◌≤◌}
use mathlib.Core.Path.{sym, ap, subst, ◌∙◌}
use native.Mathlib.Omega.{arith}
use lib.ListN.{length}
use Rattle.clauses.specs.declared.rows.Row.{Row}
use Rattle.clauses.specs.Follows.{row_namesake}
use Rattle.clauses.proofs.MeantLaws.{down_none, down-found, down-more, down_key, down-all}
use Rattle.clauses.proofs.meant.up_to.Goals as goal

pub loop-k-init : goal.loop-k-init
loop-k-init c =
    let n = c.row_count-n in
    down_key c.args.text.now c.args.work.now c.args.sort c.args.at c.args.otherwise n.result c.key_below-k.result c.args.key c.requires.0 c.requires.1.1 c.key_below-k.ensures (down_none c.args.text.now c.args.work.now c.args.sort c.args.at _ c.args.otherwise n.result n.ensures)

pub namesake-requires : goal.namesake-requires
namesake-requires c =
    let l = c.loop-k in
    (subst (λ (r : Row). r.name ≤ length c.args.text.now) (sym c.row_at-r.ensures) (c.requires.0.each _ (omega (arith, c.loop-k-test.true, l.invariant.most))).inside, c.requires.1.0)

pub returns-then-namesake : goal.returns-then-namesake
returns-then-namesake c =
    let a = c.args in
    let l = c.loop-k in
    down-found a.text.now a.work.now a.sort a.at _ a.otherwise l.k l.invariant c.loop-k-test.true (ap (λ (r : Row). row_namesake a.text.now r a.sort a.at) (sym c.row_at-r.ensures) ∙ sym c.namesake.ensures ∙ c.if-namesake.true)

pub loop-k-preserved : goal.loop-k-preserved
loop-k-preserved c =
    let l = c.loop-k in
    down_key c.args.text.now c.args.work.now c.args.sort c.args.at c.args.otherwise _ c.key_below-k-in-loop-k.result c.args.key c.requires.0 c.requires.1.1 c.key_below-k-in-loop-k.ensures (down-more c.args.text.now c.args.work.now c.args.sort c.args.at _ c.args.otherwise l.k l.invariant c.loop-k-test.true (ap (λ (r : Row). row_namesake c.args.text.now r c.args.sort c.args.at) (sym c.row_at-r.ensures) ∙ sym c.namesake.ensures ∙ c.if-namesake.false))

pub returns : goal.returns
returns c =
    let a = c.args in
    down-all a.text.now a.work.now a.sort a.at _ a.otherwise c.loop-k.k c.loop-k.invariant c.loop-k-test.false

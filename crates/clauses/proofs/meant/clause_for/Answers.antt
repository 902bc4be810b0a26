-- `clauses::clause_for` meets its contract. The invariant: the rows that are left decide. The measure is how many are left. Assumes nothing.
use mathlib.Core.Path.{sym, ap, subst, ◌∙◌}
use native.Mathlib.Omega.{arith}
use Rattle.clauses.specs.declared.rows.Row.{Row}
use Rattle.clauses.specs.Cells.{CellsThere}
use Rattle.clauses.specs.Follows.{RowThere}
use Rattle.clauses.specs.Meant.{row_meant}
use Rattle.clauses.proofs.MeantLaws.{seeking_none, seeking-found, seeking-more, seeking_key}
use Rattle.clauses.proofs.meant.clause_for.Goals as goal

pub loop-k-init : goal.loop-k-init
loop-k-init c =
    seeking_key c.args.text.now c.args.work.now c.args.q c.args.seen 0 c.key_from-k.result c.key_of-key.result c.requires.0.there c.requires.1 c.key_of-key.ensures c.key_from-k.ensures (seeking_none c.args.text.now c.args.work.now c.args.q c.args.seen)

pub meant-requires : goal.meant-requires
meant-requires c =
    let k = c.loop-k.k in
    (c.requires.0, (subst (RowThere c.args.text.now) (sym c.row_at-r.ensures) (c.requires.0.there.each k (omega (arith, c.loop-k-test.true, c.requires.1))), (omega (arith, c.loop-k-test.true, c.requires.0.there.few, c.requires.1), subst (λ (r : Row). CellsThere c.args.text.now c.args.work.now k r.numbered r.numbers) (sym c.row_at-r.ensures) (c.requires.0.there.cells k (omega (arith, c.loop-k-test.true, c.requires.1))))))

pub returns-then-meant : goal.returns-then-meant
returns-then-meant c =
    let a = c.args in
    let l = c.loop-k in
    seeking-found a.text.now a.work.now a.q a.seen l.k l.invariant c.loop-k-test.true (ap (λ (r : Row). row_meant a.text.now a.work.now a.q r) (sym c.row_at-r.ensures) ∙ sym c.meant.ensures ∙ c.if-meant.true)

pub loop-k-preserved : goal.loop-k-preserved
loop-k-preserved c =
    let l = c.loop-k in
    seeking_key c.args.text.now c.args.work.now c.args.q c.args.seen _ c.key_from-k-in-loop-k.result c.key_of-key.result c.requires.0.there c.requires.1 c.key_of-key.ensures c.key_from-k-in-loop-k.ensures (seeking-more c.args.text.now c.args.work.now c.args.q c.args.seen l.k l.invariant c.loop-k-test.true (ap (λ (r : Row). row_meant c.args.text.now c.args.work.now c.args.q r) (sym c.row_at-r.ensures) ∙ sym c.meant.ensures ∙ c.if-meant.false))

-- `putting::first_main` meets its contract. The invariant: no row that was passed is one of `main`. Assumes nothing.
use Prim.Native.Nat.{ℕ, ◌≤◌}
use mathlib.Core.Path.{◌≡◌, sym, ap, ◌∙◌, subst}
use native.Mathlib.Omega.{arith}
use lib.ListN.{length}
use Rattle.clauses.specs.declared.rows.Row.{Row}
use Rattle.clauses.specs.Rows.{row_in}
use Rattle.putting.specs.Main.{row_main}
use Rattle.putting.proofs.FirstLaws.{searching_none, searching-found, searching-more, searching-all}
use Rattle.putting.proofs.mains.first_main.Goals as goal

pub loop-k-init : goal.loop-k-init
loop-k-init c = searching_none (λ (j : ℕ). row_main c.args.text.now (row_in c.args.work.now j)) c.args.n

pub row_at-r-requires : goal.row_at-r-requires
row_at-r-requires c = (omega (arith, c.requires.0.few, c.requires.1), c.requires.0.room)

pub is_main-requires : goal.is_main-requires
is_main-requires c = subst (λ (r : Row). r.name ≤ length c.args.text.now) (sym c.row_at-r.ensures) (c.requires.0.each c.loop-k.k (omega (arith, c.requires.1))).inside

pub returns-then-is_main : goal.returns-then-is_main
returns-then-is_main c = searching-found (λ (j : ℕ). row_main c.args.text.now (row_in c.args.work.now j)) c.args.n c.loop-k.k c.loop-k.invariant c.loop-k-test.true (ap (row_main c.args.text.now) (sym c.row_at-r.ensures) ∙ sym c.is_main.ensures ∙ c.if-is_main.true)

pub loop-k-preserved : goal.loop-k-preserved
loop-k-preserved c = searching-more (λ (j : ℕ). row_main c.args.text.now (row_in c.args.work.now j)) c.args.n c.loop-k.k c.loop-k.invariant c.loop-k-test.true (ap (row_main c.args.text.now) (sym c.row_at-r.ensures) ∙ sym c.is_main.ensures ∙ c.if-is_main.false)

pub returns : goal.returns
returns c = let e : c.args.n ≡ c.loop-k.k = omega (arith, c.loop-k.invariant.most) in e ∙ searching-all (λ (j : ℕ). row_main c.args.text.now (row_in c.args.work.now j)) c.args.n c.loop-k.k c.loop-k.invariant c.loop-k-test.false

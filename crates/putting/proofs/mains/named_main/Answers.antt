-- `putting::named_main` meets its contract: a name of four bytes, each of which is that of `main`. Assumes nothing.
use mathlib.Core.Path.{refl}
use mathlib.Core.Bool.{true, false}
use native.Mathlib.Omega.{arith}
use borrow.Author.Tests.{eq-eqb, ne_eqb}
use Rattle.putting.proofs.NameLaws.{main_other, main-inside, main-by}
use Rattle.putting.proofs.mains.named_main.Goals as goal

pub returns-then-end-at : goal.returns-then-end-at
returns-then-end-at c = main_other c.args.text.now c.args.at c.requires c.run_end-end.result c.run_end-end.ensures c.if-end-at.true

pub bounds-text-at : goal.bounds-text-at
bounds-text-at c = omega (arith, main-inside c.args.text.now c.args.at c.requires c.run_end-end.result c.run_end-end.ensures c.if-end-at.false)

pub returns-then-text-at-ne109 : goal.returns-then-text-at-ne109
returns-then-text-at-ne109 c = main-by c.args.text.now c.args.at c.requires c.run_end-end.result c.run_end-end.ensures c.if-end-at.false false _ _ _ (ne_eqb _ _ c.if-text-at-ne109.true) refl refl refl

pub bounds-text-at-2 : goal.bounds-text-at-2
bounds-text-at-2 c = omega (arith, main-inside c.args.text.now c.args.at c.requires c.run_end-end.result c.run_end-end.ensures c.if-end-at.false)

pub returns-then-text-at-ne97 : goal.returns-then-text-at-ne97
returns-then-text-at-ne97 c = main-by c.args.text.now c.args.at c.requires c.run_end-end.result c.run_end-end.ensures c.if-end-at.false true false _ _ (eq-eqb _ _ c.if-text-at-ne109.false) (ne_eqb _ _ c.if-text-at-ne97.true) refl refl

pub bounds-text-at-3 : goal.bounds-text-at-3
bounds-text-at-3 c = omega (arith, main-inside c.args.text.now c.args.at c.requires c.run_end-end.result c.run_end-end.ensures c.if-end-at.false)

pub returns-then-text-at-ne105 : goal.returns-then-text-at-ne105
returns-then-text-at-ne105 c = main-by c.args.text.now c.args.at c.requires c.run_end-end.result c.run_end-end.ensures c.if-end-at.false true true false _ (eq-eqb _ _ c.if-text-at-ne109.false) (eq-eqb _ _ c.if-text-at-ne97.false) (ne_eqb _ _ c.if-text-at-ne105.true) refl

pub bounds-text-at-4 : goal.bounds-text-at-4
bounds-text-at-4 c = omega (arith, main-inside c.args.text.now c.args.at c.requires c.run_end-end.result c.run_end-end.ensures c.if-end-at.false)

pub returns : goal.returns
returns c = main-by c.args.text.now c.args.at c.requires c.run_end-end.result c.run_end-end.ensures c.if-end-at.false true true true _ (eq-eqb _ _ c.if-text-at-ne109.false) (eq-eqb _ _ c.if-text-at-ne97.false) (eq-eqb _ _ c.if-text-at-ne105.false) refl

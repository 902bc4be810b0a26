-- `putting::is_main` meets its contract, test by test. Assumes nothing.
use mathlib.Core.Path.{refl, sym, ◌∙◌}
use mathlib.Core.Bool.{true, false}
use borrow.Author.Tests.{eq-eqb, ne_eqb, not-true, not-false}
use Rattle.putting.proofs.NameLaws.{row_by}
use Rattle.putting.proofs.mains.is_main.Goals as goal

pub returns-then-not-named_main : goal.returns-then-not-named_main
returns-then-not-named_main c = row_by c.args.text.now c.args.r false false _ _ c.if-r.false (sym c.named_main.ensures ∙ not-true _ c.if-not-named_main.true-raw) refl refl

pub returns-then-r-ne0 : goal.returns-then-r-ne0
returns-then-r-ne0 c = row_by c.args.text.now c.args.r false true false _ c.if-r.false (sym c.named_main.ensures ∙ not-false _ c.if-not-named_main.false-raw) (ne_eqb _ _ c.if-r-ne0.true) refl

pub returns : goal.returns
returns c = row_by c.args.text.now c.args.r false true true _ c.if-r.false (sym c.named_main.ensures ∙ not-false _ c.if-not-named_main.false-raw) (eq-eqb _ _ c.if-r-ne0.false) refl

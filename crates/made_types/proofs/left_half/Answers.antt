-- By the kind. Assumes nothing.
use mathlib.Core.Path.{sym, ◌∙◌, refl}
use Rattle.made_types.proofs.Choices.{chosen, passed_by}
use Rattle.made_types.proofs.left_half.Goals as goal

pub returns-then-kind_of-eq2 : goal.returns-then-kind_of-eq2
returns-then-kind_of-eq2 c = chosen _ 2 _ 0 _ (sym c.kind_of.ensures ∙ c.if-kind_of-eq2.true) c.left_of.ensures

pub returns : goal.returns
returns c = passed_by _ 2 _ 0 0 (λ e. c.if-kind_of-eq2.false (c.kind_of.ensures ∙ e)) refl

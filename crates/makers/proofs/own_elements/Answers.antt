-- By the record's rule, then its number of subterms. Assumes nothing.
use mathlib.Core.Path.{ap, ◌∙◌}
use Prim.Native.Nat.{ℕ}
use lib.ListN.{get_or}
use borrow.Author.Tests.{eq-eqb, ne_eqb}
use Rattle.records.specs.Rules.{is_constant}
use Rattle.records.proofs.RuleLaws.{not_constant}
use Rattle.makers.specs.Naming.{elements_made}
use borrow.Enum.Refused.{opened}
use Rattle.makers.proofs.own_elements.Goals as goal

pub returns-then-node-eq1 : goal.returns-then-node-eq1
unfolding elements_made
returns-then-node-eq1 c =
    let a = c.args in
    rw (not_constant a.node.rule (opened c.in_default.in_default-own.keys2), eq-eqb _ _ c.if-node-eq1.true)
    (c.from-then-node-eq1.ensures ∙ ap (λ (k : ℕ). get_or a.sizes.now k 0) (c.from.ensures ∙ c.bound_by.ensures))

pub returns-in-Constant : goal.returns-in-Constant
unfolding elements_made
returns-in-Constant c = rw (ap is_constant c.in-Constant.is)

pub returns-else-node-eq1 : goal.returns-else-node-eq1
unfolding elements_made
returns-else-node-eq1 c = rw (not_constant c.args.node.rule (opened c.in_default.in_default-own.keys2), ne_eqb _ _ c.if-node-eq1.false)

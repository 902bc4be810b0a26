-- `wiring::own_terminals` meets its contract: by the record's rule, then its number of subterms. Assumes nothing.
use mathlib.Core.Path.{ap, ◌∙◌}
use Prim.Native.Nat.{ℕ, ◌*◌}
use lib.ListN.{get_or}
use borrow.Author.Tests.{eq-eqb, ne_eqb}
use Rattle.records.specs.Rules.{is_constant}
use Rattle.records.proofs.RuleLaws.{not_constant}
use Rattle.wiring.specs.Count.{own_in}
use borrow.Enum.Refused.{opened}
use Rattle.wiring.proofs.own_terminals.Goals as goal

pub returns-then-node-eq1 : goal.returns-then-node-eq1
unfolding own_in
returns-then-node-eq1 c = rw (not_constant c.args.node.rule (opened c.in_default.in_default-own.keys2), eq-eqb _ _ c.if-node-eq1.true) (ap (λ (k : ℕ). 2 * k) (c.size_of.ensures ∙ ap (λ (k : ℕ). get_or c.args.sizes.now k 0) c.bound_by.ensures))

pub returns-in-Constant : goal.returns-in-Constant
unfolding own_in
returns-in-Constant c = rw (ap is_constant c.in-Constant.is) c.terminals_of.ensures

pub returns-else-node-eq1 : goal.returns-else-node-eq1
unfolding own_in
returns-else-node-eq1 c = rw (not_constant c.args.node.rule (opened c.in_default.in_default-own.keys2), ne_eqb _ _ c.if-node-eq1.false)

-- `typing::leaf` meets its contract: by the rule of the node. Assumes nothing.
use native.Mathlib.Omega.{arith}
use Prim.Native.Nat.{ℕ}
use mathlib.Core.Path.{ap, ◌∙◌}
use mathlib.Core.List.{List}
use Rattle.binders.specs.Stacks.{stack_of}
use Rattle.records.specs.Editions.{edition_by}
use Rattle.typing.specs.Steps.{leaf_of}
use Rattle.binders.proofs.Laws.{slot-low}
use Rattle.records.specs.Forms.{rec_in}
use Rattle.typing.specs.Verdicts.{with_marks}
use Rattle.typing.proofs.VerdictLaws.{says_settled, says_told, says_as}
use Rattle.typing.proofs.StateLaws.{leaf_shared, leaf_linear, leaf_constant}
use borrow.Enum.Refused.{opened}
use Rattle.typing.proofs.leaf.Goals as goal

pub bit-sort-requires : goal.bit-sort-requires
bit-sort-requires c = slot-low _ _ c.slot-k.ensures c.requires.0

pub bit-requires : goal.bit-requires
bit-requires c = slot-low _ _ c.slot-k.ensures c.requires.0

pub with_bit-used-requires : goal.with_bit-used-requires
with_bit-used-requires c = (slot-low _ _ c.slot-k.ensures c.requires.0, omega arith)

pub returns-in-Variable : goal.returns-in-Variable
returns-in-Variable c b N =
    let a = c.args in
    says_as b c.answered.ensures
    (says_settled c.use_shared-taken.result (with_marks b a.marks) _ _ c.settled.ensures
    (leaf_shared (rec_in a.s.now) _ _ a.n.rule _ _ _ b N c.from-i.ensures c.slot-k.ensures c.bit-sort.ensures c.in-Variable.is c.use_shared-taken.ensures))

pub returns-in-LinearVariable : goal.returns-in-LinearVariable
returns-in-LinearVariable c b N =
    let a = c.args in
    says_as b c.answered-in-LinearVariable.ensures
    (says_settled c.use_linear-taken.result (with_marks b _) _ _ c.settled-in-LinearVariable.ensures
    (rw c.with_bit-used.ensures (leaf_linear (rec_in a.s.now) _ _ a.n.rule _ _ _ b N c.from-i.ensures c.slot-k.ensures c.bit-sort.ensures c.in-LinearVariable.is c.requires.0 c.bit.ensures c.use_linear-taken.ensures)))

pub returns-in_default : goal.returns-in_default
returns-in_default c b N =
    let a = c.args in
    says_as b c.answered-in_default.ensures
    (says_told c.constant.result (with_marks b a.marks) _ _ (c.constant.ensures.0 _ ∙ leaf_constant (rec_in a.s.now) _ _ a.n.rule _ _ _ _ (opened c.in_default.in_default-own.keys3)
    ∙ ap (λ (m : List ℕ). leaf_of (rec_in a.s.now) a.types (edition_by a.second) a.n.rule a.n.first a.n.second a.node (stack_of (with_marks b m))) N.same_marks) c.constant.ensures.1)

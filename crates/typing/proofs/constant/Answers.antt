-- `typing::constant` meets its contract: by the table of parts, then by the part's type. Assumes nothing.
use mathlib.Core.Path.{refl, sym, ◌∙◌}
use Rattle.records.specs.Forms.{rec_in}
use Rattle.records.specs.Editions.{edition_by}
use Rattle.parts.proofs.Rule.{few-arrows}
use Rattle.typing.proofs.StepLaws.{constant-unknown, constant-misfit, constant-fits, shape_is}
use Rattle.typing.proofs.constant.Goals as goal

pub is_type_of-requires : goal.is_type_of-requires
is_type_of-requires c =
    let p = c.args.n.first in
    let q = c.in-Some.part in
    few-arrows p q.shape (shape_is p q (rw c.in-Some.is at c.part_at.ensures))

pub returns-then-is_type_of : goal.returns-then-is_type_of
returns-then-is_type_of c =
    let a = c.args in
    ((λ st. constant-fits (rec_in a.s.now) _ (edition_by a.second) _ _ _ st c.in-Some.part (rw c.in-Some.is at c.part_at.ensures) (sym c.is_type_of.ensures ∙ c.if-is_type_of.true)), (refl, refl))

pub type_number-requires : goal.type_number-requires
type_number-requires c =
    let p = c.args.n.first in
    let q = c.in-Some.part in
    (few-arrows p q.shape (shape_is p q (rw c.in-Some.is at c.part_at.ensures)), c.requires.1)

pub returns-in_default : goal.returns-in_default
returns-in_default c =
    let a = c.args in
    rw c.at.ensures ((λ st. constant-unknown (rec_in a.s.now) _ (edition_by a.second) _ _ _ st (rw c.in_default.is at c.part_at.ensures)), tt)

pub returns : goal.returns
returns c =
    let a = c.args in
    rw c.clash.ensures
    ((λ st. constant-misfit (rec_in a.s.now) _ (edition_by a.second) _ _ _ st c.in-Some.part (rw c.in-Some.is at c.part_at.ensures) c.type_number.ensures (sym c.is_type_of.ensures ∙ c.if-is_type_of.false)), tt)

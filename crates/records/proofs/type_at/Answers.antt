-- `records::type_at` meets its contract: by the offset of the record, its length and the rule of its kind. Assumes nothing.
use mathlib.Core.Path.{refl, sym, ap, ◌∙◌}
use Rattle.std.specs.declared.option.Option.TheVariants.{Some}
use Rattle.records.specs.Forms.{said_form}
use Rattle.records.proofs.FormLaws.{rec-first, type_short, type_long, rec_type, rec-none, rec-node}
use Rattle.records.proofs.type_at.Goals as goal

pub returns-then-t-eq0 : goal.returns-then-t-eq0
returns-then-t-eq0 c = rec-first _ _ c.if-t-eq0.true

pub returns-then-s-at : goal.returns-then-s-at
returns-then-s-at c = type_short c.args.s.now c.args.t c.from.result c.if-t-eq0.false c.from.ensures c.if-s-at.true

pub returns-in_default : goal.returns-in_default
returns-in_default c = type_long c.args.s.now c.args.t c.from.result c.if-t-eq0.false c.from.ensures _ _ c.if-s-at.false refl (rec-none _ _ _ (sym c.shape_of.ensures ∙ c.in_default.is))

pub returns-in_default-shape : goal.returns-in_default-shape
returns-in_default-shape c = type_long c.args.s.now c.args.t c.from.result c.if-t-eq0.false c.from.ensures _ _ c.if-s-at.false refl (rec-node _ _ _ (sym c.shape_of.ensures ∙ c.in-Some.is ∙ ap Some c.in_default-shape.is))

pub returns : goal.returns
returns c = ap said_form c.form_of.ensures ∙ type_long c.args.s.now c.args.t c.from.result c.if-t-eq0.false c.from.ensures _ _ c.if-s-at.false refl (rec_type _ _ _ (sym c.shape_of.ensures ∙ c.in-Some.is ∙ ap Some c.in-Type.is))

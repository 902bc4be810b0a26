-- Each public function's contract determines its result, and the text that it writes: two results that it allows for one call are
-- equal. Assumes nothing.
use mathlib.Core.Path.{◌≡◌, sym, ◌∙◌}
use mathlib.Core.List.{List}
use Prim.Native.Nat.{ℕ}
use Rattle.laws.proofs.OneResult.{Result, Results}
use Rattle.lines.specs.Wrote.{WroteText}
use Rattle.lines.proofs.put_word.Kinds as put_word
use Rattle.lines.proofs.put_word.Reads as put-word-reads
use Rattle.lines.proofs.put_decimal.Kinds as put-decimal
use Rattle.lines.proofs.put_decimal.Reads as put-decimal-reads
use Rattle.lines.proofs.put_field.Kinds as put-field
use Rattle.lines.proofs.put_field.Reads as put-field-reads
use Rattle.lines.proofs.put_fields.Kinds as put-fields
use Rattle.lines.proofs.put_fields.Reads as put-fields-reads
use Rattle.lines.proofs.end_line.Kinds as end_line
use Rattle.lines.proofs.end_line.Reads as end-line-reads
use Rattle.lines.proofs.put_name.Kinds as put-name
use Rattle.lines.proofs.put_name.Reads as put-name-reads
use Rattle.lines.proofs.point_line.Kinds as point-line
use Rattle.lines.proofs.point_line.Reads as point-line-reads
use Rattle.lines.proofs.part_line.Kinds as part-line
use Rattle.lines.proofs.part_line.Reads as part-line-reads
use Rattle.lines.proofs.wire_line.Kinds as wire-line
use Rattle.lines.proofs.wire_line.Reads as wire-line-reads
use Rattle.lines.proofs.pin_line.Kinds as pin-line
use Rattle.lines.proofs.pin_line.Reads as pin-line-reads
use Rattle.lines.proofs.refused_line.Kinds as refused-line
use Rattle.lines.proofs.refused_line.Reads as refused-line-reads
use Rattle.lines.proofs.size_at.Kinds as size-at
use Rattle.lines.proofs.size_at.Reads as size-at-reads
use Rattle.lines.proofs.line_of.Kinds as Line-of
use Rattle.lines.proofs.line_of.Reads as line-of-reads

one_text : {before after after' text : List ℕ} {at end end' : ℕ} → WroteText before at text after end → WroteText before at text after' end'
    → (end ≡ end') × (after ≡ after')
one_text f g = (f.offset ∙ sym g.offset, f.bytes ∙ sym g.bytes)

pub put_word_determined : Results put_word.ps put_word.r put-word-reads.Post (λ κs s. s.0.now)
put_word_determined κs a x y s t f g = one_text f g

pub put_decimal_determined : Results put-decimal.ps put-decimal.r put-decimal-reads.Post (λ κs s. s.0.now)
put_decimal_determined κs a x y s t f g = one_text f g

pub put_field_determined : Results put-field.ps put-field.r put-field-reads.Post (λ κs s. s.0.now)
put_field_determined κs a x y s t f g = one_text f g

pub put_fields_determined : Results put-fields.ps put-fields.r put-fields-reads.Post (λ κs s. s.0.now)
put_fields_determined κs a x y s t f g = one_text f g

pub end_line_determined : Results end_line.ps end_line.r end-line-reads.Post (λ κs s. s.0.now)
end_line_determined κs a x y s t f g = one_text f g

pub put-name_determined : Results put-name.ps put-name.r put-name-reads.Post (λ κs s. s.0.now)
put-name_determined κs a x y s t f g = one_text f g

pub point_line_determined : Results point-line.ps point-line.r point-line-reads.Post (λ κs s. s.0.now)
point_line_determined κs a x y s t f g = one_text f g

pub part_line_determined : Results part-line.ps part-line.r part-line-reads.Post (λ κs s. s.0.now)
part_line_determined κs a x y s t f g = one_text f g

pub wire_line-determined : Results wire-line.ps wire-line.r wire-line-reads.Post (λ κs s. s.0.now)
wire_line-determined κs a x y s t f g = one_text f g

pub pin_line_determined : Results pin-line.ps pin-line.r pin-line-reads.Post (λ κs s. s.0.now)
pin_line_determined κs a x y s t f g = one_text f g

pub refused_line_determined : Results refused-line.ps refused-line.r refused-line-reads.Post (λ κs s. s.0.now)
refused_line_determined κs a x y s t f g = one_text f g

pub size-at-determined : Result size-at.ps size-at.r size-at-reads.Post
size-at-determined κs a x y s t f g = f ∙ sym g

pub line_of_determined : Results Line-of.ps Line-of.r line-of-reads.Post (λ κs s. s.1.1.0.now)
line_of_determined κs a x y s t f g = one_text f g

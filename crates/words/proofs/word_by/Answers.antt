-- `words::word_by` meets its contract, by what each class tells. Assumes nothing.
use mathlib.Core.Path.{◌∙◌}
use native.Mathlib.Omega.{arith}
use Rattle.words.proofs.LexLaws.{word_number, word-name, word-single}
use Rattle.words.proofs.ClassLaws.{class_sign, class_number, class_name}
use Rattle.words.proofs.word_by.Goals as goal

pub returns-then-class-lt64 : goal.returns-then-class-lt64
returns-then-class-lt64 c =
    let a = c.args in
    let p = c.requires in
    let t = class_sign _ a.class p.1 p.2 c.if-class-lt64.true in
    word-single a.text.now a.start t.0 a.class p.0 t.1 t.2

pub returns-then-class-eq64 : goal.returns-then-class-eq64
returns-then-class-eq64 c =
    let a = c.args in
    let p = c.requires in
    c.number_at.ensures ∙ word_number a.text.now a.start (class_number _ a.class p.1 c.if-class-eq64.true)

pub returns-then-class-eq65 : goal.returns-then-class-eq65
returns-then-class-eq65 c =
    let a = c.args in
    let p = c.requires in
    let t = class_name _ a.class p.1 (omega (arith, c.if-class-eq65.true)) in
    c.plain_at.ensures ∙ word-name a.text.now a.start t.0 t.1

pub returns : goal.returns
returns c =
    let a = c.args in
    let p = c.requires in
    let t = class_name _ a.class p.1 (omega (arith, c.if-class-lt64.false, c.if-class-eq64.false)) in
    c.named_at.ensures ∙ word-name a.text.now a.start t.0 t.1

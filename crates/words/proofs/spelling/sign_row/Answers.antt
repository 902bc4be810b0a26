-- `words::sign_row` meets its contract: signs of two bytes, then those of three. Assumes nothing.
use mathlib.Core.Path.{◌∙◌}
use Rattle.words.specs.Tables.{said_row}
use Rattle.words.proofs.ClassLaws.{sign_last, sign-two, sign-three, sign-short}
use Rattle.words.proofs.spelling.sign_row.Goals as goal

pub returns-then-more-lt2 : goal.returns-then-more-lt2
returns-then-more-lt2 c =
    c.as_row.ensures ∙ sign_last c.args.text.now c.args.at c.requires.0 c.requires.1 c.if-more-lt2.true

pub returns-then-two-ne0 : goal.returns-then-two-ne0
returns-then-two-ne0 c =
    let two = c.sign2-two in
    sign-two c.args.text.now c.args.at c.requires.0 c.requires.1 (said_row two.result) two.ensures c.if-two-ne0.true

pub returns-then-more-lt3 : goal.returns-then-more-lt3
returns-then-more-lt3 c =
    let two = c.sign2-two in
    c.as_row-then-more-lt3.ensures ∙ sign-short c.args.text.now c.args.at c.requires.0 c.requires.1 (said_row two.result) two.ensures c.if-two-ne0.false c.if-more-lt2.false c.if-more-lt3.true

pub returns : goal.returns
returns c =
    let two = c.sign2-two in
    sign-three c.args.text.now c.args.at c.requires.0 c.requires.1 (said_row two.result) two.ensures c.if-two-ne0.false (said_row c.sign3.result) c.sign3.ensures

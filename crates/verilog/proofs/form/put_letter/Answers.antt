-- By whether the character is a mark. Assumes nothing.
use mathlib.Core.Path.{refl, sym, ◌∙◌}
use Rattle.verilog.proofs.Filling.{letter-mark, letter-plain}
use Rattle.verilog.proofs.form.put_letter.Goals as goal

pub returns-then-is_mark : goal.returns-then-is_mark
returns-then-is_mark c =
    let a = c.args in
    rw (letter-mark a.x a.y a.z a.c (sym c.is_mark.ensures ∙ c.if-is_mark.true)) record { offset = refl; bytes = rw (← c.number_of.ensures) c.put_four.ensures }

pub returns : goal.returns
returns c =
    let a = c.args in
    rw (letter-plain a.x a.y a.z a.c (sym c.is_mark.ensures ∙ c.if-is_mark.false)) record { offset = refl; bytes = c.put_byte.ensures }

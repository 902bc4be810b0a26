-- `words::marks::silent` meets its contract. Assumes nothing.
use mathlib.Core.Path.{sym, ◌∙◌}
use Rattle.words.proofs.MarkLaws.{either_unread, round_unread, signs_unread}
use Rattle.words.proofs.marks.silent.Goals as goal

pub returns-in_default : goal.returns-in_default
returns-in_default c =
    let a = c.args in
    let x = c.letter in
    let y = c.digit in
    λ e. either_unread a.c x.result y.result (sym x.ensures) (sym y.ensures) (sym c.either.ensures ∙ e)

pub returns-in-40 : goal.returns-in-40
returns-in-40 c = λ e. signs_unread c.args.c c.in-40.is

pub returns-in-40-2 : goal.returns-in-40-2
returns-in-40-2 c = λ e. round_unread c.args.c c.in-40.if-c-lt40-own.false c.in-40.if-c-lt42-own.true

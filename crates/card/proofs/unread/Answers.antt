-- Wires and pins are marked before the marks are looked at and taken away. Assumes nothing.
use mathlib.Core.Path.{sym, ap, ◌∙◌}
use Prim.Native.Nat.{ℕ}
use Rattle.card.specs.Rings.{answer_of}
use Rattle.card.specs.Marks.{place_of}
use Rattle.card.proofs.MarkLaws.{unread-answer, clean-same, there, nowhere}
use Rattle.card.proofs.unread.Goals as goal

pub returns-then-lowest-lt-TERMINALS : goal.returns-then-lowest-lt-TERMINALS
returns-then-lowest-lt-TERMINALS c =
    let a = c.args in
    let r = c.mark_pins.ensures (record { before = a.work.now; markable = c.requires; marked = c.mark_wires.ensures }) in (
      unread-answer a.work.now a.end a.pins c.requires c.mark_pins.new.work r ∙ ap (λ (n : ℕ). answer_of 29 (place_of n)) (sym c.clean-lowest.ensures.0)
          ∙ ap (answer_of 29) (there _ c.if-lowest-lt-TERMINALS.true),
      clean-same a.work.now a.end a.pins c.requires c.mark_pins.new.work r c.clean-lowest.ensures.1,
    )

pub returns-else-lowest-lt-TERMINALS : goal.returns-else-lowest-lt-TERMINALS
returns-else-lowest-lt-TERMINALS c =
    let a = c.args in
    let r = c.mark_pins.ensures (record { before = a.work.now; markable = c.requires; marked = c.mark_wires.ensures }) in (
      unread-answer a.work.now a.end a.pins c.requires c.mark_pins.new.work r ∙ ap (λ (n : ℕ). answer_of 29 (place_of n)) (sym c.clean-lowest.ensures.0)
          ∙ ap (answer_of 29) (nowhere _ c.if-lowest-lt-TERMINALS.false),
      clean-same a.work.now a.end a.pins c.requires c.mark_pins.new.work r c.clean-lowest.ensures.1,
    )

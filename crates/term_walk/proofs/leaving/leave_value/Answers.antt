-- There is room, or 34 at `let`. Assumes nothing.
use Rattle.term_walk.proofs.LeaveLaws.{value-full}
use borrow.Author.Tests.{leb-true}
use mathlib.Core.Path.{sym, ◌∙◌}
use Rattle.term_walk.proofs.leaving.leave_value.Goals as goal

pub bind_value-requires : goal.bind_value-requires
bind_value-requires c = (c.requires.0, (c.requires.1, leb-true _ _ (sym c.has_room.ensures ∙ c.if-has_room.true)))

pub returns : goal.returns
returns c = rw c.at.ensures (value-full c.args.text.now c.args.work.now c.args.h c.args.l c.args.h.sub c.requires.0 c.requires.1 (sym c.has_room.ensures ∙ c.if-has_room.false) _ c.from.ensures)

-- There is room for two entries a name, or 34 at `let`. Assumes nothing.
use Rattle.term_walk.proofs.LeaveLaws.{count_as, values_full}
use borrow.Author.Tests.{leb-true}
use mathlib.Core.Path.{sym, ◌∙◌}
use Rattle.term_walk.proofs.leaving.leave_values.Goals as goal

pub take_apart-requires : goal.take_apart-requires
take_apart-requires c = (c.requires.0, (c.requires.1, count_as _ _ _ c.from-count.ensures (leb-true _ _ (sym c.room_for_pairs.ensures ∙ c.if-room_for_pairs.true))))

pub returns : goal.returns
returns c = rw c.at.ensures (values_full c.args.text.now c.args.work.now c.args.h c.args.l c.args.h.sub c.requires.0 c.requires.1 _ c.from-count.ensures (sym c.room_for_pairs.ensures ∙ c.if-room_for_pairs.false) _ c.from.ensures)

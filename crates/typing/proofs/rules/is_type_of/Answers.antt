-- `typing::rules::is_type_of` meets its contract: by the edition, and if the part takes a pair. Assumes nothing.
use borrow.Author.Tests.{not-true, not-false}
use Rattle.typing.proofs.rules.is_type_of.Goals as goal

pub returns-then-not-second : goal.returns-then-not-second
returns-then-not-second c = rw (not-true c.args.second c.if-not-second.true-raw) c.has_shape.ensures

pub returns-then-part : goal.returns-then-part
returns-then-part c = rw (not-false c.args.second c.if-not-second.false-raw, c.if-part.true) c.is_paired.ensures

pub returns : goal.returns
returns c = rw (not-false c.args.second c.if-not-second.false-raw, c.if-part.false) c.has_shape-2.ensures

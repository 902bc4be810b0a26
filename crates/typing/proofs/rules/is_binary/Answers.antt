-- `typing::rules::is_binary` meets its contract: by the kind of the record and its two sides. Assumes nothing.
use Rattle.std.proofs.Common.{rules}
use Rattle.calculus.specs.Types.{bit}
use Rattle.parts.specs.Table.{shape_ty}
use Rattle.records.specs.Forms.{rec_in}
use Rattle.typing.specs.Steps.{stands_for}
use Rattle.typing.proofs.rules.is_binary.Goals as goal

pub returns : goal.returns
unfolding stands_for
returns c = c.has_sides.ensures (stands_for (rec_in c.args.s.now) bit) (stands_for (rec_in c.args.s.now) (shape_ty 1)) (λ t b p. search rules) (λ t b p. search rules)

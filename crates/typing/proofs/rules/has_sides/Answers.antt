-- `typing::rules::has_sides` meets its contract: by the kind of the record and its two sides. Assumes nothing.
use mathlib.Core.Path.{sym, ◌∙◌}
use Rattle.typing.proofs.StepLaws.{both-kind, both_left, both_right}
use Rattle.typing.proofs.rules.has_sides.Goals as goal

pub returns-then-q-kind : goal.returns-then-q-kind
returns-then-q-kind g c = λ f h p q. both-kind _ c.sides_of-q.ensures c.args.kind f h c.if-q-kind.true

pub returns-then-not-left : goal.returns-then-not-left
returns-then-not-left g c = λ f h p q. both_left _ c.sides_of-q.ensures c.args.kind f h c.if-q-kind.false (sym (p _ _ c.if-not-left.ensures))

pub returns : goal.returns
returns g c = λ f h p q. q _ _ c.right.ensures ∙ both_right _ c.sides_of-q.ensures c.args.kind f h c.if-q-kind.false (sym (p _ _ c.if-not-left.ensures))

-- By the sort. Assumes nothing.
use mathlib.Core.Path.{sym, ◌∙◌}
use Rattle.made_nodes.proofs.by_sort.Goals as goal

pub returns-then-shares : goal.returns-then-shares
returns-then-shares g c = rw (sym c.shares.ensures ∙ c.if-shares.true)

pub returns : goal.returns
returns g c = rw (sym c.shares.ensures ∙ c.if-shares.false)

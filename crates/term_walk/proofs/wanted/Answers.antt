-- No term came yet. Assumes nothing.
use mathlib.Core.Path.{ap}
use Rattle.made_nodes.specs.declared.Sub.{Sub}
use Rattle.term_walk.proofs.wanted.Goals as goal
use Rattle.term_walk.specs.declared.Phase.{Phase}

pub returns : goal.returns
returns c = ap (λ (x : Sub). record { phase = Phase.Wanted; more = c.args.n.more; frame = c.args.n.frame; top = c.args.n.top; waiting = c.args.n.waiting; place = 0; sub = x; at = c.args.at }) c.nothing.ensures

-- `wiring::make_net` meets its contract: the walk from the root, over drivers that are all none. Assumes nothing.
use Rattle.wiring.proofs.FullLaws.{root-asks, root_stands}
use Rattle.wiring.proofs.make_net.Goals as goal

pub make-r-requires : goal.make-r-requires
make-r-requires c =
    let p = c.requires in
    root-asks p p.net p.is c.fill.ensures

pub returns : goal.returns
returns c =
    λ p.
    root_stands p p.net p.is c.fill.ensures (c.make-r.ensures (root-asks p p.net p.is c.fill.ensures))

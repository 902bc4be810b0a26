-- Each way out by its law. Assumes nothing.
use mathlib.Core.Path.{refl}
use Rattle.made_nodes.proofs.AddLaws.{add_full, add_deep, add_made}
use Rattle.made_nodes.proofs.add.Goals as goal

pub returns-then-k-ge-MOST_NODES : goal.returns-then-k-ge-MOST_NODES
returns-then-k-ge-MOST_NODES c = rw c.at.ensures (add_full c.args.work.now c.args.n c.args.ty c.args.below c.requires c.if-k-ge-MOST_NODES.true)

pub returns-then-below-ge-MOST_DEEP : goal.returns-then-below-ge-MOST_DEEP
returns-then-below-ge-MOST_DEEP c = rw c.at-then-below-ge-MOST_DEEP.ensures (add_deep c.args.work.now c.args.n c.args.ty c.args.below c.requires c.if-below-ge-MOST_DEEP.true)

pub returns : goal.returns
returns c = rw c.store.ensures (add_made c.args.work.now c.args.n c.args.ty c.args.below c.requires _ refl c.if-k-ge-MOST_NODES.false c.if-below-ge-MOST_DEEP.false)

-- The single bit, and no nodes. Assumes nothing.
use native.Mathlib.Omega.{arith}
use lib.ListN.{length-set}
use Rattle.made_types.proofs.StateLaws.{begun}
use Rattle.made_types.proofs.begin.Goals as goal

pub bounds-work-31234 : goal.bounds-work-31234
bounds-work-31234 c = let l = c.store.auto.work in let p = c.requires in simp length-set (omega arith)

pub returns : goal.returns
returns c = rw c.store.ensures (begun c.args.work.now c.requires)

-- The two counts are set. Assumes nothing.
use native.Mathlib.Omega.{arith}
use lib.ListN.{length-set}
use Rattle.made_types.proofs.StateLaws.{forgot}
use Rattle.made_types.proofs.forget.Goals as goal

pub bounds-work-31233 : goal.bounds-work-31233
bounds-work-31233 c = simp length-set (omega arith)

pub returns : goal.returns
returns c = forgot c.args.work.now c.args.types c.args.nodes c.requires

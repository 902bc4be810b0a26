-- By the driver. Assumes nothing.
use mathlib.Core.Path.{ap}
use Prim.Native.Nat.{◌+◌}
use lib.ListN.{set}
use Rattle.memory.specs.Map.{roots_at}
use Rattle.lean.proofs.PassLaws.{link_driven, link_stays}
use Rattle.lean.proofs.pass.link_one.Goals as goal

pub returns-then-d : goal.returns-then-d
returns-then-d c = let a = c.args in ap (set a.work.now (roots_at + a.x)) (link_driven a.work.now a.x c.if-d.true)

pub returns-else-d : goal.returns-else-d
returns-else-d c = let a = c.args in link_stays a.work.now a.x c.if-d.false

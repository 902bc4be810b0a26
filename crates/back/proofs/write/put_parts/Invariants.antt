-- The invariant: r parts are written, and what is left follows them. Assumes nothing.
use mathlib.Core.Path.{◌≡◌}
use Prim.Native.Nat.{◌-◌, ◌*◌}
use Rattle.back.specs.Gates.{net_here}
use Rattle.back.proofs.WriteLaws.{PartsWritten}
use Rattle.back.proofs.write.put_parts.Given as goal

abbrev pub invariant-loop-r : goal.invariant-loop-r
invariant-loop-r l = (l.next.gate ≡ 4 * l.r) × PartsWritten (net_here l.layout.net.now) l.layout.undriven (l.layout.parts.count - 1) l.from l.initial.out l.out l.next.at l.next.before l.r

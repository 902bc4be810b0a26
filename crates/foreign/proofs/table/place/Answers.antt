-- The inputs are filled, and the output stands after them. Assumes nothing.
use Rattle.std.proofs.Common.{rules}
use native.Mathlib.Omega.{arith}
use mathlib.Core.Path.{◌≡◌}
use Prim.Native.Nat.{◌+◌, ◌-◌}
use lib.ListN.{replicate}
use Rattle.foreign.proofs.TableLaws.{placed}
use Rattle.foreign.proofs.table.place.Goals as goal

pub returns : goal.returns
returns c =
    let a = c.args in
    let n : a.first + a.inputs - a.first ≡ a.inputs = omega arith in
    let f : c.fill.new.self ≡ replicate a.inputs 1 = search rules in
    rw (n, f) (placed a.work.now a.first a.inputs (omega arith))

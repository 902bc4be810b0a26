-- The bytes are copied to their place. Assumes nothing.
use Rattle.std.proofs.Common.{rules}
use native.Mathlib.Omega.{arith}
use mathlib.Core.Path.{◌≡◌, refl}
use Prim.Native.Nat.{◌+◌, ◌-◌}
use lib.ListN.{length}
use Rattle.foreign.proofs.TableLaws.{run_written}
use Rattle.back.proofs.write.put.Goals as goal

pub returns : goal.returns
returns c =
    let a = c.args in
    let n : a.at + length a.row.now - a.at ≡ length a.row.now = omega arith in
    let f : c.copy_from_slice.new.self ≡ a.row.now = search rules in
    rw (n, f) (run_written a.out.now a.row.now a.at (length a.row.now) refl (omega arith))

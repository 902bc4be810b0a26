-- `wiring::copy` meets its contract: what the slice's own copy leaves is the run stored. Assumes nothing.
use native.Mathlib.Omega.{arith}
use Prim.Native.Nat.{◌+◌, ◌-◌}
use mathlib.Core.Path.{◌≡◌, sym, ◌∙◌}
use Rattle.memory.specs.Map.{region}
use Rattle.laws.proofs.Regions.{region-length}
use Rattle.wiring.proofs.RunLaws.{run-whole}
use Rattle.wiring.proofs.wires.copy.Goals as goal

pub returns : goal.returns
returns c =
    let a = c.args in
    let w = a.work.now in
    let k : a.from + a.n - a.from ≡ a.n = omega arith in
    c.copy_within.ensures.after ∙ rw k (sym (run-whole (region w a.from a.n) w a.to a.n (region-length w a.from a.n c.requires.0) c.requires.1))

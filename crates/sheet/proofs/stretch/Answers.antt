-- `sheet::stretch` meets its contract: the stretch lies within the sheet. Assumes nothing.
use Prim.Native.Nat.{◌+◌, ◌-◌}
use mathlib.Core.Path.{◌≡◌, refl}
use native.Mathlib.Omega.{arith}
use Rattle.sheet.proofs.StretchLaws.{stretch-within}
use Rattle.sheet.proofs.stretch.Goals as goal

pub overflow_add-end : goal.overflow_add-end
overflow_add-end c =
    let a = c.args in
    let w = rw (← c.stretch_bounds-b.ensures) at (stretch-within a.s.now a.node) in
    record { fits = omega arith }

pub slice_bounds-result-end : goal.slice_bounds-result-end
slice_bounds-result-end c =
    let a = c.args in
    let w = rw (← c.stretch_bounds-b.ensures) at (stretch-within a.s.now a.node) in
    omega arith

pub returns : goal.returns
returns c =
    let b = c.stretch_bounds-b in
    let e : b.result.start + b.result.size - b.result.start ≡ b.result.size = omega arith in
    rw (← b.ensures) (record { bytes = rw e; block = refl; offset = omega arith })

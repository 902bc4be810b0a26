-- Two bytes give their number back. Assumes nothing.
use mathlib.Core.Path.{◌≡◌}
use Prim.Native.Nat.{ℕ, ◌+◌, ◌*◌, ◌/◌, ◌%◌}
use native.Mathlib.Omega.{arith}
use native.Mathlib.Nat.{div-add-mod'}

pub two_back : (n : ℕ) → n % 256 + 256 * (n / 256) ≡ n
two_back n = omega (arith, div-add-mod' n 256)

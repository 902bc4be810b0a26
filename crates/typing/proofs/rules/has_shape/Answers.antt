-- `typing::rules::has_shape` meets its contract: by the shape. Assumes nothing.
use mathlib.Core.Path.{◌≡◌}
use native.Mathlib.Omega.{arith}
use Rattle.typing.proofs.rules.has_shape.Goals as goal

pub returns-in-0 : goal.returns-in-0
returns-in-0 c = rw c.in-0.is c.is_bit.ensures

pub returns-in-1 : goal.returns-in-1
returns-in-1 c = rw c.in-1.is c.is_unary.ensures

pub returns-in_default : goal.returns-in_default
returns-in_default c =
    let k : c.args.shape ≡ 2 = omega (arith, c.requires, c.in_default.in_default-own.rest.0.1, c.in_default.in_default-own.rest.1) in
    rw k c.is_binary.ensures

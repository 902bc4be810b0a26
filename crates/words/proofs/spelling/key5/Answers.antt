-- `words::key5` meets its contract: it has one byte more. Assumes nothing.
use Prim.Native.Nat.{◌+◌}
use native.Mathlib.Omega.{arith}
use Rattle.words.proofs.KeyLaws.{key_more}
use Rattle.words.proofs.spelling.key5.Goals as goal

pub returns : goal.returns
returns c =
    let a = c.args in
    let k = c.key4 in
    (key_more a.text.now a.at 4 k.result c.from.result c.requires k.ensures.0 c.from.ensures, omega (arith, k.ensures.1, c.from.ensures, c.type_inv.text (a.at + 4)))

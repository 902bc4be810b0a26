-- `words::key2` meets its contract, by its two bytes. Assumes nothing.
use Prim.Native.Nat.{◌+◌}
use native.Mathlib.Omega.{arith}
use Rattle.words.proofs.KeyLaws.{key_two}
use Rattle.words.proofs.spelling.key2.Goals as goal

pub returns : goal.returns
returns c =
    let a = c.args in
    let known = c.type_inv.text in
    (key_two a.text.now a.at c.from.result c.from-2.result c.requires c.from.ensures c.from-2.ensures, omega (arith, c.from-2.ensures, c.from.ensures, known a.at, known (a.at + 1)))

-- `words::part_same` meets its contract: the bytes of both as one number each. Assumes nothing.
use mathlib.Core.Path.{◌≡◌}
use native.Mathlib.Omega.{arith}
use Rattle.words.proofs.NameLaws.{keys_tell}
use Rattle.words.proofs.same.part_same.Goals as goal

pub returns-in-2 : goal.returns-in-2
returns-in-2 c =
    let a = c.args in
    keys_tell a.text.now a.a a.b a.n 2 c.requires.0 (omega (arith, c.in-2.is)) (λ i. omega (arith, c.type_inv.text i)) _ _ c.key2.ensures.0 c.key2-in-2.ensures.0 c.in-2.is

pub returns-in_default : goal.returns-in_default
returns-in_default c =
    let a = c.args in
    let r = c.in_default.in_default-own.rest in
    let e : a.n ≡ 4 = omega (arith, c.requires.1.0, c.requires.1.1, r.0.0.1, r.0.1, r.1) in
    keys_tell a.text.now a.a a.b a.n 4 c.requires.0 (omega (arith, e)) (λ i. omega (arith, c.type_inv.text i)) _ _ c.key4.ensures.0 c.key4-in_default.ensures.0 e

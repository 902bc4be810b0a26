-- `words::bytes_same` meets its contract. The invariant: what is left of both stretches tells whether they are the same. Assumes nothing.
use Prim.Native.Nat.{◌+◌, ◌*◌, ◌-◌}
use mathlib.Core.Path.{◌≡◌, sym, subst, ◌∙◌}
use native.Mathlib.Omega.{arith}
use Rattle.words.proofs.NameLaws.{Left, stretch-differ, stretch_on, left_on, left-inside}
use Rattle.words.proofs.same.bytes_same.Goals as goal

-- TODO the place Start is passed on
pub returns-then-key8 : goal.returns-then-key8
returns-then-key8 c =
    let t = c.shared_slice_known-1 in
    let i = 8 * c.loop-k.k in
    let h = c.loop-k-test.true in
    let x = c.key8 in
    let y = c.key8-in-loop-k in
    stretch-differ c.args.text.now (c.args.a + i) (c.args.b + i) (c.args.n - i) 8 (left-inside c.args.text.now c.args.a c.args.b c.args.n i c.requires (omega (arith, h))) (omega (arith, h)) (λ n. omega (arith, t.given n)) x.result y.result x.ensures y.ensures c.if-key8.true ∙ sym c.loop-k.invariant

pub loop-k-preserved : goal.loop-k-preserved
loop-k-preserved c =
    let t = c.shared_slice_known-1 in
    let i = 8 * c.loop-k.k in
    let h = c.loop-k-test.true in
    let x = c.key8 in
    let y = c.key8-in-loop-k in
    let next : i + 8 ≡ 8 * (c.loop-k.k + 1) = omega arith in
    subst (Left c.args.text.now c.args.a c.args.b c.args.n) next (c.loop-k.invariant ∙ stretch_on c.args.text.now (c.args.a + i) (c.args.b + i) (c.args.n - i) 8 (left-inside c.args.text.now c.args.a c.args.b c.args.n i c.requires (omega (arith, h))) (omega (arith, h)) (λ n. omega (arith, t.given n)) x.result y.result x.ensures y.ensures c.if-key8.false ∙ left_on c.args.text.now c.args.a c.args.b c.args.n i 8)

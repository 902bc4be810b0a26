-- The first three types, the products, the arrows. Assumes nothing.
use native.Mathlib.Omega.{arith}
use mathlib.Core.Path.{◌≡◌}
use Prim.Native.Nat.{ℕ, ◌*◌, ◌≤◌}
use borrow.Author.Tests.{ne_eqb}
use Rattle.back.specs.Rows.{arrow_length}
use Rattle.back.proofs.TermLaws.{types-length, types-written}
use Rattle.back.proofs.write.put_types.Goals as goal

-- behind more than one part there are arrows for all
arrows-all : (n k : ℕ) → 2 ≤ n → arrow_length n k ≡ 3 * k
arrows-all n k h = rw (ne_eqb n 1 (λ e. omega arith))

pub put_base-requires : goal.put_base-requires
put_base-requires c =
    let l = types-length c.args.parts c.args.undriven c.requires.0 in
    let r = c.requires.3 in
    let s = c.requires.0 in
    omega arith

pub put_products-requires : goal.put_products-requires
put_products-requires c =
    let k = c.put_base.auto.out in
    let l = types-length c.args.parts c.args.undriven c.requires.0 in
    let r = c.requires.3 in
    let s = c.requires.0 in
    let t = c.requires.1 in
    (omega arith, omega arith)

pub put_arrows-requires : goal.put_arrows-requires
put_arrows-requires c =
    let k = c.put_base.auto.out in
    let p = c.put_products.auto.out in
    let l = types-length c.args.parts c.args.undriven c.requires.0 in
    let r = c.requires.3 in
    let s = c.requires.0 in
    let t = c.requires.1 in
    let u = c.requires.2 in
    let w = arrows-all c.args.parts c.args.undriven (omega arith) in
    (omega arith, omega arith)

pub returns : goal.returns
returns c =
    let s = c.requires.0 in
    let two : 2 ≤ c.args.parts = omega arith in
    let w = arrows-all c.args.parts c.args.undriven two in (
      omega (arith, types-length c.args.parts c.args.undriven s),
      types-written c.args.parts c.args.undriven c.args.out.now _ _ _ two c.put_base.ensures c.put_products.ensures c.put_arrows.ensures,
    )

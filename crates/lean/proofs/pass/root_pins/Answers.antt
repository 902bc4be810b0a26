-- The invariant: the first j pins are rooted. Assumes nothing.
use native.Mathlib.Omega.{arith}
use mathlib.Core.Path.{◌≡◌, subst}
use Prim.Native.Nat.{ℕ}
use Rattle.lean.specs.Layout.{Pinned}
use Rattle.lean.proofs.PassLaws.{pin_next, pin_ready}
use Rattle.lean.proofs.pass.root_pins.Goals as goal

pub rooted-requires : goal.rooted-requires
rooted-requires c =
    let l = c.loop-j in
    let size = c.requires.size in
    let same = l.invariant.size in
    (omega arith, pin_ready c.args.work.now l.work c.args.pins l.j c.requires c.loop-j-test.true l.invariant)

pub loop-j-preserved : goal.loop-j-preserved
loop-j-preserved c =
    let l = c.loop-j in
    pin_next c.args.work.now l.work c.args.pins l.j c.requires c.loop-j-test.true l.invariant c.rooted.result c.rooted.ensures

pub returns : goal.returns
returns c =
    let l = c.loop-j in
    let e : l.j ≡ c.args.pins = omega arith in
    subst (λ (k : ℕ). Pinned c.args.work.now k l.work) e l.invariant

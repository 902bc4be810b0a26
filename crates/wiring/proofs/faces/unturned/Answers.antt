-- `wiring::faces::unturned` meets its contract: what is still to be stored, stored over what stands, is the whole. Assumes nothing.
use native.Mathlib.Omega.{arith}
use Prim.Native.Nat.{◌<◌}
use mathlib.Core.Path.{refl, sym, ◌∙◌}
use mathlib.Core.Bool.{false}
use lib.ListN.{replicate, length-set}
use Rattle.wiring.specs.Sides.{face}
use Rattle.wiring.proofs.RunLaws.{run-start, run-again, run_end, unturned-length, unturned-at}
use Rattle.wiring.proofs.faces.unturned.Goals as goal

pub loop-j-init : goal.loop-j-init
loop-j-init c =
    let a = c.args in
    (refl, run-start (face a.output (replicate a.l false) a.n) a.work.now a.to)

pub loop-j-preserved : goal.loop-j-preserved
loop-j-preserved c =
    let a = c.args in
    let l = c.loop-j in
    let lt : l.j < a.l = c.loop-j-test.true in (
      simp length-set (omega arith),
      run-again (face a.output (replicate a.l false) a.n) l.work a.to l.j l.invariant.1 (omega (arith, unturned-length a.output a.l a.n)) _
          (c.end_of.ensures ∙ sym (unturned-at a.output a.l a.n l.j lt)),
    )

pub returns : goal.returns
returns c =
    let a = c.args in
    let l = c.loop-j in
    run_end (face a.output (replicate a.l false) a.n) l.work a.to l.j l.invariant.1 (omega (arith, unturned-length a.output a.l a.n))

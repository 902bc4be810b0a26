-- `wiring::faces::terminals` meets its contract: what is still to be stored, stored over what stands, is the whole. Assumes nothing.
use native.Mathlib.Omega.{arith}
use Prim.Native.Nat.{◌+◌, ◌<◌}
use mathlib.Core.Path.{◌≡◌, refl, ◌∙◌}
use mathlib.Core.List.{map}
use lib.ListN.{length-set}
use Rattle.calculus.specs.Net.{part_side}
use Rattle.memory.specs.Map.{code}
use Rattle.wiring.proofs.RunLaws.{run-start, run-again, run_end, part_length, part-input, part-output}
use Rattle.wiring.proofs.faces.terminals.Goals as goal

pub loop-i-init : goal.loop-i-init
loop-i-init c =
    let a = c.args in
    (refl, run-start (map code (part_side a.k a.n)) a.work.now a.to)

pub loop-i-preserved : goal.loop-i-preserved
loop-i-preserved c =
    let a = c.args in
    let l = c.loop-i in
    let lt : l.i < a.k = c.loop-i-test.true in
    (simp length-set (omega arith), run-again (map code (part_side a.k a.n)) l.work a.to l.i l.invariant.1 (omega (arith, part_length a.k a.n)) _ (c.code_of.ensures ∙ part-input a.k a.n l.i lt))

pub returns : goal.returns
returns c =
    let a = c.args in
    let l = c.loop-i in
    let e : l.i ≡ a.k = omega arith in
    let vs = map code (part_side a.k a.n) in
    let g = rw e at l.invariant.1 in
    run_end vs _ a.to (a.k + 1) (run-again vs l.work a.to a.k g (omega (arith, part_length a.k a.n)) _ (c.code_of-2.ensures ∙ part-output a.k a.n)) (omega (arith, part_length a.k a.n))

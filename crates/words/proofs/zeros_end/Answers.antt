-- `words::zeros_end` meets its contract. The invariant: the run goes on behind the zeros, and they add nothing. Assumes nothing.
use mathlib.Core.Path.{refl, ap}
use native.Mathlib.Omega.{arith}
use Rattle.notation_calculus.specs.Words.{in_name}
use Rattle.words.proofs.WordLaws.{run_on}
use Rattle.words.proofs.FoundLaws.{digits-first, zero_on}
use Rattle.words.proofs.zeros_end.Goals as goal

pub loop-at-init : goal.loop-at-init
loop-at-init c = (refl, digits-first c.args.text.now c.args.start _ c.requires refl)

pub loop-at-preserved : goal.loop-at-preserved
loop-at-preserved c =
    let a = c.args in
    let l = c.loop-at in
    let h = c.loop-at-test.true in
    let on = run_on a.text.now l.at h (ap in_name c.if-text-at-ne48.false) in
    (omega (arith, on, l.invariant.0), zero_on a.text.now a.start _ l.at l.invariant.1 (omega (arith, on, l.invariant.0)) c.if-text-at-ne48.false)

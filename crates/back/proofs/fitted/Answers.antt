-- The length first. Assumes nothing.
use native.Mathlib.Omega.{arith}
use mathlib.Core.Path.{◌∙◌}
use Rattle.back_calculus.specs.Back.{back_sheet}
use Rattle.back.specs.Gates.{net_here}
use Rattle.back.proofs.SheetLaws.{sheet-length, inputs-few}
use Rattle.translator.proofs.SaidLaws.{says_short, says_fits}
use Rattle.back.proofs.fitted.Goals as goal

pub length-n-requires : goal.length-n-requires
length-n-requires c =
    let l = c.requires.0 in
    let m = l.most in
    let n = l.of.count in
    (m, l.few, omega (arith, c.requires.1.all, inputs-few (net_here c.args.net.now).elements l.of.parts))

pub returns-then-out-n : goal.returns-then-out-n
returns-then-out-n c =
    let a = c.args in
    let n = c.length-n in
    rw c.at.ensures (says_short (back_sheet (net_here a.net.now)) a.out.now n.result (n.ensures ∙ sheet-length a.net.now a.parts.count a.counts.undriven a.counts.inputs c.requires.0 c.requires.1.all) c.if-out-n.true)

pub sheet-requires : goal.sheet-requires
sheet-requires c =
    let a = c.args in
    let e = c.length-n.ensures ∙ sheet-length a.net.now a.parts.count a.counts.undriven a.counts.inputs c.requires.0 c.requires.1.all in
    record { limited = c.requires.0; behind = c.requires.2; fits = omega arith }

pub returns : goal.returns
returns c =
    let a = c.args in
    let e = c.length-n.ensures ∙ sheet-length a.net.now a.parts.count a.counts.undriven a.counts.inputs c.requires.0 c.requires.1.all in
    says_fits (back_sheet (net_here a.net.now)) a.out.now c.length-n.result _ (omega arith) e c.sheet.ensures

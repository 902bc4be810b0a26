-- `trace::run_sheet` meets its contract: what was made is run, and a refusal passes through. Assumes nothing.
use mathlib.Core.Path.{◌∙◌}
use mathlib.Core.Bool.{true}
use native.Mathlib.Omega.{arith}
use lib.ListN.{length}
use Rattle.translator.proofs.Lent.{net-stands, net-lent, refusal-lent}
use Rattle.translator.proofs.CallLaws.{refused_says, net_says}
use Rattle.answers.proofs.Passed.{passed}
use Rattle.trace.proofs.CallLaws.{trace-lent}
use Rattle.trace.proofs.PartBounds.{lent-parts}
use Rattle.trace.proofs.run_sheet.Goals as goal

pub run_net-requires : goal.run_net-requires
run_net-requires c =
    let a = c.args in
    let h = net-stands true c.make.result a.sheet.now a.work.now _ c.make.ensures _ c.in_ok-made.was in
    let f = c.ranges.ticks in
    (h.0, h.1, omega arith, lent-parts _ a.sheet.now _ (net-lent true c.make.result a.sheet.now a.work.now _ c.make.ensures _ c.in_ok-made.was))

pub returns-in_err-made : goal.returns-in_err-made
returns-in_err-made c =
    let a = c.args in
    rw (passed _ c.from_residual.ensures.1) (
      refused_says _ _ _ (trace-lent a.sheet.now a.inputs.now a.starts.now a.ticks (length a.out.now) (length a.work.now)) a.out.now _ (refusal-lent true c.make.result a.sheet.now a.work.now _ c.make.ensures _ c.in_err-made.was),
      c.make.ensures.keeps,
    )

pub returns : goal.returns
returns c =
    let a = c.args in (
      net_says _ _ _ (trace-lent a.sheet.now a.inputs.now a.starts.now a.ticks (length a.out.now) (length a.work.now)) a.out.now c.run_net.result _ _ (net-lent true c.make.result a.sheet.now a.work.now _ c.make.ensures _ c.in_ok-made.was) c.run_net.ensures.0,
      c.run_net.ensures.1 ∙ c.make.ensures.keeps,
    )

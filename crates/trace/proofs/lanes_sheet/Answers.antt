-- `trace::lanes_sheet` meets its contract: what was made is run, and a refusal passes through. Assumes nothing.
use mathlib.Core.Path.{◌∙◌}
use mathlib.Core.Bool.{true}
use native.Mathlib.Omega.{arith}
use Rattle.translator.proofs.Lent.{net-stands, net-lent, refusal-lent}
use Rattle.answers.proofs.Passed.{passed}
use Rattle.trace.proofs.CallLaws.{refused_lanes, net_lanes}
use Rattle.trace.proofs.PartBounds.{lent-parts}
use Rattle.trace.proofs.lanes_sheet.Goals as goal

pub run_net-requires : goal.run_net-requires
run_net-requires c =
    let a = c.args in
    let m = c.make in
    let h = net-stands true m.result a.sheet.now a.work.now _ m.ensures _ c.in_ok-made.was in
    let f = c.ranges.ticks in
    (h.0, h.1, omega arith, lent-parts _ a.sheet.now _ (net-lent true m.result a.sheet.now a.work.now _ m.ensures _ c.in_ok-made.was))

pub returns-in_err-made : goal.returns-in_err-made
returns-in_err-made c =
    let a = c.args in
    let m = c.make in
    rw (passed _ c.from_residual.ensures.1) (
      refused_lanes a.sheet.now a.inputs.now a.state.now a.out.now a.ticks _ _ (refusal-lent true m.result a.sheet.now a.work.now _ m.ensures _ c.in_err-made.was),
      m.ensures.keeps,
    )

pub returns : goal.returns
returns c =
    let a = c.args in
    let w = c.run_net in
    let m = c.make in (
      net_lanes a.sheet.now a.inputs.now a.state.now a.out.now a.ticks _ w.result _ _ _ (net-lent true m.result a.sheet.now a.work.now _ m.ensures _ c.in_ok-made.was) w.ensures.0,
      w.ensures.1 ∙ m.ensures.keeps,
    )

-- The invariant: n of the first k pins are inputs. Assumes nothing.
use native.Mathlib.Omega.{arith}
use mathlib.Core.Path.{◌≡◌, ap, ◌∙◌}
use Rattle.trace_steps.specs.Pins.{in_pin_count}
use Rattle.trace_steps.proofs.PinLaws.{ins-few, ins-step, ins-skip}
use Rattle.trace_steps.proofs.pins.input_pins.Goals as goal
use Rattle.trace_steps.proofs.pins.input_pins.Goals.{then-at-eq0, else-at-eq0}

pub overflow_add-n : goal.overflow_add-n
overflow_add-n c = let l = c.loop-k in let f = c.requires.few in let i = l.invariant in omega (arith, ins-few c.args.work.now l.k)

pub loop-k-preserved : goal.loop-k-preserved
loop-k-preserved c =
    let l = c.loop-k in
    let w = c.args.work.now in
    let a = c.at in
    elim c.if-at-eq0.branch [ then-at-eq0 v ↦ v.n-is ∙ ins-step w l.k a.result l.n a.ensures v.if-at-eq0.true l.invariant | else-at-eq0 v ↦ v.n-is ∙ ins-skip w l.k a.result l.n a.ensures v.if-at-eq0.false l.invariant ]

pub returns : goal.returns
returns c =
    let l = c.loop-k in
    let e : l.k ≡ c.args.pins = omega arith in
    l.invariant ∙ ap (in_pin_count c.args.work.now) e

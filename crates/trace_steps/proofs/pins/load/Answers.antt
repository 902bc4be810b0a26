-- The invariant: the first k pins are loaded. Assumes nothing.
use native.Mathlib.Omega.{arith}
use mathlib.Core.Path.{sym, ◌∙◌, subst}
use Prim.Native.Nat.{ℕ, ◌<◌, ◌+◌, ◌/◌}
use mathlib.Core.List.{List}
use lib.ListN.{get_or, set}
use Rattle.trace_steps.specs.Map.{bits_at}
use Rattle.trace_steps.specs.Pins.{Loading}
use Rattle.trace_steps.proofs.PinLaws.{load_yes, load_no, load_room, load_low}
use Rattle.trace_steps.proofs.pins.load.Goals as goal
use Rattle.trace_steps.proofs.pins.load.Goals.{then-code-eq0, else-code-eq0}

pub bounds-inputs-at : goal.bounds-inputs-at
bounds-inputs-at c =
    let l = c.loop-k in
    let a = c.at-code in
    let h = c.loop-k-test.true in
    let few = c.requires.0.few in
    let z = c.requires.0.size in
    load_room c.args.inputs.now c.args.work.now l.work c.args.from l.at l.k c.args.pins a.result few h c.requires.1 l.invariant a.ensures c.if-code-eq0.true

pub put-requires : goal.put-requires
put-requires c =
    let l = c.loop-k in
    let a = c.at-code in
    let h = c.loop-k-test.true in
    let few = c.requires.0.few in
    let z = c.requires.0.size in
    let y = l.invariant.within.size in
    (omega arith, load_low c.args.inputs.now c.args.work.now l.work c.args.from l.at l.k c.args.pins a.result c.requires.0 h l.invariant a.ensures)

pub overflow_add-at : goal.overflow_add-at
overflow_add-at c =
    let l = c.loop-k in
    let a = c.at-code in
    let h = c.loop-k-test.true in
    let few = c.requires.0.few in
    let z = c.requires.0.size in
    let r = load_room c.args.inputs.now c.args.work.now l.work c.args.from l.at l.k c.args.pins a.result few h c.requires.1 l.invariant a.ensures c.if-code-eq0.true in
    omega arith

pub loop-k-preserved : goal.loop-k-preserved
loop-k-preserved c =
    let l = c.loop-k in
    let a = c.at-code in
    let h = c.loop-k-test.true in
    let few = c.requires.0.few in
    let z = c.requires.0.size in
    let bits = c.args.inputs.now in
    let u = c.args.work.now in
    let low = load_low bits u l.work c.args.from l.at l.k c.args.pins a.result c.requires.0 h l.invariant a.ensures in
    let h₁ : l.k < 128 = omega arith in
    elim c.if-code-eq0.branch [
      | then-code-eq0 v ↦ subst (λ (x : List ℕ). Loading bits u c.args.from (l.k + 1) x c.if-code-eq0.at) (sym (v.work-is ∙ v.put.ensures))
          (subst (λ (y : ℕ). Loading bits u c.args.from (l.k + 1) (set l.work (bits_at + a.result / 2) (get_or bits l.at 0)) y) (sym v.at-is)
          (load_yes bits u l.work c.args.from l.at l.k a.result h₁ l.invariant a.ensures v.if-code-eq0.true low))
      | else-code-eq0 v ↦ subst (λ (x : List ℕ). Loading bits u c.args.from (l.k + 1) x c.if-code-eq0.at) (sym v.work-is)
          (subst (λ (y : ℕ). Loading bits u c.args.from (l.k + 1) l.work y) (sym v.at-is)
          (load_no bits u l.work c.args.from l.at l.k a.result h₁ l.invariant a.ensures v.if-code-eq0.false))
    ]

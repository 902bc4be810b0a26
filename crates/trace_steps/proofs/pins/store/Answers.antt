-- The invariant: the first k pins are written. Assumes nothing.
use native.Mathlib.Omega.{arith}
use mathlib.Core.Path.{sym, subst}
use Prim.Native.Nat.{ℕ, ◌+◌}
use mathlib.Core.List.{List}
use lib.ListN.{set}
use Rattle.trace_steps.specs.Pins.{Storing}
use Rattle.trace_steps.specs.Words.{lane_zero}
use Rattle.trace_steps.proofs.PinLaws.{store_yes, store_no, store_room}
use Rattle.trace_steps.proofs.pins.store.Goals as goal
use Rattle.trace_steps.proofs.pins.store.Goals.{then-code-ne0, else-code-ne0}

pub bounds-out-at : goal.bounds-out-at
bounds-out-at c =
    let l = c.loop-k in
    let a = c.at-code in
    let h = c.loop-k-test.true in
    let few = c.requires.0.few in
    let z = c.requires.0.size in
    store_room lane_zero c.args.work.now c.args.out.now l.out c.args.from l.at l.k c.args.pins a.result h c.requires.1 l.invariant a.ensures c.if-code-ne0.true

pub overflow_add-at : goal.overflow_add-at
overflow_add-at c =
    let l = c.loop-k in
    let a = c.at-code in
    let h = c.loop-k-test.true in
    let few = c.requires.0.few in
    let z = c.requires.0.size in
    let r = store_room lane_zero c.args.work.now c.args.out.now l.out c.args.from l.at l.k c.args.pins a.result h c.requires.1 l.invariant a.ensures c.if-code-ne0.true in
    let y = l.invariant.size in
    omega arith

pub loop-k-preserved : goal.loop-k-preserved
loop-k-preserved c =
    let l = c.loop-k in
    let a = c.at-code in
    let h = c.loop-k-test.true in
    let few = c.requires.0.few in
    let z = c.requires.0.size in
    let w = c.args.work.now in
    let u = c.args.out.now in
    elim c.if-code-ne0.branch [
      | then-code-ne0 v ↦ subst (λ (x : List ℕ). Storing lane_zero w u c.args.from (l.k + 1) x c.if-code-ne0.at) (sym v.out-is)
          (subst (λ (y : ℕ). Storing lane_zero w u c.args.from (l.k + 1) (set l.out l.at v.bit_of.result) y) (sym v.at-is)
          (store_yes lane_zero w u l.out c.args.from l.at l.k a.result v.bit_of.result l.invariant a.ensures v.if-code-ne0.true v.bit_of.ensures))
      | else-code-ne0 v ↦ subst (λ (x : List ℕ). Storing lane_zero w u c.args.from (l.k + 1) x c.if-code-ne0.at) (sym v.out-is)
          (subst (λ (y : ℕ). Storing lane_zero w u c.args.from (l.k + 1) l.out y) (sym v.at-is)
          (store_no lane_zero w u l.out c.args.from l.at l.k a.result l.invariant a.ensures v.if-code-ne0.false))
    ]

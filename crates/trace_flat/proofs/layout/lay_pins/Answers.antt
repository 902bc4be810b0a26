-- The invariant: the first k pins are laid out. Assumes nothing.
use mathlib.Core.Path.{refl, sym, subst}
use mathlib.Core.List.{List}
use Prim.Native.Nat.{ℕ, ◌+◌, ◌/◌}
use lib.ListN.{get_or, set}
use Rattle.trace_flat.specs.Flat.{ins_at, outs_at}
use Rattle.trace_flat.proofs.Laws.{Pinning, pinning_in, pinning_out}
use Rattle.trace_flat.proofs.layout.lay_pins.Goals as goal
use Rattle.trace_flat.proofs.layout.lay_pins.Goals.{then-code-eq0, else-code-eq0}

pub loop-k-preserved : goal.loop-k-preserved
loop-k-preserved c =
    let l = c.loop-k in
    let u = c.args.work.now in
    let n = c.args.pins in
    let h = c.loop-k-test.true in
    let z = l.invariant.laid.between.size in
    let q = c.requires.size in
    let few = c.requires.few in
    let a = l.invariant.few_in in
    let b = l.invariant.few_out in
    let y = get_or l.work (19072 + c.at-code.result / 2) 0 in
    elim c.if-code-eq0.branch [
      | then-code-eq0 v ↦ subst (λ (x : List ℕ). Pinning u (l.k + 1) x c.if-code-eq0.i c.if-code-eq0.o) (sym v.work-is) (subst (λ (x : ℕ). Pinning u (l.k + 1) (set l.work (ins_at + l.i) y) x c.if-code-eq0.o) (sym v.i-is)
          (subst (λ (x : ℕ). Pinning u (l.k + 1) (set l.work (ins_at + l.i) y) (l.i + 1) x) (sym v.o-is) (pinning_in u l.work n l.k l.i l.o c.at-code.result y c.requires h l.invariant c.at-code.ensures refl v.if-code-eq0.true)))
      | else-code-eq0 v ↦ subst (λ (x : List ℕ). Pinning u (l.k + 1) x c.if-code-eq0.i c.if-code-eq0.o) (sym v.work-is) (subst (λ (x : ℕ). Pinning u (l.k + 1) (set l.work (outs_at + l.o) y) x c.if-code-eq0.o) (sym v.i-is)
          (subst (λ (x : ℕ). Pinning u (l.k + 1) (set l.work (outs_at + l.o) y) l.i x) (sym v.o-is) (pinning_out u l.work n l.k l.i l.o c.at-code.result y c.requires h l.invariant c.at-code.ensures refl v.if-code-eq0.false)))
    ]

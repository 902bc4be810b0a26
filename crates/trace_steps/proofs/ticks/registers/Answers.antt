-- The invariant: the registers among the first x terminals are listed. Assumes nothing.
use mathlib.Core.Path.{sym, subst}
use Prim.Native.Nat.{ℕ, ◌+◌}
use mathlib.Core.List.{List}
use lib.ListN.{set}
use Rattle.trace_steps.specs.Map.{registers_at}
use Rattle.trace_steps.proofs.RegisterLaws.{Listing, listing_yes, listing_no}
use Rattle.trace_steps.proofs.ticks.registers.Goals as goal
use Rattle.trace_steps.proofs.ticks.registers.Goals.{then-work-x, else-work-x}

pub loop-x-preserved : goal.loop-x-preserved
loop-x-preserved c =
    let l = c.loop-x in
    let h = c.loop-x-test.true in
    let size = c.requires.size in
    let few = c.requires.few in
    let same = l.invariant.size in
    let half = l.invariant.half in
    let u = c.args.work.now in
    elim c.if-work-x.branch [ then-work-x v ↦ subst (λ (y : List ℕ). Listing u (l.x + 1) y c.if-work-x.n) (sym v.work-is) (subst (λ (y : ℕ). Listing u (l.x + 1) (set l.work (registers_at + l.n) l.x) y) (sym v.n-is) (listing_yes c.args.work.now c.args.end l.x l.work l.n c.requires h l.invariant v.if-work-x.true)) | else-work-x v ↦ subst (λ (y : List ℕ). Listing u (l.x + 1) y c.if-work-x.n) (sym v.work-is) (subst (λ (y : ℕ). Listing u (l.x + 1) l.work y) (sym v.n-is) (listing_no c.args.work.now c.args.end l.x l.work l.n c.requires h l.invariant v.if-work-x.false)) ]

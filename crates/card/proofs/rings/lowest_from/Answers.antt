-- The invariant: no ring point's output stands from the start on and before terminal x. Assumes nothing.
use mathlib.Core.Path.{sym, ap, ◌∙◌}
use mathlib.Core.Bool.{Bool, cond}
use Prim.Native.Nat.{◌-◌, ◌+◌}
use Rattle.std.specs.Prelude.{Some}
use Rattle.card.specs.Rings.{lowest_from}
use Rattle.card.proofs.RingLaws.{lowest-next}
use Rattle.card.proofs.rings.lowest_from.Goals as goal

pub returns-then-is_ring_at : goal.returns-then-is_ring_at
returns-then-is_ring_at c =
    let a = c.args in
    let l = c.loop-x in
    let w = a.work.now in
    sym (ap (λ (b : Bool). cond b (Some (l.x - 1)) (lowest_from w (a.end - (l.x + 1)) (l.x + 1))) (sym c.is_ring_at.ensures ∙ c.if-is_ring_at.true)) ∙ sym (lowest-next w a.end l.x c.loop-x-test.true) ∙ l.invariant

pub loop-x-preserved : goal.loop-x-preserved
loop-x-preserved c =
    let a = c.args in
    let l = c.loop-x in
    let w = a.work.now in
    sym (ap (λ (b : Bool). cond b (Some (l.x - 1)) (lowest_from w (a.end - (l.x + 1)) (l.x + 1))) (sym c.is_ring_at.ensures ∙ c.if-is_ring_at.false)) ∙ sym (lowest-next w a.end l.x c.loop-x-test.true) ∙ l.invariant

-- The invariant: the first j terminals have their places. Assumes nothing.
use mathlib.Core.Path.{ap}
use Prim.Native.Nat.{ℕ, ◌+◌}
use lib.ListN.{get_or, set}
use Rattle.trace_steps.proofs.Laws.{loop_step}
use Rattle.lean.proofs.TableLaws.{within-set}
use Rattle.trace_steps.specs.Map.{bits_at}
use Rattle.trace_flat.specs.Flat.{place_next}
use Rattle.trace_flat.proofs.LayLaws.{listed-low}
use Rattle.trace_flat.proofs.layout.place_listed.Goals as goal

pub loop-j-preserved : goal.loop-j-preserved
loop-j-preserved c =
    let l = c.loop-j in
    let a = c.args in
    loop_step (place_next a.list a.first) a.work.now l.work _ l.j l.invariant.0 l.invariant.1 (ap (λ (x : ℕ). set l.work (bits_at + x) (a.first + l.j)) c.at-o.ensures)
    (within-set l.work (get_or l.work (a.list + l.j) 0) _ (listed-low l.invariant.0 c.requires.0 l.j c.loop-j-test.true))

-- `translation::write::write_full` meets its contract: the length needed is known before the first byte is written. Assumes nothing.
use mathlib.Core.Path.{subst}
use Prim.Native.Nat.{ℕ, ◌≤◌}
use lib.ListN.{length}
use Rattle.calculus.specs.Makers.{written}
use Rattle.memory.specs.Map.{makers_at, region, net_in}
use Rattle.translator.proofs.SaidLaws.{says_short, says_fits}
use Rattle.translation.proofs.write.write_full.Goals as goal

pub returns-then-out-n : goal.returns-then-out-n
returns-then-out-n c =
    let a = c.args in
    rw c.at.ensures (says_short (written a.plain (net_in a.work.now a.counts.elements a.counts.wires a.counts.pins) (region a.work.now makers_at a.counts.elements)) a.out.now c.full_length-n.result c.full_length-n.ensures c.if-out-n.true)

pub returns : goal.returns
returns c =
    let a = c.args in
    says_fits (written a.plain (net_in a.work.now a.counts.elements a.counts.wires a.counts.pins) (region a.work.now makers_at a.counts.elements)) a.out.now c.write_full-length.result c.write_full-length.new.out
    (subst (λ (n : ℕ). n ≤ length a.out.now) c.full_length-n.ensures c.if-out-n.false) c.write_full-length.ensures.0 c.write_full-length.ensures.1

-- `translation::write::write_lean` meets its contract: the length needed is known before the first byte is written. Assumes nothing.
use mathlib.Core.Path.{subst}
use Prim.Native.Nat.{ℕ, ◌≤◌}
use lib.ListN.{length, drop}
use Rattle.calculus.specs.Makers.{written}
use Rattle.memory.specs.Map.{makers_at}
use Rattle.lean.specs.Layout.{lean_makers_in, lean_in}
use Rattle.translator.proofs.SaidLaws.{says_short, says_fits}
use Rattle.translation.proofs.write.write_lean.Goals as goal

pub returns-then-out-n : goal.returns-then-out-n
returns-then-out-n c =
    let a = c.args in
    rw c.at.ensures (says_short (written a.plain (lean_in a.work.now a.end a.pins) (lean_makers_in a.work.now a.end 0 (drop makers_at a.work.now))) a.out.now c.lean_length-n.result c.lean_length-n.ensures c.if-out-n.true)

pub returns : goal.returns
returns c =
    let a = c.args in
    says_fits (written a.plain (lean_in a.work.now a.end a.pins) (lean_makers_in a.work.now a.end 0 (drop makers_at a.work.now))) a.out.now c.write_lean-written.result c.write_lean-written.new.out
    (subst (λ (n : ℕ). n ≤ length a.out.now) c.lean_length-n.ensures c.if-out-n.false) c.write_lean-written.ensures.0 c.write_lean-written.ensures.1

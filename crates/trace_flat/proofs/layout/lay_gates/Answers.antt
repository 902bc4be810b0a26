-- The invariant: the first j gates are laid out. Assumes nothing.
use Rattle.trace_flat.proofs.Laws.{laid_next}
use Rattle.trace_flat.proofs.layout.lay_gates.Goals as goal

pub loop-j-preserved : goal.loop-j-preserved
loop-j-preserved c =
    let l = c.loop-j in
    let h = c.loop-j-test.true in
    laid_next c.args.work.now l.work c.lay_gate.new.work c.args.settled l.j c.requires.0 c.requires.1 h l.invariant c.lay_gate.ensures

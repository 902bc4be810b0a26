-- The invariant: the part is not among the first r. Assumes nothing.
use native.Mathlib.Omega.{arith}
use Rattle.back.specs.Gates.{net_here}
use Rattle.back.proofs.GateLaws.{gate-place}
use Rattle.back.proofs.SourceLaws.{before_here, before_more}
use Rattle.back.proofs.gates.part_before.Goals as goal

pub returns-then-g-inputs_of : goal.returns-then-g-inputs_of
returns-then-g-inputs_of c =
    let l = c.loop-r in
    let n = c.requires.count in
    let p = gate-place c.args.net.now c.args.parts l.r l.at c.requires (omega arith) l.invariant.1 c.gate_at-g.result c.gate_at-g.ensures in
    before_here (net_here c.args.net.now).elements l.r _ _ (omega arith) p.0 c.args.o l.invariant.0 (omega (arith, c.inputs_of.ensures))

pub loop-r-preserved : goal.loop-r-preserved
loop-r-preserved c =
    let l = c.loop-r in
    let n = c.requires.count in
    let p = gate-place c.args.net.now c.args.parts l.r l.at c.requires (omega arith) l.invariant.1 c.gate_at-g.result c.gate_at-g.ensures in
    (before_more (net_here c.args.net.now).elements l.r _ _ (omega arith) p.0 c.args.o l.invariant.0 (λ e. omega (arith, c.inputs_of.ensures)), p.1)

-- The invariant: what is counted and what is left are the whole. Assumes nothing.
use native.Mathlib.Omega.{arith}
use mathlib.Core.Path.{◌≡◌, ap, ◌∙◌}
use Prim.Native.Nat.{ℕ, ◌+◌}
use lib.ListN.{drop}
use Rattle.back_calculus.specs.Back.{sources, undrivens}
use Rattle.back_theorems.proofs.Typing.{few}
use Rattle.back.specs.Gates.{net_here, input_total}
use Rattle.back.proofs.GateLaws.{gate-place}
use Rattle.back.proofs.SourceLaws.{undrivens-few, opens-more, inputs-more}
use Rattle.back.proofs.gates.count_inputs.Goals as goal

pub loop-preserved : goal.loop-preserved
loop-preserved c =
    let l = c.loop in
    let m = net_here c.args.net.now in
    let n = c.requires.0.count in
    let i = c.inputs_of-n.ensures in
    let p = c.gate_at-g.result in
    let u = undrivens-few m c.inputs_of-n.result p.first 0 in
    let t = few p.part in
    let e : c.open_of-undriven.result ≡ undrivens (sources m c.inputs_of-n.result p.first 0) = c.open_of-undriven.ensures in
    let lt = c.loop-test.true in
    let h = gate-place c.args.net.now c.args.parts.count l.counter l.at c.requires.0 lt l.invariant.0 p c.gate_at-g.ensures in (
      h.1,
      omega arith,
      omega arith,
      opens-more m.elements l.counter p.part p.first (omega arith) h.0 m l.undriven c.open_of-undriven.result _ (e ∙ ap (λ (k : ℕ). undrivens (sources m k p.first 0)) i) l.invariant.3,
      ap (λ (k : ℕ). l.inputs + k + input_total (drop (l.counter + 1) m.elements)) i ∙ inputs-more m.elements l.counter p.part p.first (omega arith) h.0 l.inputs _ l.invariant.4,
    )

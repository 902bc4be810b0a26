-- The pair, the applications and the constant, the variables. Assumes nothing.
use borrow.Author.Rules.{rules}
use native.Mathlib.Omega.{arith}
use mathlib.Core.Path.{ap, ◌∙◌}
use Prim.Native.Nat.{ℕ, ◌+◌, ◌-◌}
use lib.ListN.{length}
use Rattle.back_calculus.specs.Back.{undrivens, sources}
use Rattle.back_theorems.proofs.Typing.{few}
use Rattle.back.specs.Gates.{net_here}
use Rattle.back.proofs.GateLaws.{gate-place}
use Rattle.back.proofs.WriteLaws.{gate-length, part_room, part_low, part-written}
use Rattle.back.proofs.write.put_part.Goals as goal

pub put_head-mid-requires : goal.put_head-mid-requires
put_head-mid-requires c =
    let a = c.args in
    let m = net_here a.layout.net.now in
    let g = c.gate_at-g in
    let placed = gate-place a.layout.net.now a.layout.parts.count a.r a.here.gate c.requires.limited.of c.requires.here c.requires.there g.result g.ensures in
    let i = c.inputs_of-inputs.ensures in
    let p = c.put_pair-head in
    let k = p.auto.out in
    let e = p.ensures.0 in (
      omega (arith, few g.result.part),
      omega (arith, part_room m m.elements a.r g.result.part g.result.first placed.0 a.layout.undriven (a.layout.parts.count - 1) (a.layout.parts.count - a.r) a.here.before a.here.at (length a.out.now) c.requires.fits),
    )

pub put_sources-then-requires : goal.put_sources-then-requires
put_sources-then-requires c =
    let a = c.args in
    let m = net_here a.layout.net.now in
    let g = c.gate_at-g in
    let placed = gate-place a.layout.net.now a.layout.parts.count a.r a.here.gate c.requires.limited.of c.requires.here c.requires.there g.result g.ensures in
    let i = c.inputs_of-inputs.ensures in
    let p = c.put_pair-head in
    let h = c.put_head-mid in
    let k = p.auto.out in
    let l = h.auto.out in
    let e = p.ensures.0 in
    let f = h.ensures.0 in
    record {
      limited = c.requires.limited;
      behind = c.requires.behind;
      two = omega (arith, few g.result.part);
      first_low = search rules;
      fits = omega (arith, part_room m m.elements a.r g.result.part g.result.first placed.0 a.layout.undriven (a.layout.parts.count - 1) (a.layout.parts.count - a.r) a.here.before a.here.at (length a.out.now) c.requires.fits);
      low = part_low m m.elements a.r g.result.part g.result.first placed.0 a.layout.undriven (a.layout.parts.count - 1) (a.layout.parts.count - a.r) a.here.before c.inputs_of-inputs.result i c.requires.low;
    }

pub returns : goal.returns
returns c =
    let a = c.args in
    let m = net_here a.layout.net.now in
    let g = c.gate_at-g in
    let placed = gate-place a.layout.net.now a.layout.parts.count a.r a.here.gate c.requires.limited.of c.requires.here c.requires.there g.result g.ensures in
    let i = c.inputs_of-inputs in
    let p = c.put_pair-head in
    let h = c.put_head-mid in
    let s = c.put_sources-then in
    let q = a.layout.parts.count - 1 in
    let left = a.layout.parts.count - a.r in
    rw (← placed.0) (
      omega (arith, h.ensures.0, p.ensures.0, i.ensures, gate-length m a.layout.undriven q left g.result.part g.result.first a.here.before),
      s.ensures.0 ∙ ap (λ (n : ℕ). a.here.before + undrivens (sources m n g.result.first a.here.before)) i.ensures,
      g.ensures.past_is,
      part-written m a.layout.undriven q left g.result.part g.result.first a.here.before a.out.now _ _ _ a.here.at p.result h.result i.result i.ensures p.ensures.0 h.ensures.0 p.ensures.1 h.ensures.1 s.ensures.1,
    )

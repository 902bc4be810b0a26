-- The invariant: r parts are written, and what is left follows them. Assumes nothing.
use native.Mathlib.Omega.{arith}
use mathlib.Core.Path.{sym, ap, ◌∙◌}
use Prim.Native.Nat.{◌-◌}
use lib.ListN.{length}
use lib.Seq.{sets}
use Rattle.back.specs.Gates.{net_here}
use Rattle.back.proofs.WriteLaws.{next_low, next-room, next-written, all-written, rows_of}
use Rattle.back.proofs.write.put_parts.Goals as goal

pub put_part-next-requires : goal.put_part-next-requires
put_part-next-requires c =
    let a = c.args in
    let l = c.loop-r in
    let m = net_here a.layout.net.now in
    let o = c.requires.limited.of in
    let q = a.layout.parts.count - 1 in
    let s = c.requires.limited.some in
    let n = o.count in
    let e = rows_of m a.layout.undriven q o.parts (omega arith) in
    record {
      limited = c.requires.limited;
      behind = c.requires.behind;
      there = l.invariant.0;
      here = c.loop-r-test.true;
      fits = next-room m a.layout.undriven q a.from a.out.now l.out l.next.at l.next.before l.r a.layout.parts.count o.parts n c.loop-r-test.true l.invariant.1 _ (omega (arith, ap length e, c.requires.fits, l.invariant.1.same));
      low = next_low m a.layout.undriven q a.from a.out.now l.out l.next.at l.next.before l.r a.layout.parts.count o.parts n c.loop-r-test.true l.invariant.1;
    }

pub loop-r-preserved : goal.loop-r-preserved
loop-r-preserved c =
    let a = c.args in
    let l = c.loop-r in
    let p = c.put_part-next in
    let m = net_here a.layout.net.now in
    let o = c.requires.limited.of in
    let t = c.loop-r-test.true in
    (omega (arith, p.ensures.2, l.invariant.0), next-written m a.layout.undriven (a.layout.parts.count - 1) a.from a.out.now l.out l.next.at l.next.before l.r a.layout.parts.count o.parts o.count t l.invariant.1 _ _ _ p.auto.out p.ensures.0 p.ensures.1 p.ensures.3)

pub returns : goal.returns
returns c =
    let l = c.loop-r in
    let a = c.args in
    let m = net_here a.layout.net.now in
    let o = c.requires.limited.of in
    let s = c.requires.limited.some in
    let n = o.count in
    all-written m a.layout.undriven (a.layout.parts.count - 1) a.from a.out.now l.out l.next.at l.next.before l.r (omega arith) l.invariant.1 ∙ ap (sets a.out.now a.from) (sym (rows_of m a.layout.undriven (a.layout.parts.count - 1) o.parts (omega arith)))

-- The invariant: no input of the outputs from j on is on a ring, and no mark is as high as the stamp. Assumes nothing.
use native.Mathlib.Omega.{arith}
use mathlib.Core.Path.{◌≡◌}
use Prim.Native.Nat.{◌+◌, ◌-◌}
use Rattle.trace_rings.proofs.SearchLaws.{seek_rest, seek_looks, seek_among, seek_first, then-rest, then-among, seek-last, seek-next, seeking_end}
use Rattle.trace_rings.proofs.ring.lowest.Goals as goal

pub on_ring-requires : goal.on_ring-requires
on_ring-requires c =
    let l = c.loop-j in
    let h = c.loop-j-test.true in
    let u = c.args.work.now in
    let n = c.args.left in
    let e : l.j ≡ l.j - 1 + 1 = omega arith in
    let o = c.at-o in
    let x = c.first_of-x in
    (seek_rest u n c.requires.0 l.work l.j (l.j - 1) l.stamp o.result x.result l.invariant e o.ensures x.ensures, (seek_among u n c.requires.0 l.work l.j (l.j - 1) l.stamp o.result x.result l.invariant e o.ensures x.ensures, (l.invariant.fresh, (seek_looks u n c.requires.0 l.work l.j (l.j - 1) l.stamp o.result x.result l.invariant e o.ensures x.ensures).low)))

pub returns-then-on_ring : goal.returns-then-on_ring
returns-then-on_ring c =
    let l = c.loop-j in
    let h = c.loop-j-test.true in
    let u = c.args.work.now in
    let n = c.args.left in
    let e : l.j ≡ l.j - 1 + 1 = omega arith in
    let o = c.at-o in
    let x = c.first_of-x in
    let t = c.on_ring in
    seek_first u n c.requires.0 l.work l.j (l.j - 1) l.stamp o.result x.result l.invariant e o.ensures x.ensures t.new.work t.result t.ensures c.if-on_ring.true

pub on_ring-requires-in-loop-j : goal.on_ring-requires-in-loop-j
on_ring-requires-in-loop-j c =
    let l = c.loop-j in
    let h = c.loop-j-test.true in
    let u = c.args.work.now in
    let n = c.args.left in
    let e : l.j ≡ l.j - 1 + 1 = omega arith in
    let o = c.at-o in
    let x = c.first_of-x in
    let t = c.on_ring in
    (then-rest u n c.requires.0 l.work l.j (l.j - 1) l.stamp o.result x.result l.invariant e o.ensures x.ensures t.new.work t.result t.ensures c.if-on_ring.false, (then-among u n c.requires.0 l.work l.j (l.j - 1) l.stamp o.result x.result l.invariant e o.ensures x.ensures t.new.work t.result t.ensures c.if-on_ring.false, (t.ensures.searched.fresh, (seek_looks u n c.requires.0 l.work l.j (l.j - 1) l.stamp o.result x.result l.invariant e o.ensures x.ensures).low)))

pub returns-then-on_ring-2 : goal.returns-then-on_ring-2
returns-then-on_ring-2 c =
    let l = c.loop-j in
    let h = c.loop-j-test.true in
    let u = c.args.work.now in
    let n = c.args.left in
    let e : l.j ≡ l.j - 1 + 1 = omega arith in
    let o = c.at-o in
    let x = c.first_of-x in
    let t = c.on_ring in
    let t₂ = c.on_ring-in-loop-j in
    seek-last u n c.requires.0 l.work l.j (l.j - 1) l.stamp o.result x.result l.invariant e o.ensures x.ensures t.new.work t.result t.ensures c.if-on_ring.false t₂.new.work t₂.result t₂.ensures c.if-on_ring-2.true

pub loop-j-preserved : goal.loop-j-preserved
loop-j-preserved c =
    let l = c.loop-j in
    let h = c.loop-j-test.true in
    let u = c.args.work.now in
    let n = c.args.left in
    let e : l.j ≡ l.j - 1 + 1 = omega arith in
    let o = c.at-o in
    let x = c.first_of-x in
    let t = c.on_ring in
    let t₂ = c.on_ring-in-loop-j in
    seek-next u n c.requires.0 l.work l.j (l.j - 1) l.stamp o.result x.result l.invariant e o.ensures x.ensures t.new.work t.result t.ensures c.if-on_ring.false t₂.new.work t₂.result t₂.ensures c.if-on_ring-2.false

pub returns : goal.returns
returns c = let l = c.loop-j in seeking_end _ _ l.work l.j l.stamp (let h = c.loop-j-test.false in omega arith) l.invariant

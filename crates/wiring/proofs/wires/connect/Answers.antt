-- `wiring::connect` meets its contract: the wires still to be made, made over what stands, are the whole; both interfaces stand as
-- they were. Assumes nothing.
use native.Mathlib.Omega.{arith}
use Prim.Native.Nat.{◌+◌, ◌<◌}
use mathlib.Core.Path.{refl, sym, ◌∙◌}
use Rattle.memory.specs.Map.{region}
use Rattle.wiring.proofs.LinkLaws.{low-argument, low_function, linked-high, links-start, links-again, links_end}
use Rattle.laws.proofs.Regions.{region-length, region-at}
use Rattle.wiring.proofs.wires.connect.Goals as goal

pub loop-i-init : goal.loop-i-init
loop-i-init c =
    let a = c.args in
    let w = a.work.now in
    (refl, links-start (region w a.a a.n) (region w a.f a.n) w a.count, λ j h. refl)

pub link-requires : goal.link-requires
link-requires c =
    let l = c.loop-i in
    let p = c.requires in
    let lt = c.loop-i-test.true in
    (omega (arith, p.size), low-argument p l.work l.invariant.2 _ lt, low_function p l.work l.invariant.2 _ lt, omega (arith, p.few))

pub loop-i-preserved : goal.loop-i-preserved
loop-i-preserved c =
    let a = c.args in
    let l = c.loop-i in
    let p = c.requires in
    let w = a.work.now in
    let i = l.i in
    let lt : i < a.n = c.loop-i-test.true in
    let ea = l.invariant.2 (a.a + i) (omega (arith, p.high_a)) in
    let ef = l.invariant.2 (a.f + i) (omega (arith, p.high_f)) in
    let la = region-length w a.a a.n p.in_a in
    let lf = region-length w a.f a.n p.in_f in
    let e = c.link.ensures in
    (c.link.auto.work ∙ l.invariant.0, rw e (links-again (region w a.a a.n) (region w a.f a.n) l.work a.count i l.invariant.1 (omega arith) (omega arith) _ _ (ea ∙ sym (region-at w a.a a.n i lt)) (ef ∙ sym (region-at w a.f a.n i lt))), λ j h. rw e (linked-high l.work (a.count + i) _ _ j (low-argument p l.work l.invariant.2 i lt) (low_function p l.work l.invariant.2 i lt) (omega (arith, p.few)) h) ∙ l.invariant.2 j h)

pub returns : goal.returns
returns c =
    let a = c.args in
    let l = c.loop-i in
    let w = a.work.now in
    links_end (region w a.a a.n) (region w a.f a.n) l.work a.count l.i l.invariant.1 (omega (arith, region-length w a.a a.n c.requires.in_a))

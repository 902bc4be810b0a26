-- `wiring::faces::interface` and `wiring::faces::arrow` meet their contracts. The invariant: once the interface of what is due stands too,
-- all does (`Making`); what is due is a type of a lower number each time. Assumes nothing.
use native.Mathlib.Omega.{arith}
use mathlib.Core.Path.{refl, ◌∙◌}
use Prim.Native.Nat.{◌+◌, ◌*◌, ◌≤◌, ◌<◌}
use lib.ListN.{length, get_or}
use Rattle.wiring.proofs.TurnLaws.{sides, left-known, right-known, both-sizes}
use Rattle.wiring.proofs.DueLaws.{left-made, right-made, all-due, due_arrow, due-next, due-done}
use Rattle.wiring.proofs.faces.+arrow_interface.Goals as goal

pub arrow-interface-requires : goal.arrow-interface-requires
arrow-interface-requires t c =
    let p = c.requires in
    let a = c.args in
    let b = both-sizes c.requires in
    let m : 2 * a.x.left < t = omega (arith, c.decreases) in
    let r : a.due.to + get_or a.sizes.now a.x.left 0 ≤ length a.work.now = omega (arith, c.requires.room) in
    let f : a.due.n + 2 * get_or a.sizes.now a.x.left 0 ≤ 8192 = omega (arith, c.requires.few) in
    (m, (left-known c.requires, r, f))

pub arrow-returns-then-l-size_of : goal.arrow-returns-then-l-size_of
arrow-returns-then-l-size_of t c q = left-made c.args.due q c.size_of-l.ensures c.args.work.now (c.interface.ensures (left-known q))

pub arrow-interface-requires-2 : goal.arrow-interface-requires-2
arrow-interface-requires-2 t c =
    let p = c.requires in
    let a = c.args in
    let b = both-sizes c.requires in
    let e = c.size_of-l.ensures in
    let l = c.size_of-l.result in
    let m : 2 * a.x.right < t = omega (arith, c.decreases) in
    let r : a.due.to + l + get_or a.sizes.now a.x.right 0 ≤ length a.work.now = omega (arith, c.requires.room) in
    let f : a.due.n + 2 * l + 2 * get_or a.sizes.now a.x.right 0 ≤ 8192 = omega (arith, c.requires.few) in
    (m, (right-known c.requires, r, f))

pub arrow-returns : goal.arrow-returns
arrow-returns t c q = right-made c.args.due q c.size_of-l.ensures c.args.work.now (c.interface-2.ensures (right-known q))

pub interface-loop-x-init : goal.interface-loop-x-init
interface-loop-x-init t c = (refl, λ q. all-due q _ _ _ _ c.sides_of-x.ensures)

pub interface-arrow-due-requires : goal.interface-arrow-due-requires
interface-arrow-due-requires t c =
    let l = c.loop-x in
    let p = c.requires in
    let M = l.invariant.1 c.requires.0 in
    let A = due_arrow M c.loop-x-test.true (omega (arith, l.invariant.0, c.requires.1)) c.requires.2 in
    (omega (arith, c.decreases, (sides A).left, (sides A).right, M.low), A)

pub interface-loop-x-smaller : goal.interface-loop-x-smaller
interface-loop-x-smaller t c =
    let l = c.loop-x in
    let p = c.requires in
    (c.arrow-due.ensures (due_arrow (l.invariant.1 c.requires.0) c.loop-x-test.true (omega (arith, l.invariant.0, c.requires.1)) c.requires.2)).lower

pub interface-loop-x-preserved : goal.interface-loop-x-preserved
interface-loop-x-preserved t c =
    let l = c.loop-x in
    let p = c.requires in (
      c.arrow-due.auto.work ∙ l.invariant.0,
      λ q.
          let M = l.invariant.1 q in
          let r : c.args.to + get_or c.args.sizes.now c.args.t 0 ≤ length l.work = omega (arith, l.invariant.0, c.requires.1) in
          due-next M c.loop-x-test.true r c.requires.2 (c.arrow-due.ensures (due_arrow M c.loop-x-test.true r c.requires.2)) c.sides_of-x-in-loop-x.ensures,
    )

pub interface-returns : goal.interface-returns
interface-returns t c q = due-done (c.loop-x.invariant.1 q) c.loop-x-test.false c.size_of.ensures c.unturned.ensures

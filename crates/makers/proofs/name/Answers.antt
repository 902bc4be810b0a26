-- The invariant: the elements of the first k nodes are named, and node k's record stands at the offset. Assumes nothing.
use native.Mathlib.Omega.{arith}
use mathlib.Core.Path.{refl, ◌∙◌}
use Rattle.makers.proofs.NameLaws.{named_start, named-room, named_step, named_end}
use Rattle.makers.proofs.name.Goals as goal

pub loop-k-init : goal.loop-k-init
loop-k-init c = (refl, (λ q. named_start q))

pub own_elements-count-requires : goal.own_elements-count-requires
own_elements-count-requires c = c.requires.all

pub overflow_cast-k : goal.overflow_cast-k
overflow_cast-k c = let f = c.requires.few in omega arith

pub name_own-requires : goal.name_own-requires
name_own-requires c =
    let l = c.loop-k in
    let q = c.requires in
    let m = q.memory in
    let r = named-room q (l.invariant.1 q) c.loop-k-test.true c.node_at-node.ensures in
    omega (arith, r, c.own_elements-count.ensures, l.invariant.0)

pub overflow_add-to : goal.overflow_add-to
overflow_add-to c =
    let l = c.loop-k in
    let q = c.requires in
    let r = named-room q (l.invariant.1 q) c.loop-k-test.true c.node_at-node.ensures in
    omega (arith, r, c.own_elements-count.ensures)

pub loop-k-preserved : goal.loop-k-preserved
loop-k-preserved c =
    let l = c.loop-k in
    let e = c.own_elements-count.ensures in
    let f = c.name_own.ensures in (
      c.name_own.auto.work ∙ l.invariant.0,
      (λ q. rw e (named_step q (l.invariant.1 q) c.loop-k-test.true c.node_at-node.ensures (f ∙ rw e))),
    )

pub shape_of-work : goal.shape_of-work
shape_of-work c = c.loop-k.invariant.0

pub returns : goal.returns
returns c = λ q. named_end q (c.loop-k.invariant.1 q) (omega arith)

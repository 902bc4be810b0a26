-- `wiring::make` meets its contract: by its first record, and for its subterms by the walk itself, whose bytes left fall.
-- Assumes nothing.
use native.Mathlib.Omega.{arith}
use Rattle.wiring.proofs.StepLaws.{here, behind, two-subterms}
use Rattle.wiring.proofs.EnterLaws.{subterm_asks, first-leaves}
use Rattle.wiring.proofs.OneLaws.{body-asks, opened-above, close-closable, close-leaves}
use Rattle.wiring.proofs.TwoLaws.{first-asks, first_past, between-asks, second-asks}
use Rattle.wiring.proofs.FinishLaws.{finish-ready, finish-leaves}
use Rattle.wiring.proofs.walk.+make.Goals as goal

pub leaf-requires : goal.leaf-requires
leaf-requires t c = (here c.requires c.node_at-node.ensures, c.if-node-eq0.true)

pub returns-then-node-eq0 : goal.returns-then-node-eq0
returns-then-node-eq0 t c q = c.leaf.ensures (here q c.node_at-node.ensures)

pub enter-state-requires : goal.enter-state-requires
enter-state-requires t c = here c.requires c.node_at-node.ensures

pub make-f-requires : goal.make-f-requires
make-f-requires t c =
    let e = c.node_at-node.ensures in
    let p = c.requires in
    let h = here c.requires e in
    let f = behind c.requires e in
    (omega (arith, c.decreases), subterm_asks h (c.enter-state.ensures h) (two-subterms c.requires e c.if-node-eq0.false))

pub overflow_sub-l : goal.overflow_sub-l
overflow_sub-l t c =
    let h = here c.requires c.node_at-node.ensures in
    let one = c.if-node-eq1.true in
    opened-above h one ((c.enter-state.ensures h).one one)

pub close-requires : goal.close-requires
close-requires t c =
    let h = here c.requires c.node_at-node.ensures in
    let one = c.if-node-eq1.true in
    let o = (c.enter-state.ensures h).one one in
    close-closable h one o (c.make-f.ensures (body-asks h one o))

pub returns-then-node-eq1 : goal.returns-then-node-eq1
returns-then-node-eq1 t c q =
    let h = here q c.node_at-node.ensures in
    let one = c.if-node-eq1.true in
    let o = (c.enter-state.ensures h).one one in
    let k = c.close.ensures in
    rw (k.0, k.1) (close-leaves h one o (c.make-f.ensures (body-asks h one o)))

pub between-state-requires : goal.between-state-requires
between-state-requires t c =
    let e = c.node_at-node.ensures in
    let p = c.requires in
    let h = here c.requires e in
    let d = c.if-node-eq1.false in
    let two = two-subterms c.requires e c.if-node-eq0.false d in
    between-asks h two (first-leaves h (c.enter-state.ensures h) d _ _ c.make-f.ensures (first-asks h two))

pub make-x-requires : goal.make-x-requires
make-x-requires t c =
    let e = c.node_at-node.ensures in
    let p = c.requires in
    let h = here c.requires e in
    let d = c.if-node-eq1.false in
    let two = two-subterms c.requires e c.if-node-eq0.false d in
    let l = first-leaves h (c.enter-state.ensures h) d _ _ c.make-f.ensures (first-asks h two) in
    let f = behind c.requires e in
    let b = first_past h two l in
    (omega (arith, c.decreases), second-asks h two l c.between-state.ensures.0 c.between-state.ensures.1)

pub finish-requires : goal.finish-requires
finish-requires t c =
    let e = c.node_at-node.ensures in
    let p = c.requires in
    let h = here c.requires e in
    let d = c.if-node-eq1.false in
    let two = two-subterms c.requires e c.if-node-eq0.false d in
    let l = first-leaves h (c.enter-state.ensures h) d _ _ c.make-f.ensures (first-asks h two) in
    let er = c.between-state.ensures.0 in
    let ew = c.between-state.ensures.1 in
    finish-ready h two l er ew (c.make-x.ensures (second-asks h two l er ew))

pub returns : goal.returns
returns t c q =
    let e = c.node_at-node.ensures in
    let h = here q e in
    let d = c.if-node-eq1.false in
    let two = two-subterms q e c.if-node-eq0.false d in
    let l = first-leaves h (c.enter-state.ensures h) d _ _ c.make-f.ensures (first-asks h two) in
    let er = c.between-state.ensures.0 in
    let ew = c.between-state.ensures.1 in
    let k = c.finish.ensures in
    rw (k.0, k.1) (finish-leaves h two l er ew (c.make-x.ensures (second-asks h two l er ew)))

-- `type_walk::sides::arrow_from` meets its contract: by the sign that stands there, where an arrow may be read. Assumes nothing.
use Rattle.words.specs.Next.{said_word}
use Rattle.grammar.proofs.EndLaws.{mark-stands}
use Rattle.type_walk.proofs.MoveLaws.{place_inside, onward, done_moved, arrow_tight, arrow-arrow, arrow-linear, arrow_none}
use native.Mathlib.Omega.{arith}
use Rattle.type_walk.proofs.sides.arrow_from.Goals as goal

pub returns-then-h : goal.returns-then-h
returns-then-h c = arrow_tight _ _ _ _ _ _ _ c.if-h.true (done_moved _ _ _ _ _ _ c.requires.1 c.done.ensures)

pub ask_side-requires : goal.ask_side-requires
ask_side-requires c =
    let v = said_word c.mark_at-w.result in
    let s = mark-stands _ _ v c.mark_at-w.ensures 8 c.if-w-eq-ARROW.true (λ z. omega arith) in
    (c.requires.0, ((onward _ _ v s 7 c.if-w-eq-ARROW.true).lexed, place_inside _ _ c.requires.1 v s))

pub returns-then-w-eq-ARROW : goal.returns-then-w-eq-ARROW
returns-then-w-eq-ARROW c = arrow-arrow _ _ (said_word c.mark_at-w.result) c.mark_at-w.ensures _ _ _ _ _ c.if-h.false c.if-w-eq-ARROW.true c.ask_side.ensures

pub ask_side-requires-then-w-eq-LINEAR : goal.ask_side-requires-then-w-eq-LINEAR
ask_side-requires-then-w-eq-LINEAR c =
    let v = said_word c.mark_at-w.result in
    let s = mark-stands _ _ v c.mark_at-w.ensures 9 c.if-w-eq-LINEAR.true (λ z. omega arith) in
    (c.requires.0, ((onward _ _ v s 8 c.if-w-eq-LINEAR.true).lexed, place_inside _ _ c.requires.1 v s))

pub returns-then-w-eq-LINEAR : goal.returns-then-w-eq-LINEAR
returns-then-w-eq-LINEAR c = arrow-linear _ _ (said_word c.mark_at-w.result) c.mark_at-w.ensures _ _ _ _ _ c.if-h.false c.if-w-eq-ARROW.false c.if-w-eq-LINEAR.true c.ask_side-then-w-eq-LINEAR.ensures

pub returns : goal.returns
returns c = arrow_none _ _ (said_word c.mark_at-w.result) c.mark_at-w.ensures _ _ _ _ _ c.if-h.false c.if-w-eq-ARROW.false c.if-w-eq-LINEAR.false (done_moved _ _ _ _ _ _ c.requires.1 c.done-2.ensures)

-- `type_walk::sides::side_from` meets its contract: a product, or what `arrow_from` finds. Assumes nothing.
use Rattle.words.specs.Next.{said_word}
use Rattle.grammar.proofs.EndLaws.{mark-stands}
use Rattle.type_walk.proofs.MoveLaws.{place_inside, onward, side-times, side-none}
use native.Mathlib.Omega.{arith}
use Rattle.type_walk.proofs.sides.side_from.Goals as goal

pub ask_side-requires : goal.ask_side-requires
ask_side-requires c =
    let v = said_word c.mark_at-w.result in
    let s = mark-stands _ _ v c.mark_at-w.ensures 10 c.if-w-eq-TIMES.true (λ z. omega arith) in
    (c.requires.0, ((onward _ _ v s 9 c.if-w-eq-TIMES.true).lexed, place_inside _ _ c.requires.1 v s))

pub returns-then-w-eq-TIMES : goal.returns-then-w-eq-TIMES
returns-then-w-eq-TIMES c = side-times _ _ (said_word c.mark_at-w.result) c.mark_at-w.ensures _ _ _ _ _ c.if-w-eq-TIMES.true c.ask_side.ensures

pub returns : goal.returns
returns c = side-none _ _ (said_word c.mark_at-w.result) c.mark_at-w.ensures _ _ _ _ _ c.if-w-eq-TIMES.false c.arrow_from.ensures

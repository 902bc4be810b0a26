-- `type_walk::names::named_at` meets its contract: arguments in brackets, numbers, or neither. Assumes nothing.
use Rattle.words.specs.Next.{said_word}
use Rattle.grammar.proofs.EndLaws.{mark-stands}
use Rattle.type_walk.proofs.MoveLaws.{onward}
use Rattle.type_walk.specs.Moves.{Anything}
use Rattle.type_walk.proofs.NameLaws.{named_square, named_curly, named-plain, can_places, can_top}
use native.Mathlib.Omega.{arith}
use Rattle.type_walk.proofs.names.named_at.Goals as goal

pub ask_argument-requires : goal.ask_argument-requires
ask_argument-requires c =
    let v = said_word c.mark_at-w.result in
    let s = mark-stands _ _ v c.mark_at-w.ensures 17 c.if-w-eq-SQUARE.true (λ z. omega arith) in
    (c.requires.0, ((onward _ _ v s 16 c.if-w-eq-SQUARE.true).lexed, (c.requires.1.1.inside, can_places _ _ _ Anything c.requires.0)))

pub returns-then-w-eq-SQUARE : goal.returns-then-w-eq-SQUARE
returns-then-w-eq-SQUARE c = named_square _ _ _ _ _ _ _ (said_word c.mark_at-w.result) c.mark_at-w.ensures c.if-w-eq-SQUARE.true c.ask_argument.ensures

pub put_type-requires : goal.put_type-requires
put_type-requires c = (c.requires.0, (c.requires.1.0, (c.requires.1.1.inside, can_top _ _ _ Anything c.requires.0)))

pub returns-then-w-eq-CURLY : goal.returns-then-w-eq-CURLY
returns-then-w-eq-CURLY c = named_curly _ _ _ _ _ _ _ (said_word c.mark_at-w.result) c.mark_at-w.ensures c.if-w-eq-SQUARE.false c.if-w-eq-CURLY.true c.put_type.ensures

pub returns : goal.returns
returns c = named-plain _ _ _ _ _ _ _ (said_word c.mark_at-w.result) c.mark_at-w.ensures c.if-w-eq-SQUARE.false c.if-w-eq-CURLY.false c.plain_at.ensures

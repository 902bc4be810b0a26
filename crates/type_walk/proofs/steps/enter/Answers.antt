-- `type_walk::steps::enter` meets its contract: by the first word of the type. Assumes nothing.
use Rattle.words.specs.Next.{said_word}
use Rattle.type_walk.proofs.MoveLaws.{onward}
use Rattle.type_walk.proofs.StepLaws.{name_there, enter-name, enter-number, enter-round, enter-none}
use Rattle.type_walk.proofs.steps.enter.Goals as goal

pub named_at-requires : goal.named_at-requires
named_at-requires c = (c.requires.0, ((onward _ _ (said_word c.word_at-w.result) c.word_at-w.ensures 23 c.if-w-eq-NAME.true).lexed, name_there _ _ (said_word c.word_at-w.result) c.word_at-w.ensures c.if-w-eq-NAME.true))

pub returns-then-w-eq-NAME : goal.returns-then-w-eq-NAME
returns-then-w-eq-NAME c = enter-name _ _ (said_word c.word_at-w.result) c.word_at-w.ensures _ _ _ _ c.if-w-eq-NAME.true c.named_at.ensures

pub ones_from-requires : goal.ones_from-requires
ones_from-requires c = (c.requires.0, (onward _ _ (said_word c.word_at-w.result) c.word_at-w.ensures 22 c.if-w-eq-NUMBER.true).lexed)

pub returns-then-w-eq-NUMBER : goal.returns-then-w-eq-NUMBER
returns-then-w-eq-NUMBER c = enter-number _ _ (said_word c.word_at-w.result) c.word_at-w.ensures _ _ _ _ c.if-w-eq-NUMBER.true c.ones_from.ensures

pub ask_inside-requires : goal.ask_inside-requires
ask_inside-requires c = (c.requires.0, (onward _ _ (said_word c.word_at-w.result) c.word_at-w.ensures 10 c.if-w-eq-ROUND.true).lexed)

pub returns-then-w-eq-ROUND : goal.returns-then-w-eq-ROUND
returns-then-w-eq-ROUND c = enter-round _ _ (said_word c.word_at-w.result) c.word_at-w.ensures _ _ _ _ c.if-w-eq-ROUND.true c.ask_inside.ensures

pub returns : goal.returns
returns c = rw c.at.ensures (enter-none _ _ (said_word c.word_at-w.result) c.word_at-w.ensures _ _ c.if-w-eq-NAME.false c.if-w-eq-NUMBER.false c.if-w-eq-ROUND.false)

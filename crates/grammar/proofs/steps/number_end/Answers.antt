-- `grammar::number_end` meets its contract, by the word's code. Assumes nothing.
use Rattle.grammar.proofs.StepLaws.{number_good, name_on, number-name, number_bad}
use Rattle.words.specs.Next.{said_word}
use Rattle.grammar.proofs.steps.number_end.Goals as goal

pub returns-then-w-eq-NUMBER : goal.returns-then-w-eq-NUMBER
returns-then-w-eq-NUMBER c = number_good c.args.text.now c.args.at (said_word c.word_at-w.result) c.word_at-w.ensures c.if-w-eq-NUMBER.true

pub plus_end-requires : goal.plus_end-requires
plus_end-requires c = (name_on c.args.text.now c.args.at (said_word c.word_at-w.result) c.word_at-w.ensures c.if-w-eq-NAME.true).lexed

pub returns-then-w-eq-NAME : goal.returns-then-w-eq-NAME
returns-then-w-eq-NAME c = number-name c.args.text.now c.args.at (said_word c.word_at-w.result) c.word_at-w.ensures c.if-w-eq-NAME.true c.plus_end.result c.plus_end.ensures

pub returns : goal.returns
returns c = number_bad c.args.text.now c.args.at (said_word c.word_at-w.result) c.word_at-w.ensures c.if-w-eq-NUMBER.false c.if-w-eq-NAME.false c.at.result c.at.ensures

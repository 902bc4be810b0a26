-- `grammar::name_end` meets its contract, by the word's code. Assumes nothing.
use Rattle.grammar.proofs.StepLaws.{name_good, name_bad}
use Rattle.words.specs.Next.{said_word}
use Rattle.grammar.proofs.steps.name_end.Goals as goal

pub returns-then-w-eq-NAME : goal.returns-then-w-eq-NAME
returns-then-w-eq-NAME c = name_good c.args.text.now c.args.at (said_word c.word_at-w.result) c.word_at-w.ensures c.if-w-eq-NAME.true

pub returns : goal.returns
returns c = name_bad c.args.text.now c.args.at (said_word c.word_at-w.result) c.word_at-w.ensures c.if-w-eq-NAME.false c.at.result c.at.ensures

-- `grammar::expect_word` meets its contract, by the word's code. Assumes nothing.
use Rattle.grammar.proofs.StepLaws.{expect_good, expect_bad}
use Rattle.words.specs.Next.{said_word}
use Rattle.grammar.proofs.steps.expect_word.Goals as goal

pub returns-then-w-sign : goal.returns-then-w-sign
returns-then-w-sign c = λ text at s z. expect_good text at (said_word c.args.w) s c.args.sign c.if-w-sign.true z

pub returns : goal.returns
returns c = λ text at s z. expect_bad text at (said_word c.args.w) s c.args.sign c.if-w-sign.false c.at.result c.at.ensures

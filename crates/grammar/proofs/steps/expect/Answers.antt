-- `grammar::expect` meets its contract: the word is that which stands at the offset. Assumes nothing.
use Rattle.grammar.proofs.steps.expect.Goals as goal

pub returns : goal.returns
returns c = c.expect_word.ensures c.args.text.now c.args.at c.word_here-w.ensures c.requires.1

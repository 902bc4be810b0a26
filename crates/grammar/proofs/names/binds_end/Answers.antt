-- `grammar::binds_end` meets its contract, by the word's code. Assumes nothing.
use Rattle.words.specs.Next.{said_word}
use Rattle.grammar.proofs.ListLaws.{binds-list, binds_names}
use Rattle.grammar.proofs.names.binds_end.Goals as goal

pub returns-then-w-eq-ROUND : goal.returns-then-w-eq-ROUND
returns-then-w-eq-ROUND c = binds-list c.args.text.now c.args.at c.args.more (said_word c.word_at-w.result) c.word_at-w.ensures c.if-w-eq-ROUND.true c.one_end.result c.one_end.ensures

pub returns : goal.returns
returns c = binds_names c.args.text.now c.args.at c.args.more (said_word c.word_at-w.result) c.word_at-w.ensures c.if-w-eq-ROUND.false c.names_end.result c.names_end.ensures

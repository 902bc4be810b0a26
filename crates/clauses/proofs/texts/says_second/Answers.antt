-- `clauses::says_second` meets its contract. Assumes nothing.
use Rattle.words.specs.Next.{said_word}
use Rattle.clauses.proofs.TextLaws.{says_none, says_value}
use Rattle.clauses.proofs.texts.says_second.Goals as goal

pub returns-then-w-ne-EDITION : goal.returns-then-w-ne-EDITION
returns-then-w-ne-EDITION c = says_none c.args.text.now (said_word c.word_at-w.result) c.word_at-w.ensures c.if-w-ne-EDITION.true

pub returns : goal.returns
returns c = says_value c.args.text.now (said_word c.word_at-w.result) c.word_at-w.ensures c.if-w-ne-EDITION.false (said_word c.word_at-v.result) c.word_at-v.ensures

-- By the word that stands there. Assumes nothing.
use Rattle.term_parts.proofs.NameLaws.{name_there, name_missing}
use Rattle.words.specs.Next.{said_word}
use Rattle.term_parts.proofs.names.name_at.Goals as goal

pub returns-then-w-eq-NAME : goal.returns-then-w-eq-NAME
returns-then-w-eq-NAME c = name_there c.args.text.now c.args.at (said_word c.word_at-w.result) c.word_at-w.ensures c.if-w-eq-NAME.true

pub returns : goal.returns
returns c = rw c.at.ensures (name_missing c.args.text.now c.args.at (said_word c.word_at-w.result) c.word_at-w.ensures c.if-w-eq-NAME.false)

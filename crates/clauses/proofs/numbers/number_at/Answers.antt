-- `clauses::number_at` meets its contract: by the first word, and the second. Assumes nothing.
use native.Mathlib.Omega.{arith}
use Rattle.words.specs.Next.{said_word}
use Rattle.clauses.proofs.NumberLaws.{number-plain, number-name, plus-onward, number-plus}
use Rattle.clauses.proofs.numbers.number_at.Goals as goal

pub returns-then-w-ne-NAME : goal.returns-then-w-ne-NAME
returns-then-w-ne-NAME c = number-plain c.args.text.now c.args.at (said_word c.word_at-w.result) c.word_at-w.ensures c.requires.1 c.if-w-ne-NAME.true c.from.result (c.from.ensures, omega (arith, c.from.ensures))

pub returns-then-p-ne-PLUS : goal.returns-then-p-ne-PLUS
returns-then-p-ne-PLUS c = number-name c.args.text.now c.args.at (said_word c.word_at-w.result) c.word_at-w.ensures c.requires.1 c.if-w-ne-NAME.false (said_word c.mark_at-p.result) c.mark_at-p.ensures c.if-p-ne-PLUS.true

pub word_at-k-requires : goal.word_at-k-requires
word_at-k-requires c = (plus-onward c.args.text.now c.args.at (said_word c.word_at-w.result) c.word_at-w.ensures c.requires.1 c.if-w-ne-NAME.false (said_word c.mark_at-p.result) c.mark_at-p.ensures c.if-p-ne-PLUS.false).lexed

pub returns : goal.returns
returns c = number-plus c.args.text.now c.args.at (said_word c.word_at-w.result) c.word_at-w.ensures c.requires.1 c.if-w-ne-NAME.false (said_word c.mark_at-p.result) c.mark_at-p.ensures c.if-p-ne-PLUS.false (said_word c.word_at-k.result) c.word_at-k.ensures c.from-2.result (c.from-2.ensures, omega (arith, c.from-2.ensures))

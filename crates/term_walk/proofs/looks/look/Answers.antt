-- Behind the end there is no word; the last word has none behind it; any other is the text's. Assumes nothing.
use native.Mathlib.Omega.{arith}
use Rattle.term_walk.proofs.LookLaws.{look-past, look-last, look-word}
use Rattle.term_walk.proofs.looks.look.Goals as goal

pub returns-then-text-at : goal.returns-then-text-at
returns-then-text-at c = look-past c.args.text.now c.args.at c.if-text-at.true

pub word_here-w-requires : goal.word_here-w-requires
word_here-w-requires c = c.requires.0 (omega (arith, c.if-text-at.false))

pub returns-then-w-eq0 : goal.returns-then-w-eq0
returns-then-w-eq0 c = look-last c.args.text.now c.args.at (c.requires.0 (omega (arith, c.if-text-at.false))) c.word_here-w.result c.word_here-w.ensures c.if-w-eq0.true

pub returns : goal.returns
returns c = look-word c.args.text.now c.args.at (c.requires.0 (omega (arith, c.if-text-at.false))) c.word_here-w.result c.word_here-w.ensures c.if-w-eq0.false

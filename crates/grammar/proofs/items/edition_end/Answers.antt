-- `grammar::edition_end` meets its contract, by the codes of two words. Assumes nothing.
use native.Mathlib.Omega.{arith}
use Rattle.words.specs.Next.{said_word}
use Rattle.grammar.proofs.EndLaws.{ends-here, ends_as}
use Rattle.grammar.proofs.ItemLaws.{edition_none, edition-other, edition_first, edition_second, edition-bad}
use Rattle.std.proofs.Common.{Ok}
use Rattle.grammar.proofs.items.edition_end.Goals as goal

pub returns-then-w-ne-EDITION : goal.returns-then-w-ne-EDITION
returns-then-w-ne-EDITION c = ends_as c.args.text.now _ _ _ _ (Ok c.args.at) (omega arith) (edition_none c.args.text.now c.args.at (said_word c.word_at-w.result) c.word_at-w.ensures c.if-w-ne-EDITION.true) (ends-here c.args.text.now c.args.at c.requires)

pub word_at-v-requires : goal.word_at-v-requires
word_at-v-requires c = (c.word_at-w.ensures.onward (λ z. omega (arith, c.if-w-ne-EDITION.false))).lexed

pub returns-then-v-ne-NUMBER : goal.returns-then-v-ne-NUMBER
returns-then-v-ne-NUMBER c = edition-other c.args.text.now c.args.at (said_word c.word_at-w.result) c.word_at-w.ensures c.if-w-ne-EDITION.false (said_word c.word_at-v.result) c.word_at-v.ensures c.if-v-ne-NUMBER.true c.at.result c.at.ensures

pub returns-then-v-eq1 : goal.returns-then-v-eq1
returns-then-v-eq1 c = edition_first c.args.text.now c.args.at (said_word c.word_at-w.result) c.word_at-w.ensures c.if-w-ne-EDITION.false (said_word c.word_at-v.result) c.word_at-v.ensures c.if-v-ne-NUMBER.false c.if-v-eq1.true

pub returns-then-v-eq2 : goal.returns-then-v-eq2
returns-then-v-eq2 c = edition_second c.args.text.now c.args.at (said_word c.word_at-w.result) c.word_at-w.ensures c.if-w-ne-EDITION.false (said_word c.word_at-v.result) c.word_at-v.ensures c.if-v-ne-NUMBER.false c.if-v-eq1.false c.if-v-eq2.true

pub returns : goal.returns
returns c = edition-bad c.args.text.now c.args.at (said_word c.word_at-w.result) c.word_at-w.ensures c.if-w-ne-EDITION.false (said_word c.word_at-v.result) c.word_at-v.ensures c.if-v-ne-NUMBER.false c.if-v-eq1.false c.if-v-eq2.false c.at-2.result c.at-2.ensures

-- `clauses::item` meets its contract: by the first word. Assumes nothing.
use Rattle.words.specs.Next.{said_word}
use Rattle.clauses.proofs.ItemLaws.{item_line, item_type, item_term, type_onward}
use Rattle.std.proofs.Common.{Ok}
use Rattle.clauses.proofs.texts.item.Goals as goal

pub returns-then-w-eq-TABLE : goal.returns-then-w-eq-TABLE
returns-then-w-eq-TABLE c = item_line c.args.text.now c.args.at (said_word c.word_at-w.result) c.word_at-w.ensures c.args.work.now c.item_end.result c.if-w-eq-TABLE.true c.item_end.ensures

pub definition-requires : goal.definition-requires
definition-requires c = ((type_onward c.args.text.now c.args.at (said_word c.word_at-w.result) c.word_at-w.ensures c.args.work.now c.args.work.now (Ok 0) c.if-w-eq-TYPE.true).lexed, c.requires.1)

pub returns-then-w-eq-TYPE : goal.returns-then-w-eq-TYPE
returns-then-w-eq-TYPE c = item_type c.args.text.now c.args.at (said_word c.word_at-w.result) c.word_at-w.ensures c.args.work.now _ c.definition.result c.if-w-eq-TABLE.false c.if-w-eq-TYPE.true c.definition.ensures

pub returns : goal.returns
returns c = item_term c.args.text.now c.args.at (said_word c.word_at-w.result) c.word_at-w.ensures c.args.work.now _ c.definition-2.result c.if-w-eq-TABLE.false c.if-w-eq-TYPE.false c.definition-2.ensures

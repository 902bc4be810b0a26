-- One of a list, a comma, another one. Assumes nothing.
use mathlib.Core.Path.{subst}
use Rattle.term_parts.specs.Names.{HeadSays}
use Rattle.term_parts.proofs.NameLaws.{head_read, comma-on, second-good, two-say}
use Rattle.words.specs.Next.{said_word}
use Rattle.term_parts.proofs.names.two_names.Goals as goal

pub unwrap-x-requires : goal.unwrap-x-requires
unwrap-x-requires c = head_read c.args.text.now c.args.at c.head_at.result c.head_at.ensures _ _ c.requires.all.0

pub word_at-c-requires : goal.word_at-c-requires
word_at-c-requires c = (subst (HeadSays c.args.text.now c.args.at) c.unwrap-x.ensures c.head_at.ensures).further.lexed

pub head_at-requires-2 : goal.head_at-requires-2
head_at-requires-2 c = (comma-on c.args.text.now c.args.at c.requires c.unwrap-x.result (subst (HeadSays c.args.text.now c.args.at) c.unwrap-x.ensures c.head_at.ensures) (said_word c.word_at-c.result) c.word_at-c.ensures).lexed

pub unwrap-y-requires : goal.unwrap-y-requires
unwrap-y-requires c = head_read c.args.text.now c.word_at-c.result.end c.head_at-2.result c.head_at-2.ensures _ _ (second-good c.args.text.now c.args.at c.requires c.unwrap-x.result (subst (HeadSays c.args.text.now c.args.at) c.unwrap-x.ensures c.head_at.ensures) (said_word c.word_at-c.result) c.word_at-c.ensures)

pub returns : goal.returns
returns c = two-say c.args.text.now c.args.at c.requires c.unwrap-x.result (subst (HeadSays c.args.text.now c.args.at) c.unwrap-x.ensures c.head_at.ensures) (said_word c.word_at-c.result) c.word_at-c.ensures c.unwrap-y.result (subst (HeadSays c.args.text.now c.word_at-c.result.end) c.unwrap-y.ensures c.head_at-2.ensures)

-- `grammar::item_end` meets its contract, by the word's code. Assumes nothing.
use mathlib.Core.Bool.{false}
use native.Mathlib.Omega.{arith}
use Rattle.words.specs.Next.{said_word}
use Rattle.grammar.specs.Ends.{type_step, term_step}
use Rattle.grammar.proofs.EndLaws.{ends_as}
use Rattle.grammar.proofs.ItemLaws.{item_line, item_type, item_term}
use Rattle.grammar.proofs.items.item_end.Goals as goal

pub line_end-requires : goal.line_end-requires
line_end-requires c = (c.word_at-w.ensures.onward (λ z. omega (arith, c.if-w-eq-TABLE.true))).lexed

pub returns-then-w-eq-TABLE : goal.returns-then-w-eq-TABLE
returns-then-w-eq-TABLE c = item_line c.args.text.now c.args.at (said_word c.word_at-w.result) c.word_at-w.ensures (type_step 80 false) (term_step 80) c.if-w-eq-TABLE.true c.line_end.result c.line_end.ensures

pub type_clause_end-requires : goal.type_clause_end-requires
type_clause_end-requires c = (c.word_at-w.ensures.onward (λ z. omega (arith, c.if-w-eq-TYPE.true))).lexed

pub returns-then-w-eq-TYPE : goal.returns-then-w-eq-TYPE
returns-then-w-eq-TYPE c = item_type c.args.text.now c.args.at (said_word c.word_at-w.result) c.word_at-w.ensures (type_step 80 false) (term_step 80) c.if-w-eq-TABLE.false c.if-w-eq-TYPE.true c.type_clause_end.result c.type_clause_end.ensures

pub returns : goal.returns
returns c = ends_as c.args.text.now _ _ _ _ c.term_clause_end.result (omega arith) (item_term c.args.text.now c.args.at (said_word c.word_at-w.result) c.word_at-w.ensures (type_step 80 false) (term_step 80) c.if-w-eq-TABLE.false c.if-w-eq-TYPE.false) c.term_clause_end.ensures

-- `clauses::number_past` meets its contract: the number as `number_at` reads it, and the word behind it. Assumes nothing.
use native.Mathlib.Omega.{arith}
use mathlib.Core.Bool.{true, false}
use Rattle.words.specs.Next.{said_word}
use Rattle.grammar.proofs.EndLaws.{word-marks}
use Rattle.words.specs.Lexed.{from}
use Rattle.clauses.proofs.NumberLaws.{number-plain, number-name, plus-onward, number-plus, past_by}
use Rattle.clauses.proofs.numbers.number_past.Goals as goal

pub returns-then-w-ne-NAME : goal.returns-then-w-ne-NAME
returns-then-w-ne-NAME c =
    let w = c.word_at-w in
    let p = c.word_here-p in
    past_by c.args.text.now (from c.args.text.now c.args.at) false w.result.start c.from.result w.result.end (said_word p.result) (number-plain c.args.text.now c.args.at (said_word w.result) w.ensures c.requires.1 c.if-w-ne-NAME.true c.from.result (c.from.ensures, omega (arith, c.from.ensures))) p.ensures

pub returns-then-p-ne-PLUS : goal.returns-then-p-ne-PLUS
returns-then-p-ne-PLUS c =
    let w = c.word_at-w in
    let p = c.word_here-p in
    past_by c.args.text.now (from c.args.text.now c.args.at) true w.result.start 0 w.result.end (said_word p.result) (number-name c.args.text.now c.args.at (said_word w.result) w.ensures c.requires.1 c.if-w-ne-NAME.false (said_word p.result) (word-marks _ _ _ p.ensures) c.if-p-ne-PLUS.true) p.ensures

pub word_at-k-requires : goal.word_at-k-requires
word_at-k-requires c =
    let w = c.word_at-w in
    let p = c.word_here-p in
    (plus-onward c.args.text.now c.args.at (said_word w.result) w.ensures c.requires.1 c.if-w-ne-NAME.false (said_word p.result) (word-marks _ _ _ p.ensures) c.if-p-ne-PLUS.false).lexed

pub word_here-c-requires : goal.word_here-c-requires
word_here-c-requires c =
    let w = c.word_at-w in
    let p = c.word_here-p in
    let k = c.word_at-k in
    (number-plus c.args.text.now c.args.at (said_word w.result) w.ensures c.requires.1 c.if-w-ne-NAME.false (said_word p.result) (word-marks _ _ _ p.ensures) c.if-p-ne-PLUS.false (said_word k.result) k.ensures c.from-plus.result (c.from-plus.ensures, omega (arith, c.from-plus.ensures))).lexed

pub returns : goal.returns
returns c =
    let w = c.word_at-w in
    let p = c.word_here-p in
    let k = c.word_at-k in
    past_by c.args.text.now (from c.args.text.now c.args.at) true w.result.start c.from-plus.result k.result.end (said_word c.word_here-c.result) (number-plus c.args.text.now c.args.at (said_word w.result) w.ensures c.requires.1 c.if-w-ne-NAME.false (said_word p.result) (word-marks _ _ _ p.ensures) c.if-p-ne-PLUS.false (said_word k.result) k.ensures c.from-plus.result (c.from-plus.ensures, omega (arith, c.from-plus.ensures))) c.word_here-c.ensures

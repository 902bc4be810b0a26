-- `grammar::plus_end` meets its contract, by the codes of two words. Assumes nothing.
use native.Mathlib.Omega.{arith}
use Rattle.grammar.proofs.EndLaws.{ends-here, mark-stands, mark_no, ends_as}
use Rattle.grammar.proofs.StepLaws.{plus_none, plus_on, plus-good, plus-bad}
use Rattle.notation_calculus.specs.Words.{plus}
use Rattle.words.specs.Next.{said_word}
use Rattle.std.proofs.Common.{Ok}
use Rattle.grammar.proofs.steps.plus_end.Goals as goal

pub returns-then-p-ne-PLUS : goal.returns-then-p-ne-PLUS
returns-then-p-ne-PLUS c =
    let x = c.args in
    let p = c.mark_at-p in
    ends_as x.text.now _ _ _ _ (Ok c.args.at) (omega arith) (plus_none _ (mark_no x.text.now x.at (said_word p.result) plus p.ensures.plus c.if-p-ne-PLUS.true)) (ends-here c.args.text.now c.args.at c.requires)

pub word_at-w-requires : goal.word_at-w-requires
word_at-w-requires c =
    let x = c.args in
    let p = c.mark_at-p in
    let s = mark-stands x.text.now x.at (said_word p.result) p.ensures 21 c.if-p-ne-PLUS.false (λ z. omega arith) in
    (plus_on x.text.now x.at (said_word p.result) s c.if-p-ne-PLUS.false).lexed

pub returns-then-w-eq-NUMBER : goal.returns-then-w-eq-NUMBER
returns-then-w-eq-NUMBER c =
    let x = c.args in
    let p = c.mark_at-p in
    let e = c.if-p-ne-PLUS.false in
    let s = mark-stands x.text.now x.at (said_word p.result) p.ensures 21 e (λ z. omega arith) in
    plus-good x.text.now x.at (said_word p.result) s e (said_word c.word_at-w.result) c.word_at-w.ensures c.if-w-eq-NUMBER.true

pub returns : goal.returns
returns c =
    let x = c.args in
    let p = c.mark_at-p in
    let e = c.if-p-ne-PLUS.false in
    let s = mark-stands x.text.now x.at (said_word p.result) p.ensures 21 e (λ z. omega arith) in
    plus-bad x.text.now x.at (said_word p.result) s e (said_word c.word_at-w.result) c.word_at-w.ensures c.if-w-eq-NUMBER.false c.at.result c.at.ensures

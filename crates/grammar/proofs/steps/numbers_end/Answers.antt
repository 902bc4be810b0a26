-- `grammar::numbers_end` meets its contract. The invariant: the rounds that are left read what is left of the list. Assumes nothing.
use mathlib.Core.Path.{refl, ap, ◌∙◌}
use mathlib.Core.List.{List}
use native.Mathlib.Omega.{arith}
use lib.ListN.{length}
use Rattle.std.proofs.Common.{Ok, Err}
use Rattle.notation_calculus.specs.Words.{comma, curly, endCurly, Word}
use Rattle.notation_calculus.specs.Grammar.{behind, is, expect}
use Rattle.words.specs.Lexed.{from}
use Rattle.grammar.specs.Skips.{list_more, group_end, number_end}
use Rattle.grammar.proofs.EndLaws.{ends_passed, is_yes, is_no, expect-code, mark-stands, ends_as}
use Rattle.grammar.proofs.LoopLaws.{loop_bad, loop-stop, loop-turn, group_first}
use Rattle.words.specs.Next.{said_word}
use Rattle.grammar.proofs.steps.numbers_end.Goals as goal

pub loop-c-init : goal.loop-c-init
loop-c-init c =
    let x = c.args in
    let m = c.mark_at-w in
    group_first x.text.now x.at (said_word m.result) (mark-stands x.text.now x.at (said_word m.result) m.ensures 19 c.if-w-ne-CURLY.false (λ z. omega arith)) curly endCurly number_end c.if-w-ne-CURLY.false (λ z. omega (arith, c.if-w-ne-CURLY.false)) (Ok c.in_ok-k.k) c.in_ok-k.ensures

pub word_at-c-requires : goal.word_at-c-requires
word_at-c-requires c = c.loop-c.invariant.ends.lexed

pub returns-then-c-ne-COMMA : goal.returns-then-c-ne-COMMA
returns-then-c-ne-COMMA c = ends_as c.args.text.now _ _ _ _ c.expect_word.result (omega (arith, c.loop-c.invariant.ends.fewer, c.loop-c.invariant.within)) (loop-stop c.args.text.now (list_more number_end) (λ us. is comma us) (λ us. number_end (behind us)) (λ r us. refl) (λ us. expect endCurly us) (group_end curly endCurly number_end (from c.args.text.now c.args.at)) (length (from c.args.text.now c.args.at)) c.loop-c.k c.loop-c.invariant (is_no c.args.text.now c.loop-c.k (said_word c.word_at-c.result) c.word_at-c.ensures comma c.if-c-ne-COMMA.true) ∙ expect-code endCurly (from c.args.text.now c.loop-c.k)) (c.expect_word.ensures c.args.text.now c.loop-c.k c.word_at-c.ensures (omega arith))

pub returns-in_err-k-2 : goal.returns-in_err-k-2
returns-in_err-k-2 c =
    let next = c.word_at-c.ensures.onward (λ z. omega (arith, c.if-c-ne-COMMA.false)) in
    ends_passed c.args.text.now _ _ c.from_residual-in_err-k-2.result _ c.from_residual-in_err-k-2.ensures.1 (loop_bad _ _ _ _ _ c.in_err-k-2.field-0.0 (loop-turn c.args.text.now (list_more number_end) (λ us. is comma us) (λ us. number_end (behind us)) (λ r us. refl) (λ us. expect endCurly us) (group_end curly endCurly number_end (from c.args.text.now c.args.at)) (length (from c.args.text.now c.args.at)) c.loop-c.k c.loop-c.invariant (is_yes c.args.text.now c.loop-c.k (said_word c.word_at-c.result) c.word_at-c.ensures comma c.if-c-ne-COMMA.false) 0 (Err c.in_err-k-2.field-0.0) (ap (λ (us : List Word). number_end us) next.rest ∙ c.in_err-k-2.ensures) (omega arith)))

pub loop-c-smaller : goal.loop-c-smaller
loop-c-smaller c =
    let next = c.word_at-c.ensures.onward (λ z. omega (arith, c.if-c-ne-COMMA.false)) in
    omega (arith, next.fewer, c.in_ok-k-2.ensures.fewer)

pub loop-c-preserved : goal.loop-c-preserved
loop-c-preserved c =
    let next = c.word_at-c.ensures.onward (λ z. omega (arith, c.if-c-ne-COMMA.false)) in
    loop-turn c.args.text.now (list_more number_end) (λ us. is comma us) (λ us. number_end (behind us)) (λ r us. refl) (λ us. expect endCurly us) (group_end curly endCurly number_end (from c.args.text.now c.args.at)) (length (from c.args.text.now c.args.at)) c.loop-c.k c.loop-c.invariant (is_yes c.args.text.now c.loop-c.k (said_word c.word_at-c.result) c.word_at-c.ensures comma c.if-c-ne-COMMA.false) _ (Ok c.in_ok-k-2.k) (ends_as c.args.text.now _ (length (from c.args.text.now c.word_at-c.result.end)) _ _ (Ok c.in_ok-k-2.k) (omega arith) (ap (λ (us : List Word). number_end us) next.rest) c.in_ok-k-2.ensures) (omega (arith, next.fewer))

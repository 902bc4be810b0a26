-- Lists in lists meet their contracts: one proof of the cycle of calls. The measure is the levels that are left, and in a level the order of the calls;
-- the loop's invariant: the rounds that are left read what is left of the list. Assumes nothing.
use Prim.Native.Nat.{◌+◌}
use mathlib.Core.Path.{refl, ap, ◌∙◌}
use mathlib.Core.List.{List}
use native.Mathlib.Omega.{arith}
use lib.ListN.{length}
use Rattle.notation_calculus.specs.Words.{endRound, comma, Word}
use Rattle.notation_calculus.specs.Grammar.{behind, is as isSign, expect}
use Rattle.words.specs.Next.{said_word}
use Rattle.words.specs.Lexed.{from}
use Rattle.grammar.specs.Skips.{list_more, apart_end, one_end, lists_end}
use Rattle.grammar.proofs.EndLaws.{ends_passed, ends_passed, is_yes, is_no, expect-code, ends_as}
use Rattle.grammar.proofs.LoopLaws.{loop_bad, loop-stop, loop-turn}
use Rattle.grammar.proofs.TermLaws.{along_expect}
use Rattle.grammar.proofs.ListLaws.{one_name, one_bad, one-deep, one_apart, apart-first, apart-second}
use Rattle.std.proofs.Common.{Ok, Err}
use Rattle.grammar.proofs.names.+apart_end_one_end.Goals as goal

pub apart_end-one_end-requires : goal.apart_end-one_end-requires
apart_end-one_end-requires t c = (omega (arith, c.decreases), c.requires)

pub apart_end-expect-requires : goal.apart_end-expect-requires
apart_end-expect-requires t c = (c.in_ok-first.ensures.lexed, omega arith)

pub apart_end-one_end-requires-2 : goal.apart_end-one_end-requires-2
apart_end-one_end-requires-2 t c = (omega (arith, c.decreases), c.in_ok-second.ensures.lexed)

pub apart_end-loop-c-init : goal.apart_end-loop-c-init
apart_end-loop-c-init t c = λ n h. apart-second c.args.text.now c.args.at (one_end (lists_end c.args.more)) n h c.in_ok-second.second (Ok c.in_ok-x.x) (along_expect c.args.text.now _ _ comma _ c.in_ok-first.first (Ok c.in_ok-second.second) (apart-first c.args.text.now c.args.at (one_end (lists_end c.args.more)) n h (Ok c.in_ok-first.first) c.in_ok-first.ensures) c.in_ok-second.ensures) c.in_ok-x.ensures

pub apart_end-word_at-c-requires : goal.apart_end-word_at-c-requires
apart_end-word_at-c-requires t c = ((c.loop-c.invariant (length (from c.args.text.now c.args.at) + 1) (omega arith)).ends).lexed

pub apart_end-expect_word-requires : goal.apart_end-expect_word-requires
apart_end-expect_word-requires t c = tt

pub apart_end-returns-then-c-ne-COMMA : goal.apart_end-returns-then-c-ne-COMMA
apart_end-returns-then-c-ne-COMMA t c = λ n h. ends_as c.args.text.now _ _ _ _ c.expect_word.result (omega (arith, ((c.loop-c.invariant n h).ends).fewer, (c.loop-c.invariant n h).within)) (loop-stop c.args.text.now (list_more (one_end (lists_end c.args.more))) (λ us. isSign comma us) (λ us. one_end (lists_end c.args.more) (behind us)) (λ r us. refl) (λ us. expect endRound us) (apart_end (one_end (lists_end c.args.more)) n (from c.args.text.now c.args.at)) (length (from c.args.text.now c.args.at)) c.loop-c.x (c.loop-c.invariant n h) (is_no c.args.text.now c.loop-c.x (said_word c.word_at-c.result) c.word_at-c.ensures comma c.if-c-ne-COMMA.true) ∙ expect-code endRound (from c.args.text.now c.loop-c.x)) (c.expect_word.ensures c.args.text.now c.loop-c.x c.word_at-c.ensures (omega arith))

pub apart_end-one_end-requires-in-loop-c : goal.apart_end-one_end-requires-in-loop-c
apart_end-one_end-requires-in-loop-c t c = (omega (arith, c.decreases), (c.word_at-c.ensures.onward (λ z. omega (arith, c.if-c-ne-COMMA.false))).lexed)

pub apart_end-loop-c-smaller : goal.apart_end-loop-c-smaller
apart_end-loop-c-smaller t c = omega (arith, (c.word_at-c.ensures.onward (λ z. omega (arith, c.if-c-ne-COMMA.false))).fewer, c.in_ok-x-2.ensures.fewer)

pub apart_end-loop-c-preserved : goal.apart_end-loop-c-preserved
apart_end-loop-c-preserved t c = λ n h. loop-turn c.args.text.now (list_more (one_end (lists_end c.args.more))) (λ us. isSign comma us) (λ us. one_end (lists_end c.args.more) (behind us)) (λ r us. refl) (λ us. expect endRound us) (apart_end (one_end (lists_end c.args.more)) n (from c.args.text.now c.args.at)) (length (from c.args.text.now c.args.at)) c.loop-c.x (c.loop-c.invariant n h) (is_yes c.args.text.now c.loop-c.x (said_word c.word_at-c.result) c.word_at-c.ensures comma c.if-c-ne-COMMA.false) _ (Ok c.in_ok-x-2.x) (ends_as c.args.text.now _ (length (from c.args.text.now c.word_at-c.result.end)) _ _ (Ok c.in_ok-x-2.x) (omega arith) (ap (λ (us : List Word). one_end (lists_end c.args.more) us) (c.word_at-c.ensures.onward (λ z. omega (arith, c.if-c-ne-COMMA.false))).rest) c.in_ok-x-2.ensures) (omega (arith, (c.word_at-c.ensures.onward (λ z. omega (arith, c.if-c-ne-COMMA.false))).fewer))

pub apart_end-returns-in_err-x-2 : goal.apart_end-returns-in_err-x-2
apart_end-returns-in_err-x-2 t c = λ n h. ends_passed c.args.text.now _ _ c.from_residual-in_err-x-2.result _ c.from_residual-in_err-x-2.ensures.1 (loop_bad _ _ _ _ _ c.in_err-x-2.field-0.0 (loop-turn c.args.text.now (list_more (one_end (lists_end c.args.more))) (λ us. isSign comma us) (λ us. one_end (lists_end c.args.more) (behind us)) (λ r us. refl) (λ us. expect endRound us) (apart_end (one_end (lists_end c.args.more)) n (from c.args.text.now c.args.at)) (length (from c.args.text.now c.args.at)) c.loop-c.x (c.loop-c.invariant n h) (is_yes c.args.text.now c.loop-c.x (said_word c.word_at-c.result) c.word_at-c.ensures comma c.if-c-ne-COMMA.false) 0 (Err c.in_err-x-2.field-0.0) (ap (λ (us : List Word). one_end (lists_end c.args.more) us) (c.word_at-c.ensures.onward (λ z. omega (arith, c.if-c-ne-COMMA.false))).rest ∙ c.in_err-x-2.ensures) (omega arith)))

pub one_end-word_at-w-requires : goal.one_end-word_at-w-requires
one_end-word_at-w-requires t c = c.requires

pub one_end-returns-then-w-eq-NAME : goal.one_end-returns-then-w-eq-NAME
one_end-returns-then-w-eq-NAME t c = one_name c.args.text.now c.args.at c.args.more (said_word c.word_at-w.result) c.word_at-w.ensures c.if-w-eq-NAME.true

pub one_end-returns-then-w-ne-ROUND : goal.one_end-returns-then-w-ne-ROUND
one_end-returns-then-w-ne-ROUND t c = one_bad c.args.text.now c.args.at c.args.more (said_word c.word_at-w.result) c.word_at-w.ensures c.if-w-eq-NAME.false c.if-w-ne-ROUND.true c.at.result c.at.ensures

pub one_end-returns-then-more-eq0 : goal.one_end-returns-then-more-eq0
one_end-returns-then-more-eq0 t c = one-deep c.args.text.now c.args.at c.args.more (said_word c.word_at-w.result) c.word_at-w.ensures c.if-w-ne-ROUND.false c.if-more-eq0.true c.at-then-more-eq0.result c.at-then-more-eq0.ensures

pub one_end-overflow_sub-more : goal.one_end-overflow_sub-more
one_end-overflow_sub-more t c = omega (arith, c.if-more-eq0.false)

pub one_end-apart_end-requires : goal.one_end-apart_end-requires
one_end-apart_end-requires t c = (omega (arith, c.decreases, c.if-more-eq0.false), (c.word_at-w.ensures.onward (λ z. omega (arith, c.if-w-ne-ROUND.false))).lexed)

pub one_end-returns : goal.one_end-returns
one_end-returns t c = one_apart c.args.text.now c.args.at c.args.more (said_word c.word_at-w.result) c.word_at-w.ensures c.if-w-ne-ROUND.false c.if-more-eq0.false c.apart_end.result c.apart_end.ensures

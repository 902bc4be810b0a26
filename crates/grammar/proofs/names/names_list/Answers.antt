-- `grammar::names_list` meets its contract. The invariant: the rounds that are left read what is left of the list. Assumes nothing.
use Prim.Native.Nat.{◌+◌}
use mathlib.Core.Path.{◌∙◌, refl, ap}
use mathlib.Core.List.{List}
use native.Mathlib.Omega.{arith}
use lib.ListN.{length}
use Rattle.notation_calculus.specs.Words.{comma, Word}
use Rattle.notation_calculus.specs.Grammar.{behind, is}
use Rattle.words.specs.Next.{said_word}
use Rattle.words.specs.Lexed.{from}
use Rattle.grammar.specs.Skips.{expect_code, name_end, list_more, names_list}
use Rattle.grammar.proofs.EndLaws.{ends_passed, is_yes, is_no, ends_as}
use Rattle.grammar.proofs.LoopLaws.{loop_bad, loop-stop, loop-turn}
use Rattle.grammar.proofs.NameLaws.{list_first}
use Rattle.std.proofs.Common.{Ok, Err}
use Rattle.grammar.proofs.names.names_list.Goals as goal

pub name_end-requires : goal.name_end-requires
name_end-requires c = c.requires.0

pub loop-c-init : goal.loop-c-init
loop-c-init c = λ n h. list_first c.args.text.now c.args.at n h (Ok c.in_ok-x.x) c.in_ok-x.ensures c.args.closes

pub word_at-c-requires : goal.word_at-c-requires
word_at-c-requires c = ((c.loop-c.invariant (length (from c.args.text.now c.args.at) + 1) (omega arith)).ends).lexed

pub expect_word-requires : goal.expect_word-requires
expect_word-requires c = tt

pub returns-then-c-ne-COMMA : goal.returns-then-c-ne-COMMA
returns-then-c-ne-COMMA c = λ n h. ends_as c.args.text.now _ _ _ _ c.expect_word.result (omega (arith, ((c.loop-c.invariant n h).ends).fewer, (c.loop-c.invariant n h).within)) (loop-stop c.args.text.now (list_more name_end) (λ us. is comma us) (λ us. name_end (behind us)) (λ r us. refl) (λ us. expect_code c.args.closes us) (names_list c.args.closes n (from c.args.text.now c.args.at)) (length (from c.args.text.now c.args.at)) c.loop-c.x (c.loop-c.invariant n h) (is_no c.args.text.now c.loop-c.x (said_word c.word_at-c.result) c.word_at-c.ensures comma c.if-c-ne-COMMA.true)) (c.expect_word.ensures c.args.text.now c.loop-c.x c.word_at-c.ensures c.requires.1)

pub name_end-requires-in-loop-c : goal.name_end-requires-in-loop-c
name_end-requires-in-loop-c c = (c.word_at-c.ensures.onward (λ z. omega (arith, c.if-c-ne-COMMA.false))).lexed

pub loop-c-smaller : goal.loop-c-smaller
loop-c-smaller c = omega (arith, (c.word_at-c.ensures.onward (λ z. omega (arith, c.if-c-ne-COMMA.false))).fewer, c.in_ok-x-2.ensures.fewer)

pub loop-c-preserved : goal.loop-c-preserved
loop-c-preserved c = λ n h. loop-turn c.args.text.now (list_more name_end) (λ us. is comma us) (λ us. name_end (behind us)) (λ r us. refl) (λ us. expect_code c.args.closes us) (names_list c.args.closes n (from c.args.text.now c.args.at)) (length (from c.args.text.now c.args.at)) c.loop-c.x (c.loop-c.invariant n h) (is_yes c.args.text.now c.loop-c.x (said_word c.word_at-c.result) c.word_at-c.ensures comma c.if-c-ne-COMMA.false) _ (Ok c.in_ok-x-2.x) (ends_as c.args.text.now _ (length (from c.args.text.now c.word_at-c.result.end)) _ _ (Ok c.in_ok-x-2.x) (omega arith) (ap (λ (us : List Word). name_end us) (c.word_at-c.ensures.onward (λ z. omega (arith, c.if-c-ne-COMMA.false))).rest) c.in_ok-x-2.ensures) (omega (arith, (c.word_at-c.ensures.onward (λ z. omega (arith, c.if-c-ne-COMMA.false))).fewer))

pub returns-in_err-x-2 : goal.returns-in_err-x-2
returns-in_err-x-2 c = λ n h. ends_passed c.args.text.now _ _ c.from_residual-in_err-x-2.result _ c.from_residual-in_err-x-2.ensures.1 (loop_bad _ _ _ _ _ c.in_err-x-2.field-0.0 (loop-turn c.args.text.now (list_more name_end) (λ us. is comma us) (λ us. name_end (behind us)) (λ r us. refl) (λ us. expect_code c.args.closes us) (names_list c.args.closes n (from c.args.text.now c.args.at)) (length (from c.args.text.now c.args.at)) c.loop-c.x (c.loop-c.invariant n h) (is_yes c.args.text.now c.loop-c.x (said_word c.word_at-c.result) c.word_at-c.ensures comma c.if-c-ne-COMMA.false) 0 (Err c.in_err-x-2.field-0.0) (ap (λ (us : List Word). name_end us) (c.word_at-c.ensures.onward (λ z. omega (arith, c.if-c-ne-COMMA.false))).rest ∙ c.in_err-x-2.ensures) (omega arith)))

-- `grammar::line_end` meets its contract. The invariant: the rounds that are left read what is left of the list. Assumes nothing.
use Prim.Native.Nat.{◌+◌}
use mathlib.Core.Path.{◌∙◌, refl, ap}
use mathlib.Core.Bool.{false}
use mathlib.Core.List.{List}
use native.Mathlib.Omega.{arith}
use lib.ListN.{length}
use Rattle.calculus.specs.Answer.{good}
use Rattle.notation_calculus.specs.Words.{comma, Word}
use Rattle.notation_calculus.specs.Grammar.{behind, is}
use Rattle.words.specs.Next.{said_word}
use Rattle.words.specs.Lexed.{from}
use Rattle.grammar.specs.Ends.{type_step}
use Rattle.grammar.specs.Skips.{list_more, list_end}
use Rattle.grammar.proofs.EndLaws.{ends_passed, is_yes, is_no, ends_as}
use Rattle.grammar.proofs.LoopLaws.{loop_bad, loop-stop, loop-turn}
use Rattle.grammar.proofs.NameLaws.{loop_done}
use Rattle.grammar.proofs.ItemLaws.{line_first}
use Rattle.std.proofs.Common.{Ok, Err}
use Rattle.grammar.proofs.items.line_end.Goals as goal

pub type_end-requires : goal.type_end-requires
type_end-requires c = c.requires

pub loop-c-init : goal.loop-c-init
loop-c-init c = λ n h. line_first c.args.text.now c.args.at n (type_step c.args.more false) (Ok c.in_ok-t.t) h c.in_ok-t.ensures

pub word_at-c-requires : goal.word_at-c-requires
word_at-c-requires c = ((c.loop-c.invariant (length (from c.args.text.now c.args.at) + 1) (omega arith)).ends).lexed

pub returns-then-c-ne-COMMA : goal.returns-then-c-ne-COMMA
returns-then-c-ne-COMMA c = λ n h. loop_done c.args.text.now (list_more (type_step c.args.more false)) (λ us. good us) _ _ c.loop-c.t (c.loop-c.invariant n h) (loop-stop c.args.text.now (list_more (type_step c.args.more false)) (λ us. is comma us) (λ us. type_step c.args.more false (behind us)) (λ r us. refl) (λ us. good us) (list_end (type_step c.args.more false) n (from c.args.text.now c.args.at)) (length (from c.args.text.now c.args.at)) c.loop-c.t (c.loop-c.invariant n h) (is_no c.args.text.now c.loop-c.t (said_word c.word_at-c.result) c.word_at-c.ensures comma c.if-c-ne-COMMA.true))

pub type_end-requires-in-loop-c : goal.type_end-requires-in-loop-c
type_end-requires-in-loop-c c = (c.word_at-c.ensures.onward (λ z. omega (arith, c.if-c-ne-COMMA.false))).lexed

pub loop-c-smaller : goal.loop-c-smaller
loop-c-smaller c = omega (arith, (c.word_at-c.ensures.onward (λ z. omega (arith, c.if-c-ne-COMMA.false))).fewer, c.in_ok-t-2.ensures.fewer)

pub loop-c-preserved : goal.loop-c-preserved
loop-c-preserved c = λ n h. loop-turn c.args.text.now (list_more (type_step c.args.more false)) (λ us. is comma us) (λ us. type_step c.args.more false (behind us)) (λ r us. refl) (λ us. good us) (list_end (type_step c.args.more false) n (from c.args.text.now c.args.at)) (length (from c.args.text.now c.args.at)) c.loop-c.t (c.loop-c.invariant n h) (is_yes c.args.text.now c.loop-c.t (said_word c.word_at-c.result) c.word_at-c.ensures comma c.if-c-ne-COMMA.false) _ (Ok c.in_ok-t-2.t) (ends_as c.args.text.now _ (length (from c.args.text.now c.word_at-c.result.end)) _ _ (Ok c.in_ok-t-2.t) (omega arith) (ap (λ (us : List Word). type_step c.args.more false us) (c.word_at-c.ensures.onward (λ z. omega (arith, c.if-c-ne-COMMA.false))).rest) c.in_ok-t-2.ensures) (omega (arith, (c.word_at-c.ensures.onward (λ z. omega (arith, c.if-c-ne-COMMA.false))).fewer))

pub returns-in_err-t-2 : goal.returns-in_err-t-2
returns-in_err-t-2 c = λ n h. ends_passed c.args.text.now _ _ c.from_residual-in_err-t-2.result _ c.from_residual-in_err-t-2.ensures.1 (loop_bad _ _ _ _ _ c.in_err-t-2.field-0.0 (loop-turn c.args.text.now (list_more (type_step c.args.more false)) (λ us. is comma us) (λ us. type_step c.args.more false (behind us)) (λ r us. refl) (λ us. good us) (list_end (type_step c.args.more false) n (from c.args.text.now c.args.at)) (length (from c.args.text.now c.args.at)) c.loop-c.t (c.loop-c.invariant n h) (is_yes c.args.text.now c.loop-c.t (said_word c.word_at-c.result) c.word_at-c.ensures comma c.if-c-ne-COMMA.false) 0 (Err c.in_err-t-2.field-0.0) (ap (λ (us : List Word). type_step c.args.more false us) (c.word_at-c.ensures.onward (λ z. omega (arith, c.if-c-ne-COMMA.false))).rest ∙ c.in_err-t-2.ensures) (omega arith)))

-- `grammar::names_end` meets its contract. The invariant: the rounds that are left read what is left of the names. Assumes nothing.
use Prim.Native.Nat.{◌+◌}
use mathlib.Core.Path.{refl, ap}
use mathlib.Core.Bool.{not}
use native.Mathlib.Omega.{arith}
use lib.ListN.{length}
use Rattle.calculus.specs.Answer.{good}
use Rattle.notation_calculus.specs.Words.{colon}
use Rattle.notation_calculus.specs.Grammar.{is}
use Rattle.words.specs.Next.{said_word}
use Rattle.words.specs.Lexed.{from}
use Rattle.grammar.specs.Skips.{name_end, names_more_lem, names_end}
use Rattle.grammar.proofs.EndLaws.{ends_passed, is_yes, is_no}
use Rattle.grammar.proofs.LoopLaws.{loop_bad, loop-stop, loop-turn}
use Rattle.grammar.proofs.NameLaws.{loop_done, names-first}
use Rattle.std.proofs.Common.{Ok, Err}
use Rattle.grammar.proofs.names.names_end.Goals as goal

pub name_end-requires : goal.name_end-requires
name_end-requires c = c.requires

pub loop-at-init : goal.loop-at-init
loop-at-init c = λ n h. names-first c.args.text.now c.args.at n h (Ok c.in_ok-x.x) c.in_ok-x.ensures

pub word_at-c-requires : goal.word_at-c-requires
word_at-c-requires c = ((c.loop-at.invariant (length (from c.args.text.now c.args.at) + 1) (omega arith)).ends).lexed

pub returns-then-c-eq-COLON : goal.returns-then-c-eq-COLON
returns-then-c-eq-COLON c = λ n h. loop_done c.args.text.now names_more_lem (λ us. good us) _ _ c.loop-at.x (c.loop-at.invariant n h) (loop-stop c.args.text.now names_more_lem (λ us. not (is colon us)) (λ us. name_end us) (λ r us. refl) (λ us. good us) (names_end n (from c.args.text.now c.args.at)) (length (from c.args.text.now c.args.at)) c.loop-at.x (c.loop-at.invariant n h) (ap not (is_yes c.args.text.now c.loop-at.x (said_word c.word_at-c.result) c.word_at-c.ensures colon c.if-c-eq-COLON.true)))

pub name_end-requires-in-loop-at : goal.name_end-requires-in-loop-at
name_end-requires-in-loop-at c = ((c.loop-at.invariant (length (from c.args.text.now c.args.at) + 1) (omega arith)).ends).lexed

pub loop-at-smaller : goal.loop-at-smaller
loop-at-smaller c = omega (arith, c.in_ok-x-2.ensures.fewer)

pub loop-at-preserved : goal.loop-at-preserved
loop-at-preserved c = λ n h. loop-turn c.args.text.now names_more_lem (λ us. not (is colon us)) (λ us. name_end us) (λ r us. refl) (λ us. good us) (names_end n (from c.args.text.now c.args.at)) (length (from c.args.text.now c.args.at)) c.loop-at.x (c.loop-at.invariant n h) (ap not (is_no c.args.text.now c.loop-at.x (said_word c.word_at-c.result) c.word_at-c.ensures colon c.if-c-eq-COLON.false)) _ (Ok c.in_ok-x-2.x) c.in_ok-x-2.ensures (omega arith)

pub returns-in_err-x-2 : goal.returns-in_err-x-2
returns-in_err-x-2 c = λ n h. ends_passed c.args.text.now _ _ c.from_residual-in_err-x-2.result _ c.from_residual-in_err-x-2.ensures.1 (loop_bad _ _ _ _ _ c.in_err-x-2.field-0.0 (loop-turn c.args.text.now names_more_lem (λ us. not (is colon us)) (λ us. name_end us) (λ r us. refl) (λ us. good us) (names_end n (from c.args.text.now c.args.at)) (length (from c.args.text.now c.args.at)) c.loop-at.x (c.loop-at.invariant n h) (ap not (is_no c.args.text.now c.loop-at.x (said_word c.word_at-c.result) c.word_at-c.ensures colon c.if-c-eq-COLON.false)) 0 (Err c.in_err-x-2.field-0.0) c.in_err-x-2.ensures (omega arith)))

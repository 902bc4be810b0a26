-- `translation::run` meets its contract: what was made is checked and written, and a refusal passes through. Assumes nothing.
use mathlib.Core.Path.{sym, subst, ◌∙◌}
use Prim.Native.Nat.{ℕ}
use Rattle.answers.proofs.Passed.{passed}
use Rattle.std.specs.declared.result.Result.{Result}
use Rattle.answers.specs.declared.Refusal.{Refusal}
use Rattle.export_calculus.specs.CardCall.{card_answer}
use Rattle.translator.specs.Said.{AnswerSays}
use lib.ListN.{length}
use Rattle.translator.proofs.Lent.{net-named, net-lent, net-root, refusal-lent}
use Rattle.translation.specs.Wished.{said_wish}
use Rattle.translator.proofs.CallLaws.{refused_says}
use Rattle.translation.proofs.CallLaws.{answer-lent, net_says}
use Rattle.translation.proofs.CardLaws.{check-same}
use Rattle.translation.proofs.run.Goals as goal

pub returns-in_err-made : goal.returns-in_err-made
returns-in_err-made c =
    let a = c.args in (
      subst (λ (x : Result ℕ Refusal). AnswerSays x a.out.now a.out.now (card_answer a.wish.card (length a.work.now) (said_wish a.wish) a.sheet.now (length a.out.now))) (sym (passed _ c.from_residual.ensures.1))
          (refused_says _ _ _ (answer-lent a.wish.card (length a.work.now) (said_wish a.wish) a.sheet.now (length a.out.now)) a.out.now _ (refusal-lent a.wish.plain c.make.result a.sheet.now a.work.now _ c.make.ensures _ c.in_err-made.was)),
      c.make.ensures.keeps,
    )

pub returns : goal.returns
returns c =
    let a = c.args in (
      net_says a.wish.card (said_wish a.wish) a.sheet.now a.out.now _ c.write.result _ _ _ (net-lent a.wish.plain c.make.result a.sheet.now a.work.now _ c.make.ensures _ c.in_ok-made.was) (net-named a.wish.plain c.make.result a.sheet.now a.work.now _ c.make.ensures _ c.in_ok-made.was) _ (check-same a.wish.card a.sheet.now _ _ (net-root a.wish.plain c.make.result a.sheet.now a.work.now _ c.make.ensures _ c.in_ok-made.was)) c.write.ensures.0,
      c.write.ensures.1 ∙ c.make.ensures.keeps,
    )

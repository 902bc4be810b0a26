-- `verilog::export_sheet` meets its contract: what was made is exported, and a refusal passes through. Assumes nothing.
use mathlib.Core.Path.{sym, subst, ◌∙◌}
use Prim.Native.Nat.{ℕ}
use Rattle.answers.proofs.Passed.{passed}
use Rattle.std.specs.declared.result.Result.{Result}
use Rattle.answers.specs.declared.Refusal.{Refusal}
use Rattle.export_calculus.specs.Verilog.{export}
use Rattle.translator.specs.Said.{AnswerSays}
use mathlib.Core.Bool.{true}
use lib.ListN.{length}
use Rattle.translator.proofs.Lent.{net-lent, refusal-lent}
use Rattle.translator.proofs.CallLaws.{refused_says, net_says}
use Rattle.verilog.proofs.CallLaws.{export-lent}
use Rattle.verilog.proofs.export_sheet.Goals as goal

pub returns-in_err-made : goal.returns-in_err-made
returns-in_err-made c =
    let a = c.args in (
      subst (λ (x : Result ℕ Refusal). AnswerSays x a.out.now a.out.now (export (length a.work.now) a.sheet.now (length a.out.now))) (sym (passed _ c.from_residual.ensures.1))
          (refused_says _ _ _ (export-lent (length a.work.now) a.sheet.now (length a.out.now)) a.out.now _ (refusal-lent true c.make.result a.sheet.now a.work.now _ c.make.ensures _ c.in_err-made.was)),
      c.make.ensures.keeps,
    )

pub returns : goal.returns
returns c =
    let a = c.args in (
      net_says _ _ _ (export-lent (length a.work.now) a.sheet.now (length a.out.now)) a.out.now c.export_net.result _ _ (net-lent true c.make.result a.sheet.now a.work.now _ c.make.ensures _ c.in_ok-made.was) c.export_net.ensures.0,
      c.export_net.ensures.1 ∙ c.make.ensures.keeps,
    )

-- `translator::word` meets its contract: each part fits its bits, since what is larger shows as the largest number. Assumes nothing.
use mathlib.Core.Path.{sym, ap, ◌∙◌}
use Rattle.translator.specs.Said.{said_answer}
use Rattle.answers.specs.Word.{packed}
use Prim.Native.Nat.{ℕ}
use Rattle.std.specs.declared.result.Result.{Result}
use Rattle.answers.specs.declared.Refusal.{Refusal}
use Rattle.translator.proofs.word.Goals as goal

pub returns-in-Ok : goal.returns-in-Ok
returns-in-Ok c =
    c.shown.ensures ∙ sym (ap (λ (x : Result ℕ Refusal). packed (said_answer x)) c.in-Ok.is)

pub returns-in-Err : goal.returns-in-Err
returns-in-Err c =
    rw (c.refusal_word.ensures, c.number.ensures) (sym (ap (λ (x : Result ℕ Refusal). packed (said_answer x)) c.in-Err.is))

-- What a call over a sheet answers, by what its stages found: for every call that writes, `a` its answer and f what it makes of the full
-- netlist. Assumes nothing.
use Prim.Native.Nat.{ℕ}
use mathlib.Core.Path.{◌≡◌, refl}
use mathlib.Core.List.{List}
use Rattle.calculus.specs.Answer.{Answer, good, refused, ◌>>=◌}
use Rattle.calculus.specs.Net.{Net}
use Rattle.calculus.specs.Translate.{said_of, out_of, work_of}
use Rattle.answers.specs.declared.Refusal.{Refusal}
use Rattle.answers.specs.Refusals.{said_why}
use Rattle.translator.specs.Made.{lent, Keeps}
use Rattle.translator.specs.Said.{AnswerSays, called}
use Rattle.std.specs.declared.result.Result.{Result}
use Rattle.std.specs.declared.result.Result.TheVariants.{Err}

module _ (memory : ℕ) (s : List ℕ) (f : Net → Answer (List ℕ)) {a : Answer (List ℕ)} (e : a ≡ (lent memory s >>= f)) (out : List ℕ) where
  -- a refusal passes through
  pub refused_says : (why : Refusal) → refused (said_why why) ≡ lent memory s → AnswerSays (Err why) out out a
  refused_says why h = rw (e, ← h) (record { said = refl; wrote = refl })

  -- a netlist that stands in the working memory is the sheet's
  pub net_says : (r : Result ℕ Refusal) (after : List ℕ) (m : Net) → good m ≡ lent memory s → AnswerSays r out after (f m) → AnswerSays r out after a
  net_says r after m h g = rw (e, ← h) g

-- after the stages, the working memory is cleared
pub call-run : {a : Answer (List ℕ)} {out after : List ℕ} {r : Result ℕ Refusal} (work mid : List ℕ) → AnswerSays r out after a → Keeps work mid
    → called r after (work_of mid) ≡ record { said = said_of a; out = out_of a out; work = work_of work }
call-run work mid h k = rw (h.said, h.wrote, k)

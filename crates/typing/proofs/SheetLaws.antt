-- The walk over a whole sheet: it starts from what the reader guarantees, and its answer is the sheet's. Assumes nothing.
use Prim.Native.Nat.{ℕ}
use mathlib.Core.Path.{◌≡◌, ap, ◌∙◌}
use mathlib.Core.List.{List, []}
use native.Mathlib.Omega.{arith}
use Rattle.calculus.specs.Answer.{good, refused}
use Rattle.calculus.specs.Terms.{Edition}
use Rattle.calculus.specs.Walk.{Stack, walk}
use Rattle.sheet_theorems.proofs.Laying.{records-laid, records_edition}
use Rattle.sheet_theorems.proofs.Standing.{sheet-stands}
use Rattle.binders.specs.declared.Binders.{Binders}
use Rattle.binders.specs.Stacks.{stack_of}
use Rattle.std.specs.declared.result.Result.TheVariants.{Err}
use Rattle.typing.specs.Verdicts.{fine_at}
use Rattle.answers.specs.declared.Refusal.{Refusal}
use Rattle.typing.specs.declared.Checked.{Checked}
use Rattle.answers.specs.Refusals.{said_why}
use Rattle.typing.specs.Verdicts.{held, said}
use Rattle.typing.specs.Answers.{check_of, TermAt}
use Rattle.typing.specs.Walkable.{Walkable, Walked}
use Rattle.typing.proofs.VerdictLaws.{said_fine, said_refused}
use Rattle.records.proofs.ToldLaws.{sheet-types}

module _ {s : List ℕ} {l : ℕ} {E : Edition} {at : ℕ} (term : TermAt s l E at) (b : Binders) (empty : stack_of b ≡ []) where
  pub sheet-fits : Walkable s l E at 0 term.sheet.table term.sheet.term (stack_of b)
  sheet-fits =
      let w = records-laid E s term.sheet term.short term.read in
      rw (empty, term.start)
      (record {
        table = w.table;
        count = term.count;
        types = sheet-types s term.sheet w;
        stands = sheet-stands w;
        ranged = rw (← records_edition E s term.sheet term.read) w.ranged;
        numbers = tt;
        room = omega (arith, w.deep);
        few = omega (arith, w.few);
      })

  module _ (c : Checked) (w : Walked s l E at 0 b c) where
    walk-said : said (held b c) ≡ walk E term.sheet.table term.sheet.term 0 []
    walk-said = (w _ _ sheet-fits).answer ∙ ap (λ (x : Stack). walk E term.sheet.table term.sheet.term 0 x) empty

    pub check-fine : {t i j : ℕ} → c.verdict ≡ fine_at t i j → good t ≡ check_of E s
    unfolding check_of
    check-fine v = rw (term.read, records_edition E s term.sheet term.read, ← walk-said, said_fine (held b c) v)

    pub check_refused : {r : Refusal} → c.verdict ≡ Err r → refused (said_why r) ≡ check_of E s
    unfolding check_of
    check_refused v = rw (term.read, records_edition E s term.sheet term.read, ← walk-said, said_refused (held b c) v)

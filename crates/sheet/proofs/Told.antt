-- What a caller of `read` is told: the sheet, its counts and the sizes of its types; or its refusal. Assumes nothing.
use Prim.Native.Nat.{ℕ}
use mathlib.Core.Path.{◌≡◌, refl, sym, ap, ◌∙◌}
use mathlib.Core.List.{List}
use Rattle.records.specs.Told.{Told}
use Rattle.calculus.specs.Answer.{Answer, good, refused}
use Rattle.calculus.proofs.Answers.{refused≢good, good-inj, refused-inj}
use Rattle.calculus.specs.Read.{Sheet, read_sheet}
use Rattle.sheet.specs.Sheets.{ReadSaid, said_reading, reading_of}
use Rattle.std.specs.declared.result.Result.{Result}
use Rattle.std.specs.declared.result.Result.TheVariants.{Ok, Err}
use Rattle.answers.specs.declared.Refusal.{Refusal as Why}
use Rattle.answers.specs.Refusals.{said_why}
use Rattle.sheet.specs.declared.Reading.{Reading}

told_by : (s : List ℕ) (r : Reading) (a : Answer Sheet) → read_sheet s ≡ a → said_reading (Ok r) ≡ reading_of a → Told s r.sizes r.types r.nodes r.start
unfolding reading_of
told_by s r (good σ) e h =
    let f = good-inj h in
    record {
      sheet = σ;
      is = e;
      types_are = ap (λ (c : ReadSaid). c.types) f;
      nodes_are = ap (λ (c : ReadSaid). c.nodes) f;
      start_is = ap (λ (c : ReadSaid). c.start) f;
      sizes_are = ap (λ (c : ReadSaid). c.sizes) f;
    }
told_by s r (refused why) e h = absurd (refused≢good (sym h))

pub told : (s : List ℕ) {q : Result Reading Why} (r : Reading) → said_reading q ≡ reading_of (read_sheet s) → q ≡ Ok r → Told s r.sizes r.types r.nodes r.start
told s r h v = told_by s r (read_sheet s) refl (ap said_reading (sym v) ∙ h)

untold_by : (s : List ℕ) (why : Why) (a : Answer Sheet) → read_sheet s ≡ a → said_reading (Err why) ≡ reading_of a → read_sheet s ≡ refused (said_why why)
unfolding reading_of
untold_by s why (good σ) e h = absurd (refused≢good h)
untold_by s why (refused that) e h = e ∙ ap refused (sym (refused-inj h))

-- a refused sheet
pub untold : (s : List ℕ) {q : Result Reading Why} (why : Why) → said_reading q ≡ reading_of (read_sheet s) → q ≡ Err why → read_sheet s ≡ refused (said_why why)
untold s why h v = untold_by s why (read_sheet s) refl (ap said_reading (sym v) ∙ h)

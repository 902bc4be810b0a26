-- The contract of the writer determines its answer, the output and the places, where a sheet stands in the memory: two results that it
-- allows for one call are equal. Assumes nothing.
use Prim.Native.Nat.{ℕ}
use mathlib.Core.Path.{◌≡◌, refl, sym, ◌∙◌}
use mathlib.Core.Bool.{Bool, true, false}
use mathlib.Core.List.{List}
use lib.Dec.{eqb}
use lib.ListN.{get_or}
use Rattle.std.proofs.Common.{Result, Ok, Err}
use Rattle.answers.specs.declared.Refusal.{Refusal}
use Rattle.answers.proofs.Reasons.{same_why}
use Rattle.calculus.specs.Terms.{Edition, first, second, is_second}
use Rattle.calculus.proofs.Answers.{refused≢good, refused-inj}
use Rattle.making_memory.specs.Map.{second_at_lem}
use Rattle.sheet_writer.specs.Wrote.{SheetStands, said_wrote, SheetWrote}

one_answer : (r q : Result ℕ Refusal) → said_wrote r ≡ said_wrote q → r ≡ q
one_answer (Ok n) (Ok m) e = let h : n ≡ m = cc in rw h
one_answer (Ok n) (Err f) e = absurd (refused≢good (sym e))
one_answer (Err f) (Ok n) e = absurd (refused≢good e)
one_answer (Err f) (Err g) e = rw (same_why f g (refused-inj e))

-- the memory says some edition
edition_of_lem : (b : Bool) → (E : Edition) × (b ≡ is_second E)
edition_of_lem true = (second, refl)
edition_of_lem false = (first, refl)

pub determined_write :
    (w : List ℕ) (root : ℕ) (out places : List ℕ) (r q : Result ℕ Refusal) (out₁ places₁ out₂ places₂ : List ℕ) → SheetStands w root → SheetWrote w root out places r out₁ places₁ → SheetWrote w root out places q out₂ places₂
    → (r ≡ q) × ((out₁ ≡ out₂) × (places₁ ≡ places₂))
determined_write w root out places r q out₁ places₁ out₂ places₂ S A B =
    let E = edition_of_lem (eqb (get_or w second_at_lem 0) 1) in
    let a = A.says E.0 S.table S.term.term S.term.places E.1 S.types S.term.stands in
    let b = B.says E.0 S.table S.term.term S.term.places E.1 S.types S.term.stands in
    (one_answer r q (a.said ∙ sym b.said), (a.left ∙ sym b.left, a.left_places ∙ sym b.left_places))

-- Laws of rows that are written one behind the other. Assumes nothing.
use Prim.Native.Nat.{ℕ, zero, suc, ◌+◌, ◌*◌, ◌≤◌}
use mathlib.Core.Path.{◌≡◌, refl, sym, ap, ◌∙◌}
use mathlib.Core.List.{List, [], ◌∷◌, ◌++◌}
use native.Mathlib.Omega.{arith}
use native.Mathlib.Numerals.{add-one}
use lib.ListN.{length, replicate, length-append, length-replicate}
use lib.Seq.{sets}
use Rattle.std.proofs.lemmas.List.{replicate-append-replicate}
use borrow.Rule.Slice.PartMut.{put_mid}
use Rattle.laws.proofs.Regions.{written-more}
use Rattle.foreign.proofs.TableLaws.{run_written}
use Rattle.back.specs.Rows.{rows_up_to, application_row}

module _ (f : ℕ → List ℕ) (w : ℕ) (width : (j : ℕ) → length (f j) ≡ w) where
  pub rows-length : (n : ℕ) → length (rows_up_to f n) ≡ w * n
  rows-length zero = omega arith
  rows-length (suc n) = omega (arith, length-append (rows_up_to f n) (f n), rows-length n, width n)

  -- one row behind those that stand
  pub rows_more : (out : List ℕ) (from at j : ℕ) → at ≡ from + w * j → sets (sets out from (rows_up_to f j)) at (f j) ≡ sets out from (rows_up_to f (j + 1))
  rows_more out from at j h = rw (add-one j) (written-more out (rows_up_to f j) (f j) from at (omega (arith, rows-length j)))

-- applications are a run of one byte
pub applications : (n : ℕ) → replicate n 0x14 ≡ rows_up_to application_row n
applications zero = refl
applications (suc n) =
    let z : n + 1 ≡ suc n = omega arith in
    ap (λ (k : ℕ). replicate k 0x14) (sym z) ∙ sym (replicate-append-replicate n 1 0x14) ∙ ap (λ (l : List ℕ). l ++ (0x14 ∷ [])) (applications n)

pub applied : (w : List ℕ) (i n : ℕ) → i + n ≤ length w → put_mid i n w (replicate n 0x14) ≡ sets w i (rows_up_to application_row n)
applied w i n h = run_written w (replicate n 0x14) i n (length-replicate n 0x14) h ∙ ap (sets w i) (applications n)

-- What `size_of` says of a type record, by the facts that the tests find one after the other. Assumes nothing.
use Prim.Native.Nat.{ℕ, ◌≤◌, ◌<◌}
use mathlib.Core.Path.{◌≡◌, ◌∙◌}
use mathlib.Core.Bool.{true, false}
use mathlib.Core.List.{List, []}
use borrow.Author.Tests.{lt-ltb, le-ltb, le-leb, lt-leb}
use lib.ListN.{length}
use Rattle.calculus.specs.Answer.{good, refuse}
use Rattle.calculus.specs.Types.{size, TyRec, Table, ty_of, tys_from}
use Rattle.calculus.specs.Read.{known, formed, repeated}
use Rattle.sheet.specs.Tables.{table_in, known_below, formed_in, size_in, Before, size_of}
use Rattle.sheet.proofs.TableLaws.{table-count, known_by, formed_by, size_by}

-- over any table
module _ (Θ : Table) (q : TyRec) (at : ℕ) where
  many : 256 ≤ length Θ → refuse 8 at ≡ size_of Θ q at
  unfolding size_of
  many h = simp (le-ltb (length Θ) 256 h)

  module _ (few : length Θ < 256) where
    unknown : known Θ q ≡ false → refuse 5 at ≡ size_of Θ q at
    unfolding size_of
    unknown k = simp (lt-ltb (length Θ) 256 few, k)

    module _ (k : known Θ q ≡ true) where
      misformed : formed Θ q ≡ false → refuse 6 at ≡ size_of Θ q at
      unfolding size_of
      misformed f = simp (lt-ltb (length Θ) 256 few, k, f)

      module _ (f : formed Θ q ≡ true) where
        again : repeated Θ q ≡ true → refuse 7 at ≡ size_of Θ q at
        unfolding size_of
        again r = simp (lt-ltb (length Θ) 256 few, k, f, r)

        module _ (r : repeated Θ q ≡ false) where
          large : 128 < size (ty_of (tys_from [] Θ) q) → refuse 8 at ≡ size_of Θ q at
          unfolding size_of
          large l = simp (lt-ltb (length Θ) 256 few, k, f, r, lt-leb _ _ l)

          sized : size (ty_of (tys_from [] Θ) q) ≤ 128 → good (size (ty_of (tys_from [] Θ) q)) ≡ size_of Θ q at
          unfolding size_of
          sized l = simp (lt-ltb (length Θ) 256 few, k, f, r, le-leb _ _ l)

-- over the table that the sheet's bytes hold, by the tests of the code
module _ {s : List ℕ} {count : ℕ} {sizes : List ℕ} (b : Before s count sizes) (q : TyRec) (at : ℕ) where
  pub check_many : 256 ≤ count → refuse 8 at ≡ size_of (table_in s count) q at
  check_many h = many (table_in s count) q at (rw (table-count s count) h)

  module _ (few : count < 256) where
    pub check-unknown : known_below count q ≡ false → refuse 5 at ≡ size_of (table_in s count) q at
    check-unknown k = unknown (table_in s count) q at (rw (table-count s count) few) (known_by s count q ∙ k)

    module _ (k : known_below count q ≡ true) where
      pub check-misformed : formed_in s q ≡ false → refuse 6 at ≡ size_of (table_in s count) q at
      check-misformed f = misformed (table_in s count) q at (rw (table-count s count) few) (known_by s count q ∙ k) (formed_by s count b.ok q k ∙ f)

      module _ (f : formed_in s q ≡ true) where
        pub check-again : repeated (table_in s count) q ≡ true → refuse 7 at ≡ size_of (table_in s count) q at
        check-again = again (table_in s count) q at (rw (table-count s count) few) (known_by s count q ∙ k) (formed_by s count b.ok q k ∙ f)

        size_is : size_in sizes q ≡ size (ty_of (tys_from [] (table_in s count)) q)
        size_is = rw b.sizes_are (size_by (table_in s count) q (rw (table-count s count) k))

        module _ (r : repeated (table_in s count) q ≡ false) where
          pub check-large : 128 < size_in sizes q → refuse 8 at ≡ size_of (table_in s count) q at
          check-large l = large (table_in s count) q at (rw (table-count s count) few) (known_by s count q ∙ k) (formed_by s count b.ok q k ∙ f) r (rw size_is at l)

          pub check-sized : size_in sizes q ≤ 128 → good (size_in sizes q) ≡ size_of (table_in s count) q at
          check-sized l = rw size_is (sized (table_in s count) q at (rw (table-count s count) few) (known_by s count q ∙ k) (formed_by s count b.ok q k ∙ f) r (rw size_is at l))

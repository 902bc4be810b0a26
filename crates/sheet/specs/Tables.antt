-- The types of a sheet by their numbers: the records of the first n types, each record's tests, and the table of sizes. Assumes nothing.
use Rattle.std.specs.Prelude.{ℕ, zero, suc, ◌+◌, Bool, true, ◌&&◌, ◌≡◌, Result, Ok, Err, List, [], ◌∷◌, ◌++◌, ltb, length, get_or}
use Rattle.calculus.specs.Answer.{Answer, good, refused, ◌>>=◌, need}
use Rattle.calculus.specs.Types.{size, TyRec, rec01, rec02, rec03, rec04, Table, ty_of, tys_from}
use Rattle.calculus.specs.Read.{check_type}
use Rattle.sheet_theorems.specs.Laid.{TableOk}
use Rattle.sheet_theorems.specs.Records.{sharable_rec, arrow_rec}
use Rattle.records.specs.Forms.{rec_in}
use Rattle.records.specs.Told.{sizes_of}
use Rattle.answers.specs.declared.Refusal.{Refusal}
use Rattle.answers.specs.Refusals.{said_why}

-- the records of the first n types, as the sheet's bytes hold them
unfoldable pub table_in : List ℕ → ℕ → Table
table_in s zero = []
table_in s (suc n) = table_in s n ++ rec_in s n ∷ []

-- ---- by the record alone

-- both type numbers are below n
abbrev pub known_below : ℕ → TyRec → Bool
known_below n rec01 = true
known_below n (rec02 a b) = ltb a n && ltb b n
known_below n (rec03 a b) = ltb a n && ltb b n
known_below n (rec04 a b) = ltb a n && ltb b n

-- the table's left and right rule
abbrev pub formed_in : List ℕ → TyRec → Bool
formed_in s rec01 = true
formed_in s (rec02 a b) = sharable_rec (rec_in s a) && sharable_rec (rec_in s b)
formed_in s (rec03 a b) = sharable_rec (rec_in s a)
formed_in s (rec04 a b) = arrow_rec (rec_in s a)

-- the size, over the sizes of earlier types
abbrev pub size_in : List ℕ → TyRec → ℕ
size_in sizes rec01 = 1
size_in sizes (rec02 a b) = get_or sizes a 0 + get_or sizes b 0
size_in sizes (rec03 a b) = get_or sizes a 0 + get_or sizes b 0
size_in sizes (rec04 a b) = get_or sizes a 0 + get_or sizes b 0

-- ---- a record against those before it

-- what is known where a type record is checked: the earlier ones are in order, and their sizes are in the table
pub record Before (s : List ℕ) (count : ℕ) (sizes : List ℕ) : Type 0 where
  pub ok : TableOk (table_in s count)
  pub sizes_are : sizes ≡ sizes_of (table_in s count)

-- count (8), then the tests of `check_type`; the size of the type
unfoldable pub size_of : Table → TyRec → ℕ → Answer ℕ
size_of Θ q at = do
  _ ← need (ltb (length Θ) 256) 8 at
  _ ← check_type Θ q at
  good (size (ty_of (tys_from [] Θ) q))

abbrev pub said_checked : Result ℕ Refusal → Answer ℕ
said_checked (Ok n) = good n
said_checked (Err why) = refused (said_why why)

-- What `check` asks for and what it answers: the type number of a read sheet's term, or a refusal. Assumes nothing.
use Rattle.std.specs.Prelude.{ℕ, ◌≤◌, ◌≡◌, Result, Ok, Err, List, [], length}
use Rattle.calculus.specs.Answer.{Answer, good, refused, ◌>>=◌}
use Rattle.calculus.specs.Read.{Sheet, read_records}
use Rattle.calculus.specs.Terms.{Edition}
use Rattle.calculus.specs.Write.{table_bytes}
use Rattle.calculus.specs.Walk.{walk}
use Rattle.answers.specs.Refusals.{said_why}
use Rattle.answers.specs.declared.Refusal.{Refusal}

-- the records of a sheet that has been read, with l types, whose term starts at an offset
pub record TermAt (s : List ℕ) (l : ℕ) (E : Edition) (at : ℕ) : Type 0 where
  pub sheet : Sheet
  pub short : length s ≤ 16384
  pub read : read_records E s ≡ Answer.good sheet
  pub count : l ≡ length sheet.table
  pub start : at ≡ length (table_bytes sheet.table)

abbrev pub said_typing : Result ℕ Refusal → Answer ℕ
said_typing (Ok t) = good t
said_typing (Err r) = refused (said_why r)

-- the type number of a sheet's term, by the walk from no binders
abbrev pub type_of : Sheet → Answer ℕ
type_of σ = walk σ.edition σ.table σ.term 0 [] >>= λ r. good r.type

-- the reader, then the walk
unfoldable pub check_of : Edition → List ℕ → Answer ℕ
check_of E s = read_records E s >>= type_of

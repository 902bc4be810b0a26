-- The stretch of a node (document 01, "For showing a fault .."): the part of the sheet that holds this node and its subterms. Assumes nothing.
use Rattle.std.specs.Prelude.{ℕ, ◌+◌, List, [], ◌∷◌, ◌++◌, length, get_or, take, drop}
use Rattle.calculus.specs.Answer.{Answer, good, refused}
use Rattle.calculus.specs.Terms.{opening, Term, var, lvar, fun, app, lfun, lapp, pair, proj, fix, con, name}
use Rattle.calculus.specs.Read.{Sheet, read_sheet}
use Rattle.calculus.specs.Write.{table_bytes, term_bytes}

-- a part of the sheet
pub record Stretch : Type 0 where
  pub start : ℕ
  pub size : ℕ

abbrev pub stretch : ℕ → ℕ → Stretch
stretch a n = record { start = a; size = n }

-- the empty part
abbrev pub nowhere : Stretch
nowhere = stretch 0 0

abbrev pub whole : Term → ℕ → Stretch
whole e at = stretch at (length (term_bytes e))

-- the stretches of a term's nodes in record order, so node k's is the k-th; the term's first record stands at an offset
abbrev pub stretches : Term → ℕ → List Stretch
stretches (var i) at = whole (var i) at ∷ []
stretches (lvar i) at = whole (lvar i) at ∷ []
stretches (fun t e) at = whole (fun t e) at ∷ stretches e (at + 2)
stretches (app f a) at = whole (app f a) at ∷ (stretches f (at + 1) ++ stretches a (at + 1 + length (term_bytes f)))
stretches (lfun t e) at = whole (lfun t e) at ∷ stretches e (at + 2)
stretches (lapp f a) at = whole (lapp f a) at ∷ (stretches f (at + 1) ++ stretches a (at + 1 + length (term_bytes f)))
stretches (pair t a b) at = whole (pair t a b) at ∷ (stretches a (at + 2) ++ stretches b (at + 2 + length (term_bytes a)))
stretches (proj a e) at = whole (proj a e) at ∷ (stretches a (at + 1) ++ stretches e (at + 1 + length (term_bytes a)))
stretches (fix t e) at = whole (fix t e) at ∷ stretches e (at + 2)
stretches (con p t) at = whole (con p t) at ∷ []
stretches (name a e) at = whole (name a e) at ∷ (stretches a (at + 1) ++ stretches e (at + 1 + length (term_bytes a)))

-- the term stands behind the opening and the table
abbrev pub term_start : Sheet → ℕ
term_start σ = length (opening σ.edition) + length (table_bytes σ.table)

abbrev pub stretch_in : Answer Sheet → ℕ → Stretch
stretch_in (good σ) node = get_or (stretches σ.term (term_start σ)) node nowhere
stretch_in (refused why) node = nowhere

-- empty where refusals 2 to 9 apply or the number is too large
unfoldable pub stretch_of : List ℕ → ℕ → Stretch
stretch_of s node = stretch_in (read_sheet s) node

abbrev pub cut : List ℕ → Stretch → List ℕ
cut s p = take p.size (drop p.start s)

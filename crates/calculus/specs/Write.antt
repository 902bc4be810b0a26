-- The bytes of a sheet (document 01, "The sheet"): those of its table of types and of its term, behind the opening of its edition. A node's
-- stretch is measured by them. Assumes nothing.
use Rattle.std.specs.Prelude.{ℕ, List, [], ◌∷◌, ◌++◌}
use Rattle.calculus.specs.Types.{TyRec, rec01, rec02, rec03, rec04, Table}
use Rattle.calculus.specs.Terms.{Edition, opening, Term, var, lvar, fun, app, lfun, lapp, pair, proj, fix, con, name}

abbrev pub rec_bytes : TyRec → List ℕ
rec_bytes rec01 = 0x01 ∷ []
rec_bytes (rec02 a b) = 0x02 ∷ a ∷ b ∷ []
rec_bytes (rec03 a b) = 0x03 ∷ a ∷ b ∷ []
rec_bytes (rec04 a b) = 0x04 ∷ a ∷ b ∷ []

abbrev pub table_bytes : Table → List ℕ
table_bytes [] = []
table_bytes (r ∷ Θ) = rec_bytes r ++ table_bytes Θ

-- prefix order: a node's record, then its subterms' records
abbrev pub term_bytes : Term → List ℕ
term_bytes (var i) = 0x11 ∷ i ∷ []
term_bytes (lvar i) = 0x12 ∷ i ∷ []
term_bytes (fun t e) = 0x13 ∷ t ∷ term_bytes e
term_bytes (app f a) = 0x14 ∷ (term_bytes f ++ term_bytes a)
term_bytes (lfun t e) = 0x15 ∷ t ∷ term_bytes e
term_bytes (lapp f a) = 0x16 ∷ (term_bytes f ++ term_bytes a)
term_bytes (pair t a b) = 0x17 ∷ t ∷ (term_bytes a ++ term_bytes b)
term_bytes (proj a e) = 0x18 ∷ (term_bytes a ++ term_bytes e)
term_bytes (fix t e) = 0x19 ∷ t ∷ term_bytes e
term_bytes (con p t) = 0x1A ∷ p ∷ t ∷ []
term_bytes (name a e) = 0x1B ∷ (term_bytes a ++ term_bytes e)

unfoldable pub record_bytes : Table → Term → List ℕ
record_bytes Θ e = table_bytes Θ ++ term_bytes e

unfoldable pub sheet_bytes : Edition → Table → Term → List ℕ
sheet_bytes E Θ e = opening E ++ record_bytes Θ e

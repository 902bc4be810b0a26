-- A text for every sheet: each type has a line and a name, `table` gives their order, each binder is named by the number of binders
-- around it, and every subterm of an application stands in parentheses. For the theorem that `make` gives the sheet back; the desk's
-- `show` writes for people. Assumes nothing.
use Rattle.std.specs.Prelude.{ℕ, suc, ◌-◌, List, [], ◌∷◌, ◌++◌, get_or}
use Prim.Native.String.{String}
use Rattle.calculus.specs.Types.{TyRec, rec01, rec02, rec03, rec04, Table, rec_at}
use Rattle.calculus.specs.Terms.{Edition, first, second, Term, var, lvar, fun, app, lfun, lapp, pair, proj, fix, con, name}
use Rattle.calculus.specs.Read.{Sheet}
use Rattle.calculus.specs.Listing.{decimal, names}
use Rattle.notation_calculus.specs.Words.{ascii}

abbrev type_name : ℕ → List ℕ
type_name t = 116 ∷ decimal t  -- t

abbrev binder_name : ℕ → List ℕ
binder_name k = 120 ∷ decimal k  -- x

abbrev sides : String → ℕ → ℕ → List ℕ
sides s a b = type_name a ++ (ascii s ++ type_name b)

abbrev pub rec_text : TyRec → List ℕ
rec_text rec01 = ascii "1"
rec_text (rec02 a b) = sides " * " a b
rec_text (rec03 a b) = sides " -> " a b
rec_text (rec04 a b) = sides " -o " a b

-- the lines of the types from number n on
abbrev pub type_lines : ℕ → Table → List ℕ
type_lines n [] = []
type_lines n (r ∷ Θ) = ascii "type " ++ (type_name n ++ (ascii " = " ++ (rec_text r ++ (ascii "\n" ++ type_lines (suc n) Θ))))

-- the numbers from n on, with commas between
abbrev pub table_list : ℕ → Table → List ℕ
table_list n [] = []
table_list n (r ∷ []) = type_name n
table_list n (r ∷ q ∷ Θ) = type_name n ++ (ascii ", " ++ table_list (suc n) (q ∷ Θ))

-- the left side of an arrow, whose type the function's variable has
abbrev pub left_of : TyRec → ℕ
left_of rec01 = 0
left_of (rec02 a b) = a
left_of (rec03 a b) = a
left_of (rec04 a b) = a

abbrev pub binding : String → ℕ → ℕ → List ℕ
binding s k t = ascii s ++ (binder_name k ++ (ascii " : " ++ (type_name t ++ ascii ". ")))

abbrev pub in_round : List ℕ → List ℕ
in_round s = ascii "(" ++ (s ++ ascii ")")

-- under k binders
abbrev pub term_text : Table → ℕ → Term → List ℕ
term_text Θ k (var i) = binder_name (k - suc i)
term_text Θ k (lvar i) = binder_name (k - suc i)
term_text Θ k (fun t e) = binding "fun " k (left_of (rec_at Θ t)) ++ term_text Θ (suc k) e
term_text Θ k (app f a) = in_round (term_text Θ k f) ++ (ascii " " ++ in_round (term_text Θ k a))
term_text Θ k (lfun t e) = binding "fun " k (left_of (rec_at Θ t)) ++ term_text Θ (suc k) e
term_text Θ k (lapp f a) = in_round (term_text Θ k f) ++ (ascii " " ++ in_round (term_text Θ k a))
term_text Θ k (pair t a b) = in_round (term_text Θ k a ++ (ascii ", " ++ term_text Θ k b))
term_text Θ k (proj a e) = ascii "let (" ++ (binder_name k ++ (ascii ", " ++ (binder_name (suc k) ++ (ascii ") = " ++ (term_text Θ k a ++ (ascii " in " ++ term_text Θ (suc (suc k)) e))))))
term_text Θ k (fix t e) = binding "fix " k t ++ term_text Θ (suc k) e
term_text Θ k (con p t) = get_or names p []
term_text Θ k (name a e) = ascii "let " ++ (binder_name k ++ (ascii " = " ++ (term_text Θ k a ++ (ascii " in " ++ term_text Θ (suc k) e))))

abbrev pub edition_text : Edition → List ℕ
edition_text first = []
edition_text second = ascii "edition 2\n"

unfoldable pub show : Sheet → List ℕ
show σ = edition_text σ.edition ++ (type_lines 0 σ.table ++ (ascii "table " ++ (table_list 0 σ.table ++ (ascii "\nmain = " ++ term_text σ.table 0 σ.term))))

-- Two sheets of one type as one sheet: both are applied to the same inputs, and its one output is 1 where some of their outputs differ.
-- Assumes nothing.
use Rattle.std.specs.Prelude.{ℕ, zero, suc, ◌+◌, Bool, true, false, ◌&&◌, cond, List, [], ◌∷◌, ◌++◌, ltb, length}
use Rattle.calculus.specs.Types.{Ty, bit, prod, arrow, lolli, sharable, TyRec, rec01, rec02, rec03, rec04, Table, tys_from, tree}
use Rattle.calculus.specs.Terms.{Edition, first, second, Term, var, lvar, fun, app, lfun, lapp, pair, proj, fix, con, name, part_at}
use Rattle.calculus.specs.Read.{Sheet}
use Rattle.calculus.specs.Walk.{type_number}
use Rattle.calculus.specs.Net.{make}

-- ---- types that take bits, one after the other, and give bits: θ → .. → θ

abbrev pub takes_bits : Ty → Bool
takes_bits bit = true
takes_bits (prod a b) = sharable a && sharable b
takes_bits (arrow a b) = sharable a && takes_bits b
takes_bits (lolli a b) = false

abbrev pub taken_types : Ty → List Ty
taken_types bit = []
taken_types (prod a b) = []
taken_types (arrow a b) = a ∷ taken_types b
taken_types (lolli a b) = []

abbrev pub shown_type : Ty → Ty
shown_type bit = bit
shown_type (prod a b) = prod a b
shown_type (arrow a b) = shown_type b
shown_type (lolli a b) = lolli a b

abbrev pub arrows_to : List Ty → Ty → Ty
arrows_to [] τ = τ
arrows_to (θ ∷ θs) τ = arrow θ (arrows_to θs τ)

-- the type of an accepted sheet's term: that of what it makes, which is the one that the walk finds (theorem `root-walked`)
unfoldable pub root_of : Sheet → Ty
root_of σ = (make σ.table σ.term [] 0).type

-- ---- the term, over a table Φ in which each written type has its number

-- a term over the table Θ with the numbers that Φ has for its types
abbrev pub renumbered : Table → Table → Term → Term
renumbered Θ Φ (var i) = var i
renumbered Θ Φ (lvar i) = lvar i
renumbered Θ Φ (fun t e) = fun (type_number Φ (tree Θ t)) (renumbered Θ Φ e)
renumbered Θ Φ (app f a) = app (renumbered Θ Φ f) (renumbered Θ Φ a)
renumbered Θ Φ (lfun t e) = lfun (type_number Φ (tree Θ t)) (renumbered Θ Φ e)
renumbered Θ Φ (lapp f a) = lapp (renumbered Θ Φ f) (renumbered Θ Φ a)
renumbered Θ Φ (pair t a b) = pair (type_number Φ (tree Θ t)) (renumbered Θ Φ a) (renumbered Θ Φ b)
renumbered Θ Φ (proj a e) = proj (renumbered Θ Φ a) (renumbered Θ Φ e)
renumbered Θ Φ (fix t e) = fix (type_number Φ (tree Θ t)) (renumbered Θ Φ e)
renumbered Θ Φ (con p t) = con p (type_number Φ (tree Θ t))
renumbered Θ Φ (name a e) = name (renumbered Θ Φ a) (renumbered Θ Φ e)

-- a two-input gate of two terms: one after the other, or in the second edition a pair
abbrev pub gate_over : Edition → Table → ℕ → Term → Term → Term
gate_over first Φ p a b = app (app (con p (type_number Φ ((part_at p).type first))) a) b
gate_over second Φ p a b = app (con p (type_number Φ ((part_at p).type second))) (pair (type_number Φ (prod bit bit)) a b)

-- a closed term applied to the k binders that stand d further out, the outermost first
abbrev pub applied_to : Term → ℕ → ℕ → Term
applied_to e zero d = e
applied_to e (suc k) d = applied_to (app e (var (k + d))) k d

-- binder number j, under d binders more
abbrev pub binder_under : ℕ → ℕ → Term
binder_under j d = var (d + j)

-- 1 where some bit of two terms of type θ differs: an xor of two bits (4), an or of the two halves (3). The second term is given by the
-- number of binders that it stands under. A type that is not sharable is never asked for
abbrev pub differing : Edition → Table → Ty → Term → (ℕ → Term) → Term
differing E Φ bit a b = gate_over E Φ 4 a (b 0)
differing E Φ (prod θ₁ θ₂) a b =
    proj a (proj (b 2) (gate_over E Φ 3 (differing E Φ θ₁ (var 3) (binder_under 1)) (differing E Φ θ₂ (var 2) (binder_under 0))))
differing E Φ (arrow θ₁ θ₂) a b = a
differing E Φ (lolli θ₁ θ₂) a b = a

-- a function of the types θs around a body of type **1**
abbrev pub function_of : Table → List Ty → Term → Term
function_of Φ [] e = e
function_of Φ (θ ∷ θs) e = fun (type_number Φ (arrows_to (θ ∷ θs) bit)) (function_of Φ θs e)

-- two closed terms of the type τ
abbrev pub joint_term : Edition → Table → Ty → Term → Term → Term
joint_term E Φ τ a b =
    let n = length (taken_types τ) in
    function_of Φ (taken_types τ) (differing E Φ (shown_type τ) (applied_to a n 0) (applied_to b n))

-- ---- the table

-- a table with the type τ of this record, where it has none
abbrev pub with_type : Table → Ty → TyRec → Table
with_type Φ τ r = cond (ltb (type_number Φ τ) (length Φ)) Φ (Φ ++ r ∷ [])

-- a table with a type and its parts
abbrev pub table_with : Table → Ty → Table
table_with Φ bit = with_type Φ bit rec01
table_with Φ (prod a b) = let Ψ = table_with (table_with Φ a) b in with_type Ψ (prod a b) (rec02 (type_number Ψ a) (type_number Ψ b))
table_with Φ (arrow a b) = let Ψ = table_with (table_with Φ a) b in with_type Ψ (arrow a b) (rec03 (type_number Ψ a) (type_number Ψ b))
table_with Φ (lolli a b) = let Ψ = table_with (table_with Φ a) b in with_type Ψ (lolli a b) (rec04 (type_number Ψ a) (type_number Ψ b))

abbrev pub table_over : Table → List Ty → Table
table_over Φ [] = Φ
table_over Φ (τ ∷ τs) = table_over (table_with Φ τ) τs

-- ---- the sheet

-- over a table that is given: the theorems hold for every one over which it is a sheet
abbrev pub against_over : Table → Sheet → Sheet → Sheet
against_over Φ σ σ' = record {
  edition = σ.edition;
  table = Φ;
  term = joint_term σ.edition Φ (root_of σ) (renumbered σ.table Φ σ.term) (renumbered σ'.table Φ σ'.term);
}

-- over the first one's types, those of the second, and those that comparing asks for
unfoldable pub against : Sheet → Sheet → Sheet
against σ σ' =
    against_over (table_over σ.table (tys_from [] σ'.table ++ (part_at 4).type σ.edition ∷ arrows_to (taken_types (root_of σ)) bit ∷ [])) σ σ'

-- The rule of the table of parts, by one test over the whole table: each entry is document 01's. Assumes nothing.
use mathlib.Core.Path.{◌≡◌, refl}
use mathlib.Core.Bool.{Bool, true, false, ◌&&◌}
use mathlib.Core.List.{List, [], ◌∷◌}
use Prim.Native.Nat.{ℕ, zero, suc, ◌<◌, ◌≤◌}
use native.Mathlib.Omega.{arith}
use borrow.Author.Tests.{lt-ltb, le-ltb, ltb-true, ltb-false}
use lib.Dec.{T, eqb, ltb, leb, eqb→eq, leb→le}
use lib.ListN.{length, get_or, get_or-eq_default}
use Rattle.calculus.specs.Types.{Ty, size, ty_eq}
use Rattle.calculus.specs.Terms.{first, parts, part_at}
use Rattle.calculus.specs.Listing.{names}
use Rattle.laws.proofs.Tests.{and_both}
use Rattle.laws.proofs.Below.{below}
use Rattle.sheet_theorems.proofs.Sound.{ty_eq→eq}
use Rattle.std.specs.declared.option.Option.TheVariants.{Some, None}
use Rattle.parts.specs.declared.Part.{Part}
use Rattle.parts.specs.declared.Name.{Name}
use Rattle.parts.specs.Table.{PartEntry, said_part, entry_of, named, name_at, padded, shape_ty}

abbrev entry_row : ℕ → ℕ → ℕ → Bool → Part
entry_row i o k b = record { inputs = i; outputs = o; shape = k; paired = b }

abbrev name_row : List ℕ → ℕ → Name
name_row letters n = record { letters = letters; count = n }

-- the tables of the code
abbrev pub code_table : List Part
code_table =
    entry_row 0 1 0 false ∷ entry_row 1 1 1 false ∷ entry_row 2 1 2 true ∷ entry_row 2 1 2 true ∷ entry_row 2 1 2 true ∷ entry_row 1 1 1 false ∷ entry_row 0 1 0 false ∷ []

abbrev pub name_table : List Name
name_table =
    name_row (122 ∷ 101 ∷ 114 ∷ 111 ∷ []) 4 ∷ name_row (114 ∷ 101 ∷ 103 ∷ 0 ∷ []) 3 ∷ name_row (97 ∷ 110 ∷ 100 ∷ 0 ∷ []) 3 ∷ name_row (111 ∷ 114 ∷ 0 ∷ 0 ∷ []) 2
    ∷ name_row (120 ∷ 111 ∷ 114 ∷ 0 ∷ []) 3 ∷ name_row (105 ∷ 110 ∷ 118 ∷ 0 ∷ []) 3 ∷ name_row (111 ∷ 110 ∷ 101 ∷ 0 ∷ []) 3 ∷ []

abbrev row_at : ℕ → Part
row_at p = get_or code_table p (entry_row 0 0 0 false)

abbrev name_row_at : ℕ → Name
name_row_at p = get_or name_table p (name_row [] 0)

abbrev entry_eq : PartEntry → PartEntry → Bool
entry_eq x y = eqb x.inputs y.inputs && (eqb x.outputs y.outputs && (ty_eq x.in_first y.in_first && ty_eq x.in_second y.in_second))

abbrev entry : ℕ → ℕ → Ty → Ty → PartEntry
entry i o t u = record { inputs = i; outputs = o; in_first = t; in_second = u }

same-entry : (i j o q : ℕ) (σ τ σ' τ' : Ty) → T (entry_eq (entry i o σ σ') (entry j q τ τ')) → entry i o σ σ' ≡ entry j q τ τ'
same-entry i j o q σ τ σ' τ' t =
    let h = and_both (eqb i j) _ t in
    let k = and_both (eqb o q) _ h.1 in
    let l = and_both (ty_eq σ τ) _ k.1 in
    rw (eqb→eq i j h.0, eqb→eq o q k.0, ty_eq→eq σ τ l.0, ty_eq→eq σ' τ' l.1)

-- the rule: every entry of the table is the part's
pub right : (p : ℕ) → p < 7 → said_part (row_at p) ≡ entry_of p
right p h = same-entry _ _ _ _ _ _ _ _ (below 7 (λ k. entry_eq (said_part (row_at k)) (entry_of k)) tt p h)

-- any other number is zero's
pub right-past : (p : ℕ) → 7 ≤ p → said_part (row_at 0) ≡ entry_of p
right-past p h = rw (get_or-eq_default parts (part_at 0) {n = p} h)

pub named-part : (p : ℕ) → p < 7 → Some (said_part (row_at p)) ≡ named p
unfolding named
named-part p h = rw (lt-ltb p 7 h, right p h)

pub named_none : (p : ℕ) → 7 ≤ p → None ≡ named p
unfolding named
named_none p h = rw (le-ltb p 7 h)

-- ---- the names: every row has the part's

pub name-right : (p : ℕ) → p < 7 → ((name_row_at p).letters ≡ padded (name_at p)) × ((name_row_at p).count ≡ length (name_at p))
name-right zero h = (refl, refl)
name-right (suc zero) h = (refl, refl)
name-right (suc (suc zero)) h = (refl, refl)
name-right (suc (suc (suc zero))) h = (refl, refl)
name-right (suc (suc (suc (suc zero)))) h = (refl, refl)
name-right (suc (suc (suc (suc (suc zero))))) h = (refl, refl)
name-right (suc (suc (suc (suc (suc (suc zero)))))) h = (refl, refl)
name-right (suc (suc (suc (suc (suc (suc (suc p))))))) h = absurd (omega arith)

pub name-none : (p : ℕ) → 7 ≤ p → name_at p ≡ []
name-none p h = get_or-eq_default names [] {n = p} h

-- ---- no part has more than two arrows in the first edition

few_type : (p : ℕ) → p < 7 → size ((part_at p).type first) ≤ 3
few_type p h = leb→le _ _ (below 7 (λ k. leb (size ((part_at k).type first)) 3) tt p h)

past-few : (p : ℕ) → 7 ≤ p → size ((part_at p).type first) ≤ 3
past-few p h = rw (get_or-eq_default parts (part_at 0) {n = p} h) (omega arith)

part-few : (p : ℕ) → size ((part_at p).type first) ≤ 3
part-few p = by_cases (ltb p 7) refl
  where
    by_cases : (t : Bool) → ltb p 7 ≡ t → size ((part_at p).type first) ≤ 3
    by_cases true e = few_type p (ltb-true p 7 e)
    by_cases false e = past-few p (ltb-false p 7 e)

pub shape_size : (k : ℕ) → size (shape_ty k) ≡ suc k
shape_size zero = refl
shape_size (suc k) = rw (shape_size k) (omega arith)

pub few-arrows : (p k : ℕ) → shape_ty k ≡ (part_at p).type first → k ≤ 2
few-arrows p k e = let h : size (shape_ty k) ≤ 3 = rw e (part-few p) in omega (arith, shape_size k)

-- Sorts of variables: yes for a sharable one, no for a linear one; and types whose products have sharable sides. Assumes nothing.
use Rattle.std.specs.Prelude.{ℕ, zero, suc, ◌≡◌, Bool, true, false, List, [], ◌∷◌, T}
use Rattle.calculus.specs.Types.{Ty, bit, prod, arrow, lolli, sharable}
use Rattle.calculus.specs.Walk.{Stack, shared, linear}
use Rattle.notation_calculus.specs.Means.{Full, var, lvar, fun, lfun, fix, app, lapp, proj, name, pair, con, TypeEntry}

-- binder number i is there, and has this sort
abbrev pub SortAt : List Bool → ℕ → Bool → Type 0
SortAt [] i s = ⊥
SortAt (b ∷ bs) zero s = b ≡ s
SortAt (b ∷ bs) (suc i) s = SortAt bs i s

-- each variable of a term is written as its binder's sort asks, under binders of these sorts
abbrev pub Sorted : List Bool → Full → Type 0
Sorted bs (var i) = SortAt bs i true
Sorted bs (lvar i) = SortAt bs i false
Sorted bs (fun τ e) = Sorted (true ∷ bs) e
Sorted bs (lfun τ e) = Sorted (false ∷ bs) e
Sorted bs (fix τ e) = Sorted (sharable τ ∷ bs) e
Sorted bs (app f a) = Sorted bs f × Sorted bs a
Sorted bs (lapp f a) = Sorted bs f × Sorted bs a
Sorted bs (proj a e) = Sorted bs a × Sorted (true ∷ true ∷ bs) e
Sorted bs (name a e) = Sorted bs a × Sorted (true ∷ bs) e
Sorted bs (pair τ a b) = Sorted bs a × Sorted bs b
Sorted bs (con p τ) = Unit {0}

abbrev pub sorts_in : List TypeEntry → List Bool
sorts_in [] = []
sorts_in (e ∷ Γ) = sharable e.type ∷ sorts_in Γ

abbrev pub sorts_on : Stack → List Bool
sorts_on [] = []
sorts_on (shared t ∷ st) = true ∷ sorts_on st
sorts_on (linear t u ∷ st) = false ∷ sorts_on st

-- the sides of a product that a term of this type can give are sharable
abbrev pub Formed : Ty → Type 0
Formed bit = Unit {0}
Formed (prod a b) = T (sharable a) × T (sharable b)
Formed (arrow a b) = Formed b
Formed (lolli a b) = Formed b

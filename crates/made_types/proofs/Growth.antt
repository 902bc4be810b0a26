-- A type that is stored behind the others makes the memory hold the longer table. Assumes nothing.
use Prim.Native.Nat.{ℕ, ◌+◌, ◌*◌, ◌<◌, ◌≤◌}
use mathlib.Core.Path.{◌≡◌, sym, ap, ◌∙◌}
use mathlib.Core.List.{List, [], ◌∷◌, ◌++◌}
use native.Mathlib.Omega.{arith}
use native.Mathlib.Decide.{ℕ_discrete}
use lib.ListN.{length, get_or, set, length-append, length-set, get_or-append}
use lib.Seq.{sets, length-sets, get_or-set_same, get_or-set_other, get_or-append_seam}
use Rattle.laws.proofs.Regions.{sets-at, sets-before, sets_outside}
use Rattle.calculus.specs.Types.{size, TyRec, rec01, Table, rec_at, ty_of, tys_from, tree}
use Rattle.sheet_theorems.proofs.Tables.{tree_new}
use Rattle.sheet_theorems.proofs.TableRead.{tree_prefix}
use Rattle.notation_theorems.proofs.Growing.{Ready}
use Rattle.making_memory.specs.Map.{types_at, type_count_at, making_size}
use Rattle.made_types.specs.Held.{kind_number, left_number, right_number, kind_in, left_in_lem, right_in, bits_in_lem, HoldsTypes, TypesOnly}

-- the memory after a type's four numbers and the count
abbrev pub stored : List ℕ → ℕ → ℕ → ℕ → ℕ → ℕ → List ℕ
stored w k a b c d = set (sets w (types_at + 4 * k) (a ∷ b ∷ c ∷ d ∷ [])) type_count_at (k + 1)

module _ (w : List ℕ) (k a b c d : ℕ) (room : making_size ≤ length w) (few : k < 256) where
  other : (i : ℕ) → (i ≡ type_count_at → ⊥) → get_or (stored w k a b c d) i 0 ≡ get_or (sets w (types_at + 4 * k) (a ∷ b ∷ c ∷ d ∷ [])) i 0
  other i n = get_or-set_other (sets w (types_at + 4 * k) (a ∷ b ∷ c ∷ d ∷ [])) type_count_at i (k + 1) 0 n

  pub stored-length : length (stored w k a b c d) ≡ length w
  stored-length = length-set (sets w (types_at + 4 * k) (a ∷ b ∷ c ∷ d ∷ [])) type_count_at (k + 1) ∙ length-sets w (types_at + 4 * k) (a ∷ b ∷ c ∷ d ∷ [])

  pub stored-count : get_or (stored w k a b c d) type_count_at 0 ≡ k + 1
  stored-count = get_or-set_same (sets w (types_at + 4 * k) (a ∷ b ∷ c ∷ d ∷ [])) type_count_at (k + 1) 0 (rw length-sets (omega arith))

  pub stored_at : (j : ℕ) → j < 4 → get_or (stored w k a b c d) (types_at + 4 * k + j) 0 ≡ get_or (a ∷ b ∷ c ∷ d ∷ []) j 0
  stored_at j h = other (types_at + 4 * k + j) (λ e. omega arith) ∙ sets-at (a ∷ b ∷ c ∷ d ∷ []) w (types_at + 4 * k) j (omega arith) h

  pub stored-below : (i : ℕ) → i < types_at + 4 * k → get_or (stored w k a b c d) i 0 ≡ get_or w i 0
  stored-below i h = other i (λ e. omega arith) ∙ sets-before (a ∷ b ∷ c ∷ d ∷ []) w (types_at + 4 * k) i 0 h

  pub stored-above : (i : ℕ) → types_at + 4 * k + 4 ≤ i → (i ≡ type_count_at → ⊥) → get_or (stored w k a b c d) i 0 ≡ get_or w i 0
  stored-above i h n = other i n ∙ sets_outside (a ∷ b ∷ c ∷ d ∷ []) w (types_at + 4 * k) i 0 (λ l. omega arith) (omega arith)

  pub stored_only : get_or w type_count_at 0 ≤ k → TypesOnly w (stored w k a b c d)
  stored_only h = record {
    same = stored-length;
    below = λ i l. stored-below i (omega arith);
    above = λ i l n. stored-above i (omega arith) n;
    more = omega (arith, stored-count);
    few = λ l. omega (arith, stored-count);
  }

-- a number that all types have, in the longer table
longer : (Θ : Table) (q : TyRec) (f : ℕ → ℕ) (g : TyRec → ℕ) → ((t : ℕ) → t < length Θ → f t ≡ g (rec_at Θ t)) → f (length Θ) ≡ g q → (t : ℕ) → t < length (Θ ++ q ∷ []) → f t ≡ g (rec_at (Θ ++ q ∷ []) t)
longer Θ q f g old new t h =
    elim (ℕ_discrete t (length Θ)) [
      | yes e ↦ rw e (new ∙ ap g (sym (get_or-append_seam Θ q [] rec01)))
      | no d ↦ let l : t < length Θ = omega (arith, length-append Θ (q ∷ [])) in old t l ∙ ap g (sym (get_or-append Θ (q ∷ []) rec01 t l))
    ]

longer-tree : (Θ : Table) (q : TyRec) (f : ℕ → ℕ) → ((t : ℕ) → t < length Θ → f t ≡ size (tree Θ t)) → f (length Θ) ≡ size (ty_of (tys_from [] Θ) q) → (t : ℕ) → t < length (Θ ++ q ∷ []) → f t ≡ size (tree (Θ ++ q ∷ []) t)
longer-tree Θ q f old new t h =
    elim (ℕ_discrete t (length Θ)) [
      | yes e ↦ rw e (new ∙ ap size (sym (tree_new Θ q)))
      | no d ↦ let l : t < length Θ = omega (arith, length-append Θ (q ∷ [])) in old t l ∙ ap size (sym (tree_prefix Θ (q ∷ []) t l))
    ]

pub holds-longer :
    (w : List ℕ) (Θ : Table) (q : TyRec) (bits : ℕ) → HoldsTypes w Θ → length Θ < 256 → Ready (Θ ++ q ∷ []) → bits ≡ size (ty_of (tys_from [] Θ) q)
    → HoldsTypes (stored w (length Θ) (kind_number q) (left_number q) (right_number q) bits) (Θ ++ q ∷ [])
holds-longer w Θ q bits H few R e =
    let k : ℕ = length Θ in
    let v : List ℕ = stored w k (kind_number q) (left_number q) (right_number q) bits in
    let room = H.room in
    let at = stored_at w k (kind_number q) (left_number q) (right_number q) bits room few in
    let keep = stored-below w k (kind_number q) (left_number q) (right_number q) bits room few in
    let z : types_at + 4 * k + 0 ≡ types_at + 4 * k = omega arith in
    record {
      room = rw (stored-length w k (kind_number q) (left_number q) (right_number q) bits room few) room;
      count = stored-count w k (kind_number q) (left_number q) (right_number q) bits room few ∙ sym (length-append Θ (q ∷ []));
      kinds = longer Θ q (kind_in v) kind_number (λ t h. keep (types_at + 4 * t) (omega arith) ∙ H.kinds t h) (ap (λ (i : ℕ). get_or v i 0) (sym z) ∙ at 0 (omega arith));
      lefts = longer Θ q (left_in_lem v) left_number (λ t h. keep (types_at + 4 * t + 1) (omega arith) ∙ H.lefts t h) (at 1 (omega arith));
      rights = longer Θ q (right_in v) right_number (λ t h. keep (types_at + 4 * t + 2) (omega arith) ∙ H.rights t h) (at 2 (omega arith));
      sizes = longer-tree Θ q (bits_in_lem v) (λ t h. keep (types_at + 4 * t + 3) (omega arith) ∙ H.sizes t h) (at 3 (omega arith) ∙ e);
      ok = R.ok;
      one = R.one;
      some = R.some;
    }

-- .. with the numbers as the code has them
pub holds-stored :
    (w : List ℕ) (Θ : Table) (q : TyRec) (k a b c bits : ℕ) → HoldsTypes w Θ → k ≡ length Θ → kind_number q ≡ a → left_number q ≡ b → right_number q ≡ c
    → k < 256 → Ready (Θ ++ q ∷ []) → bits ≡ size (ty_of (tys_from [] Θ) q) → HoldsTypes (stored w k a b c bits) (Θ ++ q ∷ [])
holds-stored w Θ q k a b c bits H ek ea eb ec few R e = rw (ek, ← ea, ← eb, ← ec) (holds-longer w Θ q bits H (omega arith) R e)

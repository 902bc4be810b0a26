-- Laws of a sheet that has been read: it is its own table of types, and the sizes are those of its types. Assumes nothing.
use Prim.Native.Nat.{ℕ, zero, suc, ◌+◌, ◌*◌, ◌-◌, ◌≤◌, ◌<◌}
use mathlib.Core.Path.{◌≡◌, refl, sym, ◌∙◌}
use mathlib.Core.List.{List, [], ◌∷◌, ◌++◌, map}
use native.Mathlib.Omega.{arith}
use native.Mathlib.Nat.{not-suc-le-zero, le_of_suc-le-suc}
use lib.ListN.{length, get_or, drop, replicate, length-append, length-map, length-replicate, get_or-append}
use Rattle.calculus.specs.Types.{Ty, bit, size, TyRec, rec01, rec02, rec03, rec04, Table, rec_at, tys_from, tree}
use Rattle.calculus.specs.Read.{Sheet}
use Rattle.calculus.specs.Write.{table_bytes, term_bytes, record_bytes}
use Rattle.sheet_theorems.specs.Laid.{TableOk, Laid}
use Rattle.sheet_theorems.proofs.Bytes.{first_byte, behind, within}
use Rattle.sheet_theorems.proofs.Tables.{tys_length}
use Rattle.sheet_theorems.proofs.TypeOffsets.{StandsRec, record_zero, record_later, type_stands}
use Rattle.records.specs.Forms.{rec_of, rec_from, rec_in}
use Rattle.records.specs.Told.{sizes_of}
use Rattle.records.proofs.FormLaws.{rec-long}

-- ---- the sheet is its own table of types

module _ (s : List ℕ) (at : ℕ) where
  three : (k a b : ℕ) (rest : List ℕ) → drop at s ≡ k ∷ a ∷ b ∷ rest → rec_from s at ≡ rec_of k a b
  three k a b rest e =
      rec-long s at (within s (k ∷ a ∷ b ∷ []) rest at e (omega arith))
      ∙ rw (first_byte s (a ∷ b ∷ rest) at k e, first_byte s (b ∷ rest) (at + 1) a (behind s (k ∷ []) (a ∷ b ∷ rest) at e), first_byte s rest (at + 2) b (behind s (k ∷ a ∷ []) (b ∷ rest) at e))

  record-from : (r : TyRec) → (r ≡ rec01 → ⊥) → StandsRec s at r → rec_from s at ≡ r
  record-from rec01 f h = absurd (f refl)
  record-from (rec02 a b) f h = three 2 a b h.rest h.here
  record-from (rec03 a b) f h = three 3 a b h.rest h.here
  record-from (rec04 a b) f h = three 4 a b h.rest h.here

-- the bytes begin with a table's records
pub record_in : (s : List ℕ) (Θ : Table) (rest : List ℕ) → TableOk Θ → s ≡ table_bytes Θ ++ rest → (t : ℕ) → t < length Θ → rec_in s t ≡ rec_at Θ t
unfolding rec_in
record_in s Θ rest ok e zero h = sym (record_zero Θ ok)
record_in s Θ rest ok e (suc t) h = record-from s (3 * t + 1) (rec_at Θ (suc t)) (record_later Θ ok t h) (type_stands s Θ rest ok e t h)

pub sheet-types : (s : List ℕ) (σ : Sheet) → Laid s σ → (t : ℕ) → t < length σ.table → rec_in s t ≡ rec_at σ.table t
unfolding record_bytes
sheet-types s σ l t h = record_in s σ.table (term_bytes σ.term) l.table l.bytes t h

-- ---- sizes

pub sizes-front : (Θ : Table) → length (map size (tys_from [] Θ)) ≡ length Θ
sizes-front Θ = omega (arith, length-map (tys_from [] Θ) size, tys_length [] Θ)

map_at : (l : List Ty) (n : ℕ) → n < length l → get_or (map size l) n 0 ≡ size (get_or l n bit)
map_at [] n h = absurd (not-suc-le-zero h)
map_at (τ ∷ l) zero h = refl
map_at (τ ∷ l) (suc n) h = map_at l n (le_of_suc-le-suc h)

-- entry t is the size of type t
pub size-at : (Θ : Table) (t : ℕ) → t < length Θ → get_or (sizes_of Θ) t 0 ≡ size (tree Θ t)
unfolding sizes_of
size-at Θ t h =
    get_or-append (map size (tys_from [] Θ)) (replicate (256 - length Θ) 0) 0 t (rw (sizes-front Θ) h)
    ∙ map_at (tys_from [] Θ) t (omega (arith, tys_length [] Θ))

pub sizes-length : (Θ : Table) → length Θ ≤ 256 → length (sizes_of Θ) ≡ 256
unfolding sizes_of
sizes-length Θ h =
    omega (arith, length-append (map size (tys_from [] Θ)) (replicate (256 - length Θ) 0), sizes-front Θ, length-replicate {A = ℕ} (256 - length Θ) 0)

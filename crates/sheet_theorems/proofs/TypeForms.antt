-- What a type is, told by its record alone, in a table that the reader accepts. Assumes nothing.
use Prim.Native.Nat.{ℕ, ◌+◌, ◌<◌}
use mathlib.Core.Path.{◌≡◌, subst}
use mathlib.Core.Bool.{Bool, false, ◌&&◌}
use native.Mathlib.Omega.{arith}
use lib.Dec.{eqb}
use lib.ListN.{length}
use Rattle.calculus.specs.Types.{Ty, bit, arrow, size, sharable, is_arrow, ty_eq, TyRec, rec01, rec02, rec03, rec04, Table, rec_at, tree}
use Rattle.sheet_theorems.specs.Laid.{Agrees, TableOk}
use Rattle.sheet_theorems.specs.Records.{sharable_rec, arrow_rec}
use Rattle.laws.proofs.Tests.{T-is, and_of}
use Rattle.sheet_theorems.proofs.TypeOffsets.{tree_zero}
use Rattle.sheet_theorems.proofs.Exact.{type_tests}

-- the size, from the sizes of the types that the record names
abbrev pub size_rec : (ℕ → ℕ) → TyRec → ℕ
size_rec sizes rec01 = 1
size_rec sizes (rec02 a b) = sizes a + sizes b
size_rec sizes (rec03 a b) = sizes a + sizes b
size_rec sizes (rec04 a b) = sizes a + sizes b

-- the test for the sharable arrow from 1 to τ
abbrev pub from_bit : (ℕ → Bool) → (ℕ → Bool) → TyRec → Bool
from_bit bits ends rec01 = false
from_bit bits ends (rec02 a b) = false
from_bit bits ends (rec03 a b) = bits a && ends b
from_bit bits ends (rec04 a b) = false

module _ (Θ : Table) where
  sharable-agrees : (q : TyRec) (τ : Ty) → Agrees Θ q τ → sharable τ ≡ sharable_rec q
  sharable-agrees rec01 τ a = rw a
  sharable-agrees (rec02 x y) τ a = rw a.0 (T-is _ (and_of (sharable (tree Θ x)) (sharable (tree Θ y)) a.1 a.2))
  sharable-agrees (rec03 x y) τ a = rw a.0
  sharable-agrees (rec04 x y) τ a = rw a.0

  arrow-agrees : (q : TyRec) (τ : Ty) → Agrees Θ q τ → is_arrow τ ≡ arrow_rec q
  arrow-agrees rec01 τ a = rw a
  arrow-agrees (rec02 x y) τ a = rw a.0
  arrow-agrees (rec03 x y) τ a = rw a.0
  arrow-agrees (rec04 x y) τ a = rw a.0

  size-agrees : (q : TyRec) (τ : Ty) → Agrees Θ q τ → size τ ≡ size_rec (λ n. size (tree Θ n)) q
  size-agrees rec01 τ a = rw a
  size-agrees (rec02 x y) τ a = rw a.0
  size-agrees (rec03 x y) τ a = rw a.0
  size-agrees (rec04 x y) τ a = rw a.0

  from-bit-agrees : (q : TyRec) (τ ρ : Ty) → Agrees Θ q τ → ty_eq τ (arrow bit ρ) ≡ from_bit (λ n. ty_eq (tree Θ n) bit) (λ n. ty_eq (tree Θ n) ρ) q
  from-bit-agrees rec01 τ ρ a = rw a
  from-bit-agrees (rec02 x y) τ ρ a = rw a.0
  from-bit-agrees (rec03 x y) τ ρ a = rw a.0
  from-bit-agrees (rec04 x y) τ ρ a = rw a.0

module _ (Θ : Table) (ok : TableOk Θ) where
  pub sharable_form : (t : ℕ) → sharable (tree Θ t) ≡ sharable_rec (rec_at Θ t)
  sharable_form t = sharable-agrees Θ (rec_at Θ t) (tree Θ t) (ok.agrees t)

  pub arrow_form : (t : ℕ) → is_arrow (tree Θ t) ≡ arrow_rec (rec_at Θ t)
  arrow_form t = arrow-agrees Θ (rec_at Θ t) (tree Θ t) (ok.agrees t)

  pub size_form : (t : ℕ) → size (tree Θ t) ≡ size_rec (λ n. size (tree Θ n)) (rec_at Θ t)
  size_form t = size-agrees Θ (rec_at Θ t) (tree Θ t) (ok.agrees t)

  -- the single bit is type 0
  pub bit_form : (t : ℕ) → t < length Θ → ty_eq (tree Θ t) bit ≡ eqb t 0
  bit_form t h = subst (λ (τ : Ty). ty_eq (tree Θ t) τ ≡ eqb t 0) (tree_zero Θ ok) (type_tests Θ ok t 0 h (omega arith))

  -- a gate's type: its left number is 0, and its right number has the type that is left
  pub from-bit_form : (ρ : Ty) (t : ℕ) → ty_eq (tree Θ t) (arrow bit ρ) ≡ from_bit (λ n. ty_eq (tree Θ n) bit) (λ n. ty_eq (tree Θ n) ρ) (rec_at Θ t)
  from-bit_form ρ t = from-bit-agrees Θ (rec_at Θ t) (tree Θ t) ρ (ok.agrees t)

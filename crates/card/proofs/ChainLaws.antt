-- In a sheet that is read, the rule by type numbers is the rule by types; and one step of the search. Assumes nothing.
use Prim.Native.Nat.{ℕ, zero, suc, ◌+◌, ◌-◌, ◌<◌, ◌≤◌}
use mathlib.Core.Path.{◌≡◌, refl, sym, ap, ◌∙◌}
use mathlib.Core.Bool.{false, ◌&&◌}
use mathlib.Core.List.{List}
use native.Mathlib.Omega.{arith}
use lib.ListN.{length}
use Rattle.laws.proofs.Tests.{T-is, and_of}
use Rattle.calculus.specs.Types.{Ty, sharable, TyRec, rec01, rec02, rec03, rec04, Table, rec_at, tree}
use Rattle.calculus.specs.Read.{Sheet}
use Rattle.sheet_theorems.specs.Laid.{Agrees, Below, Laid}
use Rattle.export_calculus.specs.Card.{chain}
use Rattle.records.specs.Forms.{rec_in}
use Rattle.records.proofs.ToldLaws.{sheet-types}
use Rattle.card.specs.Chains.{chain_by, chain_in}

module _ (s : List ℕ) (σ : Sheet) (l : Laid s σ) where
  abbrev Θ : Table
  Θ = σ.table

  pub chain-is : (more t : ℕ) → t < length Θ → t < more → chain_in s more t ≡ chain (tree Θ t)
  unfolding chain_in
  chain-is zero t h g = absurd (omega arith)
  chain-is (suc more) t h g =
      ap (λ (r : TyRec). chain_by r (λ b. chain_in s more b)) (sheet-types s σ l t h)
      ∙ by (rec_at Θ t) (tree Θ t) (l.table.agrees t) (l.table.earlier t h) (λ b below. chain-is more b (omega arith) (omega arith))
    where
      by : (r : TyRec) (τ : Ty) → Agrees Θ r τ → Below t r → ((b : ℕ) → b < t → chain_in s more b ≡ chain (tree Θ b)) → chain_by r (λ b. chain_in s more b) ≡ chain τ
      by rec01 τ a e f = rw a
      by (rec02 x y) τ a e f = rw a.0 (sym (T-is (sharable (tree Θ x) && sharable (tree Θ y)) (and_of (sharable (tree Θ x)) (sharable (tree Θ y)) a.1 a.2)))
      by (rec03 x y) τ a e f = rw a.0 (f y e.1)
      by (rec04 x y) τ a e f = rw a.0

-- ---- one step

pub chain-none : (s : List ℕ) (more t : ℕ) → more ≤ 0 → false ≡ chain_in s more t
unfolding chain_in
chain-none s zero t e = refl
chain-none s (suc more) t e = absurd (omega arith)

pub chain-step : (s : List ℕ) (more t : ℕ) (r : TyRec) → 0 < more → r ≡ rec_in s t → chain_by r (λ b. chain_in s (more - 1) b) ≡ chain_in s more t
unfolding chain_in
chain-step s zero t r d e = absurd (omega arith)
chain-step s (suc more) t r d e = let z : suc more - 1 ≡ more = omega arith in rw (e, z)

-- .. as the steps are counted up
pub chain-up : (s : List ℕ) (i t : ℕ) (r : TyRec) → i < 256 → r ≡ rec_in s t → chain_by r (λ b. chain_in s (256 - (i + 1)) b) ≡ chain_in s (256 - i) t
chain-up s i t r h e =
    let n : 256 - (i + 1) ≡ 256 - i - 1 = omega arith in
    ap (λ (m : ℕ). chain_by r (λ b. chain_in s m b)) n ∙ chain-step s (256 - i) t r (omega arith) e

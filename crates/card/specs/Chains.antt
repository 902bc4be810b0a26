-- The card's rule for the root's type, by type numbers. Assumes nothing.
use Rattle.std.specs.Prelude.{ℕ, zero, suc, Bool, true, false, List}
use Rattle.calculus.specs.Types.{TyRec, rec01, rec02, rec03, rec04}
use Rattle.records.specs.Forms.{rec_in}

abbrev pub chain_by : TyRec → (ℕ → Bool) → Bool
chain_by rec01 go = true
chain_by (rec02 a b) go = true
chain_by (rec03 a b) go = go b
chain_by (rec04 a b) go = false

-- type t of a sheet's records is a chain of fewer than `more` sharable arrows that ends in a sharable type
unfoldable pub chain_in : List ℕ → ℕ → ℕ → Bool
chain_in s zero t = false
chain_in s (suc more) t = chain_by (rec_in s t) (λ b. chain_in s more b)

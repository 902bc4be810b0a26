-- Keys of type records: numbers that records which are the same have in common. Assumes nothing.
use Rattle.std.specs.Prelude.{ℕ, zero, suc, ◌+◌, ◌*◌, ◌%◌, ◌<◌, ◌≡◌, Bool, false, ◌||◌, List, eqb, get_or}
use Rattle.calculus.specs.Types.{TyRec, rec01, rec02, rec03, rec04}
use Rattle.records.specs.Forms.{rec_in}

-- the kind and the two sides, mixed into a number of 16 bits
unfoldable pub mixed : ℕ → ℕ → ℕ → ℕ
mixed kind left right = (85 * kind + left + 256 * right) % 65536

abbrev pub key_of : TyRec → ℕ
key_of rec01 = 0
key_of (rec02 a b) = mixed 2 a b
key_of (rec03 a b) = mixed 3 a b
key_of (rec04 a b) = mixed 4 a b

-- one of the first n keys
unfoldable pub among_first : List ℕ → ℕ → ℕ → Bool
among_first keys zero k = false
among_first keys (suc n) k = among_first keys n k || eqb (get_or keys n 0) k

-- the keys of the first n types, as the sheet's bytes hold their records
abbrev pub Keyed : List ℕ → ℕ → List ℕ → Type 0
Keyed s n keys = (t : ℕ) → t < n → get_or keys t 0 ≡ key_of (rec_in s t)

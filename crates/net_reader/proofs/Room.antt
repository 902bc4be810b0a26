-- Bytes, read as numbers, are numbers below 256. Assumes nothing.
use Prim.Native.Nat.{ℕ, suc, ◌<◌}
use mathlib.Core.List.{List, [], ◌∷◌}
use lib.ListN.{get_or}
use Rattle.foreign_calculus.specs.Foreign.{Bytes}

pub bytes_of : (s : List ℕ) → ((i : ℕ) → get_or s i 0 < 256) → Bytes s
bytes_of [] f = tt
bytes_of (b ∷ s) f = (f 0, bytes_of s (λ i. f (suc i)))

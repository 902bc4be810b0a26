-- Some bytes as one number, the first of them the highest. Assumes nothing.
use Rattle.std.specs.Prelude.{ℕ, ◌+◌, ◌*◌, List, [], ◌∷◌}

unfoldable pub key_from : ℕ → List ℕ → ℕ
key_from k [] = k
key_from k (c ∷ s) = key_from (256 * k + c) s

abbrev pub key_of : List ℕ → ℕ
key_of s = key_from 0 s

-- A number that the bytes of a name give. Two names with different numbers differ; the converse is not needed. Assumes nothing.
use Rattle.std.specs.Prelude.{ℕ, ◌+◌, ◌*◌, ◌%◌, List, [], ◌∷◌}

abbrev pub key_step : ℕ → ℕ → ℕ
key_step h c = (31 * h + c) % 32768

-- .. from what the bytes before gave
abbrev pub name_key_from : ℕ → List ℕ → ℕ
name_key_from h [] = h
name_key_from h (c ∷ s) = name_key_from (key_step h c) s

unfoldable pub name_key : List ℕ → ℕ
name_key s = name_key_from 0 s

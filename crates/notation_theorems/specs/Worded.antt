-- What a word carries: P holds of its place, where it is not the end's, and K of its part. Assumes nothing.
use Rattle.std.specs.Prelude.{ℕ, ◌<◌, ◌≡◌, not, List, T, eqb, length}
use Rattle.calculus.specs.Record.{Among}
use Rattle.calculus.specs.Terms.{parts}
use Rattle.notation_calculus.specs.Words.{sign_code, ends, Token, sign, part, number, name, Word}

-- one of the seven parts
abbrev pub IsPart : ℕ → Type 0
IsPart p = p < length parts

abbrev pub TokenIn : (ℕ → Type 0) → (ℕ → Type 0) → ℕ → Token → Type 0
TokenIn P K at (sign s) = T (not (eqb (sign_code ends) (sign_code s))) → P at
TokenIn P K at (part p) = P at × K p
TokenIn P K at (number n) = P at
TokenIn P K at (name n) = P at

abbrev pub WordIn : (ℕ → Type 0) → (ℕ → Type 0) → Word → Type 0
WordIn P K w = TokenIn P K w.place w.token

-- a word of these begins there
abbrev pub BeginsAt : List Word → ℕ → Type 0
BeginsAt ws at = (w : Word) × Among w ws × (w.place ≡ at)

-- What `hex` makes of texts, whole and broken. Assumes nothing.
use mathlib.Core.Path.{◌≡◌, refl}
use mathlib.Core.Bool.{false}
use mathlib.Core.List.{[], ◌∷◌, map}
use Rattle.calculus.specs.Texts.{hex, all_bytes}

-- a whole text gives its bytes, with any spaces between them
pub hex-whole : map hex ("" ∷ "01 03 1A FF" ∷ "01031AFF" ∷ " 01 03  1A FF " ∷ []) ≡ [] ∷ (1 ∷ 3 ∷ 26 ∷ 255 ∷ []) ∷ (1 ∷ 3 ∷ 26 ∷ 255 ∷ []) ∷ (1 ∷ 3 ∷ 26 ∷ 255 ∷ []) ∷ []
hex-whole = refl

-- a text that is cut, has a digit alone, a small letter or another character gives something that is no byte
pub hex-broken : map (λ s. all_bytes (hex s)) ("0" ∷ "01 0" ∷ "0 01" ∷ "01 3 02" ∷ "1a" ∷ "0G" ∷ "0x01" ∷ "01,02" ∷ []) ≡ false ∷ false ∷ false ∷ false ∷ false ∷ false ∷ false ∷ false ∷ []
hex-broken = refl

-- Three netlists worked out by hand: x inverted, x and one in an xor, and both joined. Assumes nothing.
use Prim.Native.Nat.{ℕ, zero, suc, ◌+◌, ◌≤◌}
use mathlib.Core.Path.{◌≡◌, refl, sym, ap, ◌∙◌}
use mathlib.Core.Logic.{inl}
use mathlib.Core.List.{[], ◌∷◌}
use native.Mathlib.Omega.{arith}
use Rattle.calculus.specs.Net.{inp, out, point, part, wire_of, Net}
use Rattle.calculus.specs.Record.{here, there}
use Rattle.never_theorems.specs.Against.{Against, JoinedBy, last}
use Rattle.never_theorems.proofs.Against.{joined-against}

abbrev inverted : Net
inverted = record { elements = point 0 ∷ part 5 2 ∷ []; wires = wire_of 1 2 ∷ []; pins = inp 0 ∷ out 3 ∷ [] }

abbrev with_one_lem : Net
with_one_lem = record { elements = point 0 ∷ part 4 2 ∷ part 6 5 ∷ []; wires = wire_of 5 2 ∷ wire_of 1 3 ∷ []; pins = inp 0 ∷ out 4 ∷ [] }

-- the point of the pin, an xor that compares, and the parts of the one and of the other
abbrev both : Net
both = record {
  elements = point 0 ∷ part 4 6 ∷ part 5 11 ∷ part 4 15 ∷ part 6 18 ∷ [];
  wires = wire_of 12 6 ∷ wire_of 17 7 ∷ wire_of 1 11 ∷ wire_of 18 15 ∷ wire_of 1 16 ∷ [];
  pins = inp 0 ∷ out 8 ∷ [];
}

-- the pin's point stays, all else stands d further
abbrev from-two : ℕ → ℕ → ℕ
from-two d zero = 0
from-two d (suc zero) = 1
from-two d (suc (suc x)) = suc (suc x) + d

high : (d x : ℕ) → 2 ≤ x → from-two d x ≡ x + d
high d zero h = absurd (omega arith)
high d (suc zero) h = absurd (omega arith)
high d (suc (suc x)) h = refl

whole : (d i c : ℕ) → 2 ≤ i → (j : ℕ) → j ≤ c → from-two d (i + j) ≡ from-two d i + j
whole d i c h j l = let e : i + j + d ≡ i + d + j = omega arith in high d (i + j) (omega arith) ∙ e ∙ ap (λ (x : ℕ). x + j) (sym (high d i h))

worked_joint : JoinedBy both inverted with_one_lem 8 (from-two 9) (from-two 13)
worked_joint = record {
  left = record { elements = ((refl, here), ((whole 9 2 1 (omega arith), there (there here)), tt)); wires = (there (there here), tt) };
  right = record {
    elements = ((refl, here), ((whole 13 2 2 (omega arith), there (there (there here))), ((whole 13 5 0 (omega arith), there (there (there (there here)))), tt)));
    wires = (there (there (there here)), (there (there (there (there here))), tt));
  };
  left_pins = (inl refl, tt);
  right_pins = (inl refl, tt);
  outputs = refl;
  compared = last (record { gate = 6; made = there here; first = here; second = there here; seen = refl });
}

pub worked_against : Against both inverted with_one_lem 8
worked_against = joined-against both inverted with_one_lem 8 (from-two 9) (from-two 13) worked_joint

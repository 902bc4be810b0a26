-- An output that compares two terminals never shows 1 exactly when they always have the same bit, and first shows 1 where they first differ.
-- Assumes nothing.
use Prim.Native.Nat.{ℕ, suc, ◌<◌}
use mathlib.Core.Path.{◌≡◌, refl, sym, ap, ap₂, ◌∙◌, subst}
use mathlib.Core.Logic.{◌↔◌}
use mathlib.Core.Bool.{Bool, true, false, xor}
use mathlib.Core.List.{List}
use native.Mathlib.Nat.{le_refl}
use lib.Dec.{T}
use Rattle.calculus.specs.Net.{Net}
use Rattle.calculus.specs.Record.{Bits, Possible, part_law, Works, Joined}
use Rattle.trace_theorems.proofs.Sources.{in_all}
use Rattle.never_calculus.specs.Never.{Never, CanShow, FirstShown}
use Rattle.never_calculus.specs.Same.{AlwaysAlike, DifferAt, FirstDiffer, Compares}

pub xor_alike : (x y : Bool) → xor x y ≡ false → x ≡ y
unfolding xor
xor_alike true true e = refl
xor_alike true false e = e
xor_alike false true e = sym e
xor_alike false false e = refl

pub alike_xor : (x y : Bool) → x ≡ y → xor x y ≡ false
unfolding xor
alike_xor true true e = refl
alike_xor true false e = e
alike_xor false true e = sym e
alike_xor false false e = refl

xor_differ : (x y : Bool) → (x ≡ y → ⊥) → xor x y ≡ true
unfolding xor
xor_differ true true d = absurd (d refl)
xor_differ true false d = refl
xor_differ false true d = refl
xor_differ false false d = absurd (d refl)

module _ (m : Net) (o a b : ℕ) (c : Compares m o a b) where
  -- at every tick it has 1 where they differ
  compared : (n : ℕ) (β : Bits) → Possible part_law m n β → (t : ℕ) → t < n → β o t ≡ xor (β a t) (β b t)
  compared n β p t l =
      let g = in_all (Works part_law n β) c.made p.elements in
      let x = in_all (Joined n β) c.left p.wires in
      let y = in_all (Joined n β) c.right p.wires in
      ap (λ (k : ℕ). β k t) (sym c.seen) ∙ g t l ∙ ap₂ xor (sym (x t l)) (sym (y t l))

  module _ (starts : List ℕ) where
    pub same-never : Never m starts o ↔ AlwaysAlike m starts a b
    same-never = (
      (λ h n β s t l. xor_alike (β a t) (β b t) (sym (compared n β s.possible t l) ∙ h n β s t l)),
      (λ h n β s t l. compared n β s.possible t l ∙ alike_xor (β a t) (β b t) (h n β s t l)),
    )

    shows-differ : {t : ℕ} → CanShow m starts o t → DifferAt m starts a b t
    shows-differ {t} s = record {
      record_of = s.record_of;
      starting = s.starting;
      different = λ e. subst T (sym s.one ∙ compared (suc t) s.record_of s.starting.possible t (le_refl (suc t)) ∙ alike_xor _ _ e) tt;
    }

    differ-shows : {t : ℕ} → DifferAt m starts a b t → CanShow m starts o t
    differ-shows {t} d = record { record_of = d.record_of; starting = d.starting; one = compared (suc t) d.record_of d.starting.possible t (le_refl (suc t)) ∙ xor_differ _ _ d.different }

    pub same_first : (t : ℕ) → FirstShown m starts o t ↔ FirstDiffer m starts a b t
    same_first t = (
      (λ h. record { differ = shows-differ h.shows; earlier = λ u l d. h.earlier u l (differ-shows d) }),
      (λ h. record { shows = differ-shows h.differ; earlier = λ u l s. h.earlier u l (shows-differ s) }),
    )

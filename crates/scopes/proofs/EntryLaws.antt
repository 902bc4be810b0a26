-- Entries: stores, and the first or last of a name against Making's `lookup`. Assumes nothing.
use Prim.Native.Nat.{ℕ, suc, ◌+◌, ◌-◌, ◌≤◌, ◌<◌}
use mathlib.Core.Path.{◌≡◌, refl, sym, ap, ◌∙◌}
use mathlib.Core.Bool.{Bool, true, false, cond}
use mathlib.Core.List.{List, [], ◌∷◌}
use native.Mathlib.Omega.{arith}
use lib.Dec.{eqb}
use lib.ListN.{set}
use lib.Seq.{sets}
use borrow.Author.Tests.{eq-eqb, ne_eqb}
use Rattle.notation_calculus.specs.Words.{same_name}
use Rattle.words.specs.Next.{run_at}
use Rattle.scopes.specs.declared.frames.Frame.{Frame}
use Rattle.scopes.specs.Entries.{place_in, first_named, last_named, last_placed}

-- ---- frames

pub four_stores : (l : List ℕ) (c n₀ n₁ n₂ n₃ : ℕ) → set (set (set (set l c n₀) (c + 1) n₁) (c + 2) n₂) (c + 3) n₃ ≡ sets l c (n₀ ∷ n₁ ∷ n₂ ∷ n₃ ∷ [])
four_stores l c n₀ n₁ n₂ n₃ =
    let e₁ : c + 1 ≡ suc c = omega arith in
    let e₂ : c + 2 ≡ suc (suc c) = omega arith in
    let e₃ : c + 3 ≡ suc (suc (suc c)) = omega arith in
    rw (e₁, e₂, e₃)

pub frame_parts : (f : Frame) (n₀ n₁ n₂ n₃ : ℕ) → n₀ ≡ f.seen → n₁ ≡ f.types → n₂ ≡ f.numbers → n₃ ≡ f.variables → record { seen = n₀; types = n₁; numbers = n₂; variables = n₃ } ≡ f
frame_parts f n₀ n₁ n₂ n₃ e₀ e₁ e₂ e₃ = rw (e₀, e₁, e₂, e₃)

-- ---- the first of a name

pub record FirstLeft (text work : List ℕ) (at from to e : ℕ) : Type 0 where
  pub low : from ≤ e
  pub most : e ≤ to
  pub total : first_named text work at from (to - from) ≡ first_named text work at e (to - e)

module _ (text work : List ℕ) (at from to : ℕ) where
  pub first-none : from ≤ to → FirstLeft text work at from to from
  first-none h = record { low = omega arith; most = h; total = refl }

  module _ (e : ℕ) (s : FirstLeft text work at from to e) where
    module _ (more : e < to) (p : ℕ) (is : p ≡ place_in work e) where
      one_entry : first_named text work at from (to - from) ≡ cond (same_name (run_at text at) (run_at text p)) e (first_named text work at (e + 1) (to - (e + 1)))
      one_entry =
          let g : to - e ≡ suc (to - (e + 1)) = omega arith in
          let f : e + 1 ≡ suc e = omega arith in
          s.total ∙ ap (first_named text work at e) g ∙ ap (λ (j : ℕ). cond (same_name (run_at text at) (run_at text (place_in work e))) e (first_named text work at j (to - (e + 1)))) (sym f) ∙ ap (λ (j : ℕ). cond (same_name (run_at text at) (run_at text j)) e (first_named text work at (e + 1) (to - (e + 1)))) (sym is)

      pub first_found : same_name (run_at text at) (run_at text p) ≡ true → e ≡ first_named text work at from (to - from)
      first_found h = sym (one_entry ∙ ap (λ (b : Bool). cond b e (first_named text work at (e + 1) (to - (e + 1)))) h)

      pub first_more : same_name (run_at text at) (run_at text p) ≡ false → FirstLeft text work at from to (e + 1)
      first_more h = record { low = omega (arith, s.low); most = omega arith; total = one_entry ∙ ap (λ (b : Bool). cond b e (first_named text work at (e + 1) (to - (e + 1)))) h }

    pub first-all : to ≤ e → to ≡ first_named text work at from (to - from)
    first-all h =
        let g : to - e ≡ 0 = omega arith in
        let f : to ≡ e = omega (arith, s.most) in
        f ∙ sym (s.total ∙ ap (first_named text work at e) g)

-- ---- the last of a name

pub record LastLeft (text work : List ℕ) (at from to e : ℕ) : Type 0 where
  pub low : from ≤ e
  pub most : e ≤ to
  pub total : last_named text work at from (to - from) ≡ last_named text work at from (e - from)

module _ (text work : List ℕ) (at from to : ℕ) where
  pub last_none : from ≤ to → LastLeft text work at from to to
  last_none h = record { low = h; most = omega arith; total = refl }

  module _ (e : ℕ) (s : LastLeft text work at from to e) where
    module _ (more : from < e) (p : ℕ) (is : p ≡ place_in work (e - 1)) where
      last_entry : last_named text work at from (to - from) ≡ cond (same_name (run_at text at) (run_at text p)) e (last_named text work at from (e - 1 - from))
      last_entry =
          let g : e - from ≡ suc (e - 1 - from) = omega arith in
          let f : from + (e - 1 - from) ≡ e - 1 = omega arith in
          let h : e - 1 + 1 ≡ e = omega arith in
          s.total ∙ ap (last_named text work at from) g ∙ ap (λ (j : ℕ). cond (same_name (run_at text at) (run_at text (place_in work j))) (j + 1) (last_named text work at from (e - 1 - from))) f ∙ ap (λ (j : ℕ). cond (same_name (run_at text at) (run_at text j)) (e - 1 + 1) (last_named text work at from (e - 1 - from))) (sym is) ∙ ap (λ (j : ℕ). cond (same_name (run_at text at) (run_at text p)) j (last_named text work at from (e - 1 - from))) h

      pub last_found : same_name (run_at text at) (run_at text p) ≡ true → e ≡ last_named text work at from (to - from)
      last_found h = sym (last_entry ∙ ap (λ (b : Bool). cond b e (last_named text work at from (e - 1 - from))) h)

      pub last_more : same_name (run_at text at) (run_at text p) ≡ false → LastLeft text work at from to (e - 1)
      last_more h = record { low = omega arith; most = omega (arith, s.most); total = last_entry ∙ ap (λ (b : Bool). cond b e (last_named text work at from (e - 1 - from))) h }

    pub last-all : e ≤ from → from ≡ last_named text work at from (to - from)
    last-all h = let g : e - from ≡ 0 = omega arith in sym (s.total ∙ ap (last_named text work at from) g)

-- ---- the last of a place

pub record PlacedLeft (work : List ℕ) (place from to e : ℕ) : Type 0 where
  pub low : from ≤ e
  pub most : e ≤ to
  pub total : last_placed work place from (to - from) ≡ last_placed work place from (e - from)

module _ (work : List ℕ) (place from to : ℕ) where
  pub placed_none : from ≤ to → PlacedLeft work place from to to
  placed_none h = record { low = h; most = omega arith; total = refl }

  module _ (e : ℕ) (s : PlacedLeft work place from to e) where
    module _ (more : from < e) (p : ℕ) (is : p ≡ place_in work (e - 1)) where
      placed-entry : last_placed work place from (to - from) ≡ cond (eqb p place) e (last_placed work place from (e - 1 - from))
      placed-entry =
          let g : e - from ≡ suc (e - 1 - from) = omega arith in
          let f : from + (e - 1 - from) ≡ e - 1 = omega arith in
          let h : e - 1 + 1 ≡ e = omega arith in
          s.total ∙ ap (last_placed work place from) g ∙ ap (λ (j : ℕ). cond (eqb (place_in work j) place) (j + 1) (last_placed work place from (e - 1 - from))) f ∙ ap (λ (j : ℕ). cond (eqb j place) (e - 1 + 1) (last_placed work place from (e - 1 - from))) (sym is) ∙ ap (λ (j : ℕ). cond (eqb p place) j (last_placed work place from (e - 1 - from))) h

      pub placed-found : p ≡ place → e ≡ last_placed work place from (to - from)
      placed-found h = sym (placed-entry ∙ ap (λ (b : Bool). cond b e (last_placed work place from (e - 1 - from))) (eq-eqb p place h))

      pub placed-more : ¬ (p ≡ place) → PlacedLeft work place from to (e - 1)
      placed-more h = record { low = omega arith; most = omega (arith, s.most); total = placed-entry ∙ ap (λ (b : Bool). cond b e (last_placed work place from (e - 1 - from))) (ne_eqb p place h) }

    pub placed-all : e ≤ from → from ≡ last_placed work place from (to - from)
    placed-all h = let g : e - from ≡ 0 = omega arith in sym (s.total ∙ ap (last_placed work place from) g)

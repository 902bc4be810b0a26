-- The name of a variable by the place of its entry: at a parenthesis it is one that no text has. Assumes nothing.
use Prim.Native.Nat.{ℕ, zero, suc, ◌+◌, ◌≤◌, ◌<◌}
use mathlib.Core.Path.{◌≡◌, refl, sym, ap, ◌∙◌}
use mathlib.Core.Bool.{Bool, true, false, ◌&&◌, cond}
use mathlib.Core.List.{List, [], ◌∷◌}
use native.Mathlib.Omega.{arith}
use native.Mathlib.Decide.{dec_le, ℕ_discrete}
use lib.Dec.{eqb}
use lib.ListN.{length, get_or, take, drop}
use borrow.Author.Tests.{eq-eqb, ne_eqb, lt-leb}
use Rattle.laws.proofs.Regions.{drop_past}
use Rattle.notation_calculus.specs.Words.{same_name, in_name, first, run}
use Rattle.words.specs.Next.{run_at, name_in}
use Rattle.words.proofs.WordLaws.{run-stops, at_front}
use Rattle.words.proofs.ByteLaws.{late_name}
use Rattle.words.proofs.NameLaws.{names-swap}

-- ---- at a parenthesis, and elsewhere

module _ (text : List ℕ) (p : ℕ) where
  -- a parenthesis stands in the text
  pub round_inside : get_or text p 0 ≡ 40 → p < length text
  round_inside e = elim (dec_le (suc p) (length text)) [
    | yes h ↦ h
    | no h ↦ absurd (omega (arith, e, at_front text p ∙ ap first (drop_past text p (omega arith))))
  ]

  pub name_round : get_or text p 0 ≡ 40 → name_in text p ≡ (256 + p) ∷ []
  name_round e = ap (λ (b : Bool). cond b ((256 + p) ∷ []) (run_at text p)) (eq-eqb (get_or text p 0) 40 e)

  name-else : ¬ (get_or text p 0 ≡ 40) → name_in text p ≡ run_at text p
  name-else h = ap (λ (b : Bool). cond b ((256 + p) ∷ []) (run_at text p)) (ne_eqb (get_or text p 0) 40 h)

  -- where a run of letters and digits stands it is the name
  pub name-plain : 0 < run (drop p text) → name_in text p ≡ run_at text p
  name-plain h = name-else (λ e. absurd (omega (arith, run-stops text p (round_inside e) (ap in_name e))))

  pub name-past : length text ≤ p → name_in text p ≡ []
  name-past h = name-else (λ e. absurd (omega (arith, round_inside e))) ∙ ap (λ (s : List ℕ). take (run s) s) (drop_past text p h)

-- ---- names compared

-- a byte of a name is below 256
byte_small : (c q : ℕ) → in_name c ≡ true → 255 < q → ¬ (c ≡ q)
byte_small c q e h z =
    let f : ◌≡◌ {A = Bool} false true = sym (lt-leb c 122 (omega arith)) ∙ late_name c (omega arith) ∙ e in
    let y : ◌≡◌ {A = ℕ} 0 1 = cc in
    absurd (omega arith)

run_never : (s : List ℕ) (q : ℕ) → 255 < q → same_name (take (run s) s) (q ∷ []) ≡ false
run_never [] q h = refl
run_never (c ∷ s) q h = by (in_name c) refl
  where
    by : (b : Bool) → in_name c ≡ b → same_name (take (cond b (suc (run s)) 0) (c ∷ s)) (q ∷ []) ≡ false
    by true e = ap (λ (b : Bool). b && same_name (take (run s) s) []) (ne_eqb c q (byte_small c q e h))
    by false e = refl

module _ (text : List ℕ) (at p : ℕ) where
  some-run : (s : List ℕ) → 0 < run s → same_name (take (run s) s) [] ≡ false
  some-run [] h = absurd (omega arith)
  some-run (c ∷ s) h = by (run (c ∷ s)) h
    where
      by : (n : ℕ) → 0 < n → same_name (take n (c ∷ s)) [] ≡ false
      by zero h = absurd (omega arith)
      by (suc n) h = refl

  -- a name that has letters is no list's
  pub same-plain : 0 < run (drop at text) → same_name (run_at text at) (name_in text p) ≡ same_name (run_at text at) (run_at text p)
  same-plain some = elim (ℕ_discrete (get_or text p 0) 40) [
    | yes e ↦ ap (same_name (run_at text at)) (name_round text p e) ∙ run_never (drop at text) (256 + p) (omega arith) ∙ sym (ap (λ (k : ℕ). same_name (run_at text at) (take k (drop p text))) (run-stops text p (round_inside text p e) (ap in_name e)) ∙ some-run (drop at text) some)
    | no h ↦ ap (same_name (run_at text at)) (name-else text p h)
  ]

  and_true : (b : Bool) → (b && true) ≡ b
  and_true true = refl
  and_true false = refl

  same_places : eqb (256 + at) (256 + p) ≡ eqb p at
  same_places = elim (ℕ_discrete p at) [ yes e ↦ eq-eqb (256 + at) (256 + p) (ap (λ (k : ℕ). 256 + k) (sym e)) ∙ sym (eq-eqb p at e) | no h ↦ ne_eqb (256 + at) (256 + p) (λ e. h (omega arith)) ∙ sym (ne_eqb p at h) ]

  -- the name of a list is that of its place alone
  pub same_round : get_or text at 0 ≡ 40 → same_name ((256 + at) ∷ []) (name_in text p) ≡ eqb p at
  same_round r = elim (ℕ_discrete (get_or text p 0) 40) [
    | yes e ↦ ap (same_name ((256 + at) ∷ [])) (name_round text p e) ∙ and_true (eqb (256 + at) (256 + p)) ∙ same_places
    | no h ↦ ap (same_name ((256 + at) ∷ [])) (name-else text p h) ∙ names-swap ((256 + at) ∷ []) (run_at text p) ∙ run_never (drop p text) (256 + at) (omega arith) ∙ sym (ne_eqb p at (λ e. h (ap (λ (k : ℕ). get_or text k 0) e ∙ r)))
  ]

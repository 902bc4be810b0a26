-- Runs and gaps, a byte at a time. Assumes nothing.
use Prim.Native.Nat.{ℕ, zero, suc, ◌+◌, ◌-◌, ◌≤◌, ◌<◌}
use mathlib.Core.Path.{◌≡◌, refl, sym, ap, ◌∙◌}
use mathlib.Core.Bool.{Bool, true, false, not, ◌&&◌, cond}
use mathlib.Core.List.{List, [], ◌∷◌}
use native.Mathlib.Omega.{arith}
use lib.Dec.{eqb}
use lib.ListN.{length, get_or, take, drop}
use lib.Seq.{drop-cons}
use Rattle.laws.proofs.Regions.{drop_past}
use Rattle.notation_calculus.specs.Words.{blank, ends_line, in_name, first, gap, run}

pub not_yes : (b : Bool) → not b ≡ true → b ≡ false
not_yes true e = sym e
not_yes false e = refl

pub not_no : (b : Bool) → not b ≡ false → b ≡ true
not_no true e = refl
not_no false e = sym e

pub drop_here : (s : List ℕ) (at : ℕ) → at < length s → drop at s ≡ get_or s at 0 ∷ drop (at + 1) s
drop_here s at h = let next : suc at ≡ at + 1 = omega arith in drop-cons s at 0 h ∙ ap (λ (n : ℕ). get_or s at 0 ∷ drop n s) next

pub take-here : (s : List ℕ) (at n : ℕ) → 0 < n → at < length s → take n (drop at s) ≡ get_or s at 0 ∷ take (n - 1) (drop (at + 1) s)
take-here s at zero p h = absurd (omega arith)
take-here s at (suc n) p h = let e : suc n - 1 ≡ n = omega arith in rw (e, drop_here s at h)

-- ---- runs

run_cons : (c : ℕ) (s : List ℕ) (b : Bool) → in_name c ≡ b → run (c ∷ s) ≡ cond b (suc (run s)) 0
run_cons c s b e = ap (λ (x : Bool). cond x (suc (run s)) 0) e

-- a byte that goes on with the run
pub run_on : (s : List ℕ) (at : ℕ) → at < length s → in_name (get_or s at 0) ≡ true → run (drop at s) ≡ suc (run (drop (at + 1) s))
run_on s at h e = ap run (drop_here s at h) ∙ run_cons (get_or s at 0) (drop (at + 1) s) true e

-- .. and one that does not
pub run-stops : (s : List ℕ) (at : ℕ) → at < length s → in_name (get_or s at 0) ≡ false → run (drop at s) ≡ 0
run-stops s at h e = ap run (drop_here s at h) ∙ run_cons (get_or s at 0) (drop (at + 1) s) false e

-- a run from behind its first byte
pub run-behind : (s : List ℕ) (at end : ℕ) → at < length s → in_name (get_or s at 0) ≡ true → end ≡ at + 1 + run (drop (at + 1) s) → end ≡ at + run (drop at s)
run-behind s at end h e r = omega (arith, run_on s at h e)

pub run_past : (s : List ℕ) (at : ℕ) → length s ≤ at → run (drop at s) ≡ 0
run_past s at h = ap run (drop_past s at h)

-- ---- gaps

-- two dashes stand at an offset
abbrev pub dashes_at : List ℕ → ℕ → Bool
dashes_at s at = eqb (get_or s at 0) 45 && eqb (first (drop (at + 1) s)) 45

-- in a comment every byte is passed, and the line's end ends it
comment_cons : (c : ℕ) (s : List ℕ) (b : Bool) → ends_line c ≡ b → gap true (c ∷ s) ≡ suc (gap (not b) s)
comment_cons c s b e = ap (λ (x : Bool). suc (gap (not x) s)) e

gap_cons : (c : ℕ) (s : List ℕ) (b d : Bool) → blank c ≡ b → (eqb c 45 && eqb (first s) 45) ≡ d → gap false (c ∷ s) ≡ cond b (suc (gap false s)) (cond d (suc (gap true s)) 0)
gap_cons c s b d e g = ap (λ (x : Bool). cond x (suc (gap false s)) (cond (eqb c 45 && eqb (first s) 45) (suc (gap true s)) 0)) e ∙ ap (λ (x : Bool). cond b (suc (gap false s)) (cond x (suc (gap true s)) 0)) g

pub gap-blank : (s : List ℕ) (at : ℕ) → at < length s → blank (get_or s at 0) ≡ true → gap false (drop at s) ≡ suc (gap false (drop (at + 1) s))
gap-blank s at h e = ap (gap false) (drop_here s at h) ∙ gap_cons (get_or s at 0) (drop (at + 1) s) true _ e refl

pub gap-stops : (s : List ℕ) (at : ℕ) → at < length s → blank (get_or s at 0) ≡ false → dashes_at s at ≡ false → gap false (drop at s) ≡ 0
gap-stops s at h e d = ap (gap false) (drop_here s at h) ∙ gap_cons (get_or s at 0) (drop (at + 1) s) false false e d

gap-none : (b : Bool) → gap b [] ≡ 0
gap-none true = refl
gap-none false = refl

pub gap-past : (s : List ℕ) (at : ℕ) (b : Bool) → length s ≤ at → gap b (drop at s) ≡ 0
gap-past s at b h = ap (gap b) (drop_past s at h) ∙ gap-none b

-- the byte at an offset is the first of those from there on
pub at_front : (s : List ℕ) (n : ℕ) → get_or s n 0 ≡ first (drop n s)
at_front [] zero = refl
at_front [] (suc n) = refl
at_front (c ∷ s) zero = refl
at_front (c ∷ s) (suc n) = at_front s n

pub and_false : (b : Bool) → (b && false) ≡ false
and_false true = refl
and_false false = refl

-- a byte that is no dash begins no comment
pub no_dash : (s : List ℕ) (at : ℕ) → eqb (get_or s at 0) 45 ≡ false → dashes_at s at ≡ false
no_dash s at e = ap (λ (b : Bool). b && eqb (first (drop (at + 1) s)) 45) e

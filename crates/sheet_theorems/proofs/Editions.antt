-- The two editions (document 02, L7): what the first byte decides, and what stays as it was in the first. Assumes nothing.
use Prim.Native.Nat.{ℕ, zero, suc, ◌+◌, ◌<◌}
use mathlib.Core.Path.{◌≡◌, refl, sym, ap, subst, ◌∙◌}
use mathlib.Core.Bool.{Bool, cond}
use mathlib.Core.List.{List, ◌∷◌}
use native.Mathlib.Omega.{arith}
use lib.Dec.{T, leb, ltb, lt→ltb}
use lib.ListN.{length, drop, get_or}
use Rattle.calculus.specs.Answer.{Answer, good, refused, ◌>>=◌, refuse, need}
use Rattle.calculus.specs.Terms.{Edition, first, second, is_second, opening, Term, name, nodes}
use Rattle.calculus.specs.Read.{byte, head_at, read_term, Sheet, read_records, edition_of, records_of, offset_by, read_sheet}
use Rattle.sheet_theorems.specs.Laid.{Ranged}
use Rattle.laws.proofs.Tests.{by_eqb}
use Rattle.sheet_theorems.specs.Subterms.{subterms}
use Rattle.sheet_theorems.proofs.Going.{passes}
use Rattle.sheet_theorems.proofs.Laying.{laid}
use Rattle.sheet_theorems.proofs.SubtermRead.{subterm_limits}

-- ---- the first byte

offset_none : {A : Type 0} (m : Answer A) → offset_by 0 m ≡ m
offset_none (good a) = refl
offset_none (refused why) =
    let z : 0 + why.place ≡ why.place = omega arith in
    ap (λ (p : ℕ). refused (record { number = why.number; place = p; wanted = why.wanted; found = why.found })) z

edition_first : (s : List ℕ) → ¬ (byte s 0 ≡ 0x31) → edition_of s ≡ first
unfolding edition_of
edition_first s h = by_eqb (λ (t : Bool). cond t second first ≡ first) (byte s 0) 0x31 (λ e. absurd (h e)) (λ d. refl)

-- without 31 all bytes are records of the first edition, and offsets are theirs
pub first-sheet : (s : List ℕ) → ¬ (byte s 0 ≡ 0x31) → read_sheet s ≡ (need (leb (length s) 16384) 2 0 >>= λ _. read_records first s)
unfolding read_sheet records_of
first-sheet s h =
    ap (λ (E : Edition). need (leb (length s) 16384) 2 0 >>= λ _. offset_by (length (opening E)) (read_records E (drop (length (opening E)) s))) (edition_first s h)
    ∙ ap (λ (m : Answer Sheet). need (leb (length s) 16384) 2 0 >>= λ _. m) (offset_none (read_records first s))

-- behind 31 they are of the second, and offsets are one more
pub second-sheet : (s : List ℕ) → read_sheet (0x31 ∷ s) ≡ (need (leb (suc (length s)) 16384) 2 0 >>= λ _. offset_by 1 (read_records second s))
unfolding read_sheet edition_of records_of
second-sheet s = refl

-- ---- kinds that are unknown where a node is due

module _ (s : List ℕ) (types at n : ℕ) (here : at < length s) where
  unread : (E : Edition) (more : ℕ) → ((more : ℕ) → head_at E more s types at n ≡ refuse 4 at) → read_term E more s types at n ≡ refuse 4 at
  unfolding read_term
  unread E zero h = rw (h zero) refl
  unread E (suc more) h = rw (h (suc more)) refl

  head-1B : (more : ℕ) → byte s at ≡ 0x1B → head_at first more s types at n ≡ refuse 4 at
  unfolding head_at
  head-1B more e = passes (ltb at (length s)) 3 at _ (lt→ltb at (length s) here) (rw e refl)

  head-31 : (E : Edition) (more : ℕ) → byte s at ≡ 0x31 → head_at E more s types at n ≡ refuse 4 at
  unfolding head_at
  head-31 E more e = passes (ltb at (length s)) 3 at _ (lt→ltb at (length s) here) (rw e refl)

  -- 1B in the first edition
  pub first_1_b : (more : ℕ) → byte s at ≡ 0x1B → read_term first more s types at n ≡ refuse 4 at
  first_1_b more e = unread first more (λ more. head-1B more e)

  -- 31 anywhere but first
  pub later_31 : (E : Edition) (more : ℕ) → byte s at ≡ 0x31 → read_term E more s types at n ≡ refuse 4 at
  later_31 E more e = unread E more (λ more. head-31 E more e)

-- ---- a first_edition sheet that is read has no node of kind 1B

first≢second : ¬ (first ≡ second)
first≢second e = subst (λ (E : Edition). T (is_second E)) (sym e) tt

pub first_term : (s : List ℕ) (σ : Sheet) (k : ℕ) (a e : Term) → read_sheet s ≡ good σ → σ.edition ≡ first → k < nodes σ.term → ¬ (get_or (subterms σ.term) k σ.term ≡ name a e)
first_term s σ k a e h f l q =
    let z = laid s σ h in
    let b = subterm_limits σ.edition σ.table 64 2048 k σ.term (record { ranged = z.ranged; deep = z.deep; few = z.few }) l in
    let r : Ranged σ.edition σ.table (name a e) = subst (λ (u : Term). Ranged σ.edition σ.table u) q b.ranged in
    first≢second (sym f ∙ r.0)

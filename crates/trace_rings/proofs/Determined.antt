-- The contracts determine what is answered. Of the working memory, `list` determines all but what stands behind its list up to the
-- order, and `lowest` determines what it does not use: below the order, and above the marks. Assumes nothing.
use mathlib.Core.Path.{◌≡◌, refl, sym, subst}
use mathlib.Core.List.{List}
use Prim.Native.Nat.{ℕ, zero, suc, ◌+◌, ◌≤◌, ◌<◌}
use native.Mathlib.Omega.{arith}
use native.Mathlib.Decide.{dec_lt}
use lib.ListN.{get_or}
use contract.Lifetimes.{Lfts}
use denote.Triple.Clauses.{AtExit}
use borrow.Fn.Kinds.{Dens, res_t, ended_of}
use Rattle.laws.proofs.OneResult.{Result}
use Rattle.trace_steps.specs.Map.{rest_at}
use Rattle.trace_rings.specs.Lists.{Chosen}
use Rattle.trace_rings.specs.Rings.{rest, InputOf, Behind, First, here, none}
use Rattle.trace_rings.proofs.list.list.Kinds as list
use Rattle.trace_rings.proofs.list.list.Reads as list-reads
use Rattle.trace_rings.proofs.ring.lowest.Kinds as lowest
use Rattle.trace_rings.proofs.ring.lowest.Reads as lowest-reads

-- ---- the list

-- two falling lists of the same members: one is not longer, and they are the same place by place
module _ (u : List ℕ) (end : ℕ) where
  same-below : (w v : List ℕ) (n m : ℕ) → Chosen u end w n → Chosen u end v m → (k : ℕ) → ((i : ℕ) → i < k → i < m → get_or w (rest_at + i) 0 ≡ get_or v (rest_at + i) 0) → k < n
      → (k < m) × (get_or w (rest_at + k) 0 ≤ get_or v (rest_at + k) 0)
  same-below w v n m a b k f l =
      let e = a.each k l in
      let r = b.all (get_or w (rest_at + k) 0) e.0 e.1 in
      let at : k ≤ r.0 = elim (dec_lt r.0 k) [
        | yes h ↦ absurd (let x = a.falling r.0 k h l in let y = f r.0 h r.1 in omega (arith, r.2))
        | no h ↦ omega arith
      ] in (
        omega (arith, r.1),
        elim (dec_lt k r.0) [
          | yes h ↦ (let x = b.falling k r.0 h r.1 in omega (arith, r.2))
          | no h ↦ (let z : r.0 ≡ k = omega arith in let y = subst (λ (i : ℕ). get_or v (rest_at + i) 0 ≡ get_or w (rest_at + k) 0) z r.2 in omega arith)
        ],
      )

  module _ (w v : List ℕ) (n m : ℕ) (a : Chosen u end w n) (b : Chosen u end v m) where
    -- below k, and then at k
    same_at : (k i : ℕ) → i < k → i < n → i < m → get_or w (rest_at + i) 0 ≡ get_or v (rest_at + i) 0
    same_at zero i l p q = absurd (omega arith)
    same_at (suc k) i l p q =
        let x = same-below w v n m a b i (λ j h c. same_at k j (omega arith) (omega arith) c) p in
        let y = same-below v w m n b a i (λ j h c. sym (same_at k j (omega arith) c (omega arith))) q in
        omega (arith, x.1, y.1)

    pub same_count : n ≤ m
    same_count = elim (dec_lt m n) [
      | yes h ↦ absurd (let x = same-below w v n m a b m (λ i l c. same_at m i l (omega arith) c) h in omega (arith, x.0))
      | no h ↦ omega arith
    ]

    pub same-entry : (i : ℕ) → i < n → i < m → get_or w (rest_at + i) 0 ≡ get_or v (rest_at + i) 0
    same-entry i p q = same_at (suc i) i (omega arith) p q

pub list_determined : (κs : Lfts 1) (a : Dens κs list.ps) (x y : (res_t list.r κs).Denot) (s t : AtExit (ended_of 1 list.ps list.r) κs)
    → list-reads.Post κs a x s → list-reads.Post κs a y t → (x ≡ y) × ((i : ℕ) → i < x → get_or s.0.now (rest_at + i) 0 ≡ get_or t.0.now (rest_at + i) 0)
list_determined κs a x y s t f g =
    let p = same_count _ _ _ _ x y f g in
    let q = same_count _ _ _ _ y x g f in
    (omega arith, λ i l. same-entry _ _ _ _ x y f g i l (omega arith))

-- ---- the lowest input

one_input : (w : List ℕ) (j k x y : ℕ) → j ≡ k → InputOf w (rest w j) x → Behind w x (rest w j) → InputOf w (rest w k) y → Behind w y (rest w k)
    → ((z : ℕ) → z < x → InputOf w (rest w j) z → Behind w z (rest w j) → ⊥) → ((z : ℕ) → z < y → InputOf w (rest w k) z → Behind w z (rest w k) → ⊥) → x ≡ y
one_input w j k x y e i b i' b' d d' =
    elim (dec_lt x y) [
      | yes h ↦ absurd (d' x h (subst (λ (n : ℕ). InputOf w (rest w n) x) e i) (subst (λ (n : ℕ). Behind w x (rest w n)) e b))
      | no h ↦ elim (dec_lt y x) [
        | yes l ↦ absurd (d y l (subst (λ (n : ℕ). InputOf w (rest w n) y) (sym e) i') (subst (λ (n : ℕ). Behind w y (rest w n)) (sym e) b'))
        | no l ↦ omega arith
      ]
    ]

one_place : {w : List ℕ} {left r q : ℕ} → First w left r → First w left q → r ≡ q
one_place (none f) (none g) = refl
one_place (none f) (here j x l i b c d) = absurd (f j l x i b)
one_place (here j x l i b c d) (none g) = absurd (g j l x i b)
one_place {w} (here j x l i b c d) (here k y l' i' b' c' d') =
    elim (dec_lt j k) [
      | yes h ↦ absurd (c k h l' y i' b')
      | no h ↦ elim (dec_lt k j) [
        | yes q ↦ absurd (c' j q l x i b)
        | no q ↦ one_input w j k x y (omega arith) i b i' b' d d'
      ]
    ]

pub lowest-determined : Result lowest.ps lowest.r lowest-reads.Post
lowest-determined κs a x y s t f g = one_place f.place g.place

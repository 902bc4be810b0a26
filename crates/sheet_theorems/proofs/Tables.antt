-- The table that the reader hands out: each number's type is what its record says, is well formed, and has no other number. Assumes nothing.
use Prim.Native.Nat.{ℕ, zero, suc, ◌+◌, ◌<◌, ◌≤◌}
use mathlib.Core.Path.{◌≡◌, refl, sym, subst, ◌∙◌}
use mathlib.Core.Logic.{◌⊎◌, ⊎_elim}
use mathlib.Core.Bool.{Bool, true, false, not, ◌&&◌}
use mathlib.Core.List.{List, [], ◌∷◌, ◌++◌}
use native.Mathlib.Omega.{arith}
use native.Mathlib.Nat.{eq-or-lt_of_le, le_of_suc-le-suc, not-suc-le-zero}
use native.Mathlib.Decide.{dec_lt}
use lib.Dec.{T, eqb, ltb, leb, ltb→lt, leb→le, lit≤, T_not, eqb_refl}
use lib.ListN.{length, get_or, length-append, get_or-append, get_or-eq_default}
use lib.Seq.{get_or-append_seam}
use Rattle.calculus.specs.Answer.{good, need}
use Rattle.calculus.proofs.Answers.{refused≢good, on-need}
use Rattle.calculus.specs.Types.{Ty, bit, size, sharable, TyRec, rec01, rec02, rec03, rec04, rec_eq, Table, rec_at, ty_of, tys_from, tree}
use Rattle.calculus.specs.Read.{known, formed, repeated, check_type}
use Rattle.sheet_theorems.specs.Laid.{Agrees, Below, TableOk}
use Rattle.laws.proofs.Tests.{and_both, and_of, or_left, or_right}

pub tys_snoc : (acc : List Ty) (Θ : Table) (r : TyRec) → tys_from acc (Θ ++ r ∷ []) ≡ tys_from acc Θ ++ ty_of (tys_from acc Θ) r ∷ []
tys_snoc acc [] r = refl
tys_snoc acc (q ∷ Θ) r = tys_snoc (acc ++ ty_of acc q ∷ []) Θ r

pub tys_length : (acc : List Ty) (Θ : Table) → length (tys_from acc Θ) ≡ length acc + length Θ
tys_length acc [] = omega arith
tys_length acc (q ∷ Θ) = omega (arith, tys_length (acc ++ ty_of acc q ∷ []) Θ, length-append acc (ty_of acc q ∷ []))

pub tys_count : (Θ : Table) → length (tys_from [] Θ) ≡ length Θ
tys_count Θ = omega (arith, tys_length [] Θ)

seam : {A : Type 0} (l : List A) (x d : A) (n : ℕ) → length l ≡ n → get_or (l ++ x ∷ []) n d ≡ x
seam l x d n e = subst (λ (k : ℕ). get_or (l ++ x ∷ []) k d ≡ x) e (get_or-append_seam l x [] d)

module _ (Θ : Table) (r : TyRec) where
  abbrev more : Table
  more = Θ ++ r ∷ []

  more-length : length more ≡ length Θ + 1
  more-length = length-append Θ (r ∷ [])

  tree-old : (n : ℕ) → n < length Θ → tree more n ≡ tree Θ n
  tree-old n h = rw (tys_snoc [] Θ r) (get_or-append (tys_from [] Θ) _ bit n (rw (tys_count Θ) h))

  pub tree_new : tree more (length Θ) ≡ ty_of (tys_from [] Θ) r
  tree_new = rw (tys_snoc [] Θ r) (seam (tys_from [] Θ) (ty_of (tys_from [] Θ) r) bit (length Θ) (tys_count Θ))

  rec-old : (n : ℕ) → n < length Θ → rec_at more n ≡ rec_at Θ n
  rec-old n h = get_or-append Θ _ rec01 n h

  rec-new : rec_at more (length Θ) ≡ r
  rec-new = seam Θ r rec01 (length Θ) refl

  -- what holds of an old type number holds on
  agrees-old : (q : TyRec) (ρ : Ty) → Below (length Θ) q → Agrees Θ q ρ → Agrees more q ρ
  agrees-old rec01 ρ k a = a
  agrees-old (rec02 x y) ρ k a = rw (tree-old x k.0, tree-old y k.1) a
  agrees-old (rec03 x y) ρ k a = rw (tree-old x k.0, tree-old y k.1) a
  agrees-old (rec04 x y) ρ k a = rw (tree-old x k.0, tree-old y k.1) a

need_good : (t : Bool) (n p : ℕ) (u : Unit {0}) → need t n p ≡ good u → T t
need_good true n p u e = tt
need_good false n p u e = absurd (refused≢good e)

-- numbers below one bound are below a higher one
pub wider : {m n : ℕ} (q : TyRec) → m ≤ n → Below m q → Below n q
wider rec01 h k = tt
wider (rec02 a b) h k = (omega arith, omega arith)
wider (rec03 a b) h k = (omega arith, omega arith)
wider (rec04 a b) h k = (omega arith, omega arith)

-- a record that passes the tests, over the table
both_below : (a b n : ℕ) → T (ltb a n && ltb b n) → (a < n) × (b < n)
both_below a b n t = let (p, q) = and_both (ltb a n) _ t in (ltb→lt a n p, ltb→lt b n q)

below_of : (Θ : Table) (r : TyRec) → T (known Θ r) → Below (length Θ) r
below_of Θ rec01 t = tt
below_of Θ (rec02 a b) t = both_below a b (length Θ) t
below_of Θ (rec03 a b) t = both_below a b (length Θ) t
below_of Θ (rec04 a b) t = both_below a b (length Θ) t

agrees_new : (Θ : Table) (r : TyRec) → T (formed Θ r) → Agrees Θ r (ty_of (tys_from [] Θ) r)
agrees_new Θ rec01 t = refl
agrees_new Θ (rec02 a b) t = let (p, q) = and_both (sharable (tree Θ a)) _ t in (refl, p, q)
agrees_new Θ (rec03 a b) t = (refl, t)
agrees_new Θ (rec04 a b) t = (refl, t)

repeats : (Θ : Table) (r : TyRec) (n : ℕ) → n < length Θ → T (rec_eq (rec_at Θ n) r) → T (repeated Θ r)
repeats [] r n h t = absurd (not-suc-le-zero h)
repeats (q ∷ Θ) r zero h t = or_left (rec_eq q r) (repeated Θ r) t
repeats (q ∷ Θ) r (suc n) h t = or_right (rec_eq q r) (repeated Θ r) (repeats Θ r n (le_of_suc-le-suc h) t)

module _ (Θ : Table) (ok : TableOk Θ) where
  in_table : (n : ℕ) → n < length Θ → Below (length Θ) (rec_at Θ n)
  in_table n h = wider (rec_at Θ n) (omega arith) (ok.earlier n h)

  eqb_same : (a b : ℕ) → a < length Θ → b < length Θ → tree Θ a ≡ tree Θ b → T (eqb a b)
  eqb_same a b ha hb e = subst (λ (x : ℕ). T (eqb a x)) (ok.distinct a b ha hb e) (eqb_refl a)

  -- two records of one type are one
  same-rec : (q r : TyRec) (ρ : Ty) → Below (length Θ) q → Below (length Θ) r → Agrees Θ q ρ → Agrees Θ r ρ → T (rec_eq q r)
  same-rec rec01 rec01 ρ k l a b = tt
  same-rec (rec02 x y) (rec02 z w) ρ k l a b =
      let p = a.0 in
      let q = b.0 in
      let e : tree Θ x ≡ tree Θ z = cc in
      let f : tree Θ y ≡ tree Θ w = cc in
      and_of (eqb x z) (eqb y w) (eqb_same x z k.0 l.0 e) (eqb_same y w k.1 l.1 f)
  same-rec (rec03 x y) (rec03 z w) ρ k l a b =
      let p = a.0 in
      let q = b.0 in
      let e : tree Θ x ≡ tree Θ z = cc in
      let f : tree Θ y ≡ tree Θ w = cc in
      and_of (eqb x z) (eqb y w) (eqb_same x z k.0 l.0 e) (eqb_same y w k.1 l.1 f)
  same-rec (rec04 x y) (rec04 z w) ρ k l a b =
      let p = a.0 in
      let q = b.0 in
      let e : tree Θ x ≡ tree Θ z = cc in
      let f : tree Θ y ≡ tree Θ w = cc in
      and_of (eqb x z) (eqb y w) (eqb_same x z k.0 l.0 e) (eqb_same y w k.1 l.1 f)
  same-rec rec01 (rec02 z w) ρ k l a b = let p = a in let q = b.0 in let z : ◌≡◌ {A = ℕ} 0 1 = cc in omega arith
  same-rec rec01 (rec03 z w) ρ k l a b = let p = a in let q = b.0 in let z : ◌≡◌ {A = ℕ} 0 1 = cc in omega arith
  same-rec rec01 (rec04 z w) ρ k l a b = let p = a in let q = b.0 in let z : ◌≡◌ {A = ℕ} 0 1 = cc in omega arith
  same-rec (rec02 x y) rec01 ρ k l a b = let p = a.0 in let q = b in let z : ◌≡◌ {A = ℕ} 0 1 = cc in omega arith
  same-rec (rec02 x y) (rec03 z w) ρ k l a b = let p = a.0 in let q = b.0 in let z : ◌≡◌ {A = ℕ} 0 1 = cc in omega arith
  same-rec (rec02 x y) (rec04 z w) ρ k l a b = let p = a.0 in let q = b.0 in let z : ◌≡◌ {A = ℕ} 0 1 = cc in omega arith
  same-rec (rec03 x y) rec01 ρ k l a b = let p = a.0 in let q = b in let z : ◌≡◌ {A = ℕ} 0 1 = cc in omega arith
  same-rec (rec03 x y) (rec02 z w) ρ k l a b = let p = a.0 in let q = b.0 in let z : ◌≡◌ {A = ℕ} 0 1 = cc in omega arith
  same-rec (rec03 x y) (rec04 z w) ρ k l a b = let p = a.0 in let q = b.0 in let z : ◌≡◌ {A = ℕ} 0 1 = cc in omega arith
  same-rec (rec04 x y) rec01 ρ k l a b = let p = a.0 in let q = b in let z : ◌≡◌ {A = ℕ} 0 1 = cc in omega arith
  same-rec (rec04 x y) (rec02 z w) ρ k l a b = let p = a.0 in let q = b.0 in let z : ◌≡◌ {A = ℕ} 0 1 = cc in omega arith
  same-rec (rec04 x y) (rec03 z w) ρ k l a b = let p = a.0 in let q = b.0 in let z : ◌≡◌ {A = ℕ} 0 1 = cc in omega arith

  module _ (r : TyRec) (k : Below (length Θ) r) (f : T (formed Θ r)) (d : T (not (repeated Θ r))) (z : size (ty_of (tys_from [] Θ) r) ≤ 128) (room : length Θ + 1 ≤ 256) where
    abbrev Φ : Table
    Φ = Θ ++ r ∷ []

    -- by place: an old number, or the new one
    place : (P : ℕ → Type 0) → ((n : ℕ) → n < length Θ → P n) → P (length Θ) → (n : ℕ) → n < length Φ → P n
    place P old new n h =
        ⊎_elim (λ (e : n ≡ length Θ). subst P (sym e) new) (λ l. old n l) (eq-or-lt_of_le (let e = more-length Θ r in omega arith))

    beyond : (P : TyRec → Ty → Type 0) → P rec01 bit → (n : ℕ) → length Φ ≤ n → P (rec_at Φ n) (tree Φ n)
    beyond P past n h =
        let i : length (tys_from [] Φ) ≤ n = rw (tys_count Φ) h in
        rw (get_or-eq_default Φ rec01 h, get_or-eq_default (tys_from [] Φ) bit i) past

    -- or none at all, with the record 01 and the type 1
    anywhere : (P : TyRec → Ty → Type 0) → ((n : ℕ) → n < length Φ → P (rec_at Φ n) (tree Φ n)) → P rec01 bit → (n : ℕ) → P (rec_at Φ n) (tree Φ n)
    anywhere P at past n = elim (dec_lt n (length Φ)) [ yes h ↦ at n h | no h ↦ beyond P past n (omega arith) ]

    agrees_at : (n : ℕ) → n < length Φ → Agrees Φ (rec_at Φ n) (tree Φ n)
    agrees_at = place (λ n. Agrees Φ (rec_at Φ n) (tree Φ n))
        (λ n h. rw (rec-old Θ r n h, tree-old Θ r n h) (agrees-old Θ r (rec_at Θ n) (tree Θ n) (in_table n h) (ok.agrees n)))
        (rw (rec-new Θ r, tree_new Θ r) (agrees-old Θ r r (ty_of (tys_from [] Θ) r) k (agrees_new Θ r f)))

    clash : (a : ℕ) → a < length Θ → tree Φ a ≡ tree Φ (length Θ) → ⊥
    clash a h e =
        T_not (repeated Θ r) d
        (repeats Θ r a h (same-rec (rec_at Θ a) r (tree Θ a) (in_table a h) k (ok.agrees a)
        (subst (λ (ρ : Ty). Agrees Θ r ρ) (sym (sym (tree-old Θ r a h) ∙ e ∙ tree_new Θ r)) (agrees_new Θ r f))))

    pub grown : TableOk Φ
    grown = record {
      agrees = anywhere (λ q τ. Agrees Φ q τ) agrees_at refl;
      earlier = place (λ n. Below n (rec_at Φ n)) (λ n h. rw (rec-old Θ r n h) (ok.earlier n h)) (rw (rec-new Θ r) k);
      distinct = λ a b ha hb. place (λ a. tree Φ a ≡ tree Φ b → a ≡ b)
          (λ a h. place (λ b. tree Φ a ≡ tree Φ b → a ≡ b) (λ b i e. ok.distinct a b h i (sym (tree-old Θ r a h) ∙ e ∙ tree-old Θ r b i)) (λ e. absurd (clash a h e)) b hb)
          (place (λ b. tree Φ (length Θ) ≡ tree Φ b → length Θ ≡ b) (λ b i e. absurd (clash b i (sym e))) (λ e. refl) b hb) a ha;
      few = rw (more-length Θ r) room;
      small = anywhere (λ q τ. size τ ≤ 128) (place (λ n. size (tree Φ n) ≤ 128) (λ n h. rw (tree-old Θ r n h) (ok.small n)) (rw (tree_new Θ r) z)) (lit≤ tt);
    }

pub empty-ok : TableOk []
empty-ok = record { agrees = λ n. refl; earlier = λ n h. absurd (not-suc-le-zero h); distinct = λ a b h. absurd (not-suc-le-zero h); few = lit≤ tt; small = λ n. lit≤ tt }

-- a record that passes the reader's tests makes the table one longer
pub checked : (Θ : Table) (r : TyRec) (at : ℕ) (u : Unit {0}) → TableOk Θ → length Θ + 1 ≤ 256 → check_type Θ r at ≡ good u → TableOk (Θ ++ r ∷ [])
checked Θ r at u ok room e =
    on-need (known Θ r) 5 at _ u e λ h₁ e₁.
    on-need (formed Θ r) 6 at _ u e₁ λ h₂ e₂.
    on-need (not (repeated Θ r)) 7 at _ u e₂ λ h₃ e₃.
    grown Θ ok r (below_of Θ r h₁) h₂ h₃ (leb→le _ _ (need_good (leb (size (ty_of (tys_from [] Θ) r)) 128) 8 at u e₃)) room

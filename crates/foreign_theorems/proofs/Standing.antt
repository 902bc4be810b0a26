-- What the reader of netlists reads at an offset stood there: the record's own bytes. Assumes nothing.
use Prim.Native.Nat.{ℕ, ◌+◌, ◌/◌, ◌%◌, ◌<◌, ◌≤◌}
use mathlib.Core.Path.{◌≡◌, refl, ap, ap₂, ◌∙◌, subst}
use mathlib.Core.Bool.{Bool, true, false, cond}
use mathlib.Core.List.{List, ◌∷◌, ◌++◌}
use native.Mathlib.Omega.{arith}
use native.Mathlib.Decide.{dec_le}
use lib.Dec.{T, eqb, ltb, leb, eqb→eq, leb→le}
use lib.ListN.{length, drop}
use borrow.Author.Tests.{lt-ltb, ltb-true}
use Rattle.laws.proofs.Tests.{T-is}
use Rattle.calculus.specs.Terms.{parts}
use Rattle.calculus.specs.Read.{byte}
use Rattle.calculus.specs.Net.{point, part, Item, element, wire, pin, two, item_bytes}
use Rattle.calculus.specs.NetRead.{Fits, item_size, item, ended, broken, two_at, of_kind, item_at}
use Rattle.sheet_theorems.proofs.Bytes.{front_one, front-two}
use Rattle.circuit_theorems.proofs.Lists.{all_get_d}
use Rattle.foreign_calculus.specs.Foreign.{Bytes}

pub record Stood (s : List ℕ) (at : ℕ) (r : Item) : Type 0 where
  pub fits : Fits r
  pub bytes : drop at s ≡ item_bytes r ++ drop (at + item_size r) s
  pub room : at + item_size r ≤ length s

on_test : {A C : Type 0} (b : Bool) (x y z : A) → cond b x y ≡ z → (T b → x ≡ z → C) → (y ≡ z → C) → C
on_test true x y z e f g = f tt e
on_test false x y z e f g = g e

pub item_inj : {q r : Item} → item q ≡ item r → q ≡ r
item_inj e = cc

broken_not : {r : Item} → broken ≡ item r → ⊥
broken_not e = let z : ◌≡◌ {A = ℕ} 0 1 = cc in omega arith

item_no : {r : Item} → item r ≡ ended → ⊥
item_no e = let z : ◌≡◌ {A = ℕ} 0 1 = cc in omega arith

broken_no : broken ≡ ended → ⊥
broken_no e = let z : ◌≡◌ {A = ℕ} 0 1 = cc in omega arith

ended_not : {r : Item} → ended ≡ item r → ⊥
ended_not e = let z : ◌≡◌ {A = ℕ} 0 1 = cc in omega arith

-- nothing more is read only at the end
pub ended-stood : (s : List ℕ) (at : ℕ) → item_at s at ≡ ended → length s ≤ at
unfolding item_at
ended-stood s at e =
    elim (dec_le (length s) at) [
      | yes h ↦ h
      | no h ↦
          let q : of_kind (byte s at) s at ≡ ended = rw (lt-ltb at (length s) (omega arith)) at e in
          on_test (eqb (byte s at) 0x21) _ _ ended q (λ _ e₁. on_test (leb (at + 3) (length s)) _ broken ended e₁ (λ _ z. absurd (item_no z)) (λ z. absurd (broken_no z))) (λ e₁.
          on_test (eqb (byte s at) 0x22) _ _ ended e₁ (λ _ e₂. on_test (leb (at + 4) (length s)) _ broken ended e₂ (λ _ e₃. on_test (ltb (byte s (at + 1)) (length parts)) _ broken ended e₃ (λ _ z. absurd (item_no z)) (λ z. absurd (broken_no z))) (λ z. absurd (broken_no z))) (λ e₂.
          on_test (eqb (byte s at) 0x23) _ _ ended e₂ (λ _ e₃. on_test (leb (at + 5) (length s)) _ broken ended e₃ (λ _ z. absurd (item_no z)) (λ z. absurd (broken_no z))) (λ e₃.
          on_test (eqb (byte s at) 0x24) _ broken ended e₃ (λ _ e₄. on_test (leb (at + 3) (length s)) _ broken ended e₄ (λ _ z. absurd (item_no z)) (λ z. absurd (broken_no z))) (λ z. absurd (broken_no z)))))
    ]

module _ (s : List ℕ) (b : Bytes s) where
  low : (i : ℕ) → byte s i < 256
  low i = all_get_d (λ x. x < 256) s i 0 b (omega arith)

  two-low : (n : ℕ) → two_at s n < 65536
  two-low n = omega (arith, low n, low (n + 1))

  two-front : (at n : ℕ) → n ≡ at + 2 → n ≤ length s → drop at s ≡ two (two_at s at) ++ drop n s
  two-front at n e h =
      let x : byte s at ≡ two_at s at % 256 = omega (arith, low at, low (at + 1)) in
      let y : byte s (at + 1) ≡ two_at s at / 256 = omega (arith, low at, low (at + 1)) in
      front-two s at n refl e h ∙ ap₂ (λ (p q : ℕ). p ∷ q ∷ drop n s) x y

  module _ (at : ℕ) where
    stood-point : at + 3 ≤ length s → byte s at ≡ 0x21 → Stood s at (element (point (two_at s (at + 1))))
    stood-point h k = record {
      fits = two-low (at + 1);
      bytes = front_one s at (at + 1) k refl (omega arith) ∙ ap (λ (l : List ℕ). 0x21 ∷ l) (two-front (at + 1) (at + 3) (omega arith) h);
      room = h;
    }

    stood-part : at + 4 ≤ length s → byte s at ≡ 0x22 → byte s (at + 1) < 7 → Stood s at (element (part (byte s (at + 1)) (two_at s (at + 2))))
    stood-part h k l = record {
      fits = (l, two-low (at + 2));
      bytes = front-two s at (at + 2) k refl (omega arith) ∙ ap (λ (l : List ℕ). 0x22 ∷ byte s (at + 1) ∷ l) (two-front (at + 2) (at + 4) (omega arith) h);
      room = h;
    }

    stood-wire : at + 5 ≤ length s → byte s at ≡ 0x23 → Stood s at (wire (record { from = two_at s (at + 1); to = two_at s (at + 3) }))
    stood-wire h k = record {
      fits = (two-low (at + 1), two-low (at + 3));
      bytes =
          front_one s at (at + 1) k refl (omega arith) ∙ ap (λ (l : List ℕ). 0x23 ∷ l) (two-front (at + 1) (at + 3) (omega arith) (omega arith)
          ∙ ap (λ (l : List ℕ). two (two_at s (at + 1)) ++ l) (two-front (at + 3) (at + 5) (omega arith) h));
      room = h;
    }

    stood-pin : at + 3 ≤ length s → byte s at ≡ 0x24 → Stood s at (pin (two_at s (at + 1)))
    stood-pin h k = record {
      fits = two-low (at + 1);
      bytes = front_one s at (at + 1) k refl (omega arith) ∙ ap (λ (l : List ℕ). 0x24 ∷ l) (two-front (at + 1) (at + 3) (omega arith) h);
      room = h;
    }

    pub item-stood : (r : Item) → item_at s at ≡ item r → Stood s at r
    unfolding item_at
    item-stood r e =
        on_test (ltb at (length s)) (of_kind (byte s at) s at) ended (item r) e (λ t e₀.
        on_test (eqb (byte s at) 0x21) _ _ (item r) e₀
        (λ k e₁. on_test (leb (at + 3) (length s)) _ broken (item r) e₁
        (λ h e₂. subst (Stood s at) (item_inj e₂) (stood-point (leb→le (at + 3) (length s) h) (eqb→eq _ _ k))) (λ z. absurd (broken_not z))) (λ e₁.
        on_test (eqb (byte s at) 0x22) _ _ (item r) e₁
        (λ k e₂. on_test (leb (at + 4) (length s)) _ broken (item r) e₂
        (λ h e₃. on_test (ltb (byte s (at + 1)) (length parts)) _ broken (item r) e₃
        (λ l e₄. subst (Stood s at) (item_inj e₄) (stood-part (leb→le (at + 4) (length s) h) (eqb→eq _ _ k) (ltb-true _ (length parts) (T-is _ l)))) (λ z. absurd (broken_not z)))
        (λ z. absurd (broken_not z))) (λ e₂.
        on_test (eqb (byte s at) 0x23) _ _ (item r) e₂
        (λ k e₃. on_test (leb (at + 5) (length s)) _ broken (item r) e₃
        (λ h e₄. subst (Stood s at) (item_inj e₄) (stood-wire (leb→le (at + 5) (length s) h) (eqb→eq _ _ k))) (λ z. absurd (broken_not z))) (λ e₃.
        on_test (eqb (byte s at) 0x24) _ broken (item r) e₃
        (λ k e₄. on_test (leb (at + 3) (length s)) _ broken (item r) e₄
        (λ h e₅. subst (Stood s at) (item_inj e₅) (stood-pin (leb→le (at + 3) (length s) h) (eqb→eq _ _ k))) (λ z. absurd (broken_not z)))
        (λ z. absurd (broken_not z))))))
        (λ z. absurd (ended_not z))

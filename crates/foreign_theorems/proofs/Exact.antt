-- The check accepts exactly what is a formed netlist in this order and numbering, and refuses at the first place. Assumes nothing.
use Prim.Native.Nat.{ℕ, zero, suc, ◌+◌, ◌<◌, ◌≤◌}
use mathlib.Core.Path.{◌≡◌, refl, sym, ap, subst, ◌∙◌}
use mathlib.Core.Logic.{◌↔◌}
use mathlib.Core.Bool.{Bool, true, false, ◌&&◌, ◌||◌}
use mathlib.Core.List.{List}
use native.Mathlib.Omega.{arith}
use native.Mathlib.Decide.{dec_le}
use lib.Dec.{T, eqb, leb, eqb→eq, leb→le, le→leb, eqb_refl}
use lib.ListN.{length, take, drop, length-drop, length-append}
use borrow.Author.Tests.{eqb-false, leb-false, ne_eqb}
use Rattle.laws.proofs.Tests.{or_elim, or_left, or_right, false_not_T}
use Rattle.calculus.specs.Answer.{Refusal, Answer, good, refused, ◌>>=◌, numbered, need}
use Rattle.calculus.proofs.Answers.{refused≢good, good-inj, refused-inj}
use Rattle.calculus.specs.Net.{Element, Wire, Net, Item, element, wire, pin, item_bytes}
use Rattle.calculus.specs.Inputs.{ins, made_at_lem, targets, is_out}
use Rattle.calculus.specs.NetRead.{item_size, Front, item, ended, broken, item_at}
use Rattle.foreign_calculus.specs.Foreign.{Bytes, Accepts, Reading, begin, first_of, past_of, starts, is_in, more_element, more_wire, more_pin, with_item, judge, on_front, read_on, one_each, check}
use Rattle.foreign_calculus.specs.Refused.{ReadAs, StandsAt, Misplaced, late_element, late_wire, StartsAfter, Misnumbered, not_next, too_high, from_no_output, to_no_input, no_terminal, RecordsInOrder, nothing_yet, one_more, WrongRecord, no_record, misplaced, misnumbered, OneFeed, RefusedNet, first_wrong, lowest_undriven}
use Rattle.foreign_theorems.proofs.Standing.{item-stood, ended-stood}
use Rattle.foreign_theorems.proofs.Sound.{numbered-rising, read_more, read_none, more-taken, read_all, no_targets, no_inputs, accepted}
use Rattle.sheet_theorems.proofs.Going.{passes}
use Rattle.circuit_theorems.proofs.Terminals.{made-high}
use Rattle.circuit_theorems.proofs.NetRead.{item_length, item_some, ends-here, item_here}
use Rattle.foreign_theorems.proofs.Complete.{accepts-check}

-- accepted exactly when the bytes are those of a formed netlist of known parts in this order and numbering
pub check-exact : (lean : Bool) (s : List ℕ) → Bytes s → (check lean s ≡ good tt) ↔ Accepts lean s
check-exact lean s b = (accepted lean s b, accepts-check lean s)

-- a netlist without gaps is a lean one too
pub full_is_lean : (s : List ℕ) → Accepts false s → Accepts true s
full_is_lean s a = record { net = a.net; bytes = a.bytes; known = a.known; formed = a.formed; numbering = a.formed.rising; few = a.few }

-- a refusal went through a step
on_refused : {A B C : Type 0} (m : Answer A) (f : A → Answer B) (why : Refusal) → (m >>= f) ≡ refused why → (m ≡ refused why → C) → ((a : A) → m ≡ good a → f a ≡ refused why → C) → C
on_refused (good a) f why e g k = k a refl e
on_refused (refused by) f why e g k = g (ap refused (refused-inj e))

good≢refused : {A : Type 0} {a : A} {why : Refusal} → ◌≡◌ {A = Answer A} (good a) (refused why) → ⊥
good≢refused e = refused≢good (sym e)

-- ---- one record: what the check says of it is what the sentences say

module _ (lean : Bool) (σ : Reading) (at : ℕ) where
  pub data Verdict (r : Item) : Answer Reading → Type 0 where
    fine : ¬ Misplaced σ r → ¬ Misnumbered lean σ r → Verdict r (good (with_item r σ))
    out-of-place : Misplaced σ r → Verdict r (refused (numbered 21 at))
    out-of-number : ¬ Misplaced σ r → Misnumbered lean σ r → Verdict r (refused (numbered 22 at))

  follows : (i : ℕ) (l : Bool) → T (starts l i σ.next) → StartsAfter l σ.next i
  follows i false t = eqb→eq i σ.next t
  follows i true t = leb→le σ.next i t

  starts-so : (i : ℕ) (l : Bool) → StartsAfter l σ.next i → T (starts l i σ.next)
  starts-so i false f = rw f (eqb_refl σ.next)
  starts-so i true f = le→leb σ.next i f

  early-element : (e : Element) → σ.stage ≡ 0 → Misplaced σ (element e) → ⊥
  early-element e z (late_element h) = omega arith

  early-wire : (w : Wire) → σ.stage ≤ 1 → Misplaced σ (wire w) → ⊥
  early-wire w z (late_wire h) = omega arith

  any-pin : (t : ℕ) → Misplaced σ (pin t) → ⊥
  any-pin t m = elim m [ ]

  element-numbered : (e : Element) → T (starts lean (first_of e) σ.next) → past_of e ≤ 8192 → Misnumbered lean σ (element e) → ⊥
  element-numbered e f l (not_next n) = n (follows (first_of e) lean f)
  element-numbered e f l (too_high h) = omega arith

  wire-numbered : (w : Wire) → T (is_out σ.net.elements w.from) → 1 ≤ made_at_lem σ.net.elements w.to → Misnumbered lean σ (wire w) → ⊥
  wire-numbered w f l (from_no_output n) = n f
  wire-numbered w f l (to_no_input z) = omega arith

  pin-numbered : (t : ℕ) → T (is_out σ.net.elements t || is_in σ.net.elements t) → Misnumbered lean σ (pin t) → ⊥
  pin-numbered t h (no_terminal n z) = or_elim (is_out σ.net.elements t) (is_in σ.net.elements t) h n (λ u. let l = leb→le 1 (made_at_lem σ.net.elements t) u in omega arith)

  none_made : (x : ℕ) → leb 1 (made_at_lem σ.net.elements x) ≡ false → made_at_lem σ.net.elements x ≡ 0
  none_made x q = let h = leb-false 1 (made_at_lem σ.net.elements x) q in omega arith

  pub verdict : (r : Item) → Verdict r (judge lean r σ at)
  verdict (element e) = place (eqb σ.stage 0) refl
    where
      number : (x y : Bool) → starts lean (first_of e) σ.next ≡ x → leb (past_of e) 8192 ≡ y → σ.stage ≡ 0 → Verdict (element e) (need (x && y) 22 at >>= λ _. good (more_element e σ))
      number false y q r z = out-of-number (early-element e z) (not_next (λ f. false_not_T (starts lean (first_of e) σ.next) q (starts-so (first_of e) lean f)))
      number true false q r z = out-of-number (early-element e z) (too_high (leb-false (past_of e) 8192 r))
      number true true q r z = fine (early-element e z) (element-numbered e (rw q tt) (leb→le (past_of e) 8192 (rw r tt)))

      place : (a : Bool) → eqb σ.stage 0 ≡ a → Verdict (element e) (need a 21 at >>= λ _. need (starts lean (first_of e) σ.next && leb (past_of e) 8192) 22 at >>= λ _. good (more_element e σ))
      place false q = out-of-place (late_element (let d = eqb-false σ.stage 0 q in omega arith))
      place true q = number (starts lean (first_of e) σ.next) (leb (past_of e) 8192) refl refl (eqb→eq σ.stage 0 (rw q tt))
  verdict (wire w) = place (leb σ.stage 1) refl
    where
      number : (x y : Bool) → is_out σ.net.elements w.from ≡ x → is_in σ.net.elements w.to ≡ y → σ.stage ≤ 1 → Verdict (wire w) (need (x && y) 22 at >>= λ _. good (more_wire w σ))
      number false y q r z = out-of-number (early-wire w z) (from_no_output (λ f. false_not_T (is_out σ.net.elements w.from) q f))
      number true false q r z = out-of-number (early-wire w z) (to_no_input (none_made w.to r))
      number true true q r z = fine (early-wire w z) (wire-numbered w (rw q tt) (leb→le 1 (made_at_lem σ.net.elements w.to) (rw r tt)))

      place : (a : Bool) → leb σ.stage 1 ≡ a → Verdict (wire w) (need a 21 at >>= λ _. need (is_out σ.net.elements w.from && is_in σ.net.elements w.to) 22 at >>= λ _. good (more_wire w σ))
      place false q = out-of-place (late_wire (let h = leb-false σ.stage 1 q in omega arith))
      place true q = number (is_out σ.net.elements w.from) (is_in σ.net.elements w.to) refl refl (leb→le σ.stage 1 (rw q tt))
  verdict (pin t) = number (is_out σ.net.elements t) (is_in σ.net.elements t) refl refl
    where
      number : (x y : Bool) → is_out σ.net.elements t ≡ x → is_in σ.net.elements t ≡ y → Verdict (pin t) (need (x || y) 22 at >>= λ _. good (more_pin t σ))
      number false false q r = out-of-number (any-pin t) (no_terminal (λ f. false_not_T (is_out σ.net.elements t) q f) (none_made t r))
      number false true q r = fine (any-pin t) (pin-numbered t (or_right (is_out σ.net.elements t) (is_in σ.net.elements t) (rw r tt)))
      number true y q r = fine (any-pin t) (pin-numbered t (or_left (is_out σ.net.elements t) (is_in σ.net.elements t) (rw q tt)))

  goes_on : (r : Item) (a : Answer Reading) → Verdict r a → ¬ Misplaced σ r → ¬ Misnumbered lean σ r → a ≡ good (with_item r σ)
  goes_on r a (fine p n) p' n' = refl
  goes_on r a (out-of-place m) p' n' = absurd (p' m)
  goes_on r a (out-of-number p m) p' n' = absurd (n' m)

  gives-21 : (r : Item) (a : Answer Reading) → Verdict r a → Misplaced σ r → a ≡ refused (numbered 21 at)
  gives-21 r a (fine p n) m = absurd (p m)
  gives-21 r a (out-of-place _) m = refl
  gives-21 r a (out-of-number p _) m = absurd (p m)

  gives-22 : (r : Item) (a : Answer Reading) → Verdict r a → ¬ Misplaced σ r → Misnumbered lean σ r → a ≡ refused (numbered 22 at)
  gives-22 r a (fine p n) p' m = absurd (n m)
  gives-22 r a (out-of-place q) p' m = absurd (p' q)
  gives-22 r a (out-of-number _ _) p' m = refl

-- ---- a record that stands is read, and what is read stood

module _ (s : List ℕ) (at : ℕ) where
  stands_read : (r : Item) → StandsAt s at r → item_at s at ≡ item r
  stands_read r w = item_here s w.rest at r w.fits w.here

  stands-room : (r : Item) → StandsAt s at r → at + item_size r ≤ length s
  stands-room r w = omega (arith, ap length w.here, length-drop at s, length-append (item_bytes r) w.rest, item_length r, item_some r)

  read-stands : Bytes s → (r : Item) → item_at s at ≡ item r → StandsAt s at r
  read-stands b r q = let st = item-stood s b at r q in record { fits = st.fits; rest = drop (at + item_size r) s; here = st.bytes }

  none-broken : at < length s → ((r : Item) → ¬ StandsAt s at r) → Bytes s → item_at s at ≡ broken
  none-broken h n b = by (item_at s at) refl
    where
      by : (x : Front) → item_at s at ≡ x → item_at s at ≡ broken
      by (item r) q = absurd (n r (read-stands b r q))
      by ended q = let l = ended-stood s at q in absurd (omega arith)
      by broken q = q

  broken-none : item_at s at ≡ broken → (r : Item) → ¬ StandsAt s at r
  broken-none q r w = let e : item r ≡ broken = sym (stands_read r w) ∙ q in let z : ◌≡◌ {A = ℕ} 0 1 = cc in omega arith

  broken-inside : item_at s at ≡ broken → at < length s
  broken-inside q = elim (dec_le (length s) at) [ yes h ↦ absurd (let e : ended ≡ broken = sym (ends-here s at h) ∙ q in let z : ◌≡◌ {A = ℕ} 0 1 = cc in omega arith) | no h ↦ omega arith ]

-- ---- the records in order

module _ (lean : Bool) (s : List ℕ) (b : Bytes s) where
  -- what they come to, as bytes
  pub in_order_read : {at : ℕ} {σ : Reading} → RecordsInOrder lean s at σ → ReadAs lean (take at s) σ
  in_order_read nothing_yet = read_none lean
  in_order_read (one_more {at = at} {σ = σ} {r = r} o w p n) =
      let st = item-stood s b at r (stands_read s at r w) in
      subst (λ (x : List ℕ). ReadAs lean x (with_item r σ)) (sym (more-taken s at r st))
      (read_more lean at (take at s) σ (with_item r σ) (in_order_read o) r st.fits (goes_on lean σ at r (judge lean r σ at) (verdict lean σ at r) p n))

  -- the reading of the whole comes to reading on from there
  record Reached (at : ℕ) (σ : Reading) : Type 0 where
    left : ℕ
    inside : at ≤ length s
    enough : length s ≤ at + left
    same : read_on (length s) lean s 0 begin ≡ read_on left lean s at σ

  on-from : {at : ℕ} {σ : Reading} (r : Item) → StandsAt s at r → ¬ Misplaced σ r → ¬ Misnumbered lean σ r → Reached at σ → Reached (at + item_size r) (with_item r σ)
  on-from {at} {σ} r w p n q = by q.left q.enough q.same
    where
      by : (left : ℕ) → length s ≤ at + left → read_on (length s) lean s 0 begin ≡ read_on left lean s at σ → Reached (at + item_size r) (with_item r σ)
      by zero h e = absurd (omega (arith, stands-room s at r w, item_some r))
      by (suc left) h e = record {
        left = left;
        inside = stands-room s at r w;
        enough = omega (arith, item_some r);
        same = e ∙ ap (λ (x : Front). on_front x at σ (λ r. judge lean r σ at >>= λ τ. read_on left lean s (at + item_size r) τ)) (stands_read s at r w)
            ∙ ap (λ (a : Answer Reading). a >>= λ τ. read_on left lean s (at + item_size r) τ) (goes_on lean σ at r (judge lean r σ at) (verdict lean σ at r) p n);
      }

  reached : {at : ℕ} {σ : Reading} → RecordsInOrder lean s at σ → Reached at σ
  reached nothing_yet = record { left = length s; inside = omega arith; enough = omega arith; same = refl }
  reached (one_more {r = r} o w p n) = on-from r w p n (reached o)

  -- ---- 21 and 22: from the check to the sentences

  refused-from : (left at : ℕ) (σ : Reading) (why : Refusal) → RecordsInOrder lean s at σ → read_on left lean s at σ ≡ refused why → RefusedNet lean s why
  refused-from zero at σ why o e = absurd (good≢refused e)
  refused-from (suc left) at σ why o e = by (refused-from left) (item_at s at) refl e
    where
      judged : ((at : ℕ) (σ : Reading) (why : Refusal) → RecordsInOrder lean s at σ → read_on left lean s at σ ≡ refused why → RefusedNet lean s why)
          → (r : Item) → StandsAt s at r → (a : Answer Reading) → Verdict lean σ at r a → (a >>= λ υ. read_on left lean s (at + item_size r) υ) ≡ refused why → RefusedNet lean s why
      judged rec r w (good υ) (fine p n) e = rec (at + item_size r) (with_item r σ) why (one_more o w p n) e
      judged rec r w (refused y) (out-of-place m) e = subst (RefusedNet lean s) (refused-inj e) (first_wrong o (misplaced w m))
      judged rec r w (refused y) (out-of-number p m) e = subst (RefusedNet lean s) (refused-inj e) (first_wrong o (misnumbered w p m))

      by : ((at : ℕ) (σ : Reading) (why : Refusal) → RecordsInOrder lean s at σ → read_on left lean s at σ ≡ refused why → RefusedNet lean s why)
          → (x : Front) → item_at s at ≡ x → on_front x at σ (λ r. judge lean r σ at >>= λ υ. read_on left lean s (at + item_size r) υ) ≡ refused why → RefusedNet lean s why
      by rec (item r) q e = judged rec r (read-stands s at b r q) (judge lean r σ at) (verdict lean σ at r) e
      by rec ended q e = absurd (good≢refused e)
      by rec broken q e = subst (RefusedNet lean s) (refused-inj e) (first_wrong o (no_record (broken-inside s at q) (broken-none s at q)))

  -- .. and all records in order where it goes through
  order-all : (left at : ℕ) (σ τ : Reading) → length s ≤ at + left → at ≤ length s → RecordsInOrder lean s at σ → read_on left lean s at σ ≡ good τ → RecordsInOrder lean s (length s) τ
  order-all zero at σ τ h l o e = let z : at ≡ length s = omega arith in subst (RecordsInOrder lean s (length s)) (good-inj e) (subst (λ (x : ℕ). RecordsInOrder lean s x σ) z o)
  order-all (suc left) at σ τ h l o e = by (order-all left) (item_at s at) refl e
    where
      judged : ((at : ℕ) (σ τ : Reading) → length s ≤ at + left → at ≤ length s → RecordsInOrder lean s at σ → read_on left lean s at σ ≡ good τ → RecordsInOrder lean s (length s) τ)
          → (r : Item) → StandsAt s at r → (a : Answer Reading) → Verdict lean σ at r a → (a >>= λ υ. read_on left lean s (at + item_size r) υ) ≡ good τ → RecordsInOrder lean s (length s) τ
      judged rec r w (good υ) (fine p n) e = rec (at + item_size r) (with_item r σ) τ (omega (arith, item_some r)) (stands-room s at r w) (one_more o w p n) e
      judged rec r w (refused y) (out-of-place m) e = absurd (refused≢good e)
      judged rec r w (refused y) (out-of-number p m) e = absurd (refused≢good e)

      by : ((at : ℕ) (σ τ : Reading) → length s ≤ at + left → at ≤ length s → RecordsInOrder lean s at σ → read_on left lean s at σ ≡ good τ → RecordsInOrder lean s (length s) τ)
          → (x : Front) → item_at s at ≡ x → on_front x at σ (λ r. judge lean r σ at >>= λ υ. read_on left lean s (at + item_size r) υ) ≡ good τ → RecordsInOrder lean s (length s) τ
      by rec (item r) q e = judged rec r (read-stands s at b r q) (judge lean r σ at) (verdict lean σ at r) e
      by rec ended q e =
          let k = ended-stood s at q in
          let z : at ≡ length s = omega arith in
          subst (RecordsInOrder lean s (length s)) (good-inj e) (subst (λ (x : ℕ). RecordsInOrder lean s x σ) z o)
      by rec broken q e = absurd (refused≢good e)

  -- ---- 21 and 22: from the sentences to the check

  wrong-front : {at number : ℕ} {σ : Reading} (left : ℕ) → WrongRecord lean s at σ number → on_front (item_at s at) at σ (λ r. judge lean r σ at >>= λ υ. read_on left lean s (at + item_size r) υ) ≡ refused (numbered number at)
  wrong-front {at} {number} {σ} left (no_record h n) = rw (none-broken s at h n b) refl
  wrong-front {at} {number} {σ} left (misplaced {r = r} w m) = rw (stands_read s at r w, gives-21 lean σ at r (judge lean r σ at) (verdict lean σ at r) m) refl
  wrong-front {at} {number} {σ} left (misnumbered {r = r} w p m) = rw (stands_read s at r w, gives-22 lean σ at r (judge lean r σ at) (verdict lean σ at r) p m) refl

  wrong-inside : {at number : ℕ} {σ : Reading} → WrongRecord lean s at σ number → at < length s
  wrong-inside (no_record h n) = h
  wrong-inside {at} (misplaced {r = r} w m) = omega (arith, stands-room s at r w, item_some r)
  wrong-inside {at} (misnumbered {r = r} w p m) = omega (arith, stands-room s at r w, item_some r)

  wrong-read : {at number : ℕ} {σ : Reading} → Reached at σ → WrongRecord lean s at σ number → read_on (length s) lean s 0 begin ≡ refused (numbered number at)
  wrong-read {at} {number} {σ} q w = q.same ∙ by q.left q.enough
    where
      by : (left : ℕ) → length s ≤ at + left → read_on left lean s at σ ≡ refused (numbered number at)
      by zero h = absurd (omega (arith, wrong-inside w))
      by (suc left) h = wrong-front left w

  whole-read : {σ : Reading} → Reached (length s) σ → read_on (length s) lean s 0 begin ≡ good σ
  whole-read {σ} q = q.same ∙ by q.left
    where
      by : (left : ℕ) → read_on left lean s (length s) σ ≡ good σ
      by zero = refl
      by (suc left) = rw (ends-here s (length s) (omega arith)) refl

-- ---- 23: the lowest input

abbrev Missed : Net → Refusal → Type 0
Missed m why = (place : ℕ) × (why ≡ numbered 23 place) × (OneFeed m place → ⊥) × ((j : ℕ) → j < place → OneFeed m j)

lowest-from : (m : Net) (k i : ℕ) (why : Refusal) → one_each k i m ≡ refused why → ((j : ℕ) → j < i → OneFeed m j) → Missed m why
lowest-from m zero i why e h = absurd (good≢refused e)
lowest-from m (suc k) i why e h = by (lowest-from m k (i + 1) why) (eqb (targets m.wires i + ins m.pins i) (made_at_lem m.elements i)) refl e
  where
    by : (one_each k (i + 1) m ≡ refused why → ((j : ℕ) → j < i + 1 → OneFeed m j) → Missed m why)
        → (t : Bool) → eqb (targets m.wires i + ins m.pins i) (made_at_lem m.elements i) ≡ t → (need t 23 i >>= λ _. one_each k (i + 1) m) ≡ refused why → Missed m why
    by rec true q e =
        rec e (λ j l.
        elim (dec_le i j) [
          | yes g ↦ let z : i ≡ j = omega arith in subst (OneFeed m) z (eqb→eq _ _ (rw q tt))
          | no g ↦ h j (omega arith)
        ])
    by rec false q e = (i, sym (refused-inj e), eqb-false _ _ q, h)

-- what is no input is reached by none, so that the place is one
missed_input : (lean : Bool) (s : List ℕ) (τ : Reading) → ReadAs lean s τ → (i : ℕ) → (OneFeed τ.net i → ⊥) → 1 ≤ made_at_lem τ.net.elements i
missed_input lean s τ r i f =
    elim (dec_le 1 (made_at_lem τ.net.elements i)) [
      | yes l ↦ l
      | no l ↦
          let z : made_at_lem τ.net.elements i ≡ 0 = omega arith in
          absurd (f (omega (arith, no_targets τ.net.elements τ.net.wires i r.runs z, no_inputs τ.net.elements τ.net.pins i r.pins z)))
    ]

-- the other way: the lowest that has not one is refused
lowest_to : (m : Net) (k i place : ℕ) → i ≤ place → place < i + k → ¬ OneFeed m place → ((j : ℕ) → j < place → OneFeed m j) → one_each k i m ≡ refused (numbered 23 place)
lowest_to m zero i place l h n below = absurd (omega arith)
lowest_to m (suc k) i place l h n below =
    elim (dec_le (i + 1) place) [
      | yes g ↦ passes (eqb (targets m.wires i + ins m.pins i) (made_at_lem m.elements i)) 23 i _ (rw (below i (omega arith)) (eqb_refl (made_at_lem m.elements i))) (lowest_to m k (i + 1) place g (omega arith) n below)
      | no g ↦
          let z : i ≡ place = omega arith in
          subst (λ (p : ℕ). one_each (suc k) i m ≡ refused (numbered 23 p)) z (rw (ne_eqb (targets m.wires i + ins m.pins i) (made_at_lem m.elements i) (λ e. n (subst (OneFeed m) z e))) refl)
    ]

-- ---- a refusal of the check is the sentences', and theirs is the check's

pub check_refused : (lean : Bool) (s : List ℕ) → Bytes s → (why : Refusal) → check lean s ≡ refused why → RefusedNet lean s why
unfolding check
check_refused lean s b why e =
    on_refused (read_on (length s) lean s 0 begin) _ why e (λ h. refused-from lean s b (length s) 0 begin why nothing_yet h)
    (λ τ h₁ h₂.
    let o = order-all lean s b (length s) 0 begin τ (omega arith) (omega arith) nothing_yet h₁ in
    let r = read_all lean s b (length s) 0 begin τ (omega arith) (omega arith) (read_none lean) h₁ in
    let m = lowest-from τ.net τ.next 0 why h₂ (λ j l. absurd (omega arith)) in
    subst (RefusedNet lean s) (sym m.1) (lowest_undriven o (missed_input lean s τ r m.0 m.2) m.2 m.3))

refused_check : (lean : Bool) (s : List ℕ) → Bytes s → {why : Refusal} → RefusedNet lean s why → check lean s ≡ refused why
unfolding check
refused_check lean s b (first_wrong o w) = rw (wrong-read lean s b (reached lean s b o) w) refl
refused_check lean s b (lowest_undriven {i = i} {σ = σ} o l n below) =
    let r = in_order_read lean s b o in
    let up = numbered-rising lean σ.net.elements 0 σ.next r.numbering in
    let h : i < σ.next = elim (dec_le σ.next i) [ yes q ↦ absurd (let z = made-high σ.net.elements 0 σ.next i up q in omega arith) | no q ↦ omega arith ] in
    rw (whole-read lean s b (reached lean s b o)) (lowest_to σ.net σ.next 0 i (omega arith) (omega arith) n below)

pub check_refused-exact : (lean : Bool) (s : List ℕ) → Bytes s → (why : Refusal) → (check lean s ≡ refused why) ↔ RefusedNet lean s why
check_refused-exact lean s b why = (check_refused lean s b why, refused_check lean s b)

-- at most one
pub refused_net_only : (lean : Bool) (s : List ℕ) → Bytes s → (why why' : Refusal) → RefusedNet lean s why → RefusedNet lean s why' → why ≡ why'
refused_net_only lean s b why why' r q = refused-inj (sym (refused_check lean s b r) ∙ refused_check lean s b q)

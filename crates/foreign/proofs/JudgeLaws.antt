-- Once all records are read, the table tells which inputs have one driver. Assumes nothing.
use Prim.Native.Nat.{ℕ, zero, suc, ◌+◌, ◌%◌, ◌≤◌, ◌<◌, min}
use mathlib.Core.Path.{◌≡◌, refl, sym, ap, ap₂, ◌∙◌, subst}
use mathlib.Core.Bool.{Bool, true, false}
use mathlib.Core.List.{List}
use native.Mathlib.Omega.{arith}
use native.Mathlib.Decide.{dec_le, ℕ_discrete}
use lib.ListN.{length, get_or, drop}
use lib.Seq.{drop-drop}
use borrow.Author.Tests.{eq-eqb, ne_eqb, le-leb, lt-leb}
use Rattle.std.specs.Prelude.{Result, Ok, Err}
use Rattle.calculus.specs.Answer.{Answer, good, refused, refuse}
use Rattle.answers.specs.Refusals.{said_why}
use Rattle.answers.specs.declared.Refusal.{Refusal}
use Rattle.calculus.specs.Net.{Net}
use Rattle.calculus.specs.Inputs.{ins, made_at_lem, targets, is_out}
use Rattle.circuit_theorems.specs.Formed.{Rising}
use Rattle.memory.specs.Map.{memory_size}
use Rattle.foreign_calculus.specs.Foreign.{Reading, begin, read_on, one_each, check, Checked, check_call, Bytes}
use Rattle.calculus.specs.Translate.{zeroed, work_of}
use Rattle.memory.proofs.Zeroed.{zeroed-length, zeroed-zeros, zeroed-same, zeroed-later}
use Rattle.circuit_theorems.proofs.Terminals.{made_one}
use Rattle.foreign_calculus.specs.Refused.{ReadAs, OneFeed}
use Rattle.foreign_theorems.proofs.Sound.{read_none, read_all, numbered-rising, no_targets, no_inputs}
use Rattle.circuit_theorems.proofs.NetRead.{out_not_made}
use Rattle.foreign.specs.Table.{TableHolds, LaterKept, TableClear}
use Rattle.foreign.specs.Walk.{WalkAgrees}
use Rattle.foreign.proofs.SimLaws.{cell_out, cell_in, cell_no}

one_all : (m : Net) (k i : ℕ) → ((j : ℕ) → i ≤ j → j < i + k → OneFeed m j) → one_each k i m ≡ good tt
one_all m zero i f = refl
one_all m (suc k) i f =
    rw (eq-eqb (targets m.wires i + ins m.pins i) (made_at_lem m.elements i) (f i (omega arith) (omega arith))) (one_all m k (i + 1) (λ j a b. f j (omega arith) (omega arith)))

one_first : (m : Net) (k i p : ℕ) → i ≤ p → p < i + k → ((j : ℕ) → i ≤ j → j < p → OneFeed m j) → (OneFeed m p → ⊥) → one_each k i m ≡ refuse 23 p
one_first m zero i p a b f g = absurd (omega arith)
one_first m (suc k) i p a b f g =
    elim (ℕ_discrete i p) [
      | yes e ↦ rw (ne_eqb (targets m.wires i + ins m.pins i) (made_at_lem m.elements i) (λ q. g (subst (OneFeed m) e q))) (ap (λ (x : ℕ). refuse 23 x) e)
      | no e ↦
          rw (eq-eqb (targets m.wires i + ins m.pins i) (made_at_lem m.elements i) (f i (omega arith) (omega arith)))
          (one_first m k (i + 1) p (omega arith) (omega arith) (λ j c d. f j (omega arith) d) g)
    ]

-- counted up to two, what is not one is odd
odd : (n x : ℕ) → x ≡ 1 + min 2 n → (n ≡ 1 → ⊥) → x % 2 ≡ 1
odd zero x e f = omega arith
odd (suc zero) x e f = absurd (f refl)
odd (suc (suc n)) x e f = let z : min 2 (suc (suc n)) ≡ 2 = omega arith in omega arith

module _ (lean : Bool) (s : List ℕ) (τ : Reading) (r : ReadAs lean s τ) (w : List ℕ) (h : TableHolds w τ.net) (i : ℕ) (l : i < 8192) where
  up : Rising τ.net.elements 0 τ.next
  up = numbered-rising lean τ.net.elements 0 τ.next r.numbering

  none : made_at_lem τ.net.elements i ≡ 0 → OneFeed τ.net i
  none z = omega (arith, no_targets τ.net.elements τ.net.wires i r.runs z, no_inputs τ.net.elements τ.net.pins i r.pins z)

  even-one : (get_or w i 0 % 2 ≡ 1 → ⊥) → OneFeed τ.net i
  even-one f = by (is_out τ.net.elements i) refl
    where
      by : (b : Bool) → is_out τ.net.elements i ≡ b → OneFeed τ.net i
      by true q = none (out_not_made τ.net.elements 0 τ.next i up (rw q tt))
      by false q =
          elim (dec_le 1 (made_at_lem τ.net.elements i)) [
            | yes c ↦
                let a = made_one τ.net.elements 0 τ.next i up in
                let d : get_or w i 0 ≡ 1 + min 2 (targets τ.net.wires i + ins τ.net.pins i) = h i l ∙ cell_in τ.net i q c in
                elim (ℕ_discrete (targets τ.net.wires i + ins τ.net.pins i) 1) [ yes e ↦ omega arith | no e ↦ absurd (f (odd (targets τ.net.wires i + ins τ.net.pins i) (get_or w i 0) d e)) ]
            | no c ↦ none (omega arith)
          ]

  odd-not : get_or w i 0 % 2 ≡ 1 → OneFeed τ.net i → ⊥
  odd-not o e = by (is_out τ.net.elements i) refl
    where
      by : (b : Bool) → is_out τ.net.elements i ≡ b → ⊥
      by true q = omega (arith, h i l, cell_out τ.net i q)
      by false q =
          elim (dec_le 1 (made_at_lem τ.net.elements i)) [
            | yes c ↦ omega (arith, h i l, cell_in τ.net i q c, made_one τ.net.elements 0 τ.next i up)
            | no c ↦ omega (arith, h i l, cell_no τ.net i q (omega arith))
          ]

-- ---- the whole

module _ (lean : Bool) (s : List ℕ) (b : Bytes s) (r : Result ℕ Refusal) (w : List ℕ) (a : WalkAgrees r w (read_on (length s) lean s 0 begin)) where
  pub judged_off : (why : Refusal) → r ≡ Err why → refused (said_why why) ≡ check lean s
  unfolding check
  judged_off why e = let q = subst (λ (x : Result ℕ Refusal). WalkAgrees x w (read_on (length s) lean s 0 begin)) e a in rw q

  module _ (n : ℕ) (e : r ≡ Ok n) where
    ended : WalkAgrees (Ok n) w (read_on (length s) lean s 0 begin)
    ended = subst (λ (x : Result ℕ Refusal). WalkAgrees x w (read_on (length s) lean s 0 begin)) e a

    whole : ReadAs lean s ended.0
    whole = read_all lean s b (length s) 0 begin ended.0 (omega arith) (omega arith) (read_none lean) ended.1

    pub judged_low : n ≤ 8192
    judged_low = omega (arith, ended.2, whole.few)

    pub judged-good : ((k : ℕ) → k < n → get_or w k 0 % 2 ≡ 1 → ⊥) → good tt ≡ check lean s
    unfolding check
    judged-good f =
        let g = ended.2 in
        rw ended.1 (sym (one_all ended.0.net ended.0.next 0 (λ j c d. even-one lean s ended.0 whole w ended.3 j (omega (arith, judged_low)) (f j (omega arith)))))

    pub judged-23 : (i : ℕ) → i < n → ((k : ℕ) → k < i → get_or w k 0 % 2 ≡ 1 → ⊥) → get_or w i 0 % 2 ≡ 1 → refuse 23 i ≡ check lean s
    unfolding check
    judged-23 i l f o =
        let g = ended.2 in
        rw ended.1
        (sym (one_first ended.0.net ended.0.next 0 i (omega arith) (omega arith) (λ j c d. even-one lean s ended.0 whole w ended.3 j (omega (arith, judged_low)) (f j d))
        (odd-not lean s ended.0 whole w ended.3 i (omega (arith, judged_low)) o)))

-- ---- a call

pub called_1 : (lean : Bool) (s w : List ℕ) → length w < memory_size → record { said = refuse 1 0; work = w } ≡ check_call lean s w
unfolding check_call work_of
called_1 lean s w h = rw (lt-leb memory_size (length w) h)

pub clear_clear : (w : List ℕ) → memory_size ≤ length w → TableClear (zeroed 8192 w)
clear_clear w h = record { size = omega (arith, zeroed-length 8192 w (omega arith)); zeros = λ i l. zeroed-zeros 8192 w i l }

-- what is cleared of the table is no later number
later : (w : List ℕ) → drop memory_size (zeroed 8192 w) ≡ drop memory_size w
later w = sym (drop-drop 24576 8192 (zeroed 8192 w)) ∙ ap (drop 24576) (zeroed-later 8192 w) ∙ drop-drop 24576 8192 w

pub called_2 : (lean : Bool) (s w u v : List ℕ) (a : Answer (Unit {0})) → memory_size ≤ length w → a ≡ check lean s → LaterKept (zeroed 8192 w) u → v ≡ zeroed memory_size u → record { said = a; work = v } ≡ check_call lean s w
unfolding check_call work_of
called_2 lean s w u v a h e k z =
    rw (le-leb memory_size (length w) h) (ap₂ (λ (x : Answer (Unit {0})) (y : List ℕ). mk x y) e (z ∙ zeroed-same memory_size u w (k.later ∙ later w)))
  where
    mk : Answer (Unit {0}) → List ℕ → Checked
    mk x y = record { said = x; work = y }

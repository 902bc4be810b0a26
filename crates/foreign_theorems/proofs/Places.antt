-- The numbers of the refusals that the check of a netlist answers, and where each stands. Assumes nothing.
use Prim.Native.Nat.{ℕ, zero, suc, ◌+◌, ◌<◌, ◌≤◌}
use mathlib.Core.Path.{◌≡◌, refl, ap, subst}
use mathlib.Core.Bool.{Bool, true, false, ◌&&◌, ◌||◌}
use mathlib.Core.List.{List}
use native.Mathlib.Omega.{arith}
use native.Mathlib.Decide.{dec_lt}
use lib.Dec.{T, eqb, leb, leb→le}
use lib.ListN.{length}
use Rattle.laws.proofs.Tests.{and_both}
use Rattle.calculus.specs.Answer.{Refusal, numbered, ◌>>=◌}
use Rattle.calculus.specs.Net.{Net, Item, element, wire, pin}
use Rattle.calculus.specs.Inputs.{ins, made_at_lem, targets, is_out}
use Rattle.calculus.specs.NetRead.{item_size, Front, item, ended, broken, item_at}
use Rattle.sheet_theorems.proofs.Judging.{Judged, value, refusal, Any, of_bind, of_require}
use Rattle.circuit_theorems.proofs.NetRead.{ends-here}
use Rattle.foreign_calculus.specs.Foreign.{Reading, begin, first_of, past_of, starts, is_in, judge, on_front, read_on, one_each, check}

-- 21 and 22 at an offset of the netlist, 23 at an input; none names types
pub record CheckPlace (s : List ℕ) (why : Refusal) : Type 0 where
  pub from : 21 ≤ why.number
  pub to : why.number ≤ 23
  pub offset : why.number ≤ 22 → why.place < length s
  pub input : why.number ≡ 23 → why.place < 8192
  pub plain : (why.wanted ≡ 0) × (why.found ≡ 0)

-- something stands there, a record or not
abbrev stands : Front → Bool
stands (item r) = true
stands ended = false
stands broken = true

inside : (s : List ℕ) (at : ℕ) → T (stands (item_at s at)) → at < length s
inside s at t = elim (dec_lt at (length s)) [ yes h ↦ h | no h ↦ absurd (subst T (ap stands (ends-here s at (omega arith))) t) ]

module _ (s : List ℕ) where
  at-record : (number at : ℕ) → 21 ≤ number → number ≤ 22 → at < length s → CheckPlace s (numbered number at)
  at-record number at f t h = record { from = f; to = omega arith; offset = λ _. h; input = λ e. absurd (omega arith); plain = (refl, refl) }

  at-input : (i : ℕ) → i < 8192 → CheckPlace s (numbered 23 i)
  at-input i h = record { from = omega arith; to = omega arith; offset = λ e. absurd (omega arith); input = λ _. h; plain = (refl, refl) }

  module _ (lean : Bool) where
    judge-places : (r : Item) (σ : Reading) (at : ℕ) → at < length s → σ.next ≤ 8192 → Judged (CheckPlace s) (λ τ. τ.next ≤ 8192) (judge lean r σ at)
    judge-places (element e) σ at h l =
        of_require (eqb σ.stage 0) (numbered 21 at) _ (λ _. at-record 21 at (omega arith) (omega arith) h) λ _.
        of_require (starts lean (first_of e) σ.next && leb (past_of e) 8192) (numbered 22 at) _ (λ _. at-record 22 at (omega arith) (omega arith) h) λ t.
        value (leb→le (past_of e) 8192 (and_both (starts lean (first_of e) σ.next) (leb (past_of e) 8192) t).1)
    judge-places (wire w) σ at h l =
        of_require (leb σ.stage 1) (numbered 21 at) _ (λ _. at-record 21 at (omega arith) (omega arith) h) λ _.
        of_require (is_out σ.net.elements w.from && is_in σ.net.elements w.to) (numbered 22 at) _ (λ _. at-record 22 at (omega arith) (omega arith) h) λ _.
        value l
    judge-places (pin t) σ at h l =
        of_require (is_out σ.net.elements t || is_in σ.net.elements t) (numbered 22 at) _ (λ _. at-record 22 at (omega arith) (omega arith) h) λ _.
        value l

    reading-places : (left at : ℕ) (σ : Reading) → σ.next ≤ 8192 → Judged (CheckPlace s) (λ τ. τ.next ≤ 8192) (read_on left lean s at σ)
    reading-places zero at σ l = value l
    reading-places (suc left) at σ l = by (reading-places left) (item_at s at) (inside s at)
      where
        by : ((at : ℕ) (σ : Reading) → σ.next ≤ 8192 → Judged (CheckPlace s) (λ τ. τ.next ≤ 8192) (read_on left lean s at σ))
            → (x : Front) → (T (stands x) → at < length s) → Judged (CheckPlace s) (λ τ. τ.next ≤ 8192) (on_front x at σ (λ r. judge lean r σ at >>= λ υ. read_on left lean s (at + item_size r) υ))
        by rec (item r) h = of_bind (judge lean r σ at) _ (judge-places r σ at (h tt) l) λ υ _ k. rec (at + item_size r) υ k
        by rec ended h = value l
        by rec broken h = refusal (at-record 21 at (omega arith) (omega arith) (h tt))

  driver-places : (k i : ℕ) (m : Net) → i + k ≤ 8192 → Judged (CheckPlace s) Any (one_each k i m)
  driver-places zero i m h = value tt
  driver-places (suc k) i m h =
      of_require (eqb (targets m.wires i + ins m.pins i) (made_at_lem m.elements i)) (numbered 23 i) _ (λ _. at-input i (omega arith)) λ _.
      driver-places k (i + 1) m (omega arith)

pub check-places : (lean : Bool) (s : List ℕ) → Judged (CheckPlace s) Any (check lean s)
unfolding check
check-places lean s = of_bind (read_on (length s) lean s 0 begin) _ (reading-places s lean (length s) 0 begin (omega arith)) λ τ _ l. driver-places s τ.next 0 τ.net (omega arith)

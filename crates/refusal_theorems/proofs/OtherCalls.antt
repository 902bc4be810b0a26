-- The other calls on a sheet, Verilog (document 02, L1), a run (L4) and sixteen runs at once: their refusals 1 to 16 are the sentences'. Assumes
-- nothing.
use Prim.Native.Nat.{ℕ, ◌*◌, ◌≤◌}
use mathlib.Core.Path.{◌≡◌, sym, ap}
use mathlib.Core.Logic.{◌↔◌}
use mathlib.Core.Bool.{Bool, not, ◌&&◌}
use mathlib.Core.List.{List, [], ◌∷◌}
use native.Mathlib.Omega.{arith}
use lib.Dec.{leb, eqb, leb→le}
use lib.ListN.{length}
use borrow.Author.Tests.{leb-false, le-leb, lt-leb}
use Rattle.calculus.specs.Answer.{Refusal, Answer, good, refused, numbered, ◌>>=◌, need}
use Rattle.calculus.proofs.Answers.{refused≢good, refused-inj}
use Rattle.calculus.specs.Net.{Net}
use Rattle.calculus.specs.Lean.{lean}
use Rattle.calculus.specs.Translate.{full, said_of}
use Rattle.sheet_theorems.proofs.Judging.{Judged, value, Any, of_bind, of_require, weaker, of_refused}
use Rattle.export_calculus.specs.Card.{need_all, no_ring, input_place}
use Rattle.export_calculus.specs.Verilog.{module_text, exported, export, verilog_call}
use Rattle.trace_calculus.specs.Trace.{inputs, on_ring, none_on_ring, run, in_pins, out_pins, registers, given_bits, start_bits, rows, all_bits, ran, trace, run_call}
use Rattle.trace_calculus.specs.Lanes.{LanesEnd, went, lanes_ran, lanes_trace, outs, lanes_call}
use Rattle.refusal_theorems.specs.OnSheet.{OnSheet, of_little_memory, of_no_netlist}
use Rattle.refusal_theorems.proofs.CallExact.{full_or, no_netlist_exact, said_refused}

-- what comes after the netlist is refused by higher numbers
abbrev Later : Refusal → Type 0
Later why = 17 ≤ why.number

-- ---- a call that tests its memory, makes the netlist, and goes on

module _ {A : Type 0} (memory : ℕ) (s : List ℕ) (go : Net → Answer A) where
  begin-or : ((m : Net) → Judged Later Any (go m)) → Judged (λ why. why.number ≤ 16 → OnSheet memory s why) Any (need (leb 32768 memory) 1 0 >>= λ _. full s >>= go)
  begin-or later =
      of_require (leb 32768 memory) (numbered 1 0) _ (λ f l. of_little_memory (leb-false 32768 memory f)) λ e.
      of_bind (full s) go (weaker (λ why u l. of_no_netlist (leb→le 32768 memory e) u) (full_or s)) λ m _ _.
      weaker (λ why h l. absurd (omega (arith, h, l))) (later m)

  begin-refused : {why : Refusal} → OnSheet memory s why → (need (leb 32768 memory) 1 0 >>= λ _. full s >>= go) ≡ refused why
  begin-refused (of_little_memory h) = rw (lt-leb 32768 memory h)
  begin-refused (of_no_netlist {why = why} h u) = simp (le-leb 32768 memory h, (no_netlist_exact s why).1 u)

-- ---- what the calls go on with

all-later : {A : Type 0} (ok : A → Bool) (number : ℕ) (place : A → ℕ) → 17 ≤ number → (xs : List A) → Judged Later Any (need_all ok number place xs)
all-later ok number place h [] = value tt
all-later ok number place h (x ∷ xs) = of_require (ok x) (numbered number (place x)) _ (λ _. h) λ _. all-later ok number place h xs

ring_later : (m : Net) (is : List ℕ) → Judged Later Any (none_on_ring m is)
ring_later m [] = value tt
ring_later m (i ∷ is) = of_require (not (on_ring m i)) (numbered 19 i) _ (λ _. omega arith) λ _. ring_later m is

exported-later : (m : Net) (room : ℕ) → Judged Later Any (exported m room)
unfolding exported
exported-later m room =
    of_bind (need_all (no_ring (lean m).pins) 18 input_place (lean m).elements) _ (all-later (no_ring (lean m).pins) 18 input_place (omega arith) (lean m).elements) λ _ _ _.
    of_require (leb (length (module_text (lean m))) room) (numbered 17 (length (module_text (lean m)))) _ (λ _. omega arith) λ _.
    value tt

-- 20, then 17
two-later : {A : Type 0} (t u : Bool) (n : ℕ) (a : A) → Judged Later Any (need t 20 0 >>= λ _. need u 17 n >>= λ _. good a)
two-later t u n a = of_require t (numbered 20 0) (λ _. need u 17 n >>= λ _. good a) (λ _. omega arith) λ _. of_require u (numbered 17 n) (λ _. good a) (λ _. omega arith) λ _. value tt

ran-later : (m : Net) (n : ℕ) (bits starts : List ℕ) (room : ℕ) → Judged Later Any (ran m n bits starts room)
unfolding ran
ran-later m n bits starts room =
    of_bind (none_on_ring m (inputs m.elements)) _ (ring_later m (inputs m.elements)) λ _ _ _.
    two-later (eqb (length bits) (n * length (in_pins m.pins)) && eqb (length starts) (length (registers m.elements)) && (all_bits bits && all_bits starts)) (leb (n * length (out_pins m.pins)) room)
    (n * length (out_pins m.pins)) (rows (run m (given_bits m.pins bits) (start_bits m.elements starts)) (out_pins m.pins) 0 n)

lanes_later : (m : Net) (n : ℕ) (bits state : List ℕ) (room : ℕ) → Judged Later Any (lanes_ran m n bits state room)
unfolding lanes_ran
lanes_later m n bits state room =
    of_bind (none_on_ring m (inputs m.elements)) _ (ring_later m (inputs m.elements)) λ _ _ _.
    two-later (eqb (length bits) (n * length (in_pins m.pins)) && eqb (length state) (length (registers m.elements))) (leb (n * length (out_pins m.pins)) room) (n * length (out_pins m.pins)) (went m n bits state)

-- ---- the calls: a refusal up to 16 is answered exactly when the sentences refuse

-- Verilog
pub verilog_begins : (s room work : List ℕ) (why : Refusal) → why.number ≤ 16 → ((verilog_call s room work).said ≡ refused why) ↔ OnSheet (length work) s why
unfolding verilog_call export
verilog_begins s room work why l = (
  (λ h. of_refused (export (length work) s (length room)) why (begin-or (length work) s (λ m. exported m (length room)) (λ m. exported-later m (length room))) (said_refused (export (length work) s (length room)) why h) l),
  (λ u. ap said_of (begin-refused (length work) s (λ m. exported m (length room)) u)),
)

-- a run
pub run-begins : (s bits starts : List ℕ) (n : ℕ) (output work : List ℕ) (why : Refusal) → why.number ≤ 16 → ((run_call s bits starts n output work).said ≡ refused why) ↔ OnSheet (length work) s why
unfolding run_call trace
run-begins s bits starts n output work why l = (
  (λ h. of_refused (trace (length work) s n bits starts (length output)) why (begin-or (length work) s (λ m. ran (lean m) n bits starts (length output)) (λ m. ran-later (lean m) n bits starts (length output)))
      (said_refused (trace (length work) s n bits starts (length output)) why h) l),
  (λ u. ap said_of (begin-refused (length work) s (λ m. ran (lean m) n bits starts (length output)) u)),
)

outs_refused : (a : Answer LanesEnd) (why : Refusal) → outs a ≡ refused why → a ≡ refused why
outs_refused (good w) why e = absurd (refused≢good (sym e))
outs_refused (refused x) why e = ap (λ (w : Refusal). refused w) (refused-inj e)

-- sixteen runs at once
pub lanes_begins : (s bits state : List ℕ) (n : ℕ) (output work : List ℕ) (why : Refusal) → why.number ≤ 16 → ((lanes_call s bits state n output work).said ≡ refused why) ↔ OnSheet (length work) s why
unfolding lanes_call lanes_trace
lanes_begins s bits state n output work why l = (
  (λ h. of_refused (lanes_trace (length work) s n bits state (length output)) why (begin-or (length work) s (λ m. lanes_ran (lean m) n bits state (length output)) (λ m. lanes_later (lean m) n bits state (length output)))
      (outs_refused (lanes_trace (length work) s n bits state (length output)) why (said_refused (outs (lanes_trace (length work) s n bits state (length output))) why h)) l),
  (λ u. ap (λ (a : Answer LanesEnd). said_of (outs a)) (begin-refused (length work) s (λ m. lanes_ran (lean m) n bits state (length output)) u)),
)

-- How a run of a formed netlist ends: 19 at the lowest input on a ring that passes through no register, 20, 17, or with the bits of the only
-- possible record that has those lent. Assumes nothing.
use Prim.Native.Nat.{ℕ, ◌*◌, ◌≤◌, ◌<◌}
use mathlib.Core.Path.{◌≡◌, refl, sym, ap, ◌∙◌, subst}
use mathlib.Core.Bool.{Bool, true, false, ◌&&◌}
use mathlib.Core.List.{List, [], ◌∷◌, ◌++◌}
use lib.Dec.{T, eqb, leb, eqb→eq, leb→le}
use lib.ListN.{length, drop}
use borrow.Author.Tests.{eq-eqb, le-leb, leb-false}
use Rattle.laws.proofs.Tests.{and_both, and_of}
use Rattle.calculus.specs.Answer.{Refusal, Answer, good, refused, ◌>>=◌, refuse, need}
use Rattle.calculus.specs.Net.{Net}
use Rattle.calculus.specs.Record.{All}
use Rattle.circuit_theorems.specs.Formed.{Formed}
use Rattle.trace_calculus.specs.Trace.{none_on_ring, inputs, run, in_pins, out_pins, registers, given_bits, start_bits, rows, all_bits, ran}
use Rattle.trace_calculus.specs.Promise.{Traced, Ringless, LowestOnRing, ExactBits, Needs}
use Rattle.trace_theorems.proofs.Lists.{has_in, in_has}
use Rattle.trace_theorems.proofs.Lending.{rows-length, recorded_has, has_recorded}
use Rattle.trace_theorems.proofs.TraceRings.{Lowest, ring_place, accepted}
use Rattle.trace_theorems.proofs.TraceRun.{run-possible, run-has, run_only}

pub data Came (m : Net) (n : ℕ) (bits starts : List ℕ) (room : ℕ) : Answer (List ℕ) → Type 0 where
  by_ring : {x : ℕ} → LowestOnRing m x → Came m n bits starts room (refuse 19 x)
  by_bits : Ringless m → (ExactBits m n bits starts → ⊥) → Came m n bits starts room (refuse 20 0)
  by_room : {k : ℕ} → Needs m n bits starts k → room < k → Came m n bits starts room (refuse 17 k)
  to_end : {k : ℕ} {written : List ℕ} → Needs m n bits starts k → k ≤ room → length written ≡ k → ((output : List ℕ) → Traced m n bits starts output (written ++ drop k output))
      → Came m n bits starts room (good written)

-- ---- the test of 20

all-low : (xs : List ℕ) → T (all_bits xs) → All (λ b. b ≤ 1) xs
all-low [] t = tt
all-low (x ∷ xs) t = let h = and_both (leb x 1) (all_bits xs) t in (leb→le x 1 h.0, all-low xs h.1)

low-all : (xs : List ℕ) → All (λ b. b ≤ 1) xs → T (all_bits xs)
low-all [] a = tt
low-all (x ∷ xs) a = and_of (leb x 1) (all_bits xs) (subst T (sym (le-leb x 1 a.0)) tt) (low-all xs a.1)

module _ (m : Net) (n : ℕ) (bits starts : List ℕ) where
  abbrev counts : Bool
  counts = eqb (length bits) (n * length (in_pins m.pins)) && eqb (length starts) (length (registers m.elements))

  abbrev test : Bool
  test = eqb (length bits) (n * length (in_pins m.pins)) && eqb (length starts) (length (registers m.elements)) && (all_bits bits && all_bits starts)

  exact-of : T test → ExactBits m n bits starts
  exact-of t =
      let a = and_both counts (all_bits bits && all_bits starts) t in
      let c = and_both (eqb (length bits) (n * length (in_pins m.pins))) (eqb (length starts) (length (registers m.elements))) a.0 in
      let b = and_both (all_bits bits) (all_bits starts) a.1 in
      record { input_count_lem = eqb→eq _ _ c.0; start_count = eqb→eq _ _ c.1; input_bits = all-low bits b.0; start_bits_lem = all-low starts b.1 }

  of-exact : ExactBits m n bits starts → T test
  of-exact x =
      and_of counts (all_bits bits && all_bits starts)
      (and_of (eqb (length bits) (n * length (in_pins m.pins))) (eqb (length starts) (length (registers m.elements)))
      (subst T (sym (eq-eqb (length bits) (n * length (in_pins m.pins)) x.input_count_lem)) tt) (subst T (sym (eq-eqb (length starts) (length (registers m.elements)) x.start_count)) tt))
      (and_of (all_bits bits) (all_bits starts) (low-all bits x.input_bits) (low-all starts x.start_bits_lem))

  -- ---- the run

  abbrev needed : ℕ
  needed = n * length (out_pins m.pins)

  abbrev bytes : List ℕ
  bytes = rows (run m (given_bits m.pins bits) (start_bits m.elements starts)) (out_pins m.pins) 0 n

  module _ (ok : Formed m) where
    lowest-ring : (why : Refusal) → Lowest m ok (inputs m.elements) why → LowestOnRing m why.place
    lowest-ring why l = record { input = has_in (inputs m.elements) why.place l.listed; ring = l.ring; lowest = λ i h r. l.lowest i (in_has h) r }

    traced : Ringless m → ExactBits m n bits starts → (output : List ℕ) → Traced m n bits starts output (bytes ++ drop needed output)
    traced free x output =
        let g = given_bits m.pins bits in
        let s = start_bits m.elements starts in
        record {
          record_of = run m g s;
          recorded = has_recorded m ok n bits starts (run m g s) x (run-possible m ok free g s n) (run-has m ok free g s n);
          only = λ β r y h t l. run_only m ok free g s n β r.possible (recorded_has m ok n bits starts β r) t l y (in_has h);
          wrote = refl;
        }

    module _ (room : ℕ) where
      ran-is : (a : Answer (Unit {0})) (b c : Bool) → none_on_ring m (inputs m.elements) ≡ a → test ≡ b → leb needed room ≡ c
          → ran m n bits starts room ≡ (a >>= λ _. need b 20 0 >>= λ _. need c 17 needed >>= λ _. good bytes)
      unfolding ran
      ran-is a b c e f g = rw (e, f, g)

      pub came : Came m n bits starts room (ran m n bits starts room)
      came = go (none_on_ring m (inputs m.elements)) refl
        where
          came-as : {a : Answer (List ℕ)} → ran m n bits starts room ≡ a → Came m n bits starts room a → Came m n bits starts room (ran m n bits starts room)
          came-as e h = subst (Came m n bits starts room) (sym e) h

          last : Ringless m → ExactBits m n bits starts → none_on_ring m (inputs m.elements) ≡ good tt → test ≡ true → (c : Bool) → leb needed room ≡ c → Came m n bits starts room (ran m n bits starts room)
          last free x q f true g =
              came-as (ran-is (good tt) true true q f g)
              (to_end (record { ringless = free; exact = x; count = refl }) (leb→le needed room (subst T (sym g) tt)) (rows-length (run m (given_bits m.pins bits) (start_bits m.elements starts)) (out_pins m.pins) 0 n) (traced free x))
          last free x q f false g = came-as (ran-is (good tt) true false q f g) (by_room (record { ringless = free; exact = x; count = refl }) (leb-false needed room g))

          next : Ringless m → none_on_ring m (inputs m.elements) ≡ good tt → (b : Bool) → test ≡ b → Came m n bits starts room (ran m n bits starts room)
          next free q true f = last free (exact-of (subst T (sym f) tt)) q f (leb needed room) refl
          next free q false f = came-as (ran-is (good tt) false (leb needed room) q f refl) (by_bits free (λ x. subst T f (of-exact x)))

          go : (a : Answer (Unit {0})) → none_on_ring m (inputs m.elements) ≡ a → Came m n bits starts room (ran m n bits starts room)
          go (good tt) q = next (accepted m ok q) q test refl
          go (refused why) q =
              let l = ring_place m ok why q in
              came-as (ran-is (refused why) test (leb needed room) q refl refl ∙ ap (λ (r : Refusal). refused r) l.nineteen) (by_ring (lowest-ring why l))

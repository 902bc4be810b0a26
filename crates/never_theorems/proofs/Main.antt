-- What a search promises of a formed netlist: accepted exactly when the pin never has 1, 40 exactly at the first tick at which it can, and
-- then a trace that shows it. Assumes nothing.
use Prim.Native.Nat.{ℕ, suc, ◌≤◌, ◌<◌}
use mathlib.Core.Path.{◌≡◌, refl, sym, ap, ◌∙◌, subst}
use mathlib.Core.Bool.{Bool, true, false}
use mathlib.Core.List.{List, ◌++◌}
use native.Mathlib.Omega.{arith}
use native.Mathlib.Nat.{le_refl}
use native.Mathlib.Decide.{dec_le}
use lib.Dec.{T}
use lib.ListN.{length, drop}
use borrow.Author.Tests.{le-leb, lt-leb}
use Rattle.calculus.specs.Answer.{Refusal, Answer, good, refused, ◌>>=◌, refuse}
use Rattle.calculus.proofs.Answers.{refused≢good, good-inj, refused-inj}
use Rattle.calculus.specs.Net.{Net}
use Rattle.circuit_theorems.specs.Formed.{Formed}
use Rattle.trace_calculus.specs.Promise.{LowestOnRing}
use Rattle.never_calculus.specs.Count.{States}
use Rattle.never_calculus.specs.Never.{Never, FirstShown, Demonstrates}
use Rattle.never_calculus.specs.Search.{Looked, examined, said_looked, start_bytes, input_bytes, put_front, out_answer}
use Rattle.never_calculus.specs.Promise.{output_pin, Asked, Written, NetPromise}
use Rattle.never_theorems.proofs.Exact.{Explored, never, first}
use Rattle.never_theorems.proofs.Outcome.{Examined, by_ring, by-registers, by-inputs, by-starts, by_pin, by_room, to_end, examined-ends}

true≢false : {b : Bool} → b ≡ true → b ≡ false → ⊥
true≢false e f = subst T (sym e ∙ f) tt

-- never and a first tick do not go together, and there is one first tick
not_both : {m : Net} {starts : List ℕ} {o t : ℕ} → Never m starts o → FirstShown m starts o t → ⊥
not_both {t = t} n f = true≢false f.shows.one (n (suc t) f.shows.record_of f.shows.starting t (le_refl (suc t)))

one_first : {m : Net} {starts : List ℕ} {o t u : ℕ} → FirstShown m starts o t → FirstShown m starts o u → t ≡ u
one_first {t = t} {u = u} f g = go (dec_le (suc t) u) (dec_le (suc u) t)
  where
    go : Dec (t < u) → Dec (u < t) → t ≡ u
    go (yes l) _ = absurd (g.earlier t l f.shows)
    go (no h) (yes l) = absurd (f.earlier u l g.shows)
    go (no h) (no l) = omega arith

front-room : (bytes output : List ℕ) → length bytes ≤ length output → put_front bytes output ≡ bytes ++ drop (length bytes) output
front-room bytes output l = rw (le-leb (length bytes) (length output) l)

front-none : (bytes output : List ℕ) → length output < length bytes → put_front bytes output ≡ output
front-none bytes output l = rw (lt-leb (length bytes) (length output) l)

module _ (m : Net) (starts : List ℕ) (pin trail queue : ℕ) where
  abbrev Ends : Answer Looked → Type 0
  Ends = Examined m starts pin trail queue

  abbrev All-asked : Type 0
  All-asked = Asked m starts pin trail queue

  number_of : {i j x y : ℕ} → ◌≡◌ {A = Answer ℕ} (refuse i x) (refuse j y) → (i ≡ j) × (x ≡ y)
  number_of e = (ap (λ (r : Refusal). r.number) (refused-inj e), ap (λ (r : Refusal). r.place) (refused-inj e))

  -- where all that is asked is there, the search goes to its end
  asked-end : {a : Answer Looked} → Ends a → All-asked → (l : Looked) × (a ≡ good l) × Explored m starts (output_pin m pin) l
  asked-end (by_ring h) q = absurd (q.ringless _ h.ring)
  asked-end (by-registers f h) q = absurd (let z = q.few_registers in omega arith)
  asked-end (by-inputs f x h) q = absurd (let z = q.few_inputs in omega arith)
  asked-end (by-starts f x y h) q = absurd (h q.start_bytes_lem)
  asked-end (by_pin f x y z h) q = absurd (let z = q.pin_there in omega arith)
  asked-end (by_room f x y z p h) q = absurd (h q.lent)
  asked-end (to_end {l} a e) q = (l, refl, e)

  -- an answer of its own was given by the end of the search
  accepted-end : {a : Answer Looked} → Ends a → (k : ℕ) → (a >>= said_looked) ≡ good k → All-asked × Never m starts (output_pin m pin) × ((output : List ℕ) → out_answer m output a ≡ output)
  accepted-end (by_ring h) k e = absurd (refused≢good e)
  accepted-end (by-registers f h) k e = absurd (refused≢good e)
  accepted-end (by-inputs f x h) k e = absurd (refused≢good e)
  accepted-end (by-starts f x y h) k e = absurd (refused≢good e)
  accepted-end (by_pin f x y z h) k e = absurd (refused≢good e)
  accepted-end (by_room f x y z p h) k e = absurd (refused≢good e)
  accepted-end (to_end a (never n c)) k e = (a, n, (λ output. refl))
  accepted-end (to_end a (first f d q)) k e = absurd (refused≢good e)

  shown-end : {a : Answer Looked} → Ends a → (t : ℕ) → (a >>= said_looked) ≡ refuse 40 t → All-asked × FirstShown m starts (output_pin m pin) t × ((output : List ℕ) → Written m starts (output_pin m pin) t output (out_answer m output a))
  shown-end (by_ring h) t e = absurd (let z = (number_of e).0 in omega arith)
  shown-end (by-registers f h) t e = absurd (let z = (number_of e).0 in omega arith)
  shown-end (by-inputs f x h) t e = absurd (let z = (number_of e).0 in omega arith)
  shown-end (by-starts f x y h) t e = absurd (let z = (number_of e).0 in omega arith)
  shown-end (by_pin f x y z h) t e = absurd (let z = (number_of e).0 in omega arith)
  shown-end (by_room f x y z p h) t e = absurd (let z = (number_of e).0 in omega arith)
  shown-end (to_end a (never n c)) t e = absurd (refused≢good (sym e))
  shown-end (to_end a (first {w} {i} f d q)) t e =
      let z = (number_of e).1 in (
        a,
        subst (FirstShown m starts (output_pin m pin)) z f,
        (λ output. record {
          woken = start_bytes m w;
          bits = input_bytes m w i;
          demonstrates = subst (λ (u : ℕ). Demonstrates m starts (output_pin m pin) u (start_bytes m w) (input_bytes m w i)) z d;
          room = front-room (start_bytes m w ++ input_bytes m w i) output;
          no_room = front-none (start_bytes m w ++ input_bytes m w i) output;
        }),
      )

  never-said : {l : Looked} → Explored m starts (output_pin m pin) l → Never m starts (output_pin m pin) → (k : ℕ) × (said_looked l ≡ good k)
  never-said (never {ws} _ _) n = (length ws, refl)
  never-said (first f d q) n = absurd (not_both n f)

  first_said : {l : Looked} (t : ℕ) → Explored m starts (output_pin m pin) l → FirstShown m starts (output_pin m pin) t → said_looked l ≡ refuse 40 t
  first_said t (never n c) f = absurd (not_both n f)
  first_said t (first g d q) f = ap (refuse 40) (one_first g f)

  ring-end : {a : Answer Looked} → Ends a → (x : ℕ) → (a >>= said_looked) ≡ refuse 19 x → LowestOnRing m x
  ring-end (by_ring h) x e = subst (LowestOnRing m) (number_of e).1 h
  ring-end (by-registers f h) x e = absurd (let z = (number_of e).0 in omega arith)
  ring-end (by-inputs f y h) x e = absurd (let z = (number_of e).0 in omega arith)
  ring-end (by-starts f y z h) x e = absurd (let z = (number_of e).0 in omega arith)
  ring-end (by_pin f y z s h) x e = absurd (let z = (number_of e).0 in omega arith)
  ring-end (by_room f y z s p h) x e = absurd (let z = (number_of e).0 in omega arith)
  ring-end (to_end a (never n c)) x e = absurd (refused≢good (sym e))
  ring-end (to_end a (first f d q)) x e = absurd (let z = (number_of e).0 in omega arith)

  counts_end : {a : Answer Looked} → Ends a → (k : ℕ) → (a >>= said_looked) ≡ good k → States m starts k
  counts_end (by_ring h) k e = absurd (refused≢good e)
  counts_end (by-registers f h) k e = absurd (refused≢good e)
  counts_end (by-inputs f y h) k e = absurd (refused≢good e)
  counts_end (by-starts f y z h) k e = absurd (refused≢good e)
  counts_end (by_pin f y z s h) k e = absurd (refused≢good e)
  counts_end (by_room f y z s p h) k e = absurd (refused≢good e)
  counts_end (to_end a (never n c)) k e = subst (States m starts) (good-inj e) c
  counts_end (to_end a (first f d q)) k e = absurd (refused≢good e)

  stays-end : {a : Answer Looked} → Ends a → (output : List ℕ) (why : Refusal) → (a >>= said_looked) ≡ refused why → ¬ (why.number ≡ 40) → out_answer m output a ≡ output
  stays-end (by_ring h) output why e f = refl
  stays-end (by-registers _ h) output why e f = refl
  stays-end (by-inputs _ y h) output why e f = refl
  stays-end (by-starts _ y z h) output why e f = refl
  stays-end (by_pin _ y z s h) output why e f = refl
  stays-end (by_room _ y z s p h) output why e f = refl
  stays-end (to_end a (never n c)) output why e f = refl
  stays-end (to_end a (first g d q)) output why e f = absurd (f (sym (ap (λ (r : Refusal). r.number) (refused-inj e))))

  pub net_promise : Formed m → (output : List ℕ)
      → NetPromise m starts pin trail queue output (examined m starts pin trail queue >>= said_looked) (out_answer m output (examined m starts pin trail queue))
  net_promise ok output = record {
    never_exact = (
      (λ h. let r = accepted-end ends h.0 h.1 in (r.0, r.1)),
      (λ h. let (l, e, x) = asked-end ends h.0 in let (k, q) = never-said x h.1 in (k, ap (λ (a : Answer Looked). a >>= said_looked) e ∙ q)),
    );
    never_first = λ t. (
      (λ h. let r = shown-end ends t h in (r.0, r.1)),
      (λ h. let (l, e, x) = asked-end ends h.0 in ap (λ (a : Answer Looked). a >>= said_looked) e ∙ first_said t x h.1),
    );
    never_shown = λ t h. (shown-end ends t h).2 output;
    never_counts = counts_end ends;
    ring = ring-end ends;
    stays = stays-end ends output;
    stays_accepted = λ k h. (accepted-end ends k h).2 output;
  }
    where
      ends : Ends (examined m starts pin trail queue)
      ends = examined-ends m starts pin trail queue ok

-- What a run promises holds of what a call leaves: an accepted run has written the bits of the only possible record with these inputs and
-- starts; 19 is given exactly when a ring passes through no register, at the lowest input on any. And the number that a call for C answers
-- tells what it said. Assumes nothing.
use Prim.Native.Nat.{ℕ, ◌+◌, ◌*◌, ◌≤◌, ◌<◌}
use mathlib.Core.Path.{◌≡◌, refl, sym, ap, ◌∙◌, subst}
use mathlib.Core.Bool.{Bool, true, false, cond, ◌||◌}
use mathlib.Core.Logic.{◌↔◌, ⊎_elim}
use mathlib.Core.List.{List, [], ◌∷◌, ◌++◌}
use native.Mathlib.Omega.{arith}
use lib.Dec.{T, eqb, leb, eqb→eq, leb→le}
use lib.ListN.{length, drop, length-map}
use borrow.Author.Tests.{le-leb}
use Rattle.calculus.specs.Answer.{Refusal, Answer, good, refused, ◌>>=◌, refuse, need}
use Rattle.calculus.proofs.Answers.{refused≢good, good-inj, refused-inj}
use Rattle.laws.proofs.Tests.{or_elim, or_left, or_right}
use Rattle.calculus.specs.Terms.{part_at}
use Rattle.calculus.specs.Net.{Interface, inp, out, Element, point, part, Net}
use Rattle.calculus.specs.Lean.{kept, keep, lean_pin, lean}
use Rattle.calculus.specs.Translate.{full, said_of, out_of, Call}
use Rattle.calculus.specs.Record.{Among}
use Rattle.circuit_theorems.specs.Terminals.{has}
use Rattle.circuit_theorems.specs.Formed.{Rising}
use Rattle.circuit_theorems.proofs.Terminals.{rising-end}
use Rattle.circuit_theorems.proofs.Main.{formed, formed-lean}
use Rattle.circuit_theorems.proofs.Bounds.{few_pins}
use Rattle.sheet_theorems.proofs.Judging.{of_refused}
use Rattle.memory.specs.Map.{memory_size}
use Rattle.answers.specs.Word.{packed, FitsWord}
use Rattle.answers.proofs.WordLaws.{word_tells}
use Rattle.translator.proofs.Places.{names_small, full-places}
use Rattle.trace_calculus.specs.Trace.{OnRing, up_from, inputs, out_pins, ran, trace, run_call}
use Rattle.trace_calculus.specs.Lanes.{lane, lanes_call}
use Rattle.trace_calculus.specs.LanesPromise.{lane_call}
use Rattle.trace_calculus.specs.Promise.{Traced, Ringless, LowestOnRing, ExactBits, Needs, OfSheet, RunPromise}
use Rattle.trace_theorems.proofs.Lists.{in_has}
use Rattle.trace_theorems.proofs.Sources.{has_left, has_right, has-append, has_up}
use Rattle.trace_theorems.proofs.LaneCalls.{lanes_are_runs}
use Rattle.trace_theorems.proofs.Outcome.{Came, by_ring, by_bits, by_room, to_end, came}
use Rattle.trace.proofs.FreeLaws.{mul_few}

-- ---- bounds of a sheet's lean netlist

input-low : (es : List Element) (n e x : ℕ) → Rising es n e → T (has (inputs es) x) → x < e
input-low [] n e x r t = absurd t
input-low (point i ∷ es) n e x r t =
    or_elim (eqb i x) (has (inputs es) x) t (λ u. let q = eqb→eq i x u in omega (arith, rising-end es (i + 2) e r.1)) (λ u. input-low es (i + 2) e x r.1 u)
input-low (part p i ∷ es) n e x r t =
    ⊎_elim (λ u. omega (arith, (has_up (part_at p).inputs i x u).1, rising-end es (i + (part_at p).inputs + 1) e r.1)) (λ u. input-low es (i + (part_at p).inputs + 1) e x r.1 u)
    (has-append (up_from (part_at p).inputs i) (inputs es) x t)

kept-input : (m : Net) (es : List Element) (x : ℕ) → T (has (inputs (keep m es)) x) → T (has (inputs es) x)
kept-input m [] x t = absurd t
kept-input m (point i ∷ es) x t = by (kept m (point i)) t (kept-input m es x)
  where
    by : (c : Bool) → T (has (inputs (cond c (point i ∷ keep m es) (keep m es))) x) → (T (has (inputs (keep m es)) x) → T (has (inputs es) x)) → T (eqb i x || has (inputs es) x)
    by true t f = or_elim (eqb i x) (has (inputs (keep m es)) x) t (λ u. or_left (eqb i x) (has (inputs es) x) u) (λ u. or_right (eqb i x) (has (inputs es) x) (f u))
    by false t f = or_right (eqb i x) (has (inputs es) x) (f t)
kept-input m (part p i ∷ es) x t =
    ⊎_elim (λ u. has_left (up_from (part_at p).inputs i) (inputs es) x u) (λ u. has_right (up_from (part_at p).inputs i) (inputs es) x (kept-input m es x u))
    (has-append (up_from (part_at p).inputs i) (inputs (keep m es)) x t)

pub outs-length : (ps : Interface) → length (out_pins ps) ≤ length ps
outs-length [] = omega arith
outs-length (inp i ∷ ps) = omega (arith, outs-length ps)
outs-length (out o ∷ ps) = omega (arith, outs-length ps)

module _ (s : List ℕ) (m : Net) (e : full s ≡ good m) where
  pub ring_low : (x : ℕ) → Among x (inputs (lean m).elements) → x < 8192
  unfolding lean
  ring_low x h = let f = formed s m e in omega (arith, input-low m.elements 0 f.net.end x f.net.rising (kept-input m m.elements x (in_has h)), f.few)

  pub lean_pins : length (lean m).pins ≡ length m.pins
  unfolding lean
  lean_pins = length-map m.pins (lean_pin m)

  outs-few : (n : ℕ) → n ≤ 65535 → n * length (out_pins (lean m).pins) ≤ 8388480
  outs-few n h = let z = mul_few n (length (out_pins (lean m).pins)) h (omega (arith, outs-length (lean m).pins, lean_pins, few_pins s m e)) in omega arith

-- a refusal before there is a netlist
record Early (why : Refusal) : Type 0 where
  pub from : 1 ≤ why.number
  pub to : why.number ≤ 16
  pub few : why.place ≤ 16384
  pub small : (why.wanted ≤ 256) × (why.found ≤ 256)

module _ (s bits starts : List ℕ) (n room : ℕ) (work : List ℕ) where
  -- the full netlist, or refusal 1 to 16
  abbrev made : Answer Net
  made = need (leb memory_size (length work)) 1 0 >>= λ _. full s

  -- how a call ends: early, or as the run of the lean netlist does
  data Ends : Answer (List ℕ) → Type 0 where
    early : {why : Refusal} → made ≡ refused why → Early why → Ends (refused why)
    of-net : {a : Answer (List ℕ)} (m : Net) → memory_size ≤ length work → full s ≡ good m → Came (lean m) n bits starts room a → Ends a

  made-good : (m : Net) → memory_size ≤ length work → full s ≡ good m → made ≡ good m
  made-good m l e = rw (le-leb memory_size (length work) l, e)

  ends : Ends (trace (length work) s n bits starts room)
  unfolding trace
  ends = memory (leb memory_size (length work)) refl
    where
      trace-as : (b : Bool) → leb memory_size (length work) ≡ b → {a : Answer (List ℕ)} → (need b 1 0 >>= λ _. full s >>= λ m. ran (lean m) n bits starts room) ≡ a → Ends a
          → Ends (need (leb memory_size (length work)) 1 0 >>= λ _. full s >>= λ m. ran (lean m) n bits starts room)
      trace-as b e f h = subst Ends (sym (ap (λ (c : Bool). need c 1 0 >>= λ _. full s >>= λ m. ran (lean m) n bits starts room) e ∙ f)) h

      sheet : leb memory_size (length work) ≡ true → (a : Answer Net) → full s ≡ a → Ends (need (leb memory_size (length work)) 1 0 >>= λ _. full s >>= λ m. ran (lean m) n bits starts room)
      sheet e (good m) q =
          trace-as true e (ap (λ (a : Answer Net). a >>= λ m. ran (lean m) n bits starts room) q)
          (of-net m (leb→le memory_size (length work) (subst T (sym e) tt)) q (came (lean m) n bits starts (formed-lean s m q) room))
      sheet e (refused why) q =
          trace-as true e (ap (λ (a : Answer Net). a >>= λ m. ran (lean m) n bits starts room) q)
          (early (ap (λ (c : Bool). need c 1 0 >>= λ _. full s) e ∙ q) (let p = of_refused (full s) why (full-places s) q in record { from = omega (arith, p.from); to = p.to; few = p.few; small = names_small s why p.names }))

      memory : (b : Bool) → leb memory_size (length work) ≡ b → Ends (need (leb memory_size (length work)) 1 0 >>= λ _. full s >>= λ m. ran (lean m) n bits starts room)
      memory true e = sheet e (full s) refl
      memory false e = trace-as false e refl (early (ap (λ (c : Bool). need c 1 0 >>= λ _. full s) e) (record { from = omega arith; to = omega arith; few = omega arith; small = (omega arith, omega arith) }))

  -- one sheet has one netlist
  same-net : {P : Net → Type 0} (m : Net) → full s ≡ good m → OfSheet s work P → P (lean m)
  same-net {P} m e o = subst (λ (x : Net). P (lean x)) (good-inj (sym o.of_sheet ∙ e)) o.has

  -- .. and is not refused
  not-early : {P : Net → Type 0} {why : Refusal} → made ≡ refused why → OfSheet s work P → ⊥
  not-early q o = refused≢good (sym q ∙ made-good o.net o.memory o.of_sheet)

  number_of : {A : Type 0} {i j x y : ℕ} → ◌≡◌ {A = Answer A} (refuse i x) (refuse j y) → (i ≡ j) × (x ≡ y)
  number_of e = (ap (λ (r : Refusal). r.number) (refused-inj e), ap (λ (r : Refusal). r.place) (refused-inj e))

  accepts : (k : ℕ) {a : Answer (List ℕ)} → Ends a → said_of a ≡ good k → OfSheet s work (λ m. Needs m n bits starts k × (k ≤ room))
  accepts k (early q l) e = absurd (refused≢good e)
  accepts k (of-net m l q (by_ring h)) e = absurd (refused≢good e)
  accepts k (of-net m l q (by_bits f h)) e = absurd (refused≢good e)
  accepts k (of-net m l q (by_room d h)) e = absurd (refused≢good e)
  accepts k (of-net m l q (to_end d h z t)) e =
      let y : _ ≡ k = sym z ∙ good-inj e in
      record { memory = l; net = m; of_sheet = q; has = subst (λ (j : ℕ). Needs (lean m) n bits starts j × (j ≤ room)) y (d, h) }

  accepted : (k : ℕ) {a : Answer (List ℕ)} → Ends a → OfSheet s work (λ m. Needs m n bits starts k × (k ≤ room)) → said_of a ≡ good k
  accepted k (early q l) o = absurd (not-early q o)
  accepted k (of-net m l q (by_ring h)) o = let p = same-net m q o in absurd (p.0.ringless _ h.ring)
  accepted k (of-net m l q (by_bits f h)) o = let p = same-net m q o in absurd (h p.0.exact)
  accepted k (of-net m l q (by_room d h)) o = let p = same-net m q o in absurd (let y = sym d.count ∙ p.0.count in omega (arith, p.1))
  accepted k (of-net m l q (to_end d h z t)) o = let p = same-net m q o in ap good (z ∙ sym d.count ∙ p.0.count)

  traces : (output : List ℕ) (k : ℕ) {a : Answer (List ℕ)} → Ends a → said_of a ≡ good k → OfSheet s work (λ m. Traced m n bits starts output (out_of a output))
  traces output k (early q l) e = absurd (refused≢good e)
  traces output k (of-net m l q (by_ring h)) e = absurd (refused≢good e)
  traces output k (of-net m l q (by_bits f h)) e = absurd (refused≢good e)
  traces output k (of-net m l q (by_room d h)) e = absurd (refused≢good e)
  traces output k (of-net m l q (to_end {written = w} d h z t)) e =
      record { memory = l; net = m; of_sheet = q; has = subst (λ (j : ℕ). Traced (lean m) n bits starts output (w ++ drop j output)) (sym z) (t output) }

  earlier : (why : Refusal) → why.number ≤ 16 → {a : Answer (List ℕ)} → Ends a → (said_of a ≡ refused why) ↔ (made ≡ refused why)
  earlier why l (early q h) = ((λ e. q ∙ ap (λ (r : Refusal). refused r) (refused-inj e)), (λ e. ap (λ (r : Refusal). refused r) (refused-inj (sym q ∙ e))))
  earlier why l (of-net m h q c) = ((λ e. absurd (late c e)), (λ e. absurd (refused≢good (sym e ∙ made-good m h q))))
    where
      late : {a : Answer (List ℕ)} → Came (lean m) n bits starts room a → said_of a ≡ refused why → ⊥
      late (by_ring h) e = let z = ap (λ (r : Refusal). r.number) (refused-inj e) in omega arith
      late (by_bits f h) e = let z = ap (λ (r : Refusal). r.number) (refused-inj e) in omega arith
      late (by_room d h) e = let z = ap (λ (r : Refusal). r.number) (refused-inj e) in omega arith
      late (to_end d h z t) e = refused≢good (sym e)

  rings : (x : ℕ) {a : Answer (List ℕ)} → Ends a → said_of a ≡ refuse 19 x → OfSheet s work (λ m. LowestOnRing m x)
  rings x (early q l) e = absurd (let z = ap (λ (r : Refusal). r.number) (refused-inj e) in omega (arith, l.to))
  rings x (of-net m l q (by_ring h)) e = record { memory = l; net = m; of_sheet = q; has = subst (LowestOnRing (lean m)) (number_of e).1 h }
  rings x (of-net m l q (by_bits f h)) e = absurd (let z = (number_of e).0 in omega arith)
  rings x (of-net m l q (by_room d h)) e = absurd (let z = (number_of e).0 in omega arith)
  rings x (of-net m l q (to_end d h z t)) e = absurd (refused≢good (sym e))

  ringed : (x : ℕ) {a : Answer (List ℕ)} → Ends a → OfSheet s work (λ m. LowestOnRing m x) → said_of a ≡ refuse 19 x
  ringed x (early q l) o = absurd (not-early q o)
  ringed x (of-net m l q (by_ring {x = y} h)) o =
      let p = same-net m q o in
      let z : y ≡ x = (let a = h.lowest x p.input p.ring in let b = p.lowest y h.input h.ring in omega arith) in
      ap (refuse 19) z
  ringed x (of-net m l q (by_bits f h)) o = absurd (f x (same-net m q o).ring)
  ringed x (of-net m l q (by_room d h)) o = absurd (d.ringless x (same-net m q o).ring)
  ringed x (of-net m l q (to_end d h z t)) o = absurd (d.ringless x (same-net m q o).ring)

  -- a ring somewhere is enough
  ringed-somewhere : {a : Answer (List ℕ)} → Ends a → OfSheet s work (λ m. (x : ℕ) × OnRing m x) → (x : ℕ) × (said_of a ≡ refuse 19 x)
  ringed-somewhere (early q l) o = absurd (not-early q o)
  ringed-somewhere (of-net m l q (by_ring {x = y} h)) o = (y, refl)
  ringed-somewhere (of-net m l q (by_bits f h)) o = let p = same-net m q o in absurd (f p.0 p.1)
  ringed-somewhere (of-net m l q (by_room d h)) o = let p = same-net m q o in absurd (d.ringless p.0 p.1)
  ringed-somewhere (of-net m l q (to_end d h z t)) o = let p = same-net m q o in absurd (d.ringless p.0 p.1)

  wrong : (x : ℕ) {a : Answer (List ℕ)} → Ends a → said_of a ≡ refuse 20 x → (x ≡ 0) × OfSheet s work (λ m. Ringless m × (ExactBits m n bits starts → ⊥))
  wrong x (early q l) e = absurd (let z = ap (λ (r : Refusal). r.number) (refused-inj e) in omega (arith, l.to))
  wrong x (of-net m l q (by_ring h)) e = absurd (let z = (number_of e).0 in omega arith)
  wrong x (of-net m l q (by_bits f h)) e = (sym (number_of e).1, record { memory = l; net = m; of_sheet = q; has = (f, h) })
  wrong x (of-net m l q (by_room d h)) e = absurd (let z = (number_of e).0 in omega arith)
  wrong x (of-net m l q (to_end d h z t)) e = absurd (refused≢good (sym e))

  wronged : (x : ℕ) {a : Answer (List ℕ)} → Ends a → (x ≡ 0) × OfSheet s work (λ m. Ringless m × (ExactBits m n bits starts → ⊥)) → said_of a ≡ refuse 20 x
  wronged x (early q l) (z, o) = absurd (not-early q o)
  wronged x (of-net m l q (by_ring h)) (z, o) = absurd ((same-net m q o).0 _ h.ring)
  wronged x (of-net m l q (by_bits f h)) (z, o) = ap (refuse 20) (sym z)
  wronged x (of-net m l q (by_room d h)) (z, o) = absurd ((same-net m q o).1 d.exact)
  wronged x (of-net m l q (to_end d h y t)) (z, o) = absurd ((same-net m q o).1 d.exact)

  shorts : (k : ℕ) {a : Answer (List ℕ)} → Ends a → said_of a ≡ refuse 17 k → OfSheet s work (λ m. Needs m n bits starts k × (room < k))
  shorts k (early q l) e = absurd (let z = ap (λ (r : Refusal). r.number) (refused-inj e) in omega (arith, l.to))
  shorts k (of-net m l q (by_ring h)) e = absurd (let z = (number_of e).0 in omega arith)
  shorts k (of-net m l q (by_bits f h)) e = absurd (let z = (number_of e).0 in omega arith)
  shorts k (of-net m l q (by_room d h)) e = record { memory = l; net = m; of_sheet = q; has = subst (λ (j : ℕ). Needs (lean m) n bits starts j × (room < j)) (number_of e).1 (d, h) }
  shorts k (of-net m l q (to_end d h z t)) e = absurd (refused≢good (sym e))

  shorted : (k : ℕ) {a : Answer (List ℕ)} → Ends a → OfSheet s work (λ m. Needs m n bits starts k × (room < k)) → said_of a ≡ refuse 17 k
  shorted k (early q l) o = absurd (not-early q o)
  shorted k (of-net m l q (by_ring h)) o = let p = same-net m q o in absurd (p.0.ringless _ h.ring)
  shorted k (of-net m l q (by_bits f h)) o = let p = same-net m q o in absurd (h p.0.exact)
  shorted k (of-net m l q (by_room d h)) o = let p = same-net m q o in ap (refuse 17) (sym d.count ∙ p.0.count)
  shorted k (of-net m l q (to_end d h z t)) o = let p = same-net m q o in absurd (let y = sym d.count ∙ p.0.count in omega (arith, p.1))

  -- ---- what it says fits its bits

  fits : n ≤ 65535 → {a : Answer (List ℕ)} → Ends a → FitsWord (said_of a)
  fits h (early q l) = (l.from, omega (arith, l.to), omega (arith, l.few), omega (arith, l.small.0), omega (arith, l.small.1))
  fits h (of-net m l q (by_ring {x = x} r)) = (omega arith, omega arith, omega (arith, ring_low s m q x r.input), omega arith, omega arith)
  fits h (of-net m l q (by_bits f r)) = (omega arith, omega arith, omega arith, omega arith, omega arith)
  fits h (of-net m l q (by_room d r)) = (omega arith, omega arith, omega (arith, d.count, outs-few s m q n h), omega arith, omega arith)
  fits h (of-net m l q (to_end d r z t)) = omega (arith, z, d.count, outs-few s m q n h)

stayed : (a : Answer (List ℕ)) (output : List ℕ) (why : Refusal) → said_of a ≡ refused why → out_of a output ≡ output
stayed (good w) output why e = absurd (refused≢good (sym e))
stayed (refused r) output why e = refl

-- ---- for every call

pub run_promise : (s bits starts : List ℕ) (n : ℕ) (output work : List ℕ) → RunPromise s bits starts n output work (run_call s bits starts n output work)
unfolding run_call
run_promise s bits starts n output work =
    let room = length output in
    let e = ends s bits starts n room work in
    record {
      accepted = λ k. (accepts s bits starts n room work k e, accepted s bits starts n room work k e);
      traced = λ k. traces s bits starts n room work output k e;
      early = λ why l. earlier s bits starts n room work why l e;
      ring = λ x. (rings s bits starts n room work x e, ringed s bits starts n room work x e);
      inexact = λ x. (wrong s bits starts n room work x e, wronged s bits starts n room work x e);
      short = λ k. (shorts s bits starts n room work k e, shorted s bits starts n room work k e);
      stays = λ why. stayed (trace (length work) s n bits starts room) output why;
      cleared = refl;
    }

-- the bits written are those of a possible record with these inputs and starts, and of no other
pub run_exists : (s bits starts : List ℕ) (n : ℕ) (output work : List ℕ) (k : ℕ) → (run_call s bits starts n output work).said ≡ good k
    → OfSheet s work (λ m. Traced m n bits starts output (run_call s bits starts n output work).out)
run_exists s bits starts n output work = (run_promise s bits starts n output work).traced

-- 19 exactly when a ring passes through no register, at the lowest input on any
pub ring_exact : (s bits starts : List ℕ) (n : ℕ) (output work : List ℕ) (x : ℕ) → ((run_call s bits starts n output work).said ≡ refuse 19 x) ↔ OfSheet s work (λ m. LowestOnRing m x)
ring_exact s bits starts n output work = (run_promise s bits starts n output work).ring

-- "it is refused exactly when one doesn't" (document 02, L4), and somewhere on the rings that do not there is the lowest input
pub ring_refused : (s bits starts : List ℕ) (n : ℕ) (output work : List ℕ)
    → ((x : ℕ) × ((run_call s bits starts n output work).said ≡ refuse 19 x)) ↔ OfSheet s work (λ m. (x : ℕ) × OnRing m x)
unfolding run_call
ring_refused s bits starts n output work =
    let e = ends s bits starts n (length output) work in (
      (λ r. let o = rings s bits starts n (length output) work r.0 e r.1 in record { memory = o.memory; net = o.net; of_sheet = o.of_sheet; has = (r.0, o.has.ring) }),
      ringed-somewhere s bits starts n (length output) work e,
    )

-- two calls for C that answer the same number said the same
pub run_tells : (s s' bits bits' starts starts' : List ℕ) (n n' : ℕ) (output output' work work' : List ℕ) → n ≤ 65535 → n' ≤ 65535
    → packed (run_call s bits starts n output work).said ≡ packed (run_call s' bits' starts' n' output' work').said → (run_call s bits starts n output work).said ≡ (run_call s' bits' starts' n' output' work').said
unfolding run_call
run_tells s s' bits bits' starts starts' n n' output output' work work' h h' e =
    word_tells _ _ (fits s bits starts n (length output) work h (ends s bits starts n (length output) work))
    (fits s' bits' starts' n' (length output') work' h' (ends s' bits' starts' n' (length output') work')) e

-- ---- sixteen traces at once

-- the same promise holds of each lane, refusals too: what is written in it are the bits of the only possible record with the lane's inputs and starts
pub lanes_promise : (s bits state : List ℕ) (n : ℕ) (output work : List ℕ) (k : ℕ) → k < 16
    → RunPromise s (lane k bits) (lane k state) n (lane k output) work (lane_call k (lanes_call s bits state n output work))
lanes_promise s bits state n output work k h =
    let r = lanes_are_runs s bits state n output work k h in
    subst (RunPromise s (lane k bits) (lane k state) n (lane k output) work) (sym (same r.said r.out r.cleared)) (run_promise s (lane k bits) (lane k state) n (lane k output) work)
  where
    same : {c d : Call} → c.said ≡ d.said → c.out ≡ d.out → c.work ≡ d.work → c ≡ d
    same p q r = λ i. record { said = p i; out = q i; work = r i }

-- two calls for C that answer the same number said the same
pub lanes_tells : (s s' bits bits' state state' : List ℕ) (n n' : ℕ) (output output' work work' : List ℕ) → n ≤ 65535 → n' ≤ 65535
    → packed (lanes_call s bits state n output work).said ≡ packed (lanes_call s' bits' state' n' output' work').said → (lanes_call s bits state n output work).said ≡ (lanes_call s' bits' state' n' output' work').said
lanes_tells s s' bits bits' state state' n n' output output' work work' h h' e =
    let p = (lanes_are_runs s bits state n output work 0 (omega arith)).said in
    let q = (lanes_are_runs s' bits' state' n' output' work' 0 (omega arith)).said in
    p
    ∙ run_tells s s' (lane 0 bits) (lane 0 bits') (lane 0 state) (lane 0 state') n n' (lane 0 output) (lane 0 output') work work' h h' (sym (ap packed p) ∙ e ∙ ap packed q)
    ∙ sym q

-- Two netlists that a third one compares have the same outputs in all runs exactly when it never shows 1. From records of both, with the same
-- inputs, a record of the third is made by its run; the only record of each that it can have in it is the one given. Assumes nothing.
use Prim.Native.Nat.{ℕ, zero, suc, ◌+◌, ◌*◌, ◌<◌, ◌≤◌}
use mathlib.Core.Path.{◌≡◌, refl, sym, ap, ap₂, ◌∙◌, subst}
use mathlib.Core.Logic.{◌↔◌, ⊎_elim}
use mathlib.Core.Bool.{Bool, true, false, ◌||◌, xor}
use mathlib.Core.List.{List, [], ◌∷◌, ◌++◌, map}
use native.Mathlib.Omega.{arith}
use native.Mathlib.Nat.{le_refl}
use lib.Dec.{T, eqb}
use lib.ListN.{length, get_or, length-append, length-map}
use Rattle.calculus.specs.Terms.{part_at}
use Rattle.calculus.specs.Net.{Element, point, part, wire_of, Net}
use Rattle.calculus.specs.Record.{Bits, Stream, Among, streams, Works, Joined, Possible, part_law}
use Rattle.circuit_theorems.specs.Terminals.{has}
use Rattle.circuit_theorems.specs.Formed.{Formed}
use Rattle.trace_calculus.specs.Trace.{terminals, run, in_pins, out_pins, registers, given_bits, start_bits, bit_byte_lem, row, rows}
use Rattle.trace_calculus.specs.Promise.{register_outputs, Recorded, Ringless, ExactBits}
use Rattle.trace_calculus.proofs.Bytes.{byte-bit}
use Rattle.trace_theorems.proofs.Sources.{all_in, in_all, out_terminal}
use Rattle.trace_theorems.proofs.Lending.{row-length, rows-length, recorded_has, has_recorded}
use Rattle.trace_theorems.proofs.TraceRun.{run-possible, run-has, run_only}
use Rattle.never_calculus.specs.Never.{Allows, RecordFrom, Never, CanShow, FirstShown}
use Rattle.never_theorems.specs.Against.{SameRuns, RunsDiffer, FirstApart, read_at, StandsIn, Against, MovesWhole, moved_by_lem, Inside, PinLeads, LeadAll, GateFed, ComparesAll, last, and_others, JoinedBy}
use Rattle.never_theorems.proofs.Codes.{AllLow, low-append}
use Rattle.never_theorems.proofs.States.{row_low}
use Rattle.never_theorems.proofs.Outcome.{pin_shown}
use Rattle.never_theorems.proofs.Same.{xor_alike, alike_xor}

-- ---- lists

uncons : {x y : ℕ} {xs ys : List ℕ} → x ∷ xs ≡ y ∷ ys → (x ≡ y) × (xs ≡ ys)
uncons {x} {y} {xs} {ys} e = (ap (λ (l : List ℕ). get_or l 0 0) e, ap rest e)
  where
    rest : List ℕ → List ℕ
    rest [] = []
    rest (z ∷ zs) = zs

pub append-parts : (xs ys bs ds : List ℕ) → length xs ≡ length ys → xs ++ bs ≡ ys ++ ds → (xs ≡ ys) × (bs ≡ ds)
append-parts [] [] bs ds l e = (refl, e)
append-parts [] (c ∷ ys) bs ds l e = absurd (omega arith)
append-parts (a ∷ xs) [] bs ds l e = absurd (omega arith)
append-parts (a ∷ xs) (c ∷ ys) bs ds l e =
    let u = uncons e in
    let r = append-parts xs ys bs ds (omega arith) u.1 in
    (ap₂ (λ (x : ℕ) (xs : List ℕ). x ∷ xs) u.0 r.0, r.1)

pub allows-both : (ks js xs bs : List ℕ) → Allows ks xs → Allows js bs → Allows (ks ++ js) (xs ++ bs)
allows-both [] js [] bs a b = b
allows-both [] js (x ∷ xs) bs a b = absurd a
allows-both (k ∷ ks) js [] bs a b = absurd a
allows-both (k ∷ ks) js (x ∷ xs) bs a b = (a.0, allows-both ks js xs bs a.1 b)

allows-parts : (ks js xs bs : List ℕ) → length ks ≡ length xs → Allows (ks ++ js) (xs ++ bs) → Allows ks xs × Allows js bs
allows-parts [] js [] bs l a = (tt, a)
allows-parts [] js (x ∷ xs) bs l a = absurd (omega arith)
allows-parts (k ∷ ks) js [] bs l a = absurd (omega arith)
allows-parts (k ∷ ks) js (x ∷ xs) bs l a = let r = allows-parts ks js xs bs (omega arith) a.1 in ((a.0, r.0), r.1)

rows-low : (β : Bits) (os : List ℕ) (t n : ℕ) → AllLow (rows β os t n)
rows-low β os t zero = tt
rows-low β os t (suc n) = low-append (row β t os) (rows β os (t + 1) n) (row_low β t os) (rows-low β os (t + 1) n)

row_same : (β γ : Bits) (t : ℕ) (os : List ℕ) → ((k : ℕ) → k < length os → β (get_or os k 0) t ≡ γ (get_or os k 0) t) → row β t os ≡ row γ t os
row_same β γ t [] f = refl
row_same β γ t (o ∷ os) f = ap₂ (λ (b : Bool) (r : List ℕ). bit_byte_lem b ∷ r) (f 0 (omega arith)) (row_same β γ t os (λ k l. f (suc k) (omega arith)))

-- ---- two records of one netlist with the same inputs and starts have the same outputs

outputs_only : (k : Net) → Formed k → Ringless k → (n : ℕ) (bits starts : List ℕ) (β γ : Bits) → Recorded k n bits starts β → Recorded k n bits starts γ
    → (t : ℕ) → t < n → row β t (out_pins k.pins) ≡ row γ t (out_pins k.pins)
outputs_only k ok free n bits starts β γ b c t l = row_same β γ t (out_pins k.pins) at
  where
    only : (δ : Bits) → Recorded k n bits starts δ → (x : ℕ) → T (has (terminals k.elements) x) → δ x t ≡ run k (given_bits k.pins bits) (start_bits k.elements starts) x t
    only δ d x h = run_only k ok free (given_bits k.pins bits) (start_bits k.elements starts) n δ d.possible (recorded_has k ok n bits starts δ d) t l x h

    at : (j : ℕ) → j < length (out_pins k.pins) → β (get_or (out_pins k.pins) j 0) t ≡ γ (get_or (out_pins k.pins) j 0) t
    at j q =
        let h = out_terminal k.elements (get_or (out_pins k.pins) j 0) (pin_shown k.elements k.pins ok.shown j q) in
        only β b (get_or (out_pins k.pins) j 0) h ∙ sym (only γ c (get_or (out_pins k.pins) j 0) h)

pub registers-row : (k : Net) (β : Bits) → length (row β 0 (register_outputs k)) ≡ length (registers k.elements)
registers-row k β = row-length β 0 (register_outputs k) ∙ length-map (registers k.elements) _

module _ (m k l : Net) (o : ℕ) (a : Against m k l o) (starts starts' : List ℕ) (count : length starts ≡ length (registers k.elements)) where
  -- ---- a record of m has one of each in it

  halves : (n : ℕ) (β : Bits) → RecordFrom m (starts ++ starts') n β → 0 < n
      → Allows starts (row (read_at β a.of_left) 0 (register_outputs k)) × Allows starts' (row (read_at β a.of_right) 0 (register_outputs l))
  halves n β r q =
      allows-parts starts starts' (row (read_at β a.of_left) 0 (register_outputs k)) (row (read_at β a.of_right) 0 (register_outputs l)) (count ∙ sym (registers-row k (read_at β a.of_left)))
      (subst (Allows (starts ++ starts')) (a.woken n β r.possible q) r.woken)

  pub same_so : SameRuns k starts l starts' → Never m (starts ++ starts') o
  same_so same n β r t q =
      let p = r.possible in
      let fit = halves n β r (omega arith) in
      (a.compares n β p t q).1
      (same n (read_at β a.of_left) (read_at β a.of_right) (record { possible = a.left.possible n β p; woken = fit.0 }) (record { possible = a.right.possible n β p; woken = fit.1 }) (a.left.inputs n β p ∙ sym (a.right.inputs n β p)) t q)

  pub shown-differ : (t : ℕ) → CanShow m (starts ++ starts') o t → RunsDiffer k starts l starts' t
  shown-differ t s =
      let β = s.record_of in
      let p = s.starting.possible in
      let fit = halves (suc t) β s.starting (omega arith) in
      record {
        one = read_at β a.of_left;
        other = read_at β a.of_right;
        of_one = record { possible = a.left.possible (suc t) β p; woken = fit.0 };
        of_other = record { possible = a.right.possible (suc t) β p; woken = fit.1 };
        same_inputs = a.left.inputs (suc t) β p ∙ sym (a.right.inputs (suc t) β p);
        different = λ e. subst T (sym s.one ∙ (a.compares (suc t) β p t (le_refl (suc t))).1 e) tt;
      }

module _ (m k l : Net) (o : ℕ) (ok : Formed m) (free : Ringless m) (a : Against m k l o) (starts starts' : List ℕ) where
  -- ---- from a record of each, one of m

  module _ (okₖ : Formed k) (freeₖ : Ringless k) (okₗ : Formed l) (freeₗ : Ringless l) (n : ℕ) (β γ : Bits) (b : RecordFrom k starts n β) (c : RecordFrom l starts' n γ) (e : rows β (in_pins k.pins) 0 n ≡ rows γ (in_pins l.pins) 0 n) where
    abbrev bits : List ℕ
    bits = rows β (in_pins k.pins) 0 n

    abbrev begins : List ℕ
    begins = row β 0 (register_outputs k) ++ row γ 0 (register_outputs l)

    abbrev ρ : Bits
    ρ = run m (given_bits m.pins bits) (start_bits m.elements begins)

    exact : ExactBits m n bits begins
    exact = record {
      input_count_lem = rows-length β (in_pins k.pins) 0 n ∙ ap (λ (x : ℕ). n * x) a.left.as_many;
      start_count = length-append (row β 0 (register_outputs k)) (row γ 0 (register_outputs l)) ∙ ap₂ ◌+◌ (registers-row k β) (registers-row l γ) ∙ sym a.count;
      input_bits = rows-low β (in_pins k.pins) 0 n;
      start_bits_lem = low-append (row β 0 (register_outputs k)) (row γ 0 (register_outputs l)) (row_low β 0 (register_outputs k)) (row_low γ 0 (register_outputs l));
    }

    possible : Possible part_law m n ρ
    possible = run-possible m ok free (given_bits m.pins bits) (start_bits m.elements begins) n

    recorded : Recorded m n bits begins ρ
    recorded = has_recorded m ok n bits begins ρ exact possible (run-has m ok free (given_bits m.pins bits) (start_bits m.elements begins) n)

    woken : 0 < n → (row (read_at ρ a.of_left) 0 (register_outputs k) ≡ row β 0 (register_outputs k)) × (row (read_at ρ a.of_right) 0 (register_outputs l) ≡ row γ 0 (register_outputs l))
    woken q =
        append-parts (row (read_at ρ a.of_left) 0 (register_outputs k)) (row β 0 (register_outputs k)) (row (read_at ρ a.of_right) 0 (register_outputs l)) (row γ 0 (register_outputs l))
        (registers-row k (read_at ρ a.of_left) ∙ sym (registers-row k β)) (sym (a.woken n ρ possible q) ∙ recorded.woken q)

    left-same : (t : ℕ) → t < n → row (read_at ρ a.of_left) t (out_pins k.pins) ≡ row β t (out_pins k.pins)
    left-same =
        outputs_only k okₖ freeₖ n bits (row β 0 (register_outputs k)) (read_at ρ a.of_left) β
        (record { possible = a.left.possible n ρ possible; given = a.left.inputs n ρ possible ∙ recorded.given; woken = λ q. (woken q).0 })
        (record { possible = b.possible; given = refl; woken = λ q. refl })

    right-same : (t : ℕ) → t < n → row (read_at ρ a.of_right) t (out_pins l.pins) ≡ row γ t (out_pins l.pins)
    right-same =
        outputs_only l okₗ freeₗ n bits (row γ 0 (register_outputs l)) (read_at ρ a.of_right) γ
        (record { possible = a.right.possible n ρ possible; given = a.right.inputs n ρ possible ∙ recorded.given; woken = λ q. (woken q).1 })
        (record { possible = c.possible; given = sym e; woken = λ q. refl })

    joint : 0 < n → RecordFrom m (starts ++ starts') n ρ
    joint q = record { possible = possible; woken = subst (Allows (starts ++ starts')) (sym (recorded.woken q)) (allows-both starts starts' _ _ b.woken c.woken) }

    pub off_same : (t : ℕ) → t < n → ρ o t ≡ false → row β t (out_pins k.pins) ≡ row γ t (out_pins l.pins)
    off_same t q z = sym (left-same t q) ∙ (a.compares n ρ possible t q).0 z ∙ right-same t q

    pub never-so : Never m (starts ++ starts') o → (t : ℕ) → t < n → row β t (out_pins k.pins) ≡ row γ t (out_pins l.pins)
    never-so never t q = off_same t q (never n ρ (joint (omega arith)) t q)

pub on_true : (b : Bool) → (b ≡ false → ⊥) → b ≡ true
on_true true d = refl
on_true false d = absurd (d refl)

module _ (m k l : Net) (o : ℕ) (ok : Formed m) (free : Ringless m) (okₖ : Formed k) (freeₖ : Ringless k) (okₗ : Formed l) (freeₗ : Ringless l) (a : Against m k l o) (starts starts' : List ℕ) (count : length starts ≡ length (registers k.elements)) where
  pub against_never : Never m (starts ++ starts') o ↔ SameRuns k starts l starts'
  against_never = (
    (λ never n β γ b c e. never-so m k l o ok free a starts starts' okₖ freeₖ okₗ freeₗ n β γ b c e never),
    same_so m k l o a starts starts' count,
  )

  differ-shown : (t : ℕ) → RunsDiffer k starts l starts' t → CanShow m (starts ++ starts') o t
  differ-shown t d = record {
    record_of = ρ m k l o ok free a starts starts' okₖ freeₖ okₗ freeₗ (suc t) d.one d.other d.of_one d.of_other d.same_inputs;
    starting = joint m k l o ok free a starts starts' okₖ freeₖ okₗ freeₗ (suc t) d.one d.other d.of_one d.of_other d.same_inputs (omega arith);
    one = on_true _ (λ z. d.different (off_same m k l o ok free a starts starts' okₖ freeₖ okₗ freeₗ (suc t) d.one d.other d.of_one d.of_other d.same_inputs t (le_refl (suc t)) z));
  }

  pub against-first : (t : ℕ) → FirstShown m (starts ++ starts') o t ↔ FirstApart k starts l starts' t
  against-first t = (
    (λ h. record { differ = shown-differ m k l o a starts starts' count t h.shows; earlier = λ u q d. h.earlier u q (differ-shown u d) }),
    (λ h. record { shows = differ-shown t h.differ; earlier = λ u q s. h.earlier u q (shown-differ m k l o a starts starts' count u s) }),
  )

-- ---- on the netlists themselves

streams_moved : (f : ℕ → ℕ) (c i : ℕ) (β : Bits) (e : ℕ) → ((j : ℕ) → j < c → f (i + j) ≡ e + j) → streams c i (read_at β f) ≡ streams c e β
streams_moved f zero i β e h = refl
streams_moved f (suc c) i β e h =
    let z : i + 0 ≡ i = omega arith in
    let y : e + 0 ≡ e = omega arith in
    ap₂ (λ (x : Stream) (xs : List Stream). x ∷ xs) (ap β (ap f (sym z) ∙ h 0 (omega arith) ∙ y)) (streams_moved f c (i + 1) β (e + 1) on)
  where
    on : (j : ℕ) → j < c → f (i + 1 + j) ≡ e + 1 + j
    on j l = let a : i + 1 + j ≡ i + suc j = omega arith in let b : e + suc j ≡ e + 1 + j = omega arith in ap f a ∙ h (suc j) (omega arith) ∙ b

pub inside_possible : (f : ℕ → ℕ) (k m : Net) → Inside f k m → (n : ℕ) (β : Bits) → Possible part_law m n β → Possible part_law k n (read_at β f)
inside_possible f k m s n β p = record {
  elements = all_in (Works part_law n (read_at β f)) k.elements works;
  wires = all_in (Joined n (read_at β f)) k.wires (λ w h. in_all (Joined n β) (in_all (λ v. Among (wire_of (f v.from) (f v.to)) m.wires) h s.wires) p.wires);
}
  where
    there-in : {e : Element} → Among e k.elements → MovesWhole f e × Among (moved_by_lem f e) m.elements
    there-in h = in_all (λ e. MovesWhole f e × Among (moved_by_lem f e) m.elements) h s.elements

    works : (e : Element) → Among e k.elements → Works part_law n (read_at β f) e
    works (point i) h = let a = there-in h in λ t l. in_all (Works part_law n β) a.1 p.elements t l ∙ ap (λ (x : ℕ). β x t) (sym a.0)
    works (part q i) h =
        let a = there-in h in
        subst (λ (xs : List Stream). part_law q n xs (β (f (i + (part_at q).inputs)))) (sym (streams_moved f (part_at q).inputs i β (f i) (λ j l. a.0 j (omega arith))))
        (subst (λ (x : ℕ). part_law q n (streams (part_at q).inputs (f i) β) (β x)) (sym (a.0 (part_at q).inputs (le_refl (part_at q).inputs))) (in_all (Works part_law n β) a.1 p.elements))

pub row_moved : (β : Bits) (f : ℕ → ℕ) (t : ℕ) (os : List ℕ) → row (read_at β f) t os ≡ row β t (map f os)
row_moved β f t [] = refl
row_moved β f t (o ∷ os) = ap (λ (r : List ℕ). bit_byte_lem (β (f o) t) ∷ r) (row_moved β f t os)

pub row-append : (β : Bits) (t : ℕ) (xs ys : List ℕ) → row β t (xs ++ ys) ≡ row β t xs ++ row β t ys
row-append β t [] ys = refl
row-append β t (x ∷ xs) ys = ap (λ (r : List ℕ). bit_byte_lem (β x t) ∷ r) (row-append β t xs ys)

pub rows_same : (β γ : Bits) (os ps : List ℕ) (end t n : ℕ) → ((u : ℕ) → u < end → row β u os ≡ row γ u ps) → t + n ≤ end → rows β os t n ≡ rows γ ps t n
rows_same β γ os ps end t zero f l = refl
rows_same β γ os ps end t (suc n) f l = ap₂ ◌++◌ (f t (omega arith)) (rows_same β γ os ps end (t + 1) n f (omega arith))

lead_length : (m : Net) (ps xs : List ℕ) → LeadAll m ps xs → length xs ≡ length ps
lead_length m [] [] a = refl
lead_length m [] (x ∷ xs) a = absurd a
lead_length m (p ∷ ps) [] a = absurd a
lead_length m (p ∷ ps) (x ∷ xs) a = ap suc (lead_length m ps xs a.1)

pub byte_only : (a b : Bool) → bit_byte_lem a ≡ bit_byte_lem b → a ≡ b
byte_only a b e = sym (byte-bit a) ∙ ap (λ (v : ℕ). eqb v 1) e ∙ byte-bit b

pub or_off : (a b : Bool) → (a || b) ≡ false → (a ≡ false) × (b ≡ false)
or_off true b e = absurd (subst T e tt)
or_off false b e = (refl, e)

pub off_or : (a b : Bool) → a ≡ false → b ≡ false → (a || b) ≡ false
off_or a b e f = ap₂ ◌||◌ e f

module _ (m : Net) (n : ℕ) (β : Bits) (p : Possible part_law m n β) (t : ℕ) (l : t < n) where
  led : {x y : ℕ} → PinLeads m x y → β y t ≡ β x t
  led {x} {y} h = ⊎_elim (λ e. ap (λ (z : ℕ). β z t) (sym e)) through h
    where
      through : Among (point x) m.elements × Among (wire_of (x + 1) y) m.wires → β y t ≡ β x t
      through (a, w) = sym (in_all (Works part_law n β) a p.elements t l ∙ in_all (Joined n β) w p.wires t l)

  pub led-row : (ps xs : List ℕ) → LeadAll m ps xs → row β t xs ≡ row β t ps
  led-row [] [] a = refl
  led-row [] (x ∷ xs) a = absurd a
  led-row (q ∷ ps) [] a = absurd a
  led-row (q ∷ ps) (x ∷ xs) a = ap₂ (λ (b : Bool) (r : List ℕ). bit_byte_lem b ∷ r) (led a.0) (led-row ps xs a.1)

  or-fed : {o x y : ℕ} → GateFed m 3 o x y → β o t ≡ (β x t || β y t)
  or-fed {o} h =
      ap (λ (z : ℕ). β z t) (sym h.seen) ∙ in_all (Works part_law n β) h.made p.elements t l
      ∙ ap₂ ◌||◌ (sym (in_all (Joined n β) h.first p.wires t l)) (sym (in_all (Joined n β) h.second p.wires t l))

  xor-fed : {o x y : ℕ} → GateFed m 4 o x y → β o t ≡ xor (β x t) (β y t)
  xor-fed {o} h =
      ap (λ (z : ℕ). β z t) (sym h.seen) ∙ in_all (Works part_law n β) h.made p.elements t l
      ∙ ap₂ xor (sym (in_all (Joined n β) h.first p.wires t l)) (sym (in_all (Joined n β) h.second p.wires t l))

  pub compared_off : {o : ℕ} {xs ys : List ℕ} → ComparesAll m o xs ys → β o t ≡ false → row β t xs ≡ row β t ys
  compared_off (last h) e = ap (λ (b : Bool). bit_byte_lem b ∷ []) (xor_alike _ _ (sym (xor-fed h) ∙ e))
  compared_off (and_others g h r) e =
      let z = or_off _ _ (sym (or-fed g) ∙ e) in
      ap₂ (λ (b : Bool) (r : List ℕ). bit_byte_lem b ∷ r) (xor_alike _ _ (sym (xor-fed h) ∙ z.0)) (compared_off r z.1)

  pub compared_same : {o : ℕ} {xs ys : List ℕ} → ComparesAll m o xs ys → row β t xs ≡ row β t ys → β o t ≡ false
  compared_same (last h) e = xor-fed h ∙ alike_xor _ _ (byte_only _ _ (uncons e).0)
  compared_same (and_others g h r) e = or-fed g ∙ off_or _ _ (xor-fed h ∙ alike_xor _ _ (byte_only _ _ (uncons e).0)) (compared_same r (uncons e).1)

module _ (m k : Net) (f : ℕ → ℕ) (s : Inside f k m) (pins : LeadAll m (in_pins m.pins) (map f (in_pins k.pins))) where
  stands_in : StandsIn m k f
  stands_in = record {
    as_many = sym (length-map (in_pins k.pins) f) ∙ lead_length m (in_pins m.pins) (map f (in_pins k.pins)) pins;
    possible = inside_possible f k m s;
    inputs = λ n β p. rows_same (read_at β f) β (in_pins k.pins) (in_pins m.pins) n 0 n (λ u l. row_moved β f u (in_pins k.pins) ∙ led-row m n β p u l (in_pins m.pins) (map f (in_pins k.pins)) pins) (omega arith);
  }

pub registers-count : (m : Net) → length (register_outputs m) ≡ length (registers m.elements)
registers-count m = length-map (registers m.elements) _

pub joined-against : (m k l : Net) (o : ℕ) (f g : ℕ → ℕ) → JoinedBy m k l o f g → Against m k l o
joined-against m k l o f g j = record {
  of_left = f;
  of_right = g;
  left = stands_in m k f j.left j.left_pins;
  right = stands_in m l g j.right j.right_pins;
  count =
      sym (registers-count m) ∙ ap length j.outputs ∙ length-append (map f (register_outputs k)) (map g (register_outputs l))
      ∙ ap₂ ◌+◌ (length-map (register_outputs k) f ∙ registers-count k) (length-map (register_outputs l) g ∙ registers-count l);
  woken = λ n β p q.
      ap (row β 0) j.outputs ∙ row-append β 0 (map f (register_outputs k)) (map g (register_outputs l))
      ∙ ap₂ ◌++◌ (sym (row_moved β f 0 (register_outputs k))) (sym (row_moved β g 0 (register_outputs l)));
  compares = λ n β p t q. (
    (λ e. row_moved β f t (out_pins k.pins) ∙ compared_off m n β p t q j.compared e ∙ sym (row_moved β g t (out_pins l.pins))),
    (λ e. compared_same m n β p t q j.compared (sym (row_moved β f t (out_pins k.pins)) ∙ e ∙ row_moved β g t (out_pins l.pins))),
  );
}

-- The lean netlists of two sheets within that of the joint one: it joins them, as `Against` says. Assumes nothing.
use Prim.Native.Nat.{ℕ, zero, suc, ◌+◌, ◌<◌, ◌≤◌}
use mathlib.Core.Path.{◌≡◌, refl, sym, ap, ap₂, ◌∙◌, subst}
use mathlib.Core.Logic.{⊎_elim}
use mathlib.Core.Bool.{Bool, true, false, cond}
use mathlib.Core.List.{List, [], ◌∷◌, ◌++◌, map, map-append}
use native.Mathlib.Omega.{arith}
use lib.Dec.{T, eqb, eqb→eq, eqb_refl}
use lib.ListN.{length, length-append, length-map}
use Rattle.laws.proofs.Tests.{or_elim, or_left, or_right, T-is}
use Rattle.calculus.specs.Types.{Ty, sharable}
use Rattle.calculus.specs.Terms.{part_at}
use Rattle.calculus.specs.Net.{inp, out, number, Interface, turns, Element, point, part, Made, Net, net_of}
use Rattle.calculus.specs.Lean.{is_pin, root, kept, keep, lean}
use Rattle.calculus.specs.Record.{Bits, All, Same, Works, Possible, part_law}
use Rattle.circuit_theorems.specs.Scope.{dirs}
use Rattle.circuit_theorems.specs.Formed.{Formed}
use Rattle.circuit_theorems.proofs.Lists.{all_left, all_right}
use Rattle.circuit_theorems.proofs.Terminals.{point_in, part_in_lem, is_between}
use Rattle.circuit_theorems.proofs.BackLaws.{pin_root}
use Rattle.circuit_theorems.proofs.Wiring.{stand_in, StandsApart, PinOk, wired-net}
use Rattle.circuit_theorems.proofs.Same.{to_lean, from-lean}
use Rattle.trace_calculus.specs.Trace.{in_pins, out_pins, registers, bit_byte_lem, row}
use Rattle.trace_calculus.specs.Promise.{register_outputs}
use Rattle.never_theorems.specs.Against.{read_at, StandsIn, Against}
use Rattle.never_theorems.proofs.Against.{row-append, rows_same}
use Rattle.same_theorems.specs.Joint.{arrows_to}
use Rattle.same_theorems.proofs.Moved.{further_by}
use Rattle.same_theorems.proofs.Gates.{side_row, Running}
use Rattle.same_theorems.proofs.Applying.{in_sides, inputs_of, behind_inputs}
use Rattle.same_theorems.proofs.Joining.{HalfRuns, JointOf}
use Rattle.same_theorems.proofs.Pins.{AllSharable, typed_ins, typed_outs, as_many_inputs, joint-ins, joint-outs, lean-ins, lean-outs, lean-registers, roots_row}

-- ---- a record of the lean netlist, in the full one: each terminal has the bits of the output that stands for it

module _ (m : Net) (ok : Formed m) (n : ℕ) (β : Bits) (p : Possible part_law (lean m) n β) where
  pub spread_possible : Possible part_law m n (read_at β (stand_in m))
  spread_possible = from-lean part_law m (wired-net m ok) n β p

  kept-point : (es : List Element) (i : ℕ) → T (point_in es i) → root m (i + 1) ≡ i + 1 → All (Works part_law n β) (keep m es) → Same n β i (i + 1)
  kept-point [] i h e a = absurd h
  kept-point (point j ∷ es) i h e a =
      or_elim (eqb j i) (point_in es i) h
      (λ t. let q = eqb→eq j i t in subst (λ (x : ℕ). Same n β x (x + 1)) q (first (kept m (point j)) (subst (λ (x : ℕ). T (eqb (root m (x + 1)) (x + 1))) (sym q) (subst (λ (y : ℕ). T (eqb y (i + 1))) (sym e) (eqb_refl (i + 1)))) a))
      (λ t. kept-point es i t e (rest (kept m (point j)) a))
    where
      first : (b : Bool) → T b → All (Works part_law n β) (cond b (point j ∷ keep m es) (keep m es)) → Same n β j (j + 1)
      first true t a = a.0
      first false t a = absurd t

      rest : (b : Bool) → All (Works part_law n β) (cond b (point j ∷ keep m es) (keep m es)) → All (Works part_law n β) (keep m es)
      rest true a = a.1
      rest false a = a
  kept-point (part q j ∷ es) i h e a = kept-point es i h e a.1

  within-part : (k i x : ℕ) → T (is_between k i x) → (i ≤ x) × (x ≤ i + k)
  within-part zero i x h = absurd h
  within-part (suc k) i x h =
      or_elim (eqb i x) (is_between k (i + 1) x) h (λ t. let e = eqb→eq i x t in (omega arith, omega arith)) (λ t. let r = within-part k (i + 1) x t in (omega arith, omega arith))

  part_stays : (es : List Element) → All (StandsApart m) es → (x : ℕ) → T (part_in_lem es x) → stand_in m x ≡ x
  part_stays [] c x h = absurd h
  part_stays (point i ∷ es) c x h = part_stays es c.1 x h
  part_stays (part q i ∷ es) c x h =
      or_elim (is_between (part_at q).inputs i x) (part_in_lem es x) h (λ t. let r = within-part (part_at q).inputs i x t in c.0 x r.0 r.1) (λ t. part_stays es c.1 x t)

  -- an input pin keeps its bits
  pin-stays : (i : ℕ) → T (is_pin m.pins i) → PinOk m (inp i) → (t : ℕ) → t < n → β (stand_in m i) t ≡ β i t
  unfolding lean
  pin-stays i u c t l =
      ⊎_elim
      (λ h.
      let r = pin_root m i u in
      let e : stand_in m i ≡ i + 1 = rw (T-is (point_in m.elements i) h) r in
      ap (λ (x : ℕ). β x t) e ∙ sym (kept-point m.elements i h r p.elements t l))
      (λ h. ap (λ (x : ℕ). β x t) (part_stays m.elements (wired-net m ok).clear i h)) c

  pins-stay : (ps : Interface) → All (PinOk m) ps → ((i : ℕ) → T (is_pin ps i) → T (is_pin m.pins i)) → (t : ℕ) → t < n → row (read_at β (stand_in m)) t (in_pins ps) ≡ row β t (in_pins ps)
  pins-stay [] c sub t l = refl
  pins-stay (inp i ∷ ps) c sub t l =
      ap₂ (λ (b : Bool) (r : List ℕ). bit_byte_lem b ∷ r) (pin-stays i (sub i (or_left (eqb i i) (is_pin ps i) (eqb_refl i))) c.0 t l) (pins-stay ps c.1 (λ j h. sub j (or_right (eqb i j) (is_pin ps j) h)) t l)
  pins-stay (out o ∷ ps) c sub t l = pins-stay ps c.1 sub t l

  pub inputs-stay : (t : ℕ) → t < n → row (read_at β (stand_in m)) t (in_pins m.pins) ≡ row β t (in_pins m.pins)
  inputs-stay = pins-stay m.pins (wired-net m ok).pins_ok (λ i h. h)

-- an output of a pin has the bits of its root
module _ (m : Net) (ok : Formed m) where
  shown-root : (ps : Interface) (o : ℕ) → All (PinOk m) (ps ++ out o ∷ []) → stand_in m o ≡ root m o
  shown-root ps o c = let f : point_in m.elements o ≡ false = (all_right (PinOk m) ps (out o ∷ []) c).0 in rw f

  -- a register's output stands for itself
  pub register_stays : (es : List Element) → All (StandsApart m) es → All (λ r. stand_in m (r + 1) ≡ r + 1) (registers es)
  register_stays [] c = tt
  register_stays (point i ∷ es) c = register_stays es c.1
  register_stays (part p i ∷ es) c = by (eqb p 1) refl (register_stays es c.1)
    where
      by : (b : Bool) → eqb p 1 ≡ b → All (λ r. stand_in m (r + 1) ≡ r + 1) (registers es) → All (λ r. stand_in m (r + 1) ≡ r + 1) (cond b (i ∷ registers es) (registers es))
      by true e a =
          let q : p ≡ 1 = eqb→eq p 1 (subst T (sym e) tt) in
          (c.0 (i + 1) (omega arith) (let w : i + 1 ≤ i + (part_at p).inputs = subst (λ (z : ℕ). i + 1 ≤ i + (part_at z).inputs) (sym q) (omega arith) in w), a)
      by false e a = a

-- ---- the joint netlist

-- a type θs → θ of bits
pub record OfBits (θs : List Ty) (θ : Ty) : Type 0 where
  pub taken : AllSharable θs
  pub shown : T (sharable θ)

module _ (θs : List Ty) (θ : Ty) (bits : OfBits θs θ) (m : Made) (o : ℕ) (side : m.side ≡ in_sides θs 0 ++ out o ∷ []) (ok : Formed (net_of m)) where
  -- where a terminal that stands d further in m has its bits in a record of the lean netlist
  abbrev pub lean_at : ℕ → ℕ → ℕ
  lean_at d x = stand_in (net_of m) (further_by d x)

  pins-in : in_pins (lean (net_of m)).pins ≡ map number (in_sides θs 0)
  unfolding lean
  pins-in = lean-ins (net_of m) m.side ∙ ap in_pins side ∙ joint-ins θs o bits.taken

  pub pins_out : out_pins (lean (net_of m)).pins ≡ root (net_of m) o ∷ []
  unfolding lean
  pins_out = lean-outs (net_of m) m.side ∙ ap (λ (s : Interface). map (root (net_of m)) (out_pins s)) side ∙ ap (map (root (net_of m))) (joint-outs θs o bits.taken)

  output-root : stand_in (net_of m) o ≡ root (net_of m) o
  output-root = shown-root (net_of m) ok (in_sides θs 0) o (subst (All (PinOk (net_of m))) side (wired-net (net_of m) ok).pins_ok)

  module _ (x : Made) (d : ℕ) (okₓ : Formed (net_of x)) (ed : dirs x.side ≡ turns false (arrows_to θs θ)) (half : (n : ℕ) (β : Bits) → Running n β m → HalfRuns θs x (in_sides θs 0) n β (read_at β (further_by d))) where
    half_in : in_pins (lean (net_of x)).pins ≡ map number (inputs_of θs x.side)
    unfolding lean
    half_in = lean-ins (net_of x) x.side ∙ typed_ins θ bits.shown θs bits.taken x.side ed

    half_out : out_pins (lean (net_of x)).pins ≡ map (root (net_of x)) (map number (behind_inputs θs x.side))
    unfolding lean
    half_out = lean-outs (net_of x) x.side ∙ ap (map (root (net_of x))) (typed_outs θ bits.shown θs bits.taken x.side ed)

    half_runs : (n : ℕ) (β : Bits) → Possible part_law (lean (net_of m)) n β → HalfRuns θs x (in_sides θs 0) n (read_at β (stand_in (net_of m))) (read_at β (lean_at d))
    half_runs n β p = half n (read_at β (stand_in (net_of m))) (spread_possible (net_of m) ok n β p)

    pub half-stands : StandsIn (lean (net_of m)) (lean (net_of x)) (lean_at d)
    half-stands = record {
      as_many =
          ap length half_in ∙ length-map (inputs_of θs x.side) number ∙ as_many_inputs θ bits.shown θs x.side 0 ed
          ∙ sym (length-map (in_sides θs 0) number) ∙ sym (ap length pins-in);
      possible = λ n β p. to_lean part_law (net_of x) (wired-net (net_of x) okₓ) n (read_at β (lean_at d)) (half_runs n β p).running;
      inputs = λ n β p. rows_same (read_at β (lean_at d)) β (in_pins (lean (net_of x)).pins) (in_pins (lean (net_of m)).pins) n 0 n (at n β p) (omega arith);
    }
      where
        at : (n : ℕ) (β : Bits) → Possible part_law (lean (net_of m)) n β → (u : ℕ) → u < n → row (read_at β (lean_at d)) u (in_pins (lean (net_of x)).pins) ≡ row β u (in_pins (lean (net_of m)).pins)
        at n β p u l =
            let same : in_pins m.side ≡ map number (in_sides θs 0) = ap in_pins side ∙ joint-ins θs o bits.taken in
            ap (row (read_at β (lean_at d)) u) half_in ∙ (half_runs n β p).inputs u l
            ∙ ap (row (read_at β (stand_in (net_of m))) u) (sym same) ∙ inputs-stay (net_of m) ok n β p u l ∙ ap (row β u) (same ∙ sym pins-in)

    -- the outputs
    pub half-shows : (n : ℕ) (β : Bits) → Possible part_law (lean (net_of m)) n β → (t : ℕ) → t < n → row (read_at β (lean_at d)) t (out_pins (lean (net_of x)).pins) ≡ side_row (read_at β (lean_at d)) t (behind_inputs θs x.side)
    half-shows n β p t l = ap (row (read_at β (lean_at d)) t) half_out ∙ roots_row n (read_at β (lean_at d)) (net_of x) (half_runs n β p).running t l (map number (behind_inputs θs x.side))

    -- the registers' outputs, where they are some of m's
    woken-half : (β : Bits) (rs : List ℕ) → All (λ r. stand_in (net_of m) (r + 1) ≡ r + 1) (map (further_by d) rs) → row β 0 (map (λ r. r + 1) (map (further_by d) rs)) ≡ row (read_at β (lean_at d)) 0 (map (λ r. r + 1) rs)
    woken-half β [] a = refl
    woken-half β (r ∷ rs) a =
        let e : r + 1 + d ≡ r + d + 1 = omega arith in
        ap₂ (λ (b : Bool) (r : List ℕ). bit_byte_lem b ∷ r) (ap (λ (y : ℕ). β y 0) (sym (ap (stand_in (net_of m)) e ∙ a.0))) (woken-half β rs a.1)

pub outputs-kept : (m : Made) → register_outputs (lean (net_of m)) ≡ map (λ r. r + 1) (registers m.elements)
unfolding lean
outputs-kept m = ap (map (λ r. r + 1)) (lean-registers (net_of m) m.elements)

registers-kept : (m : Made) → registers (lean (net_of m)).elements ≡ registers m.elements
unfolding lean
registers-kept m = lean-registers (net_of m) m.elements

module _ (θs : List Ty) (θ : Ty) (bits : OfBits θs θ) (x y m : Made) (okₓ : Formed (net_of x)) (okᵧ : Formed (net_of y)) (ok : Formed (net_of m)) (ex : dirs x.side ≡ turns false (arrows_to θs θ)) (ey : dirs y.side ≡ turns false (arrows_to θs θ)) (j : JointOf θs x y m) where
  abbrev d : ℕ
  d = j.of_first

  abbrev d' : ℕ
  d' = j.of_second

  abbrev rs : List ℕ
  rs = map (further_by d) (registers x.elements)

  abbrev ss : List ℕ
  ss = map (further_by d') (registers y.elements)

  all_stay : All (λ r. stand_in (net_of m) (r + 1) ≡ r + 1) (rs ++ ss)
  all_stay = subst (All (λ r. stand_in (net_of m) (r + 1) ≡ r + 1)) j.registers_are (register_stays (net_of m) ok m.elements (wired-net (net_of m) ok).clear)

  pub joint-against : Against (lean (net_of m)) (lean (net_of x)) (lean (net_of y)) (root (net_of m) j.output)
  joint-against = record {
    of_left = lean_at θs θ bits m j.output j.side ok d;
    of_right = lean_at θs θ bits m j.output j.side ok d';
    left = half-stands θs θ bits m j.output j.side ok x d okₓ ex j.first_half_lem;
    right = half-stands θs θ bits m j.output j.side ok y d' okᵧ ey j.second_half_lem;
    count =
        ap length (registers-kept m ∙ j.registers_are) ∙ length-append rs ss
        ∙ ap₂ ◌+◌ (length-map (registers x.elements) (further_by d) ∙ ap length (sym (registers-kept x))) (length-map (registers y.elements) (further_by d') ∙ ap length (sym (registers-kept y)));
    woken = λ n β p q.
        ap (row β 0) (outputs-kept m ∙ ap (map (λ r. r + 1)) j.registers_are ∙ map-append (λ r. r + 1) rs ss) ∙ row-append β 0 (map (λ r. r + 1) rs) (map (λ r. r + 1) ss)
        ∙ ap₂ ◌++◌
        (woken-half θs θ bits m j.output j.side ok x d okₓ ex j.first_half_lem β (registers x.elements) (all_left _ rs ss all_stay) ∙ ap (row (read_at β (lean_at θs θ bits m j.output j.side ok d)) 0) (sym (outputs-kept x)))
        (woken-half θs θ bits m j.output j.side ok y d' okᵧ ey j.second_half_lem β (registers y.elements) (all_right _ rs ss all_stay) ∙ ap (row (read_at β (lean_at θs θ bits m j.output j.side ok d')) 0) (sym (outputs-kept y)));
    compares = λ n β p t l.
        let w = j.off n (read_at β (stand_in (net_of m))) (spread_possible (net_of m) ok n β p) t l in
        let e = ap (λ (z : ℕ). β z t) (output-root θs θ bits m j.output j.side ok) in
        let u = half-shows θs θ bits m j.output j.side ok x d okₓ ex j.first_half_lem n β p t l in
        let v = half-shows θs θ bits m j.output j.side ok y d' okᵧ ey j.second_half_lem n β p t l in
        ((λ z. u ∙ w.0 (e ∙ z) ∙ sym v), (λ z. sym e ∙ w.1 (sym u ∙ z ∙ v)));
  }

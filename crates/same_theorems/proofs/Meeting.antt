-- From records of two lean netlists with the same inputs, a record of the joint one in which both stand. Assumes nothing.
use Prim.Native.Nat.{ℕ, zero, suc, ◌+◌, ◌<◌}
use mathlib.Core.Path.{◌≡◌, refl, sym, ap, ap₂, ◌∙◌, subst}
use mathlib.Core.Bool.{Bool, true, false, cond}
use mathlib.Core.List.{List, [], ◌∷◌, ◌++◌, map, map-append, head-eq_of_cons-eq, tail-eq_of_cons-eq}
use native.Mathlib.Omega.{arith}
use lib.Dec.{T, eqb, eqb→eq}
use lib.ListN.{length, length-map}
use Rattle.calculus.specs.Types.{Ty}
use Rattle.calculus.specs.Terms.{part_at}
use Rattle.calculus.specs.Net.{inp, out, number, Interface, turns, Element, point, part, Made, Net, net_of}
use Rattle.calculus.specs.Lean.{root, lean}
use Rattle.calculus.specs.Record.{Stream, Bits, All, Possible, part_law}
use Rattle.circuit_theorems.specs.Scope.{dirs}
use Rattle.circuit_theorems.specs.Formed.{Formed}
use Rattle.circuit_theorems.proofs.Bounds.{ElementBelow}
use Rattle.circuit_theorems.proofs.Roots.{root-like}
use Rattle.circuit_theorems.proofs.Wiring.{stand_in, PinOk, wired-net}
use Rattle.circuit_theorems.proofs.Same.{to_lean}
use Rattle.linear_theorems.proofs.Meaning.{lines}
use Rattle.linear_theorems.proofs.Lines.{cut-same}
use Rattle.linear_theorems.proofs.Below.{Lows}
use Rattle.trace_calculus.specs.Trace.{in_pins, out_pins, registers, bit_byte_lem, row, rows}
use Rattle.trace_calculus.specs.Promise.{register_outputs}
use Rattle.trace_theorems.proofs.Lending.{row-length}
use Rattle.never_theorems.specs.Against.{read_at}
use Rattle.never_theorems.proofs.Against.{append-parts, row-append, row_moved, byte_only}
use Rattle.same_theorems.specs.Joint.{arrows_to}
use Rattle.same_theorems.proofs.Moved.{further_by}
use Rattle.same_theorems.proofs.Gates.{side_row}
use Rattle.same_theorems.proofs.Applying.{in_sides, inputs_of, behind_inputs}
use Rattle.same_theorems.proofs.Pins.{typed_ins, typed_outs, as_many_inputs, lean-ins, lean-outs}
use Rattle.same_theorems.proofs.Joining.{JointPlay, JointOf, behind-low, row_as}
use Rattle.same_theorems.proofs.Standing.{spread_possible, inputs-stay, register_stays, OfBits, outputs-kept}

-- ---- rows and what is seen

rows_each : (β γ : Bits) (os ps : List ℕ) → length os ≡ length ps → (t n : ℕ) → rows β os t n ≡ rows γ ps t n → (u : ℕ) → u < n → row β (t + u) os ≡ row γ (t + u) ps
rows_each β γ os ps l t zero e u h = absurd (omega arith)
rows_each β γ os ps l t (suc n) e zero h =
    let z : t + 0 ≡ t = omega arith in
    subst (λ (v : ℕ). row β v os ≡ row γ v ps) (sym z) (append-parts (row β t os) (row γ t ps) (rows β os (t + 1) n) (rows γ ps (t + 1) n) (row-length β t os ∙ l ∙ sym (row-length γ t ps)) e).0
rows_each β γ os ps l t (suc n) e (suc u) h =
    let z : t + suc u ≡ t + 1 + u = omega arith in
    subst (λ (v : ℕ). row β v os ≡ row γ v ps) (sym z)
    (rows_each β γ os ps l (t + 1) n (append-parts (row β t os) (row γ t ps) (rows β os (t + 1) n) (rows γ ps (t + 1) n) (row-length β t os ∙ l ∙ sym (row-length γ t ps)) e).1 u (omega arith))

rows-lines : (n : ℕ) (β γ : Bits) (s s' : Interface) → length s ≡ length s' → ((u : ℕ) → u < n → side_row β u s ≡ side_row γ u s') → lines n β s ≡ lines n γ s'
rows-lines n β γ [] [] l e = refl
rows-lines n β γ [] (y ∷ s') l e = absurd (omega arith)
rows-lines n β γ (x ∷ s) [] l e = absurd (omega arith)
rows-lines n β γ (x ∷ s) (y ∷ s') l e =
    ap₂ (λ (w : Stream) (r : List Stream). w ∷ r) (cut-same n (β (number x)) (γ (number y)) (λ u h. byte_only (β (number x) u) (γ (number y) u) (head-eq_of_cons-eq (e u h))))
    (rows-lines n β γ s s' (omega arith) (λ u h. tail-eq_of_cons-eq (e u h)))

-- ---- outputs and registers of a lean netlist, in the full one's record

outs-rooted : (m : Net) (ps : Interface) → All (PinOk m) ps → map (root m) (out_pins ps) ≡ map (stand_in m) (out_pins ps)
outs-rooted m [] c = refl
outs-rooted m (inp i ∷ ps) c = outs-rooted m ps c.1
outs-rooted m (out o ∷ ps) c = ap₂ (λ (x : ℕ) (r : List ℕ). x ∷ r) (let f = c.0 in let e : stand_in m o ≡ root m o = rw f in sym e) (outs-rooted m ps c.1)

registers-low : (b : ℕ) (es : List Element) → All (ElementBelow b) es → All (λ r. r + 1 < b) (registers es)
registers-low b [] a = tt
registers-low b (point i ∷ es) a = registers-low b es a.1
registers-low b (part p i ∷ es) a = by (eqb p 1) refl (registers-low b es a.1)
  where
    by : (c : Bool) → eqb p 1 ≡ c → All (λ r. r + 1 < b) (registers es) → All (λ r. r + 1 < b) (cond c (i ∷ registers es) (registers es))
    by true e r = (subst (λ (z : ℕ). i + (part_at z).inputs < b) (eqb→eq p 1 (subst T (sym e) tt)) a.0, r)
    by false e r = r

-- of one half: bits δ that are, d further, those of a record of the lean netlist
module _ (θs : List Ty) (θ : Ty) (bits : OfBits θs θ) (x : Made) (ok : Formed (net_of x)) (lx : Lows x) (ed : dirs x.side ≡ turns false (arrows_to θs θ)) (n : ℕ) (β : Bits) (p : Possible part_law (lean (net_of x)) n β) where
  abbrev whole : Bits
  whole = read_at β (stand_in (net_of x))

  half-inputs : (u : ℕ) → u < n → side_row whole u (inputs_of θs x.side) ≡ row β u (in_pins (lean (net_of x)).pins)
  unfolding lean
  half-inputs u l =
      let e = typed_ins θ bits.shown θs bits.taken x.side ed in
      ap (row whole u) (sym e) ∙ inputs-stay (net_of x) ok n β p u l ∙ ap (row β u) (sym (lean-ins (net_of x) x.side))

  ins-count : length (in_pins (lean (net_of x)).pins) ≡ length (in_sides θs 0)
  unfolding lean
  ins-count = ap length (lean-ins (net_of x) x.side ∙ typed_ins θ bits.shown θs bits.taken x.side ed) ∙ length-map (inputs_of θs x.side) number ∙ as_many_inputs θ bits.shown θs x.side 0 ed

  half-outputs : (t : ℕ) → side_row whole t (behind_inputs θs x.side) ≡ row β t (out_pins (lean (net_of x)).pins)
  unfolding lean
  half-outputs t =
      ap (row whole t) (sym (typed_outs θ bits.shown θs bits.taken x.side ed)) ∙ row_moved β (stand_in (net_of x)) t (out_pins x.side)
      ∙ ap (row β t) (sym (outs-rooted (net_of x) x.side (wired-net (net_of x) ok).pins_ok) ∙ sym (lean-outs (net_of x) x.side))

  module _ (d : ℕ) (δ : Bits) (g : (z : ℕ) → z < x.next → δ (z + d) ≡ whole z) where
    woken-as : (rs : List ℕ) → All (λ r. r + 1 < x.next) rs → All (λ r. stand_in (net_of x) (r + 1) ≡ r + 1) rs → row δ 0 (map (λ r. r + 1) (map (further_by d) rs)) ≡ row β 0 (map (λ r. r + 1) rs)
    woken-as [] a b = refl
    woken-as (r ∷ rs) a b =
        let e : r + d + 1 ≡ r + 1 + d = omega arith in
        ap₂ (λ (w : Stream) (r : List ℕ). bit_byte_lem (w 0) ∷ r) (ap δ e ∙ g (r + 1) a.0 ∙ ap β b.0) (woken-as rs a.1 b.1)

    half-woken : row δ 0 (map (λ r. r + 1) (map (further_by d) (registers x.elements))) ≡ row β 0 (register_outputs (lean (net_of x)))
    half-woken =
        woken-as (registers x.elements) (registers-low x.next x.elements lx.elements) (register_stays (net_of x) ok x.elements (wired-net (net_of x) ok).clear) ∙ ap (row β 0) (sym (outputs-kept x))

    half-shown : (t : ℕ) → side_row (read_at δ (further_by d)) t (behind_inputs θs x.side) ≡ row β t (out_pins (lean (net_of x)).pins)
    half-shown t = row_as d x.next δ whole g t (behind_inputs θs x.side) (behind-low x.next θs x.side lx.side) ∙ half-outputs t

-- a record of m in which records of k and l stand: its registers start as theirs, and where its output o is off, their outputs are the same
pub record Meets (m k l : Net) (o n : ℕ) (β γ : Bits) : Type 0 where
  pub joint : Bits
  pub possible : Possible part_law m n joint
  pub woken : row joint 0 (register_outputs m) ≡ row β 0 (register_outputs k) ++ row γ 0 (register_outputs l)
  pub off_same : (t : ℕ) → t < n → joint o t ≡ false → row β t (out_pins k.pins) ≡ row γ t (out_pins l.pins)

module _ (θs : List Ty) (θ : Ty) (bits : OfBits θs θ) (x y m : Made) (okₓ : Formed (net_of x)) (okᵧ : Formed (net_of y)) (ok : Formed (net_of m)) (lx : Lows x) (ly : Lows y) (ex : dirs x.side ≡ turns false (arrows_to θs θ)) (ey : dirs y.side ≡ turns false (arrows_to θs θ)) (j : JointOf θs x y m) where
  module _ (n : ℕ) (β γ : Bits) (p : Possible part_law (lean (net_of x)) n β) (q : Possible part_law (lean (net_of y)) n γ) where
    -- with a record of the full netlist in which theirs stand
    met : JointPlay j.of_first j.of_second x y m n (read_at β (stand_in (net_of x))) (read_at γ (stand_in (net_of y))) → Meets (lean (net_of m)) (lean (net_of x)) (lean (net_of y)) (root (net_of m) j.output) n β γ
    met w =
        let rs = map (further_by j.of_first) (registers x.elements) in
        let ss = map (further_by j.of_second) (registers y.elements) in
        record {
          joint = w.bits;
          possible = to_lean part_law (net_of m) (wired-net (net_of m) ok) n w.bits w.running;
          woken =
              ap (row w.bits 0) (outputs-kept m ∙ ap (map (λ r. r + 1)) j.registers_are ∙ map-append (λ r. r + 1) rs ss) ∙ row-append w.bits 0 (map (λ r. r + 1) rs) (map (λ r. r + 1) ss)
              ∙ ap₂ ◌++◌ (half-woken θs θ bits x okₓ lx ex n β p j.of_first w.bits w.first_bits) (half-woken θs θ bits y okᵧ ly ey n γ q j.of_second w.bits w.second_bits);
          off_same = λ t l z.
              sym (half-shown θs θ bits x okₓ lx ex n β p j.of_first w.bits w.first_bits t) ∙ (j.off n w.bits w.running t l).0 (sym (root-like n w.bits part_law (net_of m) w.running j.output t l) ∙ z)
              ∙ half-shown θs θ bits y okᵧ ly ey n γ q j.of_second w.bits w.second_bits t;
        }

    -- the inputs that are the same at the pins are the same at the terms' interfaces
    same_lines : rows β (in_pins (lean (net_of x)).pins) 0 n ≡ rows γ (in_pins (lean (net_of y)).pins) 0 n
        → lines n (read_at β (stand_in (net_of x))) (inputs_of θs x.side) ≡ lines n (read_at γ (stand_in (net_of y))) (inputs_of θs y.side)
    same_lines e =
        rows-lines n (read_at β (stand_in (net_of x))) (read_at γ (stand_in (net_of y))) (inputs_of θs x.side) (inputs_of θs y.side) (as_many_inputs θ bits.shown θs x.side 0 ex ∙ sym (as_many_inputs θ bits.shown θs y.side 0 ey))
        (λ u h. half-inputs θs θ bits x okₓ lx ex n β p u h ∙ each u h ∙ sym (half-inputs θs θ bits y okᵧ ly ey n γ q u h))
      where
        each : (u : ℕ) → u < n → row β u (in_pins (lean (net_of x)).pins) ≡ row γ u (in_pins (lean (net_of y)).pins)
        each u h =
            let z : 0 + u ≡ u = omega arith in
            subst (λ (v : ℕ). row β v (in_pins (lean (net_of x)).pins) ≡ row γ v (in_pins (lean (net_of y)).pins)) z
            (rows_each β γ (in_pins (lean (net_of x)).pins) (in_pins (lean (net_of y)).pins) (ins-count θs θ bits x okₓ lx ex n β p ∙ sym (ins-count θs θ bits y okᵧ ly ey n γ q)) 0 n e u h)

    pub joint-meets : rows β (in_pins (lean (net_of x)).pins) 0 n ≡ rows γ (in_pins (lean (net_of y)).pins) 0 n → Meets (lean (net_of m)) (lean (net_of x)) (lean (net_of y)) (root (net_of m) j.output) n β γ
    joint-meets e = met (j.plays n (read_at β (stand_in (net_of x))) (read_at γ (stand_in (net_of y))) (spread_possible (net_of x) okₓ n β p) (spread_possible (net_of y) okᵧ n γ q) (same_lines e))

-- The lean netlist that comes back has the same parts in the same order, and each part input the same driving part or the matching input pin (document 02, L11). Assumes nothing.
use Prim.Native.Nat.{ℕ, zero, suc, ◌+◌, ◌-◌, ◌*◌, ◌<◌, ◌≤◌}
use mathlib.Core.Path.{◌≡◌, refl, sym, ap, ap₂, ◌∙◌}
use mathlib.Core.Bool.{true, false}
use mathlib.Core.List.{List, [], ◌∷◌, ◌++◌, append_assoc}
use native.Mathlib.Omega.{arith}
use lib.ListN.{length}
use borrow.Author.Tests.{eq-eqb, ne_eqb}
use Rattle.calculus.specs.Terms.{part_at}
use Rattle.calculus.specs.Net.{Interface, Element, Wire, Net}
use Rattle.calculus.specs.Lean.{driver}
use Rattle.calculus.specs.Record.{All}
use Rattle.back_calculus.specs.Back.{DrivenBy, undriven, output, Gate, part_before, gates, open_ins, points_from, parts_from, output_at, source_at, gate_wires, all_wires, inputs_from, outputs_from, back_net, point_out, pin_before, source_seen, sources_seen, gates_seen}
use Rattle.circuit_theorems.proofs.Lists.{all_append, all_map}
use Rattle.back_calculus.specs.Promises.{Returns}
use Rattle.back_theorems.proofs.Typing.{SourceIn, GateIn}
use Rattle.back_theorems.proofs.Leaning.{output-high}
use Rattle.back_theorems.proofs.CameBack.{gates-length, gates_in}

point_out_lem : (k n j : ℕ) (es : List Element) → j < k → point_out (points_from k n ++ es) (n + 2 * j + 1) ≡ true
point_out_lem zero n j es h = absurd (omega arith)
point_out_lem (suc k) n zero es h = let e : n + 2 * 0 ≡ n = omega arith in rw (e, eq-eqb (n + 1) (n + 1) refl)
point_out_lem (suc k) n (suc j) es h =
    let e : n + 2 * suc j ≡ n + 2 + 2 * j = omega arith in
    rw (e, ne_eqb (n + 1) (n + 2 + 2 * j + 1) (λ f. omega arith)) (point_out_lem k (n + 2) j es (omega arith))

parts-no_point : (gs : List Gate) (n o : ℕ) → point_out (parts_from gs n) o ≡ false
parts-no_point [] n o = refl
parts-no_point (g ∷ gs) n o = parts-no_point gs _ o

no_point_lem : (k n o : ℕ) (gs : List Gate) (t : ℕ) → n + 2 * k ≤ o → point_out (points_from k n ++ parts_from gs t) o ≡ false
no_point_lem zero n o gs t h = parts-no_point gs t o
no_point_lem (suc k) n o gs t h = rw (ne_eqb (n + 1) o (λ e. omega arith)) (no_point_lem k (n + 2) o gs t (omega arith))

pin_part_before : (k n j : ℕ) (s : Interface) → j < k → pin_before (inputs_from k n ++ s) (n + 2 * j) ≡ j
pin_part_before zero n j s h = absurd (omega arith)
pin_part_before (suc k) n zero s h = let e : n + 2 * 0 ≡ n = omega arith in rw (e, eq-eqb n n refl)
pin_part_before (suc k) n (suc j) s h =
    let e : n + 2 * suc j ≡ n + 2 + 2 * j = omega arith in
    rw (e, ne_eqb n (n + 2 + 2 * j) (λ f. omega arith)) (ap suc (pin_part_before k (n + 2) j s (omega arith)))

part_before-points : (k n o : ℕ) (es : List Element) → part_before (points_from k n ++ es) o ≡ part_before es o
part_before-points zero n o es = refl
part_before-points (suc k) n o es = part_before-points k (n + 2) o es

part_before-parts : (gs : List Gate) (n r : ℕ) → r < length gs → part_before (parts_from gs n) (output_at gs n r) ≡ r
part_before-parts [] n r h = absurd (omega arith)
part_before-parts (g ∷ gs) n zero h = rw (eq-eqb (n + (part_at g.part).inputs) (n + (part_at g.part).inputs) refl)
part_before-parts (g ∷ gs) n (suc r) h =
    let z : suc r < suc (length gs) = h in
    let t = n + (part_at g.part).inputs + 1 in
    rw (ne_eqb (n + (part_at g.part).inputs) (output_at gs t r) (λ f. omega (arith, output-high gs t r (omega arith)))) (ap suc (part_before-parts gs t r (omega arith)))

-- the first wire to i stands behind wires to lower targets
driver-behind : (A : List Wire) (w : Wire) (B : List Wire) (d : ℕ) → All (λ v. v.to < w.to) A → driver (A ++ w ∷ B) w.to d ≡ w.from
driver-behind [] w B d a = rw (eq-eqb w.to w.to refl)
driver-behind (v ∷ A) w B d a = rw (ne_eqb v.to w.to (λ e. let l = a.0 in omega arith)) (driver-behind A w B d a.1)

targets-low : (f : DrivenBy → ℕ) (ss : List DrivenBy) (i b : ℕ) → i + length ss ≤ b → All (λ v. v.to < b) (gate_wires f ss i)
targets-low f [] i b h = tt
targets-low f (s ∷ ss) i b h = let z : i + suc (length ss) ≤ b = h in (omega arith, targets-low f ss (i + 1) b (omega arith))

module _ (k q : ℕ) (gs : List Gate) (len : length gs ≡ suc q) where
  abbrev net : Net
  net = back_net k gs

  abbrev top : ℕ
  top = 2 * k + 2 * length gs

  source-seen : (s : DrivenBy) → SourceIn k q s → source_seen (back_net k gs) (source_at gs (2 * k + 2 * length gs) s) ≡ s
  source-seen (undriven j) h =
      let e : 0 + 2 * j ≡ 2 * j = omega arith in
      let p : point_out net.elements (2 * j + 1) ≡ true = rw e at (point_out_lem k 0 j (parts_from gs top) h) in
      let m : 2 * j + 1 - 1 ≡ 2 * j = omega arith in
      let r : pin_before net.pins (2 * j) ≡ j = rw e at (pin_part_before k 0 j (outputs_from gs top) h) in
      rw (p, m) (ap undriven r)
  source-seen (output r) h =
      rw (no_point_lem k 0 (output_at gs top r) gs top (omega (arith, output-high gs top r (omega arith)))) (ap output (part_before-points k 0 (output_at gs top r) (parts_from gs top) ∙ part_before-parts gs top r (omega arith)))

  sources-seen : (ss : List DrivenBy) (i : ℕ) (A B : List Wire) → All (SourceIn k q) ss → All (λ v. v.to < i) A → net.wires ≡ A ++ (gate_wires (source_at gs (2 * k + 2 * length gs)) ss i ++ B) → sources_seen (back_net k gs) (length ss) i ≡ ss
  sources-seen [] i A B o a e = refl
  sources-seen (s ∷ ss) i A B o a e =
      let w : Wire = record { from = source_at gs top s; to = i } in
      ap₂ (λ (x : DrivenBy) (r : List DrivenBy). x ∷ r)
      (ap (λ (ws : List Wire). source_seen net (driver ws i 0)) e ∙ ap (source_seen net) (driver-behind A w (gate_wires (source_at gs top) ss (i + 1) ++ B) 0 a) ∙ source-seen s o.0)
      (sources-seen ss (i + 1) (A ++ w ∷ []) B o.1 (all_append _ A (w ∷ []) (all_map _ _ (λ v l. omega arith) A a) (omega arith, tt)) (e ∙ sym (append_assoc A (w ∷ []) _)))

  gates-seen : (fs : List Gate) (n : ℕ) (A : List Wire) → All (GateIn k q) fs → All (λ v. v.to < n) A → net.wires ≡ A ++ all_wires (source_at gs (2 * k + 2 * length gs)) fs n → gates_seen (back_net k gs) (parts_from fs n) ≡ fs
  gates-seen [] n A o a e = refl
  gates-seen (g ∷ fs) n A o a e =
      let t = n + (part_at g.part).inputs + 1 in
      let ws = gate_wires (source_at gs top) g.ins n in
      let c = o.0.whole in
      ap₂ (λ (ss : List DrivenBy) (r : List Gate). record { part = g.part; ins = ss } ∷ r)
      (ap (λ (j : ℕ). sources_seen net j n) (sym c) ∙ sources-seen g.ins n A (all_wires (source_at gs top) fs t) o.0.from a e)
      (gates-seen fs t (A ++ ws) o.1 (all_append _ A ws (all_map _ _ (λ v l. omega arith) A a) (targets-low (source_at gs top) g.ins n t (omega arith))) (e ∙ sym (append_assoc A ws _)))

points_skipped : (m : Net) (k n : ℕ) (es : List Element) → gates_seen m (points_from k n ++ es) ≡ gates_seen m es
points_skipped m zero n es = refl
points_skipped m (suc k) n es = points_skipped m k (n + 2) es

-- the lean netlist's gates are those of the netlist that was given
pub same-gates : (m : Net) → Returns m → (b : Net) → b ≡ back_net (open_ins (gates m)) (gates m) → gates_seen b b.elements ≡ gates m
same-gates m ok b e =
    let k = open_ins (gates m) in
    let gs = gates m in
    let n = gates-length m m.elements 0 ok.parts in
    let q = length m.elements - 1 in
    let s = ok.some in
    let o : All (GateIn k q) gs = gates_in m ok q (omega arith) k m.elements 0 ok.parts (omega arith) in
    let l : length gs ≡ suc q = omega arith in
    ap (λ (x : Net). gates_seen x x.elements) e ∙ points_skipped (back_net k gs) k 0 (parts_from gs (2 * k + 2 * length gs)) ∙ gates-seen k q gs l gs (2 * k + 2 * length gs) [] o tt refl

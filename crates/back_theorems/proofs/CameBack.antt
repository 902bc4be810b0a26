-- The sheet that is written for a netlist is accepted, and its lean netlist is the one that the definition gives (document 02, L11). Assumes nothing.
use Prim.Native.Nat.{ℕ, zero, suc, ◌+◌, ◌*◌, ◌<◌, ◌≤◌}
use mathlib.Core.Path.{◌≡◌, refl, sym, ap, ap₂, subst, ◌∙◌}
use mathlib.Core.Bool.{Bool, true, false, cond, ◌||◌}
use mathlib.Core.List.{List, [], ◌∷◌, ◌++◌}
use native.Mathlib.Omega.{arith}
use lib.Dec.{T}
use lib.ListN.{length, length-append}
use Rattle.calculus.specs.Answer.{good}
use Rattle.calculus.specs.Terms.{first, part_at}
use Rattle.calculus.specs.Write.{sheet_bytes}
use Rattle.calculus.specs.Net.{Element, point, part, Wire, Net, make, net_of}
use Rattle.calculus.specs.Lean.{driver}
use Rattle.calculus.specs.Inputs.{is_out, has_wire}
use Rattle.calculus.specs.Record.{All}
use Rattle.calculus.specs.Translate.{full}
use Rattle.circuit_theorems.specs.Formed.{Tiled}
use Rattle.laws.proofs.Tests.{by_eqb}
use Rattle.circuit_theorems.proofs.Outputs.{tiled}
use Rattle.circuit_theorems.proofs.Main.{accepted_by}
use Rattle.back_calculus.specs.Back.{DrivenBy, undriven, output, Gate, part_before, sources, undrivens, gates_from, gates, open_ins, back_table, back_term, gates_sheet, back_sheet, points_from, parts_from, back_net}
use Rattle.back_calculus.specs.Promises.{PartOnly, Returns, LeanOf}
use Rattle.back_theorems.proofs.Typing.{tuple_type, towards, few, SourceIn, GateIn, back_typed}
use Rattle.back_theorems.proofs.Making.{full-made}
use Rattle.back_theorems.proofs.Leaning.{lean-back}
use Rattle.back_theorems.proofs.Reading.{back_read}

-- ---- its gates

by_bool : (F : Bool → Type 0) (b : Bool) → (T b → F true) → F false → F b
by_bool F true f g = f tt
by_bool F false f g = g

fed_out : (P : ℕ → Type 0) (ws : List Wire) (i : ℕ) → All (λ w. P w.from) ws → T (has_wire ws i) → P (driver ws i 0)
fed_out P [] i a t = absurd t
fed_out P (w ∷ ws) i a t = by_eqb (λ b. T (b || has_wire ws i) → P (cond b w.from (driver ws i 0))) w.to i (λ e h. a.0) (λ d h. fed_out P ws i a.1 h) t

part_low : (es : List Element) (o : ℕ) → All PartOnly es → T (is_out es o) → part_before es o < length es
part_low [] o a t = absurd t
part_low (point i ∷ es) o a t = absurd a.0
part_low (part p i ∷ es) o a t =
    by_eqb (λ b. T (b || is_out es o) → cond b 0 (suc (part_before es o)) < suc (length es)) (i + (part_at p).inputs) o (λ e h. omega arith) (λ d h. omega (arith, part_low es o a.1 h)) t

module _ (m : Net) (ok : Returns m) (q : ℕ) (len : length m.elements ≡ suc q) (K : ℕ) where
  sources-whole : (k i j : ℕ) → length (sources m k i j) ≡ k
  sources-whole zero i j = refl
  sources-whole (suc k) i j =
      by_bool (λ b. length (cond b (output (part_before m.elements (driver m.wires i 0)) ∷ sources m k (i + 1) j) (undriven j ∷ sources m k (i + 1) (suc j))) ≡ suc k) (has_wire m.wires i)
      (λ t. ap suc (sources-whole k (i + 1) j)) (ap suc (sources-whole k (i + 1) (suc j)))

  sources-in : (k i j : ℕ) → j + undrivens (sources m k i j) ≤ K → All (SourceIn K q) (sources m k i j)
  sources-in zero i j h = tt
  sources-in (suc k) i j h =
      by_bool (λ b. j + undrivens (cond b (output (part_before m.elements (driver m.wires i 0)) ∷ sources m k (i + 1) j) (undriven j ∷ sources m k (i + 1) (suc j))) ≤ K
      → All (SourceIn K q) (cond b (output (part_before m.elements (driver m.wires i 0)) ∷ sources m k (i + 1) j) (undriven j ∷ sources m k (i + 1) (suc j)))) (has_wire m.wires i)
      (λ t l. (let p = part_low m.elements (driver m.wires i 0) ok.parts (fed_out (λ o. T (is_out m.elements o)) m.wires i ok.from t) in omega arith, sources-in k (i + 1) j l))
      (λ l. (omega arith, sources-in k (i + 1) (suc j) (omega arith))) h

  pub gates_in : (es : List Element) (j : ℕ) → All PartOnly es → j + open_ins (gates_from m es j) ≤ K → All (GateIn K q) (gates_from m es j)
  gates_in [] j a h = tt
  gates_in (point i ∷ es) j a h = absurd a.0
  gates_in (part p i ∷ es) j a h =
      let ss = sources m (part_at p).inputs i j in
      (record { known = a.0; whole = sources-whole (part_at p).inputs i j; from = sources-in (part_at p).inputs i j (omega arith) }, gates_in es (j + undrivens ss) a.1 (omega arith))

pub gates-length : (m : Net) (es : List Element) (j : ℕ) → All PartOnly es → length (gates_from m es j) ≡ length es
gates-length m [] j a = refl
gates-length m (point i ∷ es) j a = absurd a.0
gates-length m (part p i ∷ es) j a = ap suc (gates-length m es _ a.1)

undrivens-low : (ss : List DrivenBy) → undrivens ss ≤ length ss
undrivens-low [] = omega arith
undrivens-low (undriven j ∷ ss) = omega (arith, undrivens-low ss)
undrivens-low (output r ∷ ss) = omega (arith, undrivens-low ss)

-- ---- terminals

tiled-few : (es : List Element) (n e : ℕ) → Tiled es n e → e ≤ n + 3 * length es
tiled-few [] n e a = let z : n ≡ e = a in omega arith
tiled-few (point i ∷ es) n e a = omega (arith, tiled-few es (n + 2) e a.1)
tiled-few (part p i ∷ es) n e a = omega (arith, tiled-few es (n + (part_at p).inputs + 1) e a.1, few p)

points-count : (k n : ℕ) → length (points_from k n) ≡ k
points-count zero n = refl
points-count (suc k) n = ap suc (points-count k (n + 2))

parts-count : (gs : List Gate) (n : ℕ) → length (parts_from gs n) ≡ length gs
parts-count [] n = refl
parts-count (g ∷ gs) n = ap suc (parts-count gs _)

-- ---- the whole

written : (k : ℕ) (g : Gate) (gs : List Gate) → All (GateIn k (length gs)) (g ∷ gs) → (length gs ≡ 0 → k ≤ 2) → length gs ≤ 15 → k ≤ 24
    → full (sheet_bytes first (back_table (length gs) k) (back_term (length gs) k (g ∷ gs))) ≡ good (net_of (make (back_table (length gs) k) (back_term (length gs) k (g ∷ gs)) [] 0))
written k g gs o z l h =
    let q = length gs in
    let Θ = back_table q k in
    let e = back_term q k (g ∷ gs) in
    let n = 2 * k + 2 * suc q in
    let c : length (make Θ e [] 0).elements ≡ k + (suc q + suc q) =
    ap (λ (x : Net). length x.elements) (full-made k g gs o z)
    ∙ length-append (points_from k 0) (points_from (suc q) (2 * k) ++ parts_from (g ∷ gs) n) ∙ ap₂ ◌+◌ (points-count k 0) (length-append (points_from (suc q) (2 * k)) (parts_from (g ∷ gs) n) ∙ ap₂ ◌+◌ (points-count (suc q) (2 * k)) (parts-count (g ∷ gs) n)) in
    accepted_by _ (record { edition = first; table = Θ; term = e }) (towards k (tuple_type q)) (back_read k g gs o z l h) (back_typed k g gs o z) (omega (arith, tiled-few (make Θ e [] 0).elements 0 (make Θ e [] 0).next (tiled Θ e [] 0)))

-- of one part at most two inputs are undriven
one_part : (g : Gate) (gs : List Gate) → length gs ≡ 0 → (k : ℕ) → k ≡ open_ins (g ∷ gs) → length g.ins ≡ (part_at g.part).inputs → k ≤ 2
one_part g [] y k b w = omega (arith, undrivens-low g.ins, few g.part)
one_part g (f ∷ gs) y k b w = absurd (omega arith)

pub net-came_back : (m : Net) → Returns m → LeanOf (back_sheet m) (back_net (open_ins (gates m)) (gates m))
unfolding back_sheet
net-came_back m ok = whole (gates m) refl
  where
    whole : (gs : List Gate) → gates m ≡ gs → LeanOf (gates_sheet (gates m)) (back_net (open_ins (gates m)) (gates m))
    whole [] e = absurd (let n = gates-length m m.elements 0 ok.parts in let z : length (gates m) ≡ 0 = ap length e in let s = ok.some in omega arith)
    whole (g ∷ gs) e =
        let k = open_ins (gates m) in
        let n = gates-length m m.elements 0 ok.parts in
        let z : length (gates m) ≡ suc (length gs) = ap length e in
        let o : All (GateIn k (length gs)) (g ∷ gs) = subst (λ (x : List Gate). All (GateIn k (length gs)) x) e (gates_in m ok (length gs) (omega arith) k m.elements 0 ok.parts (omega arith)) in
        let b : k ≡ open_ins (g ∷ gs) = ap open_ins e in
        let two : length gs ≡ 0 → k ≤ 2 = λ y. one_part g gs y k b o.0.whole in
        let l : length gs ≤ 15 = let s = ok.most in omega arith in
        let s : gates_sheet (gates m) ≡ sheet_bytes first (back_table (length gs) k) (back_term (length gs) k (g ∷ gs)) =
        ap gates_sheet e ∙ ap (λ (x : ℕ). sheet_bytes first (back_table (length gs) x) (back_term (length gs) x (g ∷ gs))) (sym b) in
        record {
          net = net_of (make (back_table (length gs) k) (back_term (length gs) k (g ∷ gs)) [] 0);
          accepted = ap full s ∙ written k g gs o two l ok.inputs;
          lean_is = lean-back k g gs o two ∙ ap (back_net k) (sym e);
        }

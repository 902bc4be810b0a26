-- What drives the inputs, counted and named one after the other. Assumes nothing.
use Prim.Native.Nat.{ℕ, zero, suc, ◌+◌, ◌<◌, ◌≤◌}
use mathlib.Core.Path.{◌≡◌, refl, sym, ap, ap₂, ◌∙◌}
use mathlib.Core.Bool.{Bool, true, false, cond, ◌||◌}
use mathlib.Core.List.{List, [], ◌∷◌, ◌++◌}
use native.Mathlib.Omega.{arith}
use native.Mathlib.Numerals.{add-one}
use lib.Dec.{eqb}
use lib.ListN.{length, get_or, drop}
use lib.Seq.{drop-cons}
use borrow.Author.Tests.{eq-eqb, ne_eqb}
use Rattle.calculus.specs.Terms.{part_at}
use Rattle.calculus.specs.Net.{Element, point, part, Wire, Net}
use Rattle.calculus.specs.Lean.{driver}
use Rattle.calculus.specs.Inputs.{has_wire}
use Rattle.calculus.specs.Record.{All}
use Rattle.laws.proofs.Tests.{by_eqb}
use Rattle.back_calculus.specs.Back.{DrivenBy, undriven, output, part_before, sources, undrivens, gates_from, open_ins}
use Rattle.back.specs.Gates.{net_here, AcceptedNet, input_total}
use Rattle.back.proofs.GateLaws.{from_low}

-- ---- driven or not

not_fed : (ws : List Wire) (i : ℕ) → All (λ w. w.from < 65535) ws → driver ws i 65535 ≡ 65535 → has_wire ws i ≡ false
not_fed [] i l e = refl
not_fed (w ∷ ws) i l e = by_eqb (λ b. cond b w.from (driver ws i 65535) ≡ 65535 → b || has_wire ws i ≡ false) w.to i (λ q h. absurd (let x = l.0 in omega arith)) (λ q h. not_fed ws i l.1 h) e

is-fed : (ws : List Wire) (i : ℕ) → (driver ws i 65535 ≡ 65535 → ⊥) → (has_wire ws i ≡ true) × (driver ws i 0 ≡ driver ws i 65535)
is-fed [] i d = absurd (d refl)
is-fed (w ∷ ws) i d =
    by_eqb (λ b. (cond b w.from (driver ws i 65535) ≡ 65535 → ⊥) → (b || has_wire ws i ≡ true) × (cond b w.from (driver ws i 0) ≡ cond b w.from (driver ws i 65535))) w.to i
    (λ q h. (refl, refl)) (λ q h. is-fed ws i h) d

module _ (s : List ℕ) (a : AcceptedNet s) (i j : ℕ) where
  -- no wire: the next undriven input
  pub source_open : driver (net_here s).wires i 65535 ≡ 65535 → sources (net_here s) 1 i j ≡ undriven j ∷ []
  source_open e = rw (not_fed (net_here s).wires i (from_low s a) e)

  -- a wire: the part that it comes from
  pub source-wired : (driver (net_here s).wires i 65535 ≡ 65535 → ⊥) → sources (net_here s) 1 i j ≡ output (part_before (net_here s).elements (driver (net_here s).wires i 65535)) ∷ []
  source-wired d = let f = is-fed (net_here s).wires i d in rw (f.0, f.1)

-- ---- how many are undriven

module _ (m : Net) where
  pub sources_split : (k i j : ℕ) → sources m (suc k) i j ≡ sources m 1 i j ++ sources m k (i + 1) (j + undrivens (sources m 1 i j))
  sources_split k i j = by (has_wire m.wires i)
    where
      by : (b : Bool) → cond b (output (part_before m.elements (driver m.wires i 0)) ∷ sources m k (i + 1) j) (undriven j ∷ sources m k (i + 1) (suc j))
          ≡ cond b (output (part_before m.elements (driver m.wires i 0)) ∷ []) (undriven j ∷ [])
          ++ sources m k (i + 1) (j + undrivens (cond b (output (part_before m.elements (driver m.wires i 0)) ∷ []) (undriven j ∷ [])))
      by true = let z : j + 0 ≡ j = omega arith in rw z
      by false = let z : j + 1 ≡ suc j = omega arith in rw z

  pub undrivens-append : (ss rs : List DrivenBy) → undrivens (ss ++ rs) ≡ undrivens ss + undrivens rs
  undrivens-append [] rs = omega arith
  undrivens-append (undriven j ∷ ss) rs = omega (arith, undrivens-append ss rs)
  undrivens-append (output q ∷ ss) rs = undrivens-append ss rs

  -- their number does not depend on where the count begins
  pub undrivens-any : (k i j l : ℕ) → undrivens (sources m k i j) ≡ undrivens (sources m k i l)
  undrivens-any zero i j l = refl
  undrivens-any (suc k) i j l = by (has_wire m.wires i) (undrivens-any k (i + 1) j l) (undrivens-any k (i + 1) (suc j) (suc l))
    where
      by : (b : Bool) → undrivens (sources m k (i + 1) j) ≡ undrivens (sources m k (i + 1) l) → undrivens (sources m k (i + 1) (suc j)) ≡ undrivens (sources m k (i + 1) (suc l))
          → undrivens (cond b (output (part_before m.elements (driver m.wires i 0)) ∷ sources m k (i + 1) j) (undriven j ∷ sources m k (i + 1) (suc j)))
          ≡ undrivens (cond b (output (part_before m.elements (driver m.wires i 0)) ∷ sources m k (i + 1) l) (undriven l ∷ sources m k (i + 1) (suc l)))
      by true e f = e
      by false e f = ap suc f

  pub undrivens-few : (k i j : ℕ) → undrivens (sources m k i j) ≤ k
  undrivens-few zero i j = omega arith
  undrivens-few (suc k) i j = by (has_wire m.wires i) (undrivens-few k (i + 1) j) (undrivens-few k (i + 1) (suc j))
    where
      by : (b : Bool) → undrivens (sources m k (i + 1) j) ≤ k → undrivens (sources m k (i + 1) (suc j)) ≤ k → undrivens (cond b (output (part_before m.elements (driver m.wires i 0)) ∷ sources m k (i + 1) j) (undriven j ∷ sources m k (i + 1) (suc j))) ≤ suc k
      by true e f = omega arith
      by false e f = omega arith

  pub undrivens_split : (k i : ℕ) → undrivens (sources m (suc k) i 0) ≡ undrivens (sources m 1 i 0) + undrivens (sources m k (i + 1) 0)
  undrivens_split k i =
      ap undrivens (sources_split k i 0) ∙ undrivens-append (sources m 1 i 0) _ ∙ ap (λ (x : ℕ). undrivens (sources m 1 i 0) + x) (undrivens-any k (i + 1) (0 + undrivens (sources m 1 i 0)) 0)

-- ---- one part behind the other

module _ (es : List Element) (r : ℕ) (p f : ℕ) (h : r < length es) (g : part p f ≡ get_or es r (point 0)) where
  pub part-next : drop r es ≡ part p f ∷ drop (r + 1) es
  part-next = drop-cons es r (point 0) h ∙ ap₂ (λ (e : Element) (n : ℕ). e ∷ drop n es) (sym g) (sym (add-one r))

  module _ (o : ℕ) (inv : r + part_before (drop r es) o ≡ part_before es o) where
    step : r + cond (eqb (f + (part_at p).inputs) o) 0 (suc (part_before (drop (r + 1) es) o)) ≡ part_before es o
    step = ap (λ (l : List Element). r + part_before l o) (sym part-next) ∙ inv

    pub before_here : f + (part_at p).inputs ≡ o → r ≡ part_before es o
    before_here e = let z : r + 0 ≡ r = omega arith in sym z ∙ sym (rw (eq-eqb (f + (part_at p).inputs) o e)) ∙ step

    pub before_more : (f + (part_at p).inputs ≡ o → ⊥) → r + 1 + part_before (drop (r + 1) es) o ≡ part_before es o
    before_more d = let t : r + suc (part_before (drop (r + 1) es) o) ≡ part_before es o = sym (rw (ne_eqb (f + (part_at p).inputs) o d)) ∙ step in omega arith

  module _ (m : Net) (j u T : ℕ) (i : u ≡ undrivens (sources m (part_at p).inputs f 0)) where
    pub opens-more : j + open_ins (gates_from m (drop r es) j) ≡ T → j + u + open_ins (gates_from m (drop (r + 1) es) (j + u)) ≡ T
    opens-more e =
        let v : undrivens (sources m (part_at p).inputs f j) ≡ u = undrivens-any m (part_at p).inputs f j 0 ∙ sym i in
        let w : j + (undrivens (sources m (part_at p).inputs f j) + open_ins (gates_from m (drop (r + 1) es) (j + undrivens (sources m (part_at p).inputs f j)))) ≡ T =
        ap (λ (l : List Element). j + open_ins (gates_from m l j)) (sym part-next) ∙ e in
        let x : j + (u + open_ins (gates_from m (drop (r + 1) es) (j + u))) ≡ T = rw v at w in
        omega arith

  pub inputs-more : (n N : ℕ) → n + input_total (drop r es) ≡ N → n + (part_at p).inputs + input_total (drop (r + 1) es) ≡ N
  inputs-more n N e = let w : n + ((part_at p).inputs + input_total (drop (r + 1) es)) ≡ N = ap (λ (l : List Element). n + input_total l) (sym part-next) ∙ e in omega arith

pub before-few : (es : List Element) (o : ℕ) → part_before es o ≤ length es
before-few [] o = omega arith
before-few (point i ∷ es) o = omega (arith, before-few es o)
before-few (part p i ∷ es) o = by (eqb (i + (part_at p).inputs) o) (before-few es o)
  where
    by : (b : Bool) → part_before es o ≤ length es → cond b 0 (suc (part_before es o)) ≤ suc (length es)
    by true h = omega arith
    by false h = omega arith

pub sources-length : (m : Net) (k i j : ℕ) → length (sources m k i j) ≡ k
sources-length m zero i j = refl
sources-length m (suc k) i j = by (has_wire m.wires i) (sources-length m k (i + 1) j) (sources-length m k (i + 1) (suc j))
  where
    by : (b : Bool) → length (sources m k (i + 1) j) ≡ k → length (sources m k (i + 1) (suc j)) ≡ k
        → length (cond b (output (part_before m.elements (driver m.wires i 0)) ∷ sources m k (i + 1) j) (undriven j ∷ sources m k (i + 1) (suc j))) ≡ suc k
    by true e f = ap suc e
    by false e f = ap suc f

-- What the comparing term makes: one output, off exactly where the bits of two binders are the same. Assumes nothing.
use Prim.Native.Nat.{ℕ, suc, ◌+◌, ◌<◌}
use mathlib.Core.Path.{◌≡◌, refl, sym, ap, ap₂, ◌∙◌, subst}
use mathlib.Core.Logic.{◌↔◌}
use mathlib.Core.Bool.{Bool, true, false, cond, ◌&&◌, ◌||◌, xor, true≢false}
use mathlib.Core.List.{List, [], ◌∷◌, ◌++◌, map, map-append, cons≢nil, nil≢cons, head-eq_of_cons-eq, tail-eq_of_cons-eq}
use native.Mathlib.Omega.{arith}
use lib.Dec.{T, eqb}
use lib.ListN.{length, get_or, take, drop, length-map, take-append-drop}
use Rattle.laws.proofs.Tests.{and_both}
use Rattle.calculus.specs.Types.{Ty, bit, prod, arrow, lolli, size, sharable, Table, tree}
use Rattle.calculus.specs.Terms.{Edition, first, second, Term, var, part_at}
use Rattle.calculus.specs.Walk.{type_number}
use Rattle.calculus.specs.Net.{inp, out, number, Interface, turns, Element, point, part, join, Bound, unbound, Made, left_of, made_var, made_app, made_pair, first_half, second_half, whole_of, made_proj, made_con, make, net_of}
use Rattle.calculus.specs.Record.{Bits, All, Same, Works, Joined, Possible, part_law}
use Rattle.sheet_theorems.specs.Laid.{TableOk, Ranged}
use Rattle.circuit_theorems.specs.Scope.{dir, dirs, Suits}
use Rattle.circuit_theorems.proofs.Lists.{all_left, all_right}
use Rattle.circuit_theorems.proofs.Drivers.{halves}
use Rattle.trace_calculus.specs.Trace.{registers, bit_byte_lem, row}
use Rattle.never_theorems.proofs.Same.{xor_alike, alike_xor}
use Rattle.never_theorems.proofs.Against.{append-parts, row-append, byte_only, or_off, off_or}
use Rattle.same_theorems.specs.Joint.{gate_over, binder_under, differing}
use Rattle.same_theorems.proofs.Moved.{number-tree}

-- ---- the bits that are seen at an interface at a tick

abbrev pub side_row : Bits → ℕ → Interface → List ℕ
side_row β t s = row β t (map number s)

-- ---- two subterms, and an application

module _ (n : ℕ) (β : Bits) where
  abbrev pub Running : Made → Type 0
  Running m = Possible part_law (net_of m) n β

  pub proj_runs : (x y : Made) → Running (made_proj x y) → Running x × Running y
  proj_runs x y p = (
    record { elements = all_left (Works part_law n β) x.elements y.elements p.elements; wires = all_left (Joined n β) x.wires y.wires p.wires },
    record { elements = all_right (Works part_law n β) x.elements y.elements p.elements; wires = all_right (Joined n β) x.wires y.wires p.wires },
  )

-- ---- gates

-- what a constant of a two-input gate makes
abbrev gate_made : Ty → ℕ → ℕ → Made
gate_made τ p i = record { elements = part p i ∷ []; wires = []; type = τ; side = inp i ∷ inp (i + 1) ∷ out (i + 1 + 1) ∷ []; next = i + 2 + 1 }

abbrev gate_type : Edition → Ty
gate_type first = arrow bit (arrow bit bit)
gate_type second = arrow (prod bit bit) bit

-- .. and the gate of what two terms make
abbrev pub gated : Edition → ℕ → ℕ → Made → Made → Made
gated first p i x y = made_app (made_app (gate_made (gate_type first) p i) x) y
gated second p i x y = made_app (gate_made (gate_type second) p i) (made_pair (prod bit bit) x y)

-- a part that makes as a two-input gate does
pub record IsGate (p : ℕ) : Type 0 where
  pub makes : (τ : Ty) (i : ℕ) → made_con τ p i ≡ gate_made τ p i
  pub types : (E : Edition) → (part_at p).type E ≡ gate_type E

pub or_gate : IsGate 3
or_gate = record { makes = λ τ i. refl; types = types }
  where
    types : (E : Edition) → (part_at 3).type E ≡ gate_type E
    types first = refl
    types second = refl

pub xor_gate : IsGate 4
xor_gate = record { makes = λ τ i. refl; types = types }
  where
    types : (E : Edition) → (part_at 4).type E ≡ gate_type E
    types first = refl
    types second = refl

module _ (Φ : Table) (ok : TableOk Φ) (p : ℕ) (g : IsGate p) where
  con-made : (E : Edition) (i : ℕ) → type_number Φ ((part_at p).type E) < length Φ → made_con (tree Φ (type_number Φ ((part_at p).type E))) p i ≡ gate_made (gate_type E) p i
  con-made E i l = ap (λ (τ : Ty). made_con τ p i) (number-tree Φ ok ((part_at p).type E) l ∙ g.types E) ∙ g.makes (gate_type E) i

  pub gate-made : (E : Edition) (a b : Term) (env : List Bound) (i : ℕ) → Ranged E Φ (gate_over E Φ p a b)
      → let x = make Φ a env (i + 2 + 1) in make Φ (gate_over E Φ p a b) env i ≡ gated E p i x (make Φ b env x.next)
  gate-made first a b env i r =
      ap (λ (c : Made). made_app (made_app c (make Φ a env c.next)) (make Φ b env (make Φ a env c.next).next)) (con-made first i r.0.0)
  gate-made second a b env i r =
      ap₂ (λ (c : Made) (τ : Ty). made_app c (made_pair τ (make Φ a env c.next) (make Φ b env (make Φ a env c.next).next))) (con-made second i r.0) (number-tree Φ ok (prod bit bit) r.1.0)

  pub gate_ranged : (E : Edition) (a b : Term) → Ranged E Φ (gate_over E Φ p a b) → Ranged E Φ a × Ranged E Φ b
  gate_ranged first a b r = (r.0.1, r.1)
  gate_ranged second a b r = (r.1.1, r.1.2)

-- what a record of a gate with its two arguments has
pub record GateRuns (p i : ℕ) (x y : Made) (u v n : ℕ) (β : Bits) : Type 0 where
  pub works : Works part_law n β (part p i)
  pub of_first : Running n β x
  pub of_second : Running n β y
  pub first_fed : Same n β u i
  pub second_fed : Same n β v (i + 1)

-- one wire, from the only output of an interface
one_fed : (n : ℕ) (β : Bits) (s : Interface) (u i : ℕ) → s ≡ out u ∷ [] → All (Joined n β) (join s (inp i ∷ [])) → Same n β u i
one_fed n β s u i e a = (subst (λ (s : Interface). All (Joined n β) (join s (inp i ∷ []))) e a).0

both-fed : (n : ℕ) (β : Bits) (s s' : Interface) (u v i : ℕ) → s ≡ out u ∷ [] → s' ≡ out v ∷ [] → All (Joined n β) (join (s ++ s') (inp i ∷ inp (i + 1) ∷ [])) → Same n β u i × Same n β v (i + 1)
both-fed n β s s' u v i e f a =
    let b = subst (λ (r : Interface). All (Joined n β) (join r (inp i ∷ inp (i + 1) ∷ []))) (ap₂ ◌++◌ e f) a in
    (b.0, b.1.0)

pub gate-runs : (E : Edition) (p i : ℕ) (x y : Made) (u v n : ℕ) (β : Bits) → x.side ≡ out u ∷ [] → y.side ≡ out v ∷ [] → Running n β (gated E p i x y) → GateRuns p i x y u v n β
gate-runs first p i x y u v n β ex ey r =
    let jx = join x.side (inp i ∷ []) in
    let jy = join y.side (inp (i + 1) ∷ []) in
    let b = all_left (Joined n β) (x.wires ++ jx ++ y.wires) jy r.wires in
    let a = all_left (Joined n β) (x.wires ++ jx) y.wires b in
    record {
      works = r.elements.0;
      of_first = record { elements = all_left (Works part_law n β) x.elements y.elements r.elements.1; wires = all_left (Joined n β) x.wires jx a };
      of_second = record { elements = all_right (Works part_law n β) x.elements y.elements r.elements.1; wires = all_right (Joined n β) (x.wires ++ jx) y.wires b };
      first_fed = one_fed n β x.side u i ex (all_right (Joined n β) x.wires jx a);
      second_fed = one_fed n β y.side v (i + 1) ey (all_right (Joined n β) (x.wires ++ jx ++ y.wires) jy r.wires);
    }
gate-runs second p i x y u v n β ex ey r =
    let js = join (x.side ++ y.side) (inp i ∷ inp (i + 1) ∷ []) in
    let a = all_left (Joined n β) (x.wires ++ y.wires) js r.wires in
    let f = both-fed n β x.side y.side u v i ex ey (all_right (Joined n β) (x.wires ++ y.wires) js r.wires) in
    record {
      works = r.elements.0;
      of_first = record { elements = all_left (Works part_law n β) x.elements y.elements r.elements.1; wires = all_left (Joined n β) x.wires y.wires a };
      of_second = record { elements = all_right (Works part_law n β) x.elements y.elements r.elements.1; wires = all_right (Joined n β) x.wires y.wires a };
      first_fed = f.0;
      second_fed = f.1;
    }

-- the output of an or and of an xor
or_shows : (i : ℕ) (x y : Made) (u v n : ℕ) (β : Bits) → GateRuns 3 i x y u v n β → (t : ℕ) → t < n → β (i + 1 + 1) t ≡ (β u t || β v t)
or_shows i x y u v n β g t l =
    let e : i + 1 + 1 ≡ i + 2 = omega arith in
    ap (λ (z : ℕ). β z t) e ∙ g.works t l ∙ ap₂ ◌||◌ (sym (g.first_fed t l)) (sym (g.second_fed t l))

xor_shows : (i : ℕ) (x y : Made) (u v n : ℕ) (β : Bits) → GateRuns 4 i x y u v n β → (t : ℕ) → t < n → β (i + 1 + 1) t ≡ xor (β u t) (β v t)
xor_shows i x y u v n β g t l =
    let e : i + 1 + 1 ≡ i + 2 = omega arith in
    ap (λ (z : ℕ). β z t) e ∙ g.works t l ∙ ap₂ xor (sym (g.first_fed t l)) (sym (g.second_fed t l))

pub gated_side : (E : Edition) (p i : ℕ) (x y : Made) → (gated E p i x y).side ≡ out (i + 1 + 1) ∷ []
gated_side first p i x y = refl
gated_side second p i x y = refl

-- ---- registers

pub registers-append : (es fs : List Element) → registers (es ++ fs) ≡ registers es ++ registers fs
registers-append [] fs = refl
registers-append (point i ∷ es) fs = registers-append es fs
registers-append (part p i ∷ es) fs = by (eqb p 1) (registers-append es fs)
  where
    by : (b : Bool) → registers (es ++ fs) ≡ registers es ++ registers fs → cond b (i ∷ registers (es ++ fs)) (registers (es ++ fs)) ≡ cond b (i ∷ registers es) (registers es) ++ registers fs
    by true e = ap (λ (r : List ℕ). i ∷ r) e
    by false e = e

-- a gate is none
pub gated-registers : (E : Edition) (p i : ℕ) (x y : Made) → eqb p 1 ≡ false → registers (gated E p i x y).elements ≡ registers x.elements ++ registers y.elements
gated-registers first p i x y e = rw e (registers-append x.elements y.elements)
gated-registers second p i x y e = rw e (registers-append x.elements y.elements)

-- ---- the comparison

-- an interface of one bit is one output
pub one_out : (s : Interface) → dirs s ≡ false ∷ [] → (u : ℕ) × (s ≡ out u ∷ [])
one_out [] e = absurd (nil≢cons e)
one_out (inp i ∷ s) e = absurd (true≢false (head-eq_of_cons-eq e))
one_out (out o ∷ []) e = (o, refl)
one_out (out o ∷ x ∷ s) e = absurd (cons≢nil (tail-eq_of_cons-eq e))

-- two halves have the same bits exactly when the whole has
pub row-parts : (β : Bits) (t k : ℕ) (s : Interface) → side_row β t s ≡ side_row β t (take k s) ++ side_row β t (drop k s)
row-parts β t k s =
    ap (side_row β t) (sym (take-append-drop k s)) ∙ ap (row β t) (map-append number (take k s) (drop k s)) ∙ row-append β t (map number (take k s)) (map number (drop k s))

pub row-length : (β : Bits) (t : ℕ) (s : Interface) → length (side_row β t s) ≡ length s
row-length β t [] = refl
row-length β t (x ∷ s) = ap suc (row-length β t s)

halves-same : (β : Bits) (t k k' : ℕ) (s s' : Interface) → length (take k s) ≡ length (take k' s')
    → ((side_row β t (take k s) ≡ side_row β t (take k' s')) × (side_row β t (drop k s) ≡ side_row β t (drop k' s'))) ↔ (side_row β t s ≡ side_row β t s')
halves-same β t k k' s s' l = (
  (λ e. row-parts β t k s ∙ ap₂ ◌++◌ e.0 e.1 ∙ sym (row-parts β t k' s')),
  (λ e. append-parts (side_row β t (take k s)) (side_row β t (take k' s')) (side_row β t (drop k s)) (side_row β t (drop k' s')) (row-length β t (take k s) ∙ l ∙ sym (row-length β t (take k' s'))) (sym (row-parts β t k s) ∙ e ∙ row-parts β t k' s')),
)

-- what is made has one output, which is 0 exactly where two interfaces show the same, and no register
pub record Compared (m : Made) (s s' : Interface) : Type 0 where
  pub output : ℕ
  pub side : m.side ≡ out output ∷ []
  pub no_registers : registers m.elements ≡ []
  pub off : (n : ℕ) (β : Bits) → Running n β m → (t : ℕ) → t < n → (β output t ≡ false) ↔ (side_row β t s ≡ side_row β t s')

pub bits_compared : (i u v : ℕ) (s s' : Interface) (E : Edition) (x y : Made) → s ≡ out u ∷ [] → s' ≡ out v ∷ [] → x.side ≡ s → y.side ≡ s'
    → (n : ℕ) (β : Bits) → Running n β (gated E 4 i x y) → (t : ℕ) → t < n → (β (i + 1 + 1) t ≡ false) ↔ (side_row β t s ≡ side_row β t s')
bits_compared i u v s s' E x y e f ex ey n β r t l =
    let h = xor_shows i x y u v n β (gate-runs E 4 i x y u v n β (ex ∙ e) (ey ∙ f) r) t l in
    rw (e, f) (
      (λ z. ap (λ (b : Bool). bit_byte_lem b ∷ []) (xor_alike (β u t) (β v t) (sym h ∙ z))),
      (λ z. h ∙ alike_xor (β u t) (β v t) (byte_only (β u t) (β v t) (head-eq_of_cons-eq z))),
    )

-- an or of two comparisons
either_compared : (E : Edition) (i k k' : ℕ) (s s' : Interface) (x y : Made) → length (take k s) ≡ length (take k' s')
    → Compared x (take k s) (take k' s') → Compared y (drop k s) (drop k' s') → Compared (gated E 3 i x y) s s'
either_compared E i k k' s s' x y l a b = record {
  output = i + 1 + 1;
  side = gated_side E 3 i x y;
  no_registers = gated-registers E 3 i x y refl ∙ ap₂ ◌++◌ a.no_registers b.no_registers;
  off = λ n β r t q.
      let g = gate-runs E 3 i x y a.output b.output n β a.side b.side r in
      let h = or_shows i x y a.output b.output n β g t q in
      let w = halves-same β t k k' s s' l in
      let u = a.off n β g.of_first t q in
      let v = b.off n β g.of_second t q in (
        (λ z. let f = or_off (β a.output t) (β b.output t) (sym h ∙ z) in w.0 (u.0 f.0, v.0 f.1)),
        (λ z. let f = w.1 z in h ∙ off_or (β a.output t) (β b.output t) (u.1 f.0) (v.1 f.1)),
      );
}

side_size : {θ : Ty} {b : Bound} → Suits θ b → length b.side ≡ length (turns false θ)
side_size {b = b} s = sym (length-map b.side dir) ∙ ap length s.dirs

-- the two halves of two values, taken apart: the binders of the body
abbrev pub parted : Made → Made → List Bound → List Bound
parted x y env = second_half y ∷ first_half y ∷ second_half x ∷ first_half x ∷ env

module _ (E : Edition) (Φ : Table) (ok : TableOk Φ) where
  -- the or of both halves, from the comparison of each
  halves-by : (θ₁ θ₂ : Ty) (x y : Made) (env : List Bound) (at : ℕ) (a b : Term) → Suits (prod θ₁ θ₂) (whole_of x) → Suits (prod θ₁ θ₂) (whole_of y)
      → ((at : ℕ) → Suits θ₁ (first_half x) → Suits θ₁ (first_half y) → Ranged E Φ a → Compared (make Φ a (parted x y env) at) (first_half x).side (first_half y).side)
      → ((at : ℕ) → Suits θ₂ (second_half x) → Suits θ₂ (second_half y) → Ranged E Φ b → Compared (make Φ b (parted x y env) at) (second_half x).side (second_half y).side)
      → Ranged E Φ (gate_over E Φ 3 a b) → Compared (make Φ (gate_over E Φ 3 a b) (parted x y env) at) x.side y.side
  halves-by θ₁ θ₂ x y env at a b sx sy ca cb r =
      let rs = gate_ranged Φ ok 3 or_gate E a b r in
      let fx = halves θ₁ θ₂ x sx.type sx.dirs in
      let fy = halves θ₁ θ₂ y sy.type sy.dirs in
      let m = make Φ a (parted x y env) (at + 2 + 1) in
      subst (λ (m : Made). Compared m x.side y.side) (sym (gate-made Φ ok 3 or_gate E a b (parted x y env) at r))
      (either_compared E at (size (left_of x.type)) (size (left_of y.type)) x.side y.side m (make Φ b (parted x y env) m.next) (side_size fx.0 ∙ sym (side_size fy.0))
      (ca (at + 2 + 1) fx.0 fy.0 rs.0) (cb m.next fx.1 fy.1 rs.1))

  pub vars_compared : (θ : Ty) → T (sharable θ) → (env : List Bound) (i j at : ℕ) → ((x y : Bound) → get_or (x ∷ y ∷ env) (2 + j) unbound ≡ get_or env (0 + j) unbound)
      → Suits θ (get_or env i unbound) → Suits θ (get_or env (0 + j) unbound) → Ranged E Φ (differing E Φ θ (var i) (binder_under j))
      → Compared (make Φ (differing E Φ θ (var i) (binder_under j)) env at) (get_or env i unbound).side (get_or env (0 + j) unbound).side
  vars_compared bit h env i j at q si sj r =
      let b = get_or env i unbound in
      let c = get_or env (0 + j) unbound in
      let (u, eu) = one_out b.side si.dirs in
      let (v, ev) = one_out c.side sj.dirs in
      subst (λ (m : Made). Compared m b.side c.side) (sym (gate-made Φ ok 4 xor_gate E (var i) (var (0 + j)) env at r))
      (record {
        output = at + 1 + 1;
        side = gated_side E 4 at (made_var b (at + 2 + 1)) (made_var c (at + 2 + 1));
        no_registers = gated-registers E 4 at (made_var b (at + 2 + 1)) (made_var c (at + 2 + 1)) refl;
        off = bits_compared at u v b.side c.side E (made_var b (at + 2 + 1)) (made_var c (at + 2 + 1)) eu ev refl refl;
      })
  vars_compared (prod θ₁ θ₂) h env i j at q si sj r =
      let x = made_var (get_or env i unbound) at in
      let e = q (second_half x) (first_half x) in
      let y = made_var (get_or (second_half x ∷ first_half x ∷ env) (2 + j) unbound) at in
      subst (λ (c : Bound). Compared (make Φ (differing E Φ (prod θ₁ θ₂) (var i) (binder_under j)) env at) (get_or env i unbound).side c.side) e
      (halves-by θ₁ θ₂ x y env at (differing E Φ θ₁ (var 3) (binder_under 1)) (differing E Φ θ₂ (var 2) (binder_under 0)) si (subst (Suits (prod θ₁ θ₂)) (sym e) sj)
      (λ at sx sy r. vars_compared θ₁ (and_both (sharable θ₁) (sharable θ₂) h).0 (parted x y env) 3 1 at (λ b c. refl) sx sy r)
      (λ at sx sy r. vars_compared θ₂ (and_both (sharable θ₁) (sharable θ₂) h).1 (parted x y env) 2 0 at (λ b c. refl) sx sy r) r.1.1)
  vars_compared (arrow θ₁ θ₂) h env i j at q si sj r = absurd h
  vars_compared (lolli θ₁ θ₂) h env i j at q si sj r = absurd h

  pub halves_compared : (θ₁ θ₂ : Ty) → T (sharable θ₁ && sharable θ₂) → (x y : Made) (env : List Bound) (at : ℕ) → Suits (prod θ₁ θ₂) (whole_of x) → Suits (prod θ₁ θ₂) (whole_of y)
      → Ranged E Φ (gate_over E Φ 3 (differing E Φ θ₁ (var 3) (binder_under 1)) (differing E Φ θ₂ (var 2) (binder_under 0)))
      → Compared (make Φ (gate_over E Φ 3 (differing E Φ θ₁ (var 3) (binder_under 1)) (differing E Φ θ₂ (var 2) (binder_under 0))) (parted x y env) at) x.side y.side
  halves_compared θ₁ θ₂ h x y env at sx sy r =
      halves-by θ₁ θ₂ x y env at (differing E Φ θ₁ (var 3) (binder_under 1)) (differing E Φ θ₂ (var 2) (binder_under 0)) sx sy
      (λ at sx sy r. vars_compared θ₁ (and_both (sharable θ₁) (sharable θ₂) h).0 (parted x y env) 3 1 at (λ b c. refl) sx sy r)
      (λ at sx sy r. vars_compared θ₂ (and_both (sharable θ₁) (sharable θ₂) h).1 (parted x y env) 2 0 at (λ b c. refl) sx sy r) r

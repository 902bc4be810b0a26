-- Bits that run what was made, set from below upwards: a term that is moved, the comparing term over any bits of its binders, the points of a
-- function. Assumes nothing.
use Prim.Native.Nat.{ℕ, ◌+◌, ◌*◌, ◌<◌, ◌≤◌}
use mathlib.Core.Path.{◌≡◌, refl, sym, ap, ap₂, ◌∙◌, subst}
use mathlib.Core.Logic.{◌↔◌}
use mathlib.Core.Bool.{Bool, true, false, cond, not, ◌&&◌, ◌||◌, xor, true≢false}
use mathlib.Core.List.{List, [], ◌∷◌, ◌++◌, map}
use native.Mathlib.Omega.{arith}
use lib.Dec.{T, eqb, eqb→eq}
use lib.ListN.{length, get_or, take, drop, length-append, take-append-drop, length-drop}
use lib.Seq.{length-take-le}
use borrow.Author.Tests.{eq-eqb, ne_eqb}
use Rattle.laws.proofs.Tests.{and_both}
use Rattle.calculus.specs.Types.{Ty, bit, prod, arrow, lolli, size, sharable, Table}
use Rattle.calculus.specs.Terms.{Edition, first, second, Term, var}
use Rattle.calculus.specs.Net.{inp, out, Interface, turns, Element, point, part, Wire, in_side, out_side, join, Bound, unbound, Made, left_of, binder, made_var, first_half, second_half, whole_of, make}
use Rattle.calculus.specs.Record.{Stream, Bits, All, Same, Works, Joined, part_law}
use Rattle.sheet_theorems.specs.Laid.{TableOk, Ranged}
use Rattle.circuit_theorems.specs.Scope.{Suits}
use Rattle.circuit_theorems.proofs.Lists.{all_append, all_take, all_drop, all_get_d}
use Rattle.circuit_theorems.proofs.Bounds.{ElementBelow}
use Rattle.circuit_theorems.proofs.Drivers.{turns-size, halves}
use Rattle.circuit_theorems.proofs.Outputs.{BoundShows, next_le}
use Rattle.linear_theorems.proofs.Meaning.{Cut, lines}
use Rattle.linear_theorems.proofs.Heard.{in_length}
use Rattle.linear_theorems.proofs.Lines.{lines-append}
use Rattle.linear_theorems.proofs.Below.{part_moved, LowSide, LowEnv, low_in, low_out, env_up, Lows, lows, Agree, lines_keep, works_keep, joined-keep, lay, lay-below, lay_in_lem, lay_out}
use Rattle.trace_calculus.specs.Trace.{bit_byte_lem}
use Rattle.never_theorems.specs.Against.{moved_by_lem}
use Rattle.same_theorems.specs.Joint.{gate_over, binder_under, differing}
use Rattle.same_theorems.proofs.Moved.{further_by, moved_wire, moved_made}
use Rattle.same_theorems.proofs.Gates.{side_row, Running, gated, or_gate, xor_gate, gate-made, gate_ranged, one_out, Compared, parted, vars_compared}
use Rattle.same_theorems.proofs.Applying.{in_sides, out_sides, binders_of, body_from}

-- ---- what runs goes on running where bits above it change

pub running-keep : (n : ℕ) (β' β : Bits) (m : Made) → Lows m → Agree m.next β' β → Running n β m → Running n β' m
running-keep n β' β m l g r = record {
  elements = works_keep m.next β' β g n part_law m.elements l.elements r.elements;
  wires = joined-keep m.next β' β g n m.wires l.wires r.wires;
}

-- what is seen below b
pub row_keep : (b : ℕ) (β' β : Bits) → Agree b β' β → (t : ℕ) (s : Interface) → LowSide b s → side_row β' t s ≡ side_row β t s
row_keep b β' β g t [] a = refl
row_keep b β' β g t (inp i ∷ s) a = ap₂ (λ (w : Stream) (r : List ℕ). bit_byte_lem (w t) ∷ r) (g i a.0) (row_keep b β' β g t s a.1)
row_keep b β' β g t (out o ∷ s) a = ap₂ (λ (w : Stream) (r : List ℕ). bit_byte_lem (w t) ∷ r) (g o a.0) (row_keep b β' β g t s a.1)

-- ---- a term that is moved

module _ (n d : ℕ) (δ β : Bits) (m : Made) (g : (x : ℕ) → x < m.next → δ (x + d) ≡ β x) where
  at_tick : (x : ℕ) → x < m.next → (t : ℕ) → δ (x + d) t ≡ β x t
  at_tick x l t = ap (λ (w : Stream). w t) (g x l)

  elements-further : (es : List Element) → All (ElementBelow m.next) es → All (Works part_law n β) es → All (Works part_law n δ) (map (moved_by_lem (further_by d)) es)
  elements-further [] a w = tt
  elements-further (point i ∷ es) a w = (
    (λ t l.
        let e : i + d + 1 ≡ i + 1 + d = omega arith in
        at_tick i (let q = a.0 in omega arith) t ∙ w.0 t l ∙ sym (at_tick (i + 1) a.0 t) ∙ ap (λ (x : ℕ). δ x t) (sym e)),
    elements-further es a.1 w.1,
  )
  elements-further (part p i ∷ es) a w = (
    part_moved part_law n p (i + d) i δ β (λ x h. let e : i + d + x ≡ i + x + d = omega arith in ap δ e ∙ g (i + x) (let q = a.0 in omega arith)) w.0,
    elements-further es a.1 w.1,
  )

  wires-further : (ws : List Wire) → All (λ w. (w.from < m.next) × (w.to < m.next)) ws → All (Joined n β) ws → All (Joined n δ) (map (moved_wire d) ws)
  wires-further [] a w = tt
  wires-further (x ∷ ws) a w = ((λ t l. at_tick x.from a.0.0 t ∙ w.0 t l ∙ sym (at_tick x.to a.0.1 t)), wires-further ws a.1 w.1)

  pub plays_further : Lows m → Running n β m → Running n δ (moved_made d m)
  plays_further l r = record { elements = elements-further m.elements l.elements r.elements; wires = wires-further m.wires l.wires r.wires }

-- ---- three terminals of a gate

abbrev pub put_gate : ℕ → Stream → Stream → Stream → Bits → Bits
put_gate i a b c β x = cond (eqb x i) a (cond (eqb x (i + 1)) b (cond (eqb x (i + 2)) c (β x)))

pub put-below : (i : ℕ) (a b c : Stream) (β : Bits) → Agree i (put_gate i a b c β) β
put-below i a b c β x l = rw (ne_eqb x i (λ e. omega arith), ne_eqb x (i + 1) (λ e. omega arith), ne_eqb x (i + 2) (λ e. omega arith))

pub put_first : (i : ℕ) (a b c : Stream) (β : Bits) → put_gate i a b c β i ≡ a
put_first i a b c β = rw (eq-eqb i i refl)

pub put_second : (i : ℕ) (a b c : Stream) (β : Bits) → put_gate i a b c β (i + 1) ≡ b
put_second i a b c β = rw (ne_eqb (i + 1) i (λ e. omega arith), eq-eqb (i + 1) (i + 1) refl)

pub put-third : (i : ℕ) (a b c : Stream) (β : Bits) → put_gate i a b c β (i + 2) ≡ c
put-third i a b c β = rw (ne_eqb (i + 2) i (λ e. omega arith), ne_eqb (i + 2) (i + 1) (λ e. omega arith), eq-eqb (i + 2) (i + 2) refl)

-- a gate runs where its part works and its arguments do, and drive it
gate_plays : (E : Edition) (p i : ℕ) (x y : Made) (u v n : ℕ) (β : Bits) → x.side ≡ out u ∷ [] → y.side ≡ out v ∷ [] → Works part_law n β (part p i) → Running n β x → Running n β y → Same n β u i → Same n β v (i + 1)
    → Running n β (gated E p i x y)
gate_plays first p i x y u v n β ex ey w rx ry f g =
    let jx = join x.side (inp i ∷ []) in
    let jy = join y.side (inp (i + 1) ∷ []) in
    let one : (s : Interface) (u i : ℕ) → s ≡ out u ∷ [] → Same n β u i → All (Joined n β) (join s (inp i ∷ [])) = λ s u i e f. subst (λ (s : Interface). All (Joined n β) (join s (inp i ∷ []))) (sym e) (f, tt) in
    record {
      elements = (w, all_append (Works part_law n β) x.elements y.elements rx.elements ry.elements);
      wires = all_append (Joined n β) (x.wires ++ jx ++ y.wires) jy
          (all_append (Joined n β) (x.wires ++ jx) y.wires (all_append (Joined n β) x.wires jx rx.wires (one x.side u i ex f)) ry.wires) (one y.side v (i + 1) ey g);
    }
gate_plays second p i x y u v n β ex ey w rx ry f g =
    let js = join (x.side ++ y.side) (inp i ∷ inp (i + 1) ∷ []) in
    record {
      elements = (w, all_append (Works part_law n β) x.elements y.elements rx.elements ry.elements);
      wires = all_append (Joined n β) (x.wires ++ y.wires) js (all_append (Joined n β) x.wires y.wires rx.wires ry.wires)
          (subst (λ (s : Interface). All (Joined n β) (join s (inp i ∷ inp (i + 1) ∷ []))) (sym (ap₂ ◌++◌ ex ey)) (f, (g, tt)));
    }

-- the bits of a gate and of its arguments' outputs: first and second as these have, and the output as the law says
pub record GateBits (i u v n : ℕ) (op : Bool → Bool → Bool) (β : Bits) : Type 0 where
  pub first_bit : Same n β u i
  pub second_bit : Same n β v (i + 1)
  pub output_bit : (t : ℕ) → t < n → β (i + 2) t ≡ op (β i t) (β (i + 1) t)

or_plays : (E : Edition) (i : ℕ) (x y : Made) (u v n : ℕ) (β : Bits) → x.side ≡ out u ∷ [] → y.side ≡ out v ∷ [] → Running n β x → Running n β y → GateBits i u v n ◌||◌ β → Running n β (gated E 3 i x y)
or_plays E i x y u v n β ex ey rx ry b = gate_plays E 3 i x y u v n β ex ey b.output_bit rx ry b.first_bit b.second_bit

pub xor_plays : (E : Edition) (i : ℕ) (x y : Made) (u v n : ℕ) (β : Bits) → x.side ≡ out u ∷ [] → y.side ≡ out v ∷ [] → Running n β x → Running n β y → GateBits i u v n xor β → Running n β (gated E 4 i x y)
xor_plays E i x y u v n β ex ey rx ry b = gate_plays E 4 i x y u v n β ex ey b.output_bit rx ry b.first_bit b.second_bit

-- ---- lists that are not the same

abbrev unlike : List ℕ → List ℕ → Bool
unlike [] [] = false
unlike [] (y ∷ ys) = true
unlike (x ∷ xs) [] = true
unlike (x ∷ xs) (y ∷ ys) = not (eqb x y) || unlike xs ys

unlike-off : (xs ys : List ℕ) → unlike xs ys ≡ false → xs ≡ ys
unlike-off [] [] e = refl
unlike-off [] (y ∷ ys) e = absurd (true≢false e)
unlike-off (x ∷ xs) [] e = absurd (true≢false e)
unlike-off (x ∷ xs) (y ∷ ys) e = by (eqb x y) refl (unlike-off xs ys) e
  where
    by : (b : Bool) → eqb x y ≡ b → (unlike xs ys ≡ false → xs ≡ ys) → (not b || unlike xs ys) ≡ false → x ∷ xs ≡ y ∷ ys
    by true q f e = ap₂ (λ (x : ℕ) (xs : List ℕ). x ∷ xs) (eqb→eq x y (subst T (sym q) tt)) (f e)
    by false q f e = absurd (true≢false e)

off-unlike : (xs : List ℕ) → unlike xs xs ≡ false
off-unlike [] = refl
off-unlike (x ∷ xs) = rw (eq-eqb x x refl) (off-unlike xs)

-- a bit that is off exactly where two lists are the same
is-unlike : (b : Bool) (xs ys : List ℕ) → (b ≡ false) ↔ (xs ≡ ys) → b ≡ unlike xs ys
is-unlike b xs ys h = by b (unlike xs ys) (λ e. subst (λ (zs : List ℕ). unlike xs zs ≡ false) (h.0 e) (off-unlike xs)) (λ e. h.1 (unlike-off xs ys e))
  where
    by : (b c : Bool) → (b ≡ false → c ≡ false) → (c ≡ false → b ≡ false) → b ≡ c
    by true true f g = refl
    by true false f g = g refl
    by false true f g = sym (f refl)
    by false false f g = refl

-- ---- the comparison, over any bits below it

pub record PlayedOver (n at : ℕ) (β : Bits) (m : Made) : Type 0 where
  pub bits : Bits
  pub agree : Agree at bits β
  pub running : Running n bits m

-- the bit that a comparison's output has
compared_bit : (n at : ℕ) (δ β : Bits) (m : Made) (s s' : Interface) (c : Compared m s s') → Running n δ m → Agree at δ β → LowSide at s → LowSide at s' → (t : ℕ) → t < n
    → δ c.output t ≡ unlike (side_row β t s) (side_row β t s')
compared_bit n at δ β m s s' c r g a a' t l =
    is-unlike (δ c.output t) (side_row δ t s) (side_row δ t s') (c.off n δ r t l) ∙ ap₂ unlike (row_keep at δ β g t s a) (row_keep at δ β g t s' a')

-- an or of two comparisons x and y, where y stands above x
module _ (E : Edition) (n at : ℕ) (β : Bits) (x y : Made) (s₁ s₁' s₂ s₂' : Interface) (c : Compared x s₁ s₁') (c' : Compared y s₂ s₂') (a : LowSide at s₁ × LowSide at s₁') (a' : LowSide at s₂ × LowSide at s₂') (l : Lows x) (up : at + 2 + 1 ≤ x.next) where
  abbrev left : Stream
  left t = unlike (side_row β t s₁) (side_row β t s₁')

  abbrev right : Stream
  right t = unlike (side_row β t s₂) (side_row β t s₂')

  abbrev seated : Bits
  seated = put_gate at left right (λ t. left t || right t) β

  either-plays : (p : PlayedOver n (at + 2 + 1) seated x) → PlayedOver n x.next p.bits y → PlayedOver n at β (gated E 3 at x y)
  either-plays p q =
      let δ = q.bits in
      let rx = running-keep n δ p.bits x l q.agree p.running in
      let g : Agree (at + 2 + 1) δ seated = λ z h. q.agree z (omega arith) ∙ p.agree z h in
      let h : Agree at δ β = λ z h. g z (omega arith) ∙ put-below at left right (λ t. left t || right t) β z h in
      let i₁ : δ at ≡ left = g at (omega arith) ∙ put_first at left right (λ t. left t || right t) β in
      let i₂ : δ (at + 1) ≡ right = g (at + 1) (omega arith) ∙ put_second at left right (λ t. left t || right t) β in
      let i₃ : δ (at + 2) ≡ (λ t. left t || right t) = g (at + 2) (omega arith) ∙ put-third at left right (λ t. left t || right t) β in
      record {
        bits = δ;
        agree = h;
        running = or_plays E at x y c.output c'.output n δ c.side c'.side rx q.running (record {
          first_bit = λ t w. compared_bit n at δ β x s₁ s₁' c rx h a.0 a.1 t w ∙ sym (ap (λ (z : Stream). z t) i₁);
          second_bit = λ t w. compared_bit n at δ β y s₂ s₂' c' q.running h a'.0 a'.1 t w ∙ sym (ap (λ (z : Stream). z t) i₂);
          output_bit = λ t w. ap (λ (z : Stream). z t) i₃ ∙ sym (ap₂ ◌||◌ (ap (λ (z : Stream). z t) i₁) (ap (λ (z : Stream). z t) i₂));
        });
      }

abbrev LowBound : ℕ → Bound → Type 0
LowBound b c = LowSide b c.side

low-at : (b : ℕ) (env : List Bound) (i : ℕ) → LowEnv b env → LowSide b (get_or env i unbound).side
low-at b env i a = all_get_d (BoundShows (λ x. x < b) (λ x. x < b)) env i unbound a tt

pub parted-low : (b : ℕ) (x y : Made) (env : List Bound) → LowSide b x.side → LowSide b y.side → LowEnv b env → LowEnv b (parted x y env)
parted-low b x y env ax ay a =
    let k = size (left_of x.type) in
    let k' = size (left_of y.type) in
    (all_drop _ k' y.side ay, (all_take _ k' y.side ay, (all_drop _ k x.side ax, (all_take _ k x.side ax, a))))

module _ (E : Edition) (Φ : Table) (ok : TableOk Φ) (n : ℕ) where
  abbrev CanPlay : Term → List Bound → Type 0
  CanPlay e env = (at : ℕ) → LowEnv at env → (β : Bits) → PlayedOver n at β (make Φ e env at)

  -- the two halves' comparisons
  abbrev on_first : Ty → Term
  on_first θ = differing E Φ θ (var 3) (binder_under 1)

  abbrev on_second : Ty → Term
  on_second θ = differing E Φ θ (var 2) (binder_under 0)

  halves-by : (θ₁ θ₂ : Ty) → T (sharable θ₁ && sharable θ₂) → (x y : Made) (env : List Bound) → Suits (prod θ₁ θ₂) (whole_of x) → Suits (prod θ₁ θ₂) (whole_of y) → Ranged E Φ (gate_over E Φ 3 (on_first θ₁) (on_second θ₂))
      → CanPlay (on_first θ₁) (parted x y env) → CanPlay (on_second θ₂) (parted x y env) → CanPlay (gate_over E Φ 3 (on_first θ₁) (on_second θ₂)) (parted x y env)
  halves-by θ₁ θ₂ h x y env sx sy r pa pb at low β =
      let hs = and_both (sharable θ₁) (sharable θ₂) h in
      let rs = gate_ranged Φ ok 3 or_gate E (on_first θ₁) (on_second θ₂) r in
      let fx = halves θ₁ θ₂ x sx.type sx.dirs in
      let fy = halves θ₁ θ₂ y sy.type sy.dirs in
      let ps = parted x y env in
      let m = make Φ (on_first θ₁) ps (at + 2 + 1) in
      let up = next_le Φ (on_first θ₁) ps (at + 2 + 1) in
      let low₃ = env_up at (at + 2 + 1) (omega arith) ps low in
      let c = vars_compared E Φ ok θ₁ hs.0 ps 3 1 (at + 2 + 1) (λ b c. refl) fx.0 fy.0 rs.0 in
      let c' = vars_compared E Φ ok θ₂ hs.1 ps 2 0 m.next (λ b c. refl) fx.1 fy.1 rs.1 in
      subst (λ (z : Made). PlayedOver n at β z) (sym (gate-made Φ ok 3 or_gate E (on_first θ₁) (on_second θ₂) ps at r))
      (let p = pa (at + 2 + 1) low₃ _ in
      either-plays E n at β m (make Φ (on_second θ₂) ps m.next) _ _ _ _ c c' (low.1.1.1.0, low.1.0) (low.1.1.0, low.0) (lows Φ (on_first θ₁) ps (at + 2 + 1) low₃) up p (pb m.next (env_up at m.next (omega arith) ps low) p.bits))

  pub vars_play : (θ : Ty) → T (sharable θ) → (env : List Bound) (i j : ℕ) → ((x y : Bound) → get_or (x ∷ y ∷ env) (2 + j) unbound ≡ get_or env (0 + j) unbound)
      → Suits θ (get_or env i unbound) → Suits θ (get_or env (0 + j) unbound) → Ranged E Φ (differing E Φ θ (var i) (binder_under j)) → CanPlay (differing E Φ θ (var i) (binder_under j)) env
  vars_play bit h env i j q si sj r at low β =
      let b = get_or env i unbound in
      let c = get_or env (0 + j) unbound in
      let x = made_var b (at + 2 + 1) in
      let y = made_var c (at + 2 + 1) in
      let (u, eu) = one_out b.side si.dirs in
      let (v, ev) = one_out c.side sj.dirs in
      let lu : u < at = (subst (LowSide at) eu (low-at at env i low)).0 in
      let lv : v < at = (subst (LowSide at) ev (low-at at env (0 + j) low)).0 in
      let o : Stream = λ t. xor (β u t) (β v t) in
      let δ = put_gate at (β u) (β v) o β in
      let i₁ = put_first at (β u) (β v) o β in
      let i₂ = put_second at (β u) (β v) o β in
      let g = put-below at (β u) (β v) o β in
      subst (λ (z : Made). PlayedOver n at β z) (sym (gate-made Φ ok 4 xor_gate E (var i) (var (0 + j)) env at r))
      (record {
        bits = δ;
        agree = g;
        running = xor_plays E at x y u v n δ eu ev (record { elements = tt; wires = tt }) (record { elements = tt; wires = tt }) (record {
          first_bit = λ t w. ap (λ (z : Stream). z t) (g u lu ∙ sym i₁);
          second_bit = λ t w. ap (λ (z : Stream). z t) (g v lv ∙ sym i₂);
          output_bit = λ t w. ap (λ (z : Stream). z t) (put-third at (β u) (β v) o β) ∙ sym (ap₂ xor (ap (λ (z : Stream). z t) i₁) (ap (λ (z : Stream). z t) i₂));
        });
      })
  vars_play (prod θ₁ θ₂) h env i j q si sj r at low β =
      let x = made_var (get_or env i unbound) at in
      let e = q (second_half x) (first_half x) in
      let y = made_var (get_or (second_half x ∷ first_half x ∷ env) (2 + j) unbound) at in
      let sy = subst (Suits (prod θ₁ θ₂)) (sym e) sj in
      let fx = halves θ₁ θ₂ x si.type si.dirs in
      let fy = halves θ₁ θ₂ y sy.type sy.dirs in
      let hs = and_both (sharable θ₁) (sharable θ₂) h in
      let rs = gate_ranged Φ ok 3 or_gate E (on_first θ₁) (on_second θ₂) r.1.1 in
      let p = halves-by θ₁ θ₂ h x y env si sy r.1.1
      (vars_play θ₁ hs.0 (parted x y env) 3 1 (λ b c. refl) fx.0 fy.0 rs.0) (vars_play θ₂ hs.1 (parted x y env) 2 0 (λ b c. refl) fx.1 fy.1 rs.1)
      at (parted-low at x y env (low-at at env i low) (subst (LowBound at) (sym e) (low-at at env (0 + j) low)) low) β in
      record { bits = p.bits; agree = p.agree; running = p.running }
  vars_play (arrow θ₁ θ₂) h env i j q si sj r at low β = absurd h
  vars_play (lolli θ₁ θ₂) h env i j q si sj r at low β = absurd h

  pub halves_play : (θ₁ θ₂ : Ty) → T (sharable θ₁ && sharable θ₂) → (x y : Made) (env : List Bound) → Suits (prod θ₁ θ₂) (whole_of x) → Suits (prod θ₁ θ₂) (whole_of y) → Ranged E Φ (gate_over E Φ 3 (on_first θ₁) (on_second θ₂))
      → (at : ℕ) → LowEnv at (parted x y env) → (β : Bits) → PlayedOver n at β (make Φ (gate_over E Φ 3 (on_first θ₁) (on_second θ₂)) (parted x y env) at)
  halves_play θ₁ θ₂ h x y env sx sy r =
      let fx = halves θ₁ θ₂ x sx.type sx.dirs in
      let fy = halves θ₁ θ₂ y sy.type sy.dirs in
      let hs = and_both (sharable θ₁) (sharable θ₂) h in
      let rs = gate_ranged Φ ok 3 or_gate E (on_first θ₁) (on_second θ₂) r in
      halves-by θ₁ θ₂ h x y env sx sy r (vars_play θ₁ hs.0 (parted x y env) 3 1 (λ b c. refl) fx.0 fy.0 rs.0) (vars_play θ₂ hs.1 (parted x y env) 2 0 (λ b c. refl) fx.1 fy.1 rs.1)

-- ---- streams laid onto the points of a function

abbrev pub lay_in : List Ty → ℕ → List Stream → Bits → Bits
lay_in [] i ws β = β
lay_in (θ ∷ θs) i ws β = lay_in θs (i + 2 * size θ) (drop (size θ) ws) (lay (take (size θ) ws) i β)

lay_agree : (θs : List Ty) (i : ℕ) (ws : List Stream) (β : Bits) → Agree i (lay_in θs i ws β) β
lay_agree [] i ws β x l = refl
lay_agree (θ ∷ θs) i ws β x l = lay_agree θs (i + 2 * size θ) (drop (size θ) ws) (lay (take (size θ) ws) i β) x (omega arith) ∙ lay-below (take (size θ) ws) i β x l

body_up : (θs : List Ty) (i : ℕ) → i ≤ body_from θs i
body_up [] i = omega arith
body_up (θ ∷ θs) i = omega (arith, body_up θs (i + 2 * size θ))

pub in_sides_low : (b : ℕ) (θs : List Ty) (i : ℕ) → body_from θs i ≤ b → LowSide b (in_sides θs i)
in_sides_low b [] i h = tt
in_sides_low b (θ ∷ θs) i h =
    all_append _ (in_side (turns false θ) i) (in_sides θs (i + 2 * size θ)) (low_in b (turns false θ) i (omega (arith, turns-size false θ, body_up θs (i + 2 * size θ)))) (in_sides_low b θs (i + 2 * size θ) h)

pub out_sides_low : (b : ℕ) (θs : List Ty) (i : ℕ) → body_from θs i ≤ b → LowSide b (out_sides θs i)
out_sides_low b [] i h = tt
out_sides_low b (θ ∷ θs) i h =
    all_append _ (out_side (turns false θ) i) (out_sides θs (i + 2 * size θ)) (low_out b (turns false θ) i (omega (arith, turns-size false θ, body_up θs (i + 2 * size θ)))) (out_sides_low b θs (i + 2 * size θ) h)

pub binders_low : (θs : List Ty) (i : ℕ) (env : List Bound) → LowEnv i env → LowEnv (body_from θs i) (binders_of θs i env)
binders_low [] i env a = a
binders_low (θ ∷ θs) i env a =
    let k = i + 2 * size θ in
    binders_low θs k (binder θ i ∷ env) (low_out k (turns false θ) i (omega (arith, turns-size false θ)), env_up i k (omega arith) env a)

pub laid-sides : (n : ℕ) (θs : List Ty) (i : ℕ) (ws : List Stream) (β : Bits) → length ws ≡ length (in_sides θs i) → All (Cut n) ws
    → (lines n (lay_in θs i ws β) (in_sides θs i) ≡ ws) × (lines n (lay_in θs i ws β) (out_sides θs i) ≡ ws)
laid-sides n [] i [] β e c = (refl, refl)
laid-sides n [] i (w ∷ ws) β e c = absurd (omega arith)
laid-sides n (θ ∷ θs) i ws β e c =
    let ts = turns false θ in
    let k = i + 2 * size θ in
    let w₁ = take (size θ) ws in
    let w₂ = drop (size θ) ws in
    let β₁ = lay w₁ i β in
    let δ = lay_in θs k w₂ β₁ in
    let g = lay_agree θs k w₂ β₁ in
    let q : length ws ≡ size θ + length (in_sides θs k) = e ∙ length-append (in_side ts i) (in_sides θs k) ∙ ap (λ (z : ℕ). z + length (in_sides θs k)) (in_length θ i) in
    let l₁ : length w₁ ≡ length ts = length-take-le (size θ) ws (omega arith) ∙ sym (turns-size false θ) in
    let r = laid-sides n θs k w₂ β₁ (let l = length-drop (size θ) ws in omega arith) (all_drop (Cut n) (size θ) ws c) in
    let c₁ = all_take (Cut n) (size θ) ws c in (
      lines-append n δ (in_side ts i) (in_sides θs k) ∙ ap₂ ◌++◌ (lines_keep k δ β₁ g n (in_side ts i) (low_in k ts i (omega (arith, turns-size false θ))) ∙ lay_in_lem n ts w₁ i β l₁ c₁) r.0 ∙ take-append-drop (size θ) ws,
      lines-append n δ (out_side ts i) (out_sides θs k) ∙ ap₂ ◌++◌ (lines_keep k δ β₁ g n (out_side ts i) (low_out k ts i (omega (arith, turns-size false θ))) ∙ lay_out n ts w₁ i β l₁ c₁) r.1 ∙ take-append-drop (size θ) ws,
    )

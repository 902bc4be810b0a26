-- The lean netlist of the sheet that is written for a netlist (document 02, L11): the parts, and each part input's driver. Assumes nothing.
use Prim.Native.Nat.{ℕ, zero, suc, ◌+◌, ◌*◌, ◌<◌, ◌≤◌}
use mathlib.Core.Path.{◌≡◌, refl, sym, ap, ap₂, subst, ◌∙◌}
use mathlib.Core.Bool.{Bool, true, false, cond, not, ◌&&◌}
use mathlib.Core.List.{List, [], ◌∷◌, ◌++◌, map}
use native.Mathlib.Omega.{arith}
use lib.Dec.{T, eqb, eqb_refl}
use lib.ListN.{length}
use borrow.Author.Tests.{eq-eqb, ne_eqb}
use Rattle.calculus.specs.Terms.{part_at}
use Rattle.calculus.specs.Net.{inp, out, Interface, Element, point, part, Wire, Net, join, make, net_of}
use Rattle.calculus.specs.Lean.{driver, is_pin, back_in, back, root, kept, keep, to_inputs, lean_wires, lean_pin, lean}
use Rattle.calculus.specs.Record.{All}
use Rattle.back_calculus.specs.Back.{DrivenBy, undriven, output, Gate, back_table, back_term, points_from, parts_from, output_at, source_at, gate_wires, all_wires, inputs_from, outputs_from, back_net}
use Rattle.laws.proofs.Tests.{or_left, or_right, by_eqb}
use Rattle.circuit_theorems.proofs.Lists.{all_left, all_right}
use Rattle.circuit_theorems.proofs.RootLaws.{root_stays, root-back}
use Rattle.circuit_theorems.proofs.BackLaws.{back_pin}
use Rattle.circuit_theorems.proofs.Wiring.{Wired, wired-net}
use Rattle.circuit_theorems.proofs.Forming.{formed-net}
use Rattle.back_theorems.proofs.Typing.{SourceIn, GateIn, back_typed}
use Rattle.back_theorems.proofs.Making.{point_of, full_net, full-made}

-- ---- pins

pin_at : (k n j : ℕ) (s : Interface) → j < k → T (is_pin (inputs_from k n ++ s) (n + 2 * j))
pin_at zero n j s h = absurd (omega arith)
pin_at (suc k) n zero s h = let e : n + 2 * 0 ≡ n = omega arith in or_left (eqb n (n + 2 * 0)) _ (rw e (eqb_refl n))
pin_at (suc k) n (suc j) s h =
    or_right (eqb n (n + 2 * suc j)) _ (let e : n + 2 + 2 * j ≡ n + 2 * suc j = omega arith in subst (λ (x : ℕ). T (is_pin (inputs_from k (n + 2) ++ s) x)) e (pin_at k (n + 2) j s (omega arith)))

outs_no_pin : (gs : List Gate) (n i : ℕ) → is_pin (outputs_from gs n) i ≡ false
outs_no_pin [] n i = refl
outs_no_pin (g ∷ gs) n i = outs_no_pin gs _ i

no_pin : (k n i : ℕ) (gs : List Gate) (t : ℕ) → n + 2 * k ≤ i → is_pin (inputs_from k n ++ outputs_from gs t) i ≡ false
no_pin zero n i gs t h = outs_no_pin gs t i
no_pin (suc k) n i gs t h = rw (ne_eqb n i (λ e. omega arith)) (no_pin k (n + 2) i gs t (omega arith))

-- ---- steps back

module _ (m : Net) where
  -- the step from a point in a row of points
  back-row : (c n r : ℕ) (es : List Element) → r < c → is_pin m.pins (n + 2 * r) ≡ false → back_in (points_from c n ++ es) m (n + 2 * r + 1) ≡ driver m.wires (n + 2 * r) (n + 2 * r + 1)
  back-row zero n r es h u = absurd (omega arith)
  back-row (suc c) n zero es h u =
      let e : n + 2 * 0 ≡ n = omega arith in
      rw e (by_eqb (λ b. cond b (cond (is_pin m.pins n) (n + 1) (driver m.wires n (n + 1))) (back_in (points_from c (n + 2) ++ es) m (n + 1)) ≡ driver m.wires n (n + 1)) (n + 1) (n + 1)
      (λ _. let v : is_pin m.pins n ≡ false = rw e at u in rw v) (λ d. absurd (d refl)))
  back-row (suc c) n (suc r) es h u =
      let e : n + 2 * suc r ≡ n + 2 + 2 * r = omega arith in
      rw e (rw (ne_eqb (n + 1) (n + 2 + 2 * r + 1) (λ f. omega arith)) (back-row c (n + 2) r es (omega arith) (rw e at u)))

  back-past : (c n x : ℕ) (es : List Element) → n + 2 * c ≤ x → back_in (points_from c n ++ es) m x ≡ back_in es m x
  back-past zero n x es h = refl
  back-past (suc c) n x es h = rw (ne_eqb (n + 1) x (λ e. omega arith)) (back-past c (n + 2) x es (omega arith))

  back-before : (c n x : ℕ) (es : List Element) → x ≤ n → back_in (points_from c n ++ es) m x ≡ back_in es m x
  back-before zero n x es h = refl
  back-before (suc c) n x es h = rw (ne_eqb (n + 1) x (λ e. omega arith)) (back-before c (n + 2) x es (omega arith))

  back-parts : (gs : List Gate) (n x : ℕ) → back_in (parts_from gs n) m x ≡ x
  back-parts [] n x = refl
  back-parts (g ∷ gs) n x = back-parts gs _ x

  -- ---- rows of points that are kept, or not, and parts

  keep_row : (k n : ℕ) (es : List Element) → ((j : ℕ) → j < k → root m (n + 2 * j + 1) ≡ n + 2 * j + 1) → keep m (points_from k n ++ es) ≡ points_from k n ++ keep m es
  keep_row zero n es h = refl
  keep_row (suc k) n es h =
      let e : root m (n + 1) ≡ n + 1 = let f : n + 2 * 0 ≡ n = omega arith in rw f at (h 0 (omega arith)) in
      rw (eq-eqb (root m (n + 1)) (n + 1) e) (ap (λ (r : List Element). point n ∷ r) (keep_row k (n + 2) es (λ j l. let f : n + 2 * suc j ≡ n + 2 + 2 * j = omega arith in rw f at (h (suc j) (omega arith)))))

  lose-row : (k n : ℕ) (es : List Element) → ((j : ℕ) → j < k → root m (n + 2 * j + 1) ≡ n + 2 * j + 1 → ⊥) → keep m (points_from k n ++ es) ≡ keep m es
  lose-row zero n es h = refl
  lose-row (suc k) n es h =
      rw (ne_eqb (root m (n + 1)) (n + 1) (λ e. h 0 (omega arith) (let f : n + 2 * 0 ≡ n = omega arith in rw f e)))
      (lose-row k (n + 2) es (λ j l e. h (suc j) (omega arith) (let f : n + 2 * suc j ≡ n + 2 + 2 * j = omega arith in rw f e)))

  keep-parts : (gs : List Gate) (n : ℕ) → keep m (parts_from gs n) ≡ parts_from gs n
  keep-parts [] n = refl
  keep-parts (g ∷ gs) n = ap (λ (r : List Element). part g.part n ∷ r) (keep-parts gs _)

  and-not : (a b : Bool) → T b → a && not b ≡ false
  and-not true true t = refl
  and-not false true t = refl
  and-not true false t = absurd t
  and-not false false t = absurd t

  wires-pins : (k n : ℕ) (es : List Element) → ((j : ℕ) → j < k → T (is_pin m.pins (n + 2 * j))) → lean_wires m (points_from k n ++ es) ≡ lean_wires m es
  wires-pins zero n es h = refl
  wires-pins (suc k) n es h =
      let u : T (is_pin m.pins n) = let f : n + 2 * 0 ≡ n = omega arith in rw f at (h 0 (omega arith)) in
      rw (and-not (kept m (point n)) (is_pin m.pins n) u) (wires-pins k (n + 2) es (λ j l. let f : n + 2 * suc j ≡ n + 2 + 2 * j = omega arith in rw f at (h (suc j) (omega arith))))

  wires-lost : (k n : ℕ) (es : List Element) → ((j : ℕ) → j < k → root m (n + 2 * j + 1) ≡ n + 2 * j + 1 → ⊥) → lean_wires m (points_from k n ++ es) ≡ lean_wires m es
  wires-lost zero n es h = refl
  wires-lost (suc k) n es h =
      rw (ne_eqb (root m (n + 1)) (n + 1) (λ e. h 0 (omega arith) (let f : n + 2 * 0 ≡ n = omega arith in rw f e)))
      (wires-lost k (n + 2) es (λ j l e. h (suc j) (omega arith) (let f : n + 2 * suc j ≡ n + 2 + 2 * j = omega arith in rw f e)))

  -- the wires to the parts
  module _ (f g : DrivenBy → ℕ) (P : DrivenBy → Type 0) (roots : (s : DrivenBy) → P s → root m (f s) ≡ g s) (b : ℕ) (free : (i : ℕ) → b ≤ i → is_pin m.pins i ≡ false) where
    gate-wires : (ss : List DrivenBy) (i : ℕ) → b ≤ i → All P ss → All (λ w. (d : ℕ) → driver m.wires w.to d ≡ w.from) (gate_wires f ss i) → to_inputs m (length ss) i ≡ gate_wires g ss i
    gate-wires [] i l p a = refl
    gate-wires (s ∷ ss) i l p a =
        rw (free i l) (ap₂ (λ (x : ℕ) (r : List Wire). record { from = x; to = i } ∷ r) (ap (root m) (a.0 0) ∙ roots s p.0) (gate-wires ss (i + 1) (omega arith) p.1 a.1))

    all-wires : (k q : ℕ) (gs : List Gate) (n : ℕ) → b ≤ n → All (GateIn k q) gs → ((s : DrivenBy) → SourceIn k q s → P s) → All (λ w. (d : ℕ) → driver m.wires w.to d ≡ w.from) (all_wires f gs n)
        → lean_wires m (parts_from gs n) ≡ all_wires g gs n
    all-wires k q [] n l o p a = refl
    all-wires k q (x ∷ gs) n l o p a =
        ap₂ ◌++◌
        (ap (λ (j : ℕ). to_inputs m j n) (sym o.0.whole) ∙ gate-wires x.ins n l (each x.ins o.0.from) (all_left _ (gate_wires f x.ins n) _ a))
        (all-wires k q gs (n + (part_at x.part).inputs + 1) (omega arith) o.1 p (all_right _ (gate_wires f x.ins n) _ a))
      where
        each : (ss : List DrivenBy) → All (SourceIn k q) ss → All P ss
        each [] a = tt
        each (s ∷ ss) a = (p s a.0, each ss a.1)

  pins-stay : (k n : ℕ) (s : Interface) → map (lean_pin m) s ≡ s → map (lean_pin m) (inputs_from k n ++ s) ≡ inputs_from k n ++ s
  pins-stay zero n s e = e
  pins-stay (suc k) n s e = ap (λ (r : Interface). inp n ∷ r) (pins-stay k (n + 2) s e)

  outs-stay : (gs : List Gate) (n b : ℕ) → b ≤ n → ((x : ℕ) → b ≤ x → root m x ≡ x) → map (lean_pin m) (outputs_from gs n) ≡ outputs_from gs n
  outs-stay [] n b l h = refl
  outs-stay (g ∷ gs) n b l h = ap₂ (λ (x : ℕ) (r : Interface). out x ∷ r) (h (n + (part_at g.part).inputs) (omega arith)) (outs-stay gs _ b (omega arith) h)

-- the wire from the r-th part back to its point
join-at : (F : Wire → Type 0) (gs : List Gate) (n b r : ℕ) → r < length gs → All F (join (outputs_from gs n) (inputs_from (length gs) b)) → F (record { from = output_at gs n r; to = b + 2 * r })
join-at F [] n b r h a = absurd (omega arith)
join-at F (g ∷ gs) n b zero h a = let e : b + 2 * 0 ≡ b = omega arith in rw e a.0
join-at F (g ∷ gs) n b (suc r) h a = let e : b + 2 * suc r ≡ b + 2 + 2 * r = omega arith in rw e (join-at F gs _ (b + 2) r (let z : suc r < suc (length gs) = h in omega arith) a.1)

pub output-high : (gs : List Gate) (n r : ℕ) → r < length gs → n ≤ output_at gs n r
output-high [] n r h = absurd (omega arith)
output-high (g ∷ gs) n zero h = omega arith
output-high (g ∷ gs) n (suc r) h = omega (arith, output-high gs (n + (part_at g.part).inputs + 1) r (let z : suc r < suc (length gs) = h in omega arith))

-- ---- the whole

module _ (k q : ℕ) (gs : List Gate) (len : length gs ≡ suc q) (o : All (GateIn k q) gs) (ok : Wired (full_net k gs)) where
  abbrev net : Net
  net = full_net k gs

  abbrev top : ℕ
  top = 2 * k + 2 * length gs

  stays : (x : ℕ) → 2 * k + 2 * length gs ≤ x → root (full_net k gs) x ≡ x
  stays x h =
      root_stays net x (back-past net k 0 x (points_from (length gs) (2 * k) ++ parts_from gs top) (omega arith) ∙ back-past net (length gs) (2 * k) x (parts_from gs top) h ∙ back-parts net gs top x)

  at_pin : (j : ℕ) → j < k → root (full_net k gs) (0 + 2 * j + 1) ≡ 0 + 2 * j + 1
  at_pin j h = root_stays net (0 + 2 * j + 1) (back_pin net (0 + 2 * j) (pin_at k 0 j (outputs_from gs top) h))

  at_part : (r : ℕ) → r < length gs → root (full_net k gs) (2 * k + 2 * r + 1) ≡ output_at gs (2 * k + 2 * length gs) r
  at_part r h =
      let u : is_pin (inputs_from k 0 ++ outputs_from gs top) (2 * k + 2 * r) ≡ false = no_pin k 0 (2 * k + 2 * r) gs top (omega arith) in
      let b : back net (2 * k + 2 * r + 1) ≡ output_at gs top r =
      back-past net k 0 (2 * k + 2 * r + 1) (points_from (length gs) (2 * k) ++ parts_from gs top) (omega arith)
      ∙ back-row net (length gs) (2 * k) r (parts_from gs top) h u
      ∙ join-at (λ w. (d : ℕ) → driver net.wires w.to d ≡ w.from) gs top (2 * k) r h (all_right _ (all_wires (λ s. point_of k s + 1) gs top) _ ok.one) (2 * k + 2 * r + 1) in
      sym (root-back net (2 * k + 2 * r + 1)) ∙ ap (root net) b ∙ stays (output_at gs top r) (output-high gs top r h)

  moved : (r : ℕ) → r < length gs → root (full_net k gs) (2 * k + 2 * r + 1) ≡ 2 * k + 2 * r + 1 → ⊥
  moved r h e = omega (arith, at_part r h, output-high gs (2 * k + 2 * length gs) r h)

  source-root : (s : DrivenBy) → SourceIn k q s → root (full_net k gs) (point_of k s + 1) ≡ source_at gs (2 * k + 2 * length gs) s
  source-root (undriven j) h = let e : 0 + 2 * j ≡ 2 * j = omega arith in rw e at (at_pin j h)
  source-root (output r) h = at_part r (omega arith)

  pub lean_is : lean (full_net k gs) ≡ back_net k gs
  unfolding lean
  lean_is = λ i. record {
    elements = es i;
    wires = ws i;
    pins = ps i;
  }
    where
      es : keep (full_net k gs) (points_from k 0 ++ (points_from (length gs) (2 * k) ++ parts_from gs (2 * k + 2 * length gs))) ≡ points_from k 0 ++ parts_from gs (2 * k + 2 * length gs)
      es = keep_row net k 0 _ at_pin ∙ ap (λ (r : List Element). points_from k 0 ++ r) (lose-row net (length gs) (2 * k) (parts_from gs top) moved ∙ keep-parts net gs top)

      ws : lean_wires (full_net k gs) (points_from k 0 ++ (points_from (length gs) (2 * k) ++ parts_from gs (2 * k + 2 * length gs))) ≡ all_wires (source_at gs (2 * k + 2 * length gs)) gs (2 * k + 2 * length gs)
      ws =
          wires-pins net k 0 _ (λ j h. pin_at k 0 j (outputs_from gs top) h) ∙ wires-lost net (length gs) (2 * k) (parts_from gs top) moved
          ∙ all-wires net (λ s. point_of k s + 1) (source_at gs top) (SourceIn k q) source-root top (λ i l. no_pin k 0 i gs top (omega arith)) k q gs top (omega arith) o (λ s p. p) (all_left _ (all_wires (λ s. point_of k s + 1) gs top) _ ok.one)

      ps : map (lean_pin (full_net k gs)) (inputs_from k 0 ++ outputs_from gs (2 * k + 2 * length gs)) ≡ inputs_from k 0 ++ outputs_from gs (2 * k + 2 * length gs)
      ps = pins-stay net k 0 (outputs_from gs top) (outs-stay net gs top top (omega arith) stays)

-- what the written term makes, made lean, is the netlist that was to come back
pub lean-back : (k : ℕ) (g : Gate) (gs : List Gate) → All (GateIn k (length gs)) (g ∷ gs) → (length gs ≡ 0 → k ≤ 2)
    → lean (net_of (make (back_table (length gs) k) (back_term (length gs) k (g ∷ gs)) [] 0)) ≡ back_net k (g ∷ gs)
lean-back k g gs o z =
    let e = full-made k g gs o z in
    ap lean e ∙ lean_is k (length gs) (g ∷ gs) refl o (subst (λ (m : Net). Wired m) e (wired-net _ (formed-net (back_typed k g gs o z))))

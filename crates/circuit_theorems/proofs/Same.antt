-- The lean netlist and the full one have the same possible records, seen from outside. Assumes nothing.
use Prim.Native.Nat.{ℕ, zero, suc, ◌+◌, ◌<◌, ◌≤◌}
use mathlib.Core.Path.{◌≡◌, refl, sym, ap, ap₂, ◌∙◌, subst}
use mathlib.Core.Logic.{◌⊎◌, ⊎_elim, ◌↔◌}
use mathlib.Core.Bool.{Bool, true, false, cond, not, ◌&&◌}
use mathlib.Core.List.{List, [], ◌∷◌, map}
use native.Mathlib.Omega.{arith}
use lib.Dec.{T, eqb, eqb→eq, eqb_refl}
use Rattle.calculus.specs.Terms.{part_at}
use Rattle.calculus.specs.Net.{inp, out, Interface, Element, point, part, Wire, Net}
use Rattle.calculus.specs.Lean.{driver, is_pin, back, root, kept, keep, to_inputs, to_element, lean_wires, lean_pin, lean}
use Rattle.calculus.specs.Inputs.{targets}
use Rattle.circuit_theorems.specs.Formed.{Formed}
use Rattle.calculus.specs.Record.{Stream, Bits, Law, All, Same, streams, Works, Joined, Possible, PinsShow, PartShows, Outside}
use Rattle.laws.proofs.Tests.{by_eqb, or_cases, or_left, or_right, T-is, not_true, false_not}
use Rattle.circuit_theorems.proofs.Lists.{all_map, all_zip, all_append, all_left, all_right, all_cond}
use Rattle.circuit_theorems.proofs.Terminals.{point_in, part_in_lem, is_between}
use Rattle.circuit_theorems.proofs.RootLaws.{root-back}
use Rattle.circuit_theorems.proofs.BackLaws.{back_point, pin_root}
use Rattle.circuit_theorems.proofs.Wiring.{stand_in, StandsApart, Wired, PinOk, wired-net}
use Rattle.circuit_theorems.proofs.Roots.{root-like}

-- ---- from the full netlist to the lean one

driven_like : (n : ℕ) (β : Bits) (ws : List Wire) → All (Joined n β) ws → (i d : ℕ) → 1 ≤ targets ws i → Same n β (driver ws i d) i
driven_like n β [] a i d h = absurd (omega arith)
driven_like n β (w ∷ ws) a i d h =
    by_eqb (λ b. 1 ≤ cond b 1 0 + targets ws i → Same n β (cond b w.from (driver ws i d)) i) w.to i
    (λ e _. subst (λ (j : ℕ). Same n β w.from j) e a.0)
    (λ _ t. driven_like n β ws a.1 i d (omega arith)) h

keep_all : (F : Element → Type 0) (m : Net) (es : List Element) → All F es → All F (keep m es)
keep_all F m [] a = tt
keep_all F m (e ∷ es) a = let r = keep_all F m es a.1 in all_cond F (kept m e) (e ∷ keep m es) (keep m es) (λ _. (a.0, r)) (λ _. r)

within-here : (k i : ℕ) → T (is_between (suc k) i i)
within-here k i = or_left (eqb i i) (is_between k (i + 1) i) (eqb_refl i)

module _ (law : Law) (m : Net) (ok : Wired m) (n : ℕ) (β : Bits) (p : Possible law m n β) where
  fed-like : (i : ℕ) → T (part_in_lem m.elements i) → T (not (is_pin m.pins i)) → Same n β (root m (driver m.wires i 0)) i
  fed-like i h u t l =
      root-like n β law m p (driver m.wires i 0) t l ∙ driven_like n β m.wires p.wires i 0 (ok.fed i h (not_true (is_pin m.pins i) u)) t l

  inputs-like : (k i : ℕ) → ((x : ℕ) → T (is_between k i x) → T (part_in_lem m.elements x)) → All (Joined n β) (to_inputs m k i)
  inputs-like zero i h = tt
  inputs-like (suc k) i h =
      all_append (Joined n β) (cond (is_pin m.pins i) [] (record { from = root m (driver m.wires i 0); to = i } ∷ [])) (to_inputs m k (i + 1))
      (all_cond (Joined n β) (is_pin m.pins i) [] (record { from = root m (driver m.wires i 0); to = i } ∷ []) (λ _. tt) (λ u. (fed-like i (h i (within-here k i)) u, tt)))
      (inputs-like k (i + 1) (λ x w. h x (or_right (eqb i x) (is_between k (i + 1) x) w)))

  lean-wires : (es : List Element) → All (Works law n β) es → ((x : ℕ) → T (part_in_lem es x) → T (part_in_lem m.elements x)) → All (Joined n β) (lean_wires m es)
  lean-wires [] a h = tt
  lean-wires (point i ∷ es) a h =
      all_append (Joined n β) (to_element m (point i)) (lean_wires m es)
      (all_cond (Joined n β) (kept m (point i) && not (is_pin m.pins i)) (record { from = i + 1; to = i } ∷ []) [] (λ _. ((λ t l. sym (a.0 t l)), tt)) (λ _. tt))
      (lean-wires es a.1 h)
  lean-wires (part q i ∷ es) a h =
      all_append (Joined n β) (to_element m (part q i)) (lean_wires m es)
      (inputs-like (part_at q).inputs i (λ x w. h x (or_left (is_between (part_at q).inputs i x) (part_in_lem es x) w)))
      (lean-wires es a.1 (λ x w. h x (or_right (is_between (part_at q).inputs i x) (part_in_lem es x) w)))

  pub to_lean : Possible law (lean m) n β
  unfolding lean
  to_lean = record { elements = keep_all (Works law n β) m m.elements p.elements; wires = lean-wires m.elements p.elements (λ x w. w) }

-- ---- from the lean netlist to the full one

module _ (law : Law) (m : Net) (ok : Wired m) (n : ℕ) (α : Bits) (p : Possible law (lean m) n α) where
  -- each terminal has the bits of the output that stands for it
  abbrev spread : Bits
  spread x t = α (stand_in m x) t

  -- the terminals of parts keep their bits
  streams-same : (k i : ℕ) → ((x : ℕ) → i ≤ x → x < i + k → stand_in m x ≡ x) → streams k i α ≡ streams k i spread
  streams-same zero i c = refl
  streams-same (suc k) i c = ap₂ ◌∷◌ (ap α (sym (c i (omega arith) (omega arith)))) (streams-same k (i + 1) (λ x lo hi. c x (omega arith) (omega arith)))

  part-works : (q i : ℕ) → StandsApart m (part q i) → Works law n α (part q i) → Works law n spread (part q i)
  part-works q i c a =
      subst (λ (y : Stream). law q n (streams (part_at q).inputs i spread) y) (ap α (sym (c (i + (part_at q).inputs) (omega arith) (omega arith))))
      (subst (λ (xs : List Stream). law q n xs (α (i + (part_at q).inputs))) (streams-same (part_at q).inputs i (λ x lo hi. c x lo (omega arith))) a)

  rest_of : (F : Element → Type 0) (b : Bool) (e : Element) (es : List Element) → All F (cond b (e ∷ es) es) → All F es
  rest_of F true e es a = a.1
  rest_of F false e es a = a

  point-joined : (i : ℕ) → StandsApart m (point i) → (t : ℕ) → spread i t ≡ spread (i + 1) t
  point-joined i c t = rw (c.0, c.1)

  works : (es : List Element) → All (StandsApart m) es → All (Works law n α) (keep m es) → All (Works law n spread) es
  works [] c a = tt
  works (point i ∷ es) c a = ((λ t l. point-joined i c.0 t), works es c.1 (rest_of (Works law n α) (kept m (point i)) (point i) (keep m es) a))
  works (part q i ∷ es) c a =
      (part-works q i c.0 a.0, works es c.1 a.1)

  -- the wire to a part's input
  uncond : (F : Wire → Type 0) (b : Bool) (w : Wire) → T (not b) → All F (cond b [] (w ∷ [])) → F w
  uncond F true w u a = absurd u
  uncond F false w u a = a.0

  wire-within : (k i x : ℕ) → T (is_between k i x) → T (not (is_pin m.pins x)) → All (Joined n α) (to_inputs m k i) → Same n α (root m (driver m.wires x 0)) x
  wire-within zero i x h u a = absurd h
  wire-within (suc k) i x h u a =
      ⊎_elim (λ t. subst (λ (y : ℕ). T (not (is_pin m.pins y)) → Same n α (root m (driver m.wires y 0)) y) (eqb→eq i x t)
      (λ v. uncond (Joined n α) (is_pin m.pins i) (record { from = root m (driver m.wires i 0); to = i }) v (all_left (Joined n α) (cond (is_pin m.pins i) [] (record { from = root m (driver m.wires i 0); to = i } ∷ [])) (to_inputs m k (i + 1)) a)) u)
      (λ t. wire-within k (i + 1) x t u (all_right (Joined n α) (cond (is_pin m.pins i) [] (record { from = root m (driver m.wires i 0); to = i } ∷ [])) (to_inputs m k (i + 1)) a))
      (or_cases (eqb i x) (is_between k (i + 1) x) h)

  wire-to : (es : List Element) (x : ℕ) → T (part_in_lem es x) → T (not (is_pin m.pins x)) → All (Joined n α) (lean_wires m es) → Same n α (root m (driver m.wires x 0)) x
  wire-to [] x h u a = absurd h
  wire-to (point i ∷ es) x h u a = wire-to es x h u (all_right (Joined n α) (to_element m (point i)) (lean_wires m es) a)
  wire-to (part q i ∷ es) x h u a =
      ⊎_elim (λ t. wire-within (part_at q).inputs i x t u (all_left (Joined n α) (to_element m (part q i)) (lean_wires m es) a))
      (λ t. wire-to es x t u (all_right (Joined n α) (to_element m (part q i)) (lean_wires m es) a))
      (or_cases (is_between (part_at q).inputs i x) (part_in_lem es x) h)

  within-le : (k i x : ℕ) → T (is_between k i x) → (i ≤ x) × (x ≤ i + k)
  within-le zero i x h = absurd h
  within-le (suc k) i x h =
      ⊎_elim (λ t. let e = eqb→eq i x t in (omega arith, omega arith)) (λ t. let r = within-le k (i + 1) x t in (omega arith, omega arith)) (or_cases (eqb i x) (is_between k (i + 1) x) h)

  part-stands : (es : List Element) → All (StandsApart m) es → (x : ℕ) → T (part_in_lem es x) → stand_in m x ≡ x
  part-stands [] c x h = absurd h
  part-stands (point i ∷ es) c x h = part-stands es c.1 x h
  part-stands (part q i ∷ es) c x h =
      ⊎_elim (λ t. let r = within-le (part_at q).inputs i x t in c.0 x r.0 r.1) (λ t. part-stands es c.1 x t) (or_cases (is_between (part_at q).inputs i x) (part_in_lem es x) h)

  abbrev WireOk : Wire → Type 0
  WireOk w = ((point_in m.elements w.from ≡ false) × (T (point_in m.elements w.to) ⊎ T (part_in_lem m.elements w.to))) × ((is_pin m.pins w.to ≡ false) × ((d : ℕ) → driver m.wires w.to d ≡ w.from))

  joins : All (Joined n α) (lean_wires m m.elements) → (w : Wire) → WireOk w → Joined n spread w
  joins a w ((f, k), (u, d)) = ⊎_elim at_point at_part k
    where
      from : (t : ℕ) → spread w.from t ≡ α (root m w.from) t
      from t = rw f

      at_point : T (point_in m.elements w.to) → Joined n spread w
      at_point h t l =
          let b : back m (w.to + 1) ≡ w.from = back_point m w.to h u ∙ d (w.to + 1) in
          let e : stand_in m w.to ≡ root m (w.to + 1) = rw (T-is (point_in m.elements w.to) h) in
          from t ∙ ap (λ (x : ℕ). α x t) (ap (root m) (sym b) ∙ root-back m (w.to + 1) ∙ sym e)

      at_part : T (part_in_lem m.elements w.to) → Joined n spread w
      at_part h t l =
          from t ∙ ap (λ (x : ℕ). α (root m x) t) (sym (d 0)) ∙ wire-to m.elements w.to h (false_not (is_pin m.pins w.to) u) a t l
          ∙ ap (λ (x : ℕ). α x t) (sym (part-stands m.elements ok.clear w.to h))

  pub from-lean : Possible law m n spread
  unfolding lean
  from-lean = record {
    elements = works m.elements ok.clear p.elements;
    wires = all_map WireOk (Joined n spread) (joins p.wires) m.wires
        (all_zip _ _ m.wires (all_zip _ _ m.wires ok.from_out ok.to_in) (all_zip _ _ m.wires ok.no_pin ok.one));
  }

  kept-works : (es : List Element) (i : ℕ) → T (point_in es i) → root m (i + 1) ≡ i + 1 → All (Works law n α) (keep m es) → Same n α i (i + 1)
  kept-works [] i h e a = absurd h
  kept-works (point j ∷ es) i h e a =
      ⊎_elim (λ t. subst (λ (x : ℕ). root m (x + 1) ≡ x + 1 → Same n α x (x + 1)) (eqb→eq j i t) (λ f. first (kept m (point j)) (rw f (eqb_refl (j + 1))) a) e)
      (λ t. kept-works es i t e (rest_of (Works law n α) (kept m (point j)) (point j) (keep m es) a))
      (or_cases (eqb j i) (point_in es i) h)
    where
      first : (b : Bool) → T b → All (Works law n α) (cond b (point j ∷ keep m es) (keep m es)) → Same n α j (j + 1)
      first true t a = a.0
      first false t a = absurd t
  kept-works (part q j ∷ es) i h e a = kept-works es i h e a.1

  pins_back : All (Works law n α) (keep m m.elements) → (γ : Bits) (k : ℕ) (ps : Interface) → All (PinOk m) ps → ((i : ℕ) → T (is_pin ps i) → T (is_pin m.pins i))
      → PinsShow n γ α k (map (lean_pin m) ps) → PinsShow n γ spread k ps
  pins_back w γ k [] c sub a = tt
  pins_back w γ k (out o ∷ ps) c sub a = ((λ t l. a.0 t l ∙ rw c.0), pins_back w γ (suc k) ps c.1 sub a.1)
  pins_back w γ k (inp i ∷ ps) c sub a = (
    (λ t l. a.0 t l ∙ ⊎_elim (λ h. at_point h t l) (λ h. ap (λ (x : ℕ). α x t) (sym (part-stands m.elements ok.clear i h))) c.0),
    pins_back w γ (suc k) ps c.1 (λ j u. sub j (or_right (eqb i j) (is_pin ps j) u)) a.1,
  )
    where
      at_point : T (point_in m.elements i) → (t : ℕ) → t < n → α i t ≡ spread i t
      at_point h t l =
          let r : root m (i + 1) ≡ i + 1 = pin_root m i (sub i (or_left (eqb i i) (is_pin ps i) (eqb_refl i))) in
          let e : stand_in m i ≡ root m (i + 1) = rw (T-is (point_in m.elements i) h) in
          kept-works m.elements i h r w t l ∙ ap (λ (x : ℕ). α x t) (sym (e ∙ r))

  parts-back : (π : Bits) (es : List Element) → All (StandsApart m) es → All (PartShows n π α) (keep m es) → All (PartShows n π spread) es
  parts-back π [] c a = tt
  parts-back π (point i ∷ es) c a = (tt, parts-back π es c.1 (rest_of (PartShows n π α) (kept m (point i)) (point i) (keep m es) a))
  parts-back π (part q i ∷ es) c a =
      ((λ x lo hi t l. a.0 x lo hi t l ∙ ap (λ (y : ℕ). α y t) (sym (c.0 x lo hi))), parts-back π es c.1 a.1)

pins_forth : (law : Law) (m : Net) (n : ℕ) (β : Bits) → Possible law m n β → (γ : Bits) (k : ℕ) (ps : Interface) → PinsShow n γ β k ps → PinsShow n γ β k (map (lean_pin m) ps)
pins_forth law m n β p γ k [] a = tt
pins_forth law m n β p γ k (inp i ∷ ps) a = (a.0, pins_forth law m n β p γ (suc k) ps a.1)
pins_forth law m n β p γ k (out o ∷ ps) a = ((λ t l. a.0 t l ∙ sym (root-like n β law m p o t l)), pins_forth law m n β p γ (suc k) ps a.1)

-- seen from outside, the two have the same possible records, for any number of ticks
pub same-records : (law : Law) (m : Net) → Formed m → (n : ℕ) (γ π : Bits) → Outside law m n γ π ↔ Outside law (lean m) n γ π
unfolding lean
same-records law m f n γ π =
    let ok = wired-net m f in (
      (λ a. record {
        bits = a.bits;
        possible = to_lean law m ok n a.bits a.possible;
        pins = pins_forth law m n a.bits a.possible γ 0 m.pins a.pins;
        parts = keep_all (PartShows n π a.bits) m m.elements a.parts;
      }),
      (λ a. record {
        bits = spread law m ok n a.bits a.possible;
        possible = from-lean law m ok n a.bits a.possible;
        pins = pins_back law m ok n a.bits a.possible a.possible.elements γ 0 m.pins ok.pins_ok (λ i u. u) a.pins;
        parts = parts-back law m ok n a.bits a.possible π m.elements ok.clear a.parts;
      }),
    )

-- The full netlist of a typed term is formed, and so is the lean netlist of every formed one. Assumes nothing.
use Prim.Native.Nat.{ℕ, zero, suc, ◌+◌, ◌≤◌}
use mathlib.Core.Path.{◌≡◌, refl, sym, ap, ap₂, ◌∙◌, subst}
use mathlib.Core.Bool.{Bool, true, false, cond, not, ◌&&◌, true≢false, false≢true}
use mathlib.Core.List.{List, [], ◌∷◌, map}
use native.Mathlib.Omega.{arith}
use lib.Dec.{T, eqb, eqb→eq, eqb_refl}
use Rattle.laws.proofs.Tests.{by_eqb, or_elim, or_left, or_right, and_both, not_true, on_cond}
use Rattle.calculus.specs.Types.{Ty, Table}
use Rattle.calculus.specs.Terms.{Edition, Term, part_at}
use Rattle.calculus.specs.Net.{Terminal, inp, out, Interface, Element, point, part, Wire, Net, part_side, make, net_of}
use Rattle.calculus.specs.Lean.{driver, is_pin, root, kept, keep, to_inputs, to_element, lean_wires, lean_pin, lean}
use Rattle.calculus.specs.Rules.{Typed}
use Rattle.calculus.specs.Record.{All}
use Rattle.calculus.specs.Inputs.{tally, ins, made_at_lem, targets, is_out}
use Rattle.circuit_theorems.specs.Formed.{Shown, Tiled, Rising, Formed}
use Rattle.circuit_theorems.proofs.RootLaws.{root-reached, root-root}
use Rattle.circuit_theorems.proofs.BackLaws.{backs-out, pin_root}
use Rattle.circuit_theorems.proofs.Drivers.{drivers, targets-append}
use Rattle.circuit_theorems.proofs.Outputs.{EndHolds, tiled, outputs}
use Rattle.circuit_theorems.proofs.Lists.{all_map, all_append, all_cond}
use Rattle.circuit_theorems.proofs.Terminals.{part_in_lem, is_between, tiled-rising, made_one, part-made, pin_ins, no_ins, driver-fed}

-- ---- the full netlist

shown : (es : List Element) (p : Terminal) → EndHolds (λ x. 1 ≤ made_at_lem es x) (λ x. T (is_out es x)) p → Shown es p
shown es (inp i) s = tt
shown es (out o) s = s

pub formed-net : {E : Edition} {Θ : Table} {e : Term} {τ : Ty} → Typed E Θ [] e τ → Formed (net_of (make Θ e [] 0))
formed-net {Θ = Θ} {e} d =
    let m = make Θ e [] 0 in
    let r = outputs (λ x. 1 ≤ made_at_lem m.elements x) (λ x. T (is_out m.elements x)) Θ e [] 0 tt (record { ins = λ x a. a; outs = λ x t. t }) in
    record {
      end = m.next;
      rising = tiled-rising m.elements 0 m.next (tiled Θ e [] 0);
      from = all_map _ (λ w. T (is_out m.elements w.from)) (λ w a. a.0) m.wires r.wires;
      shown = all_map _ (Shown m.elements) (shown m.elements) m.side r.side;
      reached = λ i. sym (drivers d i);
    }

-- the elements of a full netlist take all the terminals from 0 up to the end, at most 8,192
pub record Gapless (m : Net) : Type 0 where
  pub net : Formed m
  pub tiled : Tiled m.elements 0 net.end
  pub few : net.end ≤ 8192

pub gapless_net : {E : Edition} {Θ : Table} {e : Term} {τ : Ty} → Typed E Θ [] e τ → (make Θ e [] 0).next ≤ 8192 → Gapless (net_of (make Θ e [] 0))
unfolding formed-net
gapless_net {Θ = Θ} {e} d h = record { net = formed-net d; tiled = tiled Θ e [] 0; few = h }

-- ---- the lean netlist

-- starting lower
lower : (es : List Element) (k n e : ℕ) → k ≤ n → Rising es n e → Rising es k e
lower [] k n e h a = omega arith
lower (point i ∷ es) k n e h a = (let q = a.0 in omega arith, a.1)
lower (part p i ∷ es) k n e h a = (let q = a.0 in omega arith, a.1)

-- ---- a wire that is there by a test

if_sent : (b : Bool) (i : ℕ) (w : Wire) → (w.to ≡ i → b ≡ true) → targets (cond b (w ∷ []) []) i ≡ tally i w.to
if_sent true i w h = omega arith
if_sent false i w h = by_eqb (λ c. ◌≡◌ {A = ℕ} 0 (cond c 1 0)) w.to i (λ q. absurd (false≢true (h q))) (λ q. refl)

if_unsent : (b : Bool) (i : ℕ) (w : Wire) → (w.to ≡ i → b ≡ false) → targets (cond b (w ∷ []) []) i ≡ 0
if_unsent true i w h = by_eqb (λ c. cond c 1 0 + 0 ≡ 0) w.to i (λ q. absurd (true≢false (h q))) (λ q. omega arith)
if_unsent false i w h = refl

unless_free : (b : Bool) (i : ℕ) (w : Wire) → (w.to ≡ i → b ≡ false) → targets (cond b [] (w ∷ [])) i ≡ tally i w.to
unless_free true i w h = if_sent false i w (λ q. sym (h q))
unless_free false i w h = if_sent true i w (λ q. refl)

unless_pin : (b : Bool) (i : ℕ) (w : Wire) → (w.to ≡ i → b ≡ true) → targets (cond b [] (w ∷ [])) i ≡ 0
unless_pin true i w h = refl
unless_pin false i w h = if_unsent true i w (λ q. sym (h q))

and_false : (b : Bool) → b && false ≡ false
and_false true = refl
and_false false = refl

module _ (m : Net) where
  keep-rising : (es : List Element) (n e : ℕ) → Rising es n e → Rising (keep m es) n e
  keep-rising [] n e a = a
  keep-rising (point i ∷ es) n e a =
      let r = keep-rising es (i + 2) e a.1 in
      on_cond (λ l. Rising l n e) (kept m (point i)) (point i ∷ keep m es) (keep m es) (λ _. (a.0, r)) (lower (keep m es) n (i + 2) e (let q = a.0 in omega arith) r)
  keep-rising (part p i ∷ es) n e a = (a.0, keep-rising es (i + (part_at p).inputs + 1) e a.1)

  -- an output that is its own root is kept
  pub keep_out : (es : List Element) (x : ℕ) → root m x ≡ x → T (is_out es x) → T (is_out (keep m es) x)
  keep_out [] x e h = h
  keep_out (point i ∷ es) x e h =
      or_elim (eqb (i + 1) x) (is_out es x) h
      (λ t. here (eqb→eq (i + 1) x t) (kept m (point i)) (λ q. subst (λ (y : ℕ). T (eqb (root m y) y)) (sym q) (subst (λ (y : ℕ). T (eqb y x)) (sym e) (eqb_refl x))))
      (λ t. rest (kept m (point i)) (keep_out es x e t))
    where
      here : i + 1 ≡ x → (b : Bool) → (i + 1 ≡ x → T b) → T (is_out (cond b (point i ∷ keep m es) (keep m es)) x)
      here q true t = or_left (eqb (i + 1) x) (is_out (keep m es) x) (subst (λ (y : ℕ). T (eqb (i + 1) y)) q (eqb_refl (i + 1)))
      here q false t = absurd (t q)

      rest : (b : Bool) → T (is_out (keep m es) x) → T (is_out (cond b (point i ∷ keep m es) (keep m es)) x)
      rest true t = or_right (eqb (i + 1) x) (is_out (keep m es) x) t
      rest false t = t
  keep_out (part p i ∷ es) x e h =
      or_elim (eqb (i + (part_at p).inputs) x) (is_out es x) h
      (λ t. or_left (eqb (i + (part_at p).inputs) x) (is_out (keep m es) x) t)
      (λ t. or_right (eqb (i + (part_at p).inputs) x) (is_out (keep m es) x) (keep_out es x e t))

  module _ (ok : Formed m) where
    abbrev InLean : ℕ → Type 0
    InLean x = T (is_out (keep m m.elements) x)

    -- the root of an output is kept
    pub root_kept : (o : ℕ) → T (is_out m.elements o) → InLean (root m o)
    root_kept o h =
        let (k, h₁, e) = root-reached m o in
        keep_out m.elements (root m o) (root-root m o) (subst (λ (x : ℕ). T (is_out m.elements x)) (sym e) (backs-out m ok k o h))

    -- ---- where the wires come from

    from-inputs : (k i : ℕ) → ((x : ℕ) → T (is_between k i x) → T (part_in_lem m.elements x)) → All (λ w. InLean w.from) (to_inputs m k i)
    from-inputs zero i h = tt
    from-inputs (suc k) i h =
        all_append (λ w. InLean w.from) (cond (is_pin m.pins i) [] (record { from = root m (driver m.wires i 0); to = i } ∷ [])) (to_inputs m k (i + 1))
        (all_cond (λ w. InLean w.from) (is_pin m.pins i) [] (record { from = root m (driver m.wires i 0); to = i } ∷ []) (λ _. tt) (λ u. (fed (not_true _ u), tt)))
        (from-inputs k (i + 1) (λ x w. h x (or_right (eqb i x) (is_between k (i + 1) x) w)))
      where
        fed : is_pin m.pins i ≡ false → InLean (root m (driver m.wires i 0))
        fed u =
            root_kept _ (driver-fed (λ x. T (is_out m.elements x)) m.wires i 0 ok.from
            (omega (arith, ok.reached i, no_ins m.pins i u, part-made m.elements i (h i (or_left (eqb i i) (is_between k (i + 1) i) (eqb_refl i))))))

    from-lean : (es : List Element) → ((x : ℕ) → T (part_in_lem es x) → T (part_in_lem m.elements x)) → ((x : ℕ) → T (is_out es x) → T (is_out m.elements x))
        → All (λ w. InLean w.from) (lean_wires m es)
    from-lean [] h g = tt
    from-lean (point i ∷ es) h g =
        all_append (λ w. InLean w.from) (to_element m (point i)) (lean_wires m es)
        (all_cond (λ w. InLean w.from) (kept m (point i) && not (is_pin m.pins i)) (record { from = i + 1; to = i } ∷ []) []
        (λ t. (keep_out m.elements (i + 1) (eqb→eq (root m (i + 1)) (i + 1) (and_both (kept m (point i)) (not (is_pin m.pins i)) t).0) (g (i + 1) (or_left (eqb (i + 1) (i + 1)) (is_out es (i + 1)) (eqb_refl (i + 1)))), tt)) (λ _. tt))
        (from-lean es h (λ x t. g x (or_right (eqb (i + 1) x) (is_out es x) t)))
    from-lean (part p i ∷ es) h g =
        all_append (λ w. InLean w.from) (to_element m (part p i)) (lean_wires m es)
        (from-inputs (part_at p).inputs i (λ x w. h x (or_left (is_between (part_at p).inputs i x) (part_in_lem es x) w)))
        (from-lean es (λ x w. h x (or_right (is_between (part_at p).inputs i x) (part_in_lem es x) w)) (λ x t. g x (or_right (eqb (i + (part_at p).inputs) x) (is_out es x) t)))

    lean-shown : (ps : Interface) → All (Shown m.elements) ps → All (Shown (keep m m.elements)) (map (lean_pin m) ps)
    lean-shown [] s = tt
    lean-shown (inp i ∷ ps) s = (tt, lean-shown ps s.1)
    lean-shown (out o ∷ ps) s = (root_kept o s.0, lean-shown ps s.1)

  -- ---- each input once

  lean-ins : (ps : Interface) (i : ℕ) → ins (map (lean_pin m) ps) i ≡ ins ps i
  lean-ins [] i = refl
  lean-ins (inp j ∷ ps) i = ap (λ (k : ℕ). tally i j + k) (lean-ins ps i)
  lean-ins (out o ∷ ps) i = lean-ins ps i

  -- an input that is no pin: a wire goes to it exactly if its element is kept
  free-inputs : (i k j : ℕ) → is_pin m.pins i ≡ false → targets (to_inputs m k j) i ≡ ins (part_side k j) i
  free-inputs i zero j u = refl
  free-inputs i (suc k) j u =
      targets-append (cond (is_pin m.pins j) [] (record { from = root m (driver m.wires j 0); to = j } ∷ [])) (to_inputs m k (j + 1)) i
      ∙ ap₂ ◌+◌ (unless_free (is_pin m.pins j) i (record { from = root m (driver m.wires j 0); to = j }) (λ q. ap (is_pin m.pins) q ∙ u)) (free-inputs i k (j + 1) u)

  pub free_targets : (i : ℕ) → is_pin m.pins i ≡ false → (es : List Element) → targets (lean_wires m es) i ≡ made_at_lem (keep m es) i
  free_targets i u [] = refl
  free_targets i u (point j ∷ es) =
      targets-append (to_element m (point j)) (lean_wires m es) i ∙ by-kept (free_targets i u es) (kept m (point j))
    where
      by-kept : targets (lean_wires m es) i ≡ made_at_lem (keep m es) i → (b : Bool) → targets (cond (b && not (is_pin m.pins j)) (record { from = j + 1; to = j } ∷ []) []) i + targets (lean_wires m es) i ≡ made_at_lem (cond b (point j ∷ keep m es) (keep m es)) i
      by-kept r true = ap₂ ◌+◌ (if_sent (not (is_pin m.pins j)) i (record { from = j + 1; to = j }) (λ q. ap not (ap (is_pin m.pins) q ∙ u))) r
      by-kept r false = omega arith
  free_targets i u (part p j ∷ es) =
      targets-append (to_element m (part p j)) (lean_wires m es) i ∙ ap₂ ◌+◌ (free-inputs i (part_at p).inputs j u) (free_targets i u es)

  -- an input that is a pin: no wire goes to it, and its element is kept
  pin-inputs : (i k j : ℕ) → is_pin m.pins i ≡ true → targets (to_inputs m k j) i ≡ 0
  pin-inputs i zero j u = refl
  pin-inputs i (suc k) j u =
      targets-append (cond (is_pin m.pins j) [] (record { from = root m (driver m.wires j 0); to = j } ∷ [])) (to_inputs m k (j + 1)) i
      ∙ omega (arith, unless_pin (is_pin m.pins j) i (record { from = root m (driver m.wires j 0); to = j }) (λ q. ap (is_pin m.pins) q ∙ u), pin-inputs i k (j + 1) u)

  pub pin_targets : (i : ℕ) → is_pin m.pins i ≡ true → (es : List Element) → targets (lean_wires m es) i ≡ 0
  pin_targets i u [] = refl
  pin_targets i u (point j ∷ es) =
      targets-append (to_element m (point j)) (lean_wires m es) i
      ∙ omega (arith, if_unsent (kept m (point j) && not (is_pin m.pins j)) i (record { from = j + 1; to = j }) (λ q. ap (λ (b : Bool). kept m (point j) && not b) (ap (is_pin m.pins) q ∙ u) ∙ and_false (kept m (point j))), pin_targets i u es)
  pin_targets i u (part p j ∷ es) =
      targets-append (to_element m (part p j)) (lean_wires m es) i ∙ omega (arith, pin-inputs i (part_at p).inputs j u, pin_targets i u es)

  pin_made : (i : ℕ) → is_pin m.pins i ≡ true → (es : List Element) → made_at_lem (keep m es) i ≡ made_at_lem es i
  pin_made i u [] = refl
  pin_made i u (point j ∷ es) =
      by-kept (pin_made i u es) (kept m (point j)) (λ q. subst (λ (x : ℕ). T (eqb x (j + 1))) (sym (pin_root m j (subst T (sym (ap (is_pin m.pins) q ∙ u)) tt))) (eqb_refl (j + 1)))
    where
      by-kept : made_at_lem (keep m es) i ≡ made_at_lem es i → (b : Bool) → (j ≡ i → T b) → made_at_lem (cond b (point j ∷ keep m es) (keep m es)) i ≡ tally i j + made_at_lem es i
      by-kept r true h = ap (λ (k : ℕ). tally i j + k) r
      by-kept r false h = by_eqb (λ c. made_at_lem (keep m es) i ≡ cond c 1 0 + made_at_lem es i) j i (λ q. absurd (h q)) (λ q. omega arith)
  pin_made i u (part p j ∷ es) = ap (λ (k : ℕ). ins (part_side (part_at p).inputs j) i + k) (pin_made i u es)

  pub lean-formed : Formed m → Formed (lean m)
  unfolding lean
  lean-formed ok = record {
    end = ok.end;
    rising = keep-rising m.elements 0 ok.end ok.rising;
    from = from-lean ok m.elements (λ x t. t) (λ x t. t);
    shown = lean-shown ok m.pins ok.shown;
    reached = λ i. ap (λ (k : ℕ). targets (lean_wires m m.elements) i + k) (lean-ins m.pins i) ∙ by_pin i (is_pin m.pins i) refl;
  }
    where
      by_pin : (i : ℕ) (b : Bool) → is_pin m.pins i ≡ b → targets (lean_wires m m.elements) i + ins m.pins i ≡ made_at_lem (keep m m.elements) i
      by_pin i true u = omega (arith, pin_targets i u m.elements, pin_made i u m.elements, ok.reached i, made_one m.elements 0 ok.end i ok.rising, pin_ins m.pins i (subst T (sym u) tt))
      by_pin i false u = omega (arith, free_targets i u m.elements, no_ins m.pins i u)

  pub lean-end : (ok : Formed m) → (lean-formed ok).end ≡ ok.end
  unfolding lean-formed
  lean-end ok = refl

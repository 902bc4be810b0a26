-- The full netlist and its roots, made into the lean netlist step by step: what each step asks, and what stands at the end. Assumes nothing.
use Prim.Native.Nat.{ℕ, zero, suc, ◌+◌, ◌-◌, ◌*◌, ◌/◌, ◌%◌, ◌≤◌, ◌<◌}
use mathlib.Core.Path.{◌≡◌, refl, sym, ap, ◌∙◌, subst}
use mathlib.Core.Logic.{◌⊎◌, inl, inr, ⊎_elim}
use mathlib.Core.Bool.{Bool, true, false, cond}
use mathlib.Core.List.{List, [], ◌∷◌, map}
use native.Mathlib.Omega.{arith}
use native.Mathlib.Decide.{ℕ_discrete, dec_le}
use lib.Dec.{T, eqb, eqb_refl}
use lib.ListN.{length, get_or, drop, length-map}
use lib.Seq.{ext_get_or, get_or-drop}
use borrow.Author.Tests.{ne_eqb, eq-eqb}
use Rattle.laws.proofs.Tests.{or_left, or_right, T-is, is_false}
use Rattle.laws.proofs.Regions.{region-length, region-at, region_ext}
use Rattle.calculus.specs.Terms.{part_at}
use Rattle.calculus.specs.Net.{Terminal, inp, out, Element, point, part, Net, part_side}
use Rattle.calculus.specs.NetRead.{Known}
use Rattle.calculus.specs.Record.{All}
use Rattle.calculus.specs.Makers.{keep_makers, lean_makers, written}
use Rattle.calculus.specs.Lean.{is_pin, root, lean_pin, lean}
use Rattle.calculus.specs.Inputs.{tally, ins, made_at_lem, is_out}
use Rattle.circuit_theorems.specs.Formed.{Tiled, Shown}
use Rattle.circuit_theorems.proofs.Outputs.{EndHolds}
use Rattle.circuit_theorems.proofs.Wiring.{pins_show}
use Rattle.circuit_theorems.proofs.BackLaws.{backs-out, point_root}
use Rattle.circuit_theorems.proofs.RootLaws.{root-reached}
use Rattle.circuit_theorems.proofs.NetRead.{out_not_made}
use Rattle.circuit_theorems.proofs.Terminals.{point_in, made-high, out_high, driver-any, point_made}
use Rattle.memory.specs.Map.{elements_at, stack_at, roots_at, makers_at, memory_size, region, elements_from, terminal_of, net_in, Ready}
use Rattle.netlist.specs.Elements.{after_all}
use Rattle.netlist.proofs.InMemory.{kind-here, elements_here}
use Rattle.memory.proofs.NetStays.{ready_same}
use Rattle.lean.specs.Table.{entry, Within, Whole, Rooted}
use Rattle.lean.specs.Layout.{lean_pins_at, lean_makers_in, lean_in, LeanReady, Leant, link_in, RootedDriver, Linkable, Linked, rooted_in, Rootable, Pinned, named_all}
use Rattle.lean.proofs.KindLaws.{tiled-after}
use Rattle.lean.proofs.DriverLaws.{rising, output-below, output_free, input-below, driver_out, fed, pin_none, driver_in}
use Rattle.lean.proofs.MakeLaws.{span, tiled-span, named-within, source_of, Fresh, Here, Roots, Laid, named_past, all_laid, elements-are, wires-are, makers-are, all_fit}

pub pin_at : (P : Terminal → Type 0) (cs : List ℕ) (j : ℕ) → All P (map terminal_of cs) → j < length cs → P (terminal_of (get_or cs j 0))
pin_at P [] j a l = absurd (omega arith)
pin_at P (c ∷ cs) zero a l = a.0
pin_at P (c ∷ cs) (suc j) a l = pin_at P cs j a.1 (omega arith)

-- a region of one memory is that of another, each number changed
region-map : (u w : List ℕ) (a b n : ℕ) (f : ℕ → ℕ) → a + n ≤ length u → b + n ≤ length w → ((k : ℕ) → k < n → get_or w (b + k) 0 ≡ f (get_or u (a + k) 0)) → region w b n ≡ map f (region u a n)
region-map u w a b n f h g same =
    let p = region-length w b n g in
    let q = region-length u a n h in
    let r = length-map (region u a n) f in
    ext_get_or 0 (region w b n) (map f (region u a n)) (omega arith) λ i l.
    let k : i < n = omega arith in
    region-at w b n i k ∙ same i k ∙ ap f (sym (region-at u a n i k)) ∙ at_map (region u a n) i (omega arith)
  where
    at_map : (xs : List ℕ) (i : ℕ) → i < length xs → f (get_or xs i 0) ≡ get_or (map f xs) i 0
    at_map [] i l = absurd (omega arith)
    at_map (x ∷ xs) zero l = refl
    at_map (x ∷ xs) (suc i) l = at_map xs i (omega arith)

-- an input pin stays
pin_same : (m : Net) (ts : List Terminal) (i : ℕ) → is_pin (map (lean_pin m) ts) i ≡ is_pin ts i
pin_same m [] i = refl
pin_same m (inp j ∷ ts) i = rw (pin_same m ts i)
pin_same m (out o ∷ ts) i = pin_same m ts i

-- an element's inputs are made
side_made : (c i x : ℕ) → i ≤ x → x < i + c → 1 ≤ ins (part_side c i) x
side_made zero i x a b = absurd (omega arith)
side_made (suc c) i x a b =
    elim (ℕ_discrete x i) [
      | yes z ↦ (let e : tally x i ≡ 1 = subst (λ (y : ℕ). tally y i ≡ 1) (sym z) (rw (T-is (eqb i i) (eqb_refl i))) in omega arith)
      | no z ↦ omega (arith, side_made c (i + 1) x (omega arith) (omega arith))
    ]

here_of : (m : Net) (es : List Element) → ((x : ℕ) → 1 ≤ made_at_lem es x → 1 ≤ made_at_lem m.elements x) → ((x : ℕ) → T (is_out es x) → T (is_out m.elements x))
    → ((x : ℕ) → T (point_in es x) → T (point_in m.elements x)) → All (Here m) es
here_of m [] f g h = tt
here_of m (point i ∷ es) f g h =
    let t : T (point_in (point i ∷ es) i) = or_left (eqb i i) (point_in es i) (eqb_refl i) in (
      (f i (point_made (point i ∷ es) i t), (g (i + 1) (or_left (eqb (i + 1) (i + 1)) (is_out es (i + 1)) (eqb_refl (i + 1))), h i t)),
      here_of m es (λ x l. f x (omega arith)) (λ x l. g x (or_right (eqb (i + 1) x) (is_out es x) l)) (λ x l. h x (or_right (eqb i x) (point_in es x) l)),
    )
here_of m (part r i ∷ es) f g h = (
  (λ x a b. f x (omega (arith, side_made (part_at r).inputs i x a b))),
  here_of m es (λ x l. f x (omega arith)) (λ x l. g x (or_right (eqb (i + (part_at r).inputs) x) (is_out es x) l)) h,
)

module _ (u : List ℕ) (e k p : ℕ) (q : Whole u e k p) (known : All Known (net_in u e k p).elements) where
  abbrev m : Net
  m = net_in u e k p

  abbrev r : Ready u e k p
  r = q.ready

  abbrev Is : ℕ → Type 0
  Is o = T (is_out m.elements o)

  abbrev end : ℕ
  end = after_all (region u elements_at e) 0

  -- the entry of an output is its root
  entry-root : (o : ℕ) → Is o → entry u o ≡ root m o
  entry-root o t = q.table o (output-below u e k p r o t) ∙ ap (λ (b : Bool). cond b (root m o) 0) (T-is (is_out m.elements o) t)

  end_is : end ≡ r.end
  unfolding net_in
  end_is = tiled-after (region u elements_at e) 0 r.end r.tiled

  end_low : end ≤ 8192
  end_low = let b = r.below in omega (arith, end_is)

  root-low : (o : ℕ) → Is o → root m o < 8192
  root-low o t =
      let (j, _, z) = root-reached m o in
      subst (λ (x : ℕ). x < 8192) (sym z) (output-below u e k p r _ (backs-out m r.formed j o t))

  made-before : (x : ℕ) → 1 ≤ made_at_lem m.elements x → x < end
  made-before x h = elim (dec_le r.end x) [ yes l ↦ absurd (omega (arith, made-high m.elements 0 r.end x (rising u e k p r) l)) | no l ↦ omega (arith, end_is) ]

  made-not-out : (x : ℕ) → 1 ≤ made_at_lem m.elements x → is_out m.elements x ≡ false
  made-not-out x h = is_false (is_out m.elements x) (λ t. omega (arith, out_not_made m.elements 0 r.end x (rising u e k p r) t))

  source : (x : ℕ) → x < end → (get_or u x 0 ≡ 65535 → ⊥) → RootedDriver u (get_or u x 0)
  source x l d =
      let t = driver_out u e k p r x (omega (arith, end_low)) d in
      record { low = output-below u e k p r (get_or u x 0) t; none = output_free u e k p r (get_or u x 0) t; root = subst (λ (y : ℕ). y < 8192) (sym (entry-root (get_or u x 0) t)) (root-low (get_or u x 0) t) }

  roots : Roots m
  roots = record {
    low = λ x h z. (let g = driver_in u e k p r x 0 h z in subst (λ (y : ℕ). root m y < 8192) (sym g) (root-low (get_or u x 0) (driven x h z)));
    ring = λ i t z. ap (root m) (driver-any m.wires i 0 (i + 1) (fed u e k p r i (point_made m.elements i t) z)) ∙ sym (point_root m i t z);
  }
    where
      driven : (x : ℕ) → 1 ≤ made_at_lem m.elements x → is_pin m.pins x ≡ false → Is (get_or u x 0)
      driven x h z = driver_out u e k p r x (input-below u e k p r x h) (λ y. let g = sym z ∙ pin_none u e k p r x h ∙ eq-eqb (get_or u x 0) 65535 y in absurd (subst T (sym g) tt))

  -- ---- the pins

  codes : (P : Terminal → Type 0) → All P m.pins → (i : ℕ) → i < p → P (terminal_of (get_or u (stack_at + i) 0))
  unfolding net_in
  codes P a i h =
      let z = r.size in
      let f = r.few_pins in
      let l : length (region u stack_at p) ≡ p = region-length u stack_at p (omega arith) in
      subst (λ (x : ℕ). P (terminal_of x)) (region-at u stack_at p i h) (pin_at P (region u stack_at p) i a (omega arith))

  code-low : (c : ℕ) → EndHolds (λ i. made_at_lem m.elements i ≡ 1) Is (terminal_of c) → c / 2 < 8192
  code-low c = by (eqb (c % 2) 0)
    where
      by : (b : Bool) → EndHolds (λ i. made_at_lem m.elements i ≡ 1) Is (cond b (inp (c / 2)) (out (c / 2))) → c / 2 < 8192
      by true h = input-below u e k p r (c / 2) (omega arith)
      by false h = output-below u e k p r (c / 2) h

  entry-low : (x : ℕ) → x < 8192 → entry u x < 8192
  entry-low x l = subst (λ (z : ℕ). z < 8192) (sym (q.table x l)) (by (is_out m.elements x) refl)
    where
      by : (b : Bool) → is_out m.elements x ≡ b → cond b (root m x) 0 < 8192
      by true t = root-low x (subst T (sym t) tt)
      by false t = omega arith

  pub rootable : Rootable u p
  rootable = record {
    size = r.size;
    few = r.few_pins;
    shown = λ j h. let l = low j h in (l, let g = entry-low (get_or u (stack_at + j) 0 / 2) l in omega arith);
  }
    where
      low : (j : ℕ) → j < p → get_or u (stack_at + j) 0 / 2 < 8192
      low j h = code-low (get_or u (stack_at + j) 0) (codes (EndHolds (λ i. made_at_lem m.elements i ≡ 1) Is) (pins_show m r.formed) j h)

  one-pin : (c : ℕ) → Shown m.elements (terminal_of c) → terminal_of (rooted_in u c) ≡ lean_pin m (terminal_of c)
  one-pin c = by (eqb (c % 2) 0) refl
    where
      by : (b : Bool) → eqb (c % 2) 0 ≡ b → Shown m.elements (cond b (inp (c / 2)) (out (c / 2)))
          → terminal_of (cond b c (2 * entry u (c / 2) + 1)) ≡ lean_pin m (cond b (inp (c / 2)) (out (c / 2)))
      by true z s = ap (λ (b : Bool). cond b (inp (c / 2)) (out (c / 2))) z
      by false z s =
          let y = entry u (c / 2) in
          let g : (2 * y + 1) / 2 ≡ y = omega arith in
          ap (λ (t : Bool). cond t (inp ((2 * y + 1) / 2)) (out ((2 * y + 1) / 2))) (ne_eqb ((2 * y + 1) % 2) 0 (λ f. omega arith)) ∙ ap out (g ∙ entry-root (c / 2) s)

  rooted-low : (c : ℕ) → c / 2 < 8192 → rooted_in u c < 16384
  rooted-low c l = by (eqb (c % 2) 0)
    where
      by : (b : Bool) → cond b c (2 * entry u (c / 2) + 1) < 16384
      by true = omega arith
      by false = omega (arith, entry-low (c / 2) l)

  -- ---- the table

  module _ (v : List ℕ) (s : Pinned u p v) where
    low_same : (x : ℕ) → x < 8192 → entry v x ≡ entry u x
    low_same x l = s.below (roots_at + x) (omega arith)

    pub linkable : Linkable v end
    linkable = record {
      size = let z = r.size in let y = s.size in omega arith;
      below = end_low;
      sources = λ x l. subst (λ (d : ℕ). (d ≡ 65535 → ⊥) → RootedDriver v d) (sym (s.below x (omega (arith, end_low)))) (λ d.
          let o = source x l d in
          let h = o.low in
          record { low = h; none = s.below (get_or u x 0) (omega arith) ∙ o.none; root = subst (λ (y : ℕ). y < 8192) (sym (low_same (get_or u x 0) h)) o.root });
    }

    module _ (w : List ℕ) (l : Linked v end w) where
      linked-at : (x : ℕ) → x < end → (get_or u x 0 ≡ 65535 → ⊥) ⊎ (get_or u x 0 ≡ 65535) → entry w x ≡ link_in u x
      linked-at x h c =
          let z = end_low in
          let here : get_or v x 0 ≡ get_or u x 0 = s.below x (omega arith) in
          l.links x h ∙ ⊎_elim
          (λ d. ap (λ (y : ℕ). cond (eqb y 65535) (entry v x) (entry v y + 1)) here ∙ ap (λ (y : ℕ). cond (eqb (get_or u x 0) 65535) y (entry v (get_or u x 0) + 1)) (low_same x (omega arith))
          ∙ ap (λ (y : ℕ). cond (eqb (get_or u x 0) 65535) (entry u x) (y + 1)) (low_same (get_or u x 0) (source x h d).low))
          (λ n. ap (λ (y : ℕ). cond (eqb y 65535) (entry v x) (entry v y + 1)) (here ∙ n) ∙ low_same x (omega arith) ∙ sym (ap (λ (y : ℕ). cond (eqb y 65535) (entry u x) (entry u y + 1)) n)) c

      made-entry : (x : ℕ) → 1 ≤ made_at_lem m.elements x → entry w x ≡ source_of m x
      made-entry x h =
          elim (ℕ_discrete (get_or u x 0) 65535) [
            | yes z ↦ linked-at x (made-before x h) (inr z) ∙ rw (pin_none u e k p r x h, eq-eqb (get_or u x 0) 65535 z) (q.table x (input-below u e k p r x h) ∙ rw (made-not-out x h))
            | no z ↦ (let f = pin_none u e k p r x h ∙ ne_eqb (get_or u x 0) 65535 z in
                linked-at x (made-before x h) (inl z) ∙ rw (f, ne_eqb (get_or u x 0) 65535 z, driver_in u e k p r x 0 h f)
                (ap (λ (y : ℕ). y + 1) (entry-root (get_or u x 0) (driver_out u e k p r x (input-below u e k p r x h) z))))
          ]

      out-entry : (o : ℕ) → Is o → entry w o ≡ root m o
      out-entry o t =
          let z = output_free u e k p r o t in
          let b = out_high m.elements 0 r.end o (rising u e k p r) t in
          linked-at o (omega (arith, end_is)) (inr z) ∙ rw (eq-eqb (get_or u o 0) 65535 z) (entry-root o t)

      fresh : Fresh m w 0
      fresh = record { size = (let z = linkable.size in let y = l.within.size in omega arith); inputs = λ x g h. made-entry x h; outputs = λ o g t. out-entry o t }

      pub kinds-same : region w elements_at e ≡ region u elements_at e
      kinds-same =
          let z = r.size in
          let f = r.few_elements in
          let a = s.size in
          let b = l.within.size in
          region_ext elements_at e u w (omega arith) (omega arith) (λ j g h. l.within.below j (omega arith) ∙ s.below j (omega arith))

      pub namable : (memory_size ≤ length w) × ((e ≤ 5120) × ((after_all (region w elements_at e) 0 ≤ 8192) × ((i : ℕ) → i < e → get_or w (elements_at + i) 0 < 8)))
      namable =
          let f = r.few_elements in
          (fresh.size, (f, (rw kinds-same end_low, λ i h. subst (λ (x : ℕ). x < 8) (sym (l.within.below (elements_at + i) (omega arith) ∙ s.below (elements_at + i) (omega arith))) (kind-here u e k p r known i h))))

      tiled : Tiled m.elements 0 end
      tiled = subst (Tiled m.elements 0) (sym end_is) r.tiled

      abbrev x : List ℕ
      x = named_all w m.elements

      here : All (Here m) m.elements
      here = here_of m m.elements (λ y h. h) (λ y t. t) (λ y t. t)

      laid : All (Laid m x) m.elements
      laid = all_laid m m.elements 0 end w tiled end_low here fresh

      within : Within w x
      within = named-within m.elements 0 end w tiled end_low

      pins-same : (j : ℕ) → j < p → get_or x (lean_pins_at + j) 0 ≡ rooted_in u (get_or u (stack_at + j) 0)
      pins-same j h = within.above (lean_pins_at + j) (omega arith) ∙ l.within.above (lean_pins_at + j) (omega arith) ∙ s.done j h

      size : memory_size ≤ length x
      size = let z = fresh.size in let y = within.size in omega arith

      shown : map terminal_of (region x lean_pins_at p) ≡ map (lean_pin m) m.pins
      unfolding net_in
      shown =
          let f = r.few_pins in
          let z = r.size in
          let y = size in
          ap (map terminal_of) (region-map u x stack_at lean_pins_at p (rooted_in u) (omega arith) (omega arith) pins-same) ∙ each (region u stack_at p) r.formed.shown
        where
          each : (cs : List ℕ) → All (Shown m.elements) (map terminal_of cs) → map terminal_of (map (rooted_in u) cs) ≡ map (lean_pin m) (map terminal_of cs)
          each [] a = refl
          each (c ∷ cs) a = rw (one-pin c a.0, each cs a.1)

      ready : LeanReady x end p
      ready = record {
        size = size;
        below = end_low;
        few_pins = r.few_pins;
        inputs = λ y h. (all_fit m x roots m.elements 0 end tiled here known laid y (omega arith) h).input;
        outputs = λ y h. (all_fit m x roots m.elements 0 end tiled here known laid y (omega arith) h).output;
        points = λ y h t. ap (λ (ts : List Terminal). is_pin ts (y - 1)) shown ∙ pin_same m m.pins (y - 1) ∙ (all_fit m x roots m.elements 0 end tiled here known laid y (omega arith) h).point t;
        shown = λ j h. subst (λ (y : ℕ). y < 16384) (sym (pins-same j h)) (rooted-low (get_or u (stack_at + j) 0) (rootable.shown j h).0);
      }

      pub leant : Leant u e k p x end
      unfolding lean lean_in
      leant =
          let g : end ≡ span m.elements = omega (arith, tiled-span m.elements 0 end tiled) in
          record {
            around = record {
              size = within.size ∙ l.within.size ∙ s.size;
              below = λ j h. within.below j h ∙ l.within.below j h ∙ s.below j (omega arith);
              above = λ j h. within.above j (omega arith) ∙ l.within.above j (omega arith) ∙ s.above j h;
            };
            ready = ready;
            net = rw (← elements-are m x roots m.elements 0 end tiled here known laid, ← wires-are m x roots m.elements 0 end tiled here known laid, ← shown, ← g);
            makers = λ js. rw (← makers-are m x roots m.elements 0 end js tiled here known laid, ← g);
            left = λ y h. (all_fit m x roots m.elements 0 end tiled here known laid y (omega arith) h).left;
            past = λ y h b. named_past m.elements 0 end w y tiled h ∙ l.others y h b ∙ low_same y b ∙ q.table y b ∙ ap (λ (b : Bool). cond b (root m y) 0) (none-past y h);
          }
        where
          none-past : (y : ℕ) → end ≤ y → is_out m.elements y ≡ false
          none-past y h = is_false (is_out m.elements y) (λ t. omega (arith, out_high m.elements 0 r.end y (rising u e k p r) t, end_is))

-- ---- from the full netlist in w, whose roots stand in u

module _ (w u : List ℕ) (e k p end : ℕ) (ready : Ready w e k p) (known : All Known (net_in w e k p).elements) (z : end ≡ after_all (region w elements_at e) 0) (o : Rooted w u e k p) where
  known-there : All Known (net_in u e k p).elements
  known-there = rw o.net known

  kinds-there : region u elements_at e ≡ region w elements_at e
  kinds-there =
      let l = ready.size in
      let f = ready.few_elements in
      let s = o.within.size in
      region_ext elements_at e w u (omega arith) (omega arith) (λ j g h. o.within.below j (omega arith))

  end-there : end ≡ after_all (region u elements_at e) 0
  end-there = z ∙ ap (λ (ks : List ℕ). after_all ks 0) (sym kinds-there)

  pub pins_asked : Rootable u p
  pins_asked = rootable u e k p o.whole known-there

  module _ (v : List ℕ) (s : Pinned u p v) where
    pub links-asked : Linkable v end
    links-asked = subst (Linkable v) (sym end-there) (linkable u e k p o.whole known-there v s)

    module _ (x : List ℕ) (l : Linked v end x) where
      l-there : Linked v (after_all (region u elements_at e) 0) x
      l-there = subst (λ (n : ℕ). Linked v n x) end-there l

      pub names-asked : (memory_size ≤ length x) × ((e ≤ 5120) × ((after_all (region x elements_at e) 0 ≤ 8192) × ((i : ℕ) → i < e → get_or x (elements_at + i) 0 < 8)))
      names-asked = namable u e k p o.whole known-there v s x l-there

      pub made : (y : List ℕ) → y ≡ named_all x (elements_from (region x elements_at e) 0) → Leant w e k p y end
      unfolding net_in
      made y f =
          let g = leant u e k p o.whole known-there v s x l-there in
          let h : y ≡ named_all x (net_in u e k p).elements = f ∙ ap (λ (ks : List ℕ). named_all x (elements_from ks 0)) (kinds-same u e k p o.whole known-there v s x l-there) in
          subst (λ (n : ℕ). Leant w e k p y n) (sym end-there)
          (subst (λ (b : List ℕ). Leant w e k p b (after_all (region u elements_at e) 0)) (sym h)
          record {
            around = record {
              size = g.around.size ∙ o.within.size;
              below = λ j q. g.around.below j q ∙ o.within.below j q;
              above = λ j q. g.around.above j q ∙ o.within.above j (omega arith);
            };
            ready = g.ready;
            net = g.net ∙ ap lean o.net;
            makers = λ js. g.makers js ∙ ap (λ (m : Net). lean_makers m js) o.net;
            left = λ a b c. subst (λ (m : Net). T (is_out m.elements a)) o.net (g.left a b c);
            past = g.past;
          })

-- ---- the bytes of what was made are those of the definition

-- one maker for each element is looked at
makers-same : (m : Net) (es : List Element) (js ls : List ℕ) → ((j : ℕ) → j < length es → get_or js j 0 ≡ get_or ls j 0) → keep_makers m es js ≡ keep_makers m es ls
makers-same m [] js ls h = refl
makers-same m (e ∷ es) js ls h = rw (h 0 (omega arith), makers-same m es (drop 1 js) (drop 1 ls) (λ j l. get_or-drop 1 js j 0 ∙ h (1 + j) (omega arith) ∙ sym (get_or-drop 1 ls j 0)))

pub made_bytes : (w x : List ℕ) (e k p end : ℕ) → Ready w e k p → Leant w e k p x end → (plain : Bool)
    → written plain (lean_in x end p) (lean_makers_in x end 0 (drop makers_at x)) ≡ written plain (lean (net_in w e k p)) (lean_makers (net_in w e k p) (region w makers_at e))
made_bytes w x e k p end r l plain =
    let c = elements_here w e k p r in
    let f = r.few_elements in
    rw (
      l.net,
      l.makers (drop makers_at x),
      makers-same (net_in w e k p) (net_in w e k p).elements (drop makers_at x) (region w makers_at e)
          (λ j h. get_or-drop makers_at x j 0 ∙ l.around.above (makers_at + j) (omega arith) ∙ sym (region-at w makers_at e j (omega arith))),
    )

-- and the full one still stands
pub made_ready : (w x : List ℕ) (e k p end : ℕ) → Ready w e k p → Leant w e k p x end → Ready x e k p
made_ready w x e k p end r l = ready_same w e k p r x l.around.size l.around.below

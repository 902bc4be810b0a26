-- The table by terminal, once it is made, is the lean netlist of the definition. Assumes nothing.
use Prim.Native.Nat.{ℕ, zero, suc, ◌+◌, ◌-◌, ◌≤◌, ◌<◌}
use mathlib.Core.Path.{◌≡◌, refl, sym, ap, ◌∙◌, subst}
use mathlib.Core.Bool.{Bool, true, false, not, ◌&&◌, cond}
use mathlib.Core.List.{List, [], ◌∷◌, ◌++◌}
use native.Mathlib.Omega.{arith}
use native.Mathlib.Decide.{ℕ_discrete, dec_le}
use lib.Dec.{T, eqb}
use lib.ListN.{length, set, drop, length-set}
use borrow.Author.Tests.{ne_eqb, eq-eqb, eqb-true, lt-ltb, le-ltb}
use Rattle.calculus.specs.Terms.{part_at}
use Rattle.calculus.specs.Net.{Element, point, part, Wire, wire_of, Net}
use Rattle.calculus.specs.NetRead.{Known}
use Rattle.calculus.specs.Record.{All}
use Rattle.calculus.specs.Makers.{maker, keep_makers}
use Rattle.calculus.specs.Lean.{driver, is_pin, root, kept, keep, to_inputs, to_element, lean_wires}
use Rattle.calculus.specs.Inputs.{made_at_lem, is_out}
use Rattle.circuit_theorems.specs.Formed.{Tiled}
use Rattle.circuit_theorems.proofs.Terminals.{point_in}
use Rattle.memory.specs.Map.{roots_at, memory_size, elements_from}
use Rattle.netlist.specs.Elements.{output_of}
use Rattle.lean.specs.Table.{entry, Within}
use Rattle.lean.specs.Layout.{kinds_from, left_out, first_terminal, element_at, wire_at, row_in, left_after, maker_at, lean_makers_in, name_one, named_all}
use Rattle.lean.proofs.TableLaws.{within_none, within_then, entry-same, entry_other}
use Rattle.lean.proofs.Rows.{row-append, row-none}
use Rattle.lean.proofs.PassLaws.{Own, name-within}

-- ---- an entry

-- no element, no wire
pub element_input : (v x : ℕ) → v < kinds_from → element_at v x ≡ []
element_input v x h = rw (lt-ltb v kinds_from h)

pub element_left : (v x : ℕ) → left_out ≤ v → element_at v x ≡ []
element_left v x h = rw (le-ltb v kinds_from (omega arith), le-ltb v left_out h)

pub wire-none : (v x : ℕ) → v ≡ 0 → wire_at v x ≡ []
wire-none v x e = rw (eq-eqb v 0 e)

pub wire-output : (v x : ℕ) → kinds_from ≤ v → wire_at v x ≡ []
wire-output v x h = rw (ne_eqb v 0 (λ z. omega arith), le-ltb v kinds_from h)

-- one
pub element_here : (v x : ℕ) → kinds_from ≤ v → v < left_out → element_at v x ≡ elements_from ((v - kinds_from) ∷ []) (first_terminal (v - kinds_from) x)
element_here v x h g = rw (le-ltb v kinds_from h, lt-ltb v left_out g)

pub wire-here : (v x : ℕ) → (v ≡ 0 → ⊥) → v < kinds_from → wire_at v x ≡ wire_of (v - 1) x ∷ []
wire-here v x d h = rw (ne_eqb v 0 d, lt-ltb v kinds_from h)

element_point : (i : ℕ) → element_at (kinds_from + 7) (i + 1) ≡ point i ∷ []
element_point i = let z : i + 1 - 1 ≡ i = omega arith in ap (λ (x : ℕ). point x ∷ []) z

element_part : (r i : ℕ) → r < 7 → element_at (kinds_from + r) (i + (part_at r).inputs) ≡ part r i ∷ []
element_part r i h =
    let a : kinds_from + r - kinds_from ≡ r = omega arith in
    let b : i + (part_at r).inputs - (0 + (part_at r).inputs) ≡ i = omega arith in
    rw (le-ltb (kinds_from + r) kinds_from (omega arith), lt-ltb (kinds_from + r) left_out (omega arith), a, ne_eqb r 7 (λ z. omega arith), b)

wire-from : (o x : ℕ) → o < 8192 → wire_at (o + 1) x ≡ wire_of o x ∷ []
wire-from o x h = let z : o + 1 - 1 ≡ o = omega arith in rw (ne_eqb (o + 1) 0 (λ e. omega arith), lt-ltb (o + 1) kinds_from (omega arith), z)

-- ---- what the elements make of the table

-- so many terminals do they take
abbrev pub span : List Element → ℕ
span [] = 0
span (point i ∷ es) = suc (suc (span es))
span (part r i ∷ es) = (part_at r).inputs + suc (span es)

pub tiled-span : (es : List Element) (n e : ℕ) → Tiled es n e → n + span es ≡ e
tiled-span [] n e t = let z : n ≡ e = t in omega arith
tiled-span (point i ∷ es) n e t = omega (arith, tiled-span es (n + 2) e t.1)
tiled-span (part r i ∷ es) n e t = omega (arith, tiled-span es (n + (part_at r).inputs + 1) e t.1)

tiled_up : (es : List Element) (n e : ℕ) → Tiled es n e → n ≤ e
tiled_up es n e t = omega (arith, tiled-span es n e t)

-- one element touches its own terminals only
name-other : (w : List ℕ) (x : Element) (n c y : ℕ) → Own x n c → (n ≤ y → y < c → ⊥) → entry (name_one w x) y ≡ entry w y
name-other w (part r i) n c y o h = entry_other w (i + (part_at r).inputs) y (kinds_from + r) (λ z. h (omega (arith, o.0, o.1)) (omega (arith, o.0, o.1)))
name-other w (point i) n c y o h = by (eqb (entry w (i + 1)) (i + 1))
  where
    by : (b : Bool) → entry (cond b (set w (roots_at + (i + 1)) (kinds_from + 7)) (set (set w (roots_at + i) 0) (roots_at + (i + 1)) left_out)) y ≡ entry w y
    by true = entry_other w (i + 1) y (kinds_from + 7) (λ z. h (omega (arith, o.0, o.1)) (omega (arith, o.0, o.1)))
    by false =
        entry_other (set w (roots_at + i) 0) (i + 1) y left_out (λ z. h (omega (arith, o.0, o.1)) (omega (arith, o.0, o.1)))
        ∙ entry_other w i y 0 (λ z. h (omega (arith, o.0, o.1)) (omega (arith, o.0, o.1)))

pub named-within : (es : List Element) (n e : ℕ) (w : List ℕ) → Tiled es n e → e ≤ 8192 → Within w (named_all w es)
named-within [] n e w t h = within_none w
named-within (point i ∷ es) n e w t h =
    let g = tiled_up es (n + 2) e t.1 in
    within_then (name-within w (point i) n (n + 2) (omega arith) (omega arith) (t.0, refl)) (named-within es (n + 2) e (name_one w (point i)) t.1 h)
named-within (part r i ∷ es) n e w t h =
    let c = n + (part_at r).inputs + 1 in
    let g = tiled_up es c e t.1 in
    within_then (name-within w (part r i) n c (omega arith) (omega arith) (t.0, refl)) (named-within es c e (name_one w (part r i)) t.1 h)

named-below : (es : List Element) (n e : ℕ) (w : List ℕ) (y : ℕ) → Tiled es n e → y < n → entry (named_all w es) y ≡ entry w y
named-below [] n e w y t h = refl
named-below (point i ∷ es) n e w y t h =
    named-below es (n + 2) e (name_one w (point i)) y t.1 (omega arith) ∙ name-other w (point i) n (n + 2) y (t.0, refl) (λ a b. omega arith)
named-below (part r i ∷ es) n e w y t h =
    named-below es (n + (part_at r).inputs + 1) e (name_one w (part r i)) y t.1 (omega arith)
    ∙ name-other w (part r i) n (n + (part_at r).inputs + 1) y (t.0, refl) (λ a b. omega arith)

pub named_past : (es : List Element) (n e : ℕ) (w : List ℕ) (y : ℕ) → Tiled es n e → e ≤ y → entry (named_all w es) y ≡ entry w y
named_past [] n e w y t h = refl
named_past (point i ∷ es) n e w y t h =
    let g = tiled_up es (n + 2) e t.1 in
    named_past es (n + 2) e (name_one w (point i)) y t.1 h ∙ name-other w (point i) n (n + 2) y (t.0, refl) (λ a b. omega arith)
named_past (part r i ∷ es) n e w y t h =
    let g = tiled_up es (n + (part_at r).inputs + 1) e t.1 in
    named_past es (n + (part_at r).inputs + 1) e (name_one w (part r i)) y t.1 h
    ∙ name-other w (part r i) n (n + (part_at r).inputs + 1) y (t.0, refl) (λ a b. omega arith)

module _ (m : Net) where
  -- what stands at an input that is made
  abbrev pub source_of : ℕ → ℕ
  source_of x = cond (is_pin m.pins x) 0 (root m (driver m.wires x 0) + 1)

  -- before the elements are named, from terminal n on
  pub record Fresh (w : List ℕ) (n : ℕ) : Type 0 where
    pub size : memory_size ≤ length w
    pub inputs : (x : ℕ) → n ≤ x → 1 ≤ made_at_lem m.elements x → entry w x ≡ source_of x
    pub outputs : (o : ℕ) → n ≤ o → T (is_out m.elements o) → entry w o ≡ root m o

  fresh-next : (w : List ℕ) (x : Element) (n c : ℕ) → c ≤ 8192 → n ≤ c → Own x n c → Fresh w n → Fresh (name_one w x) c
  fresh-next w x n c h l o f =
      let s = (name-within w x n c (omega arith) h o).size in
      let z = f.size in
      record {
        size = omega arith;
        inputs = λ y g i. name-other w x n c y o (λ a b. omega arith) ∙ f.inputs y (omega arith) i;
        outputs = λ y g t. name-other w x n c y o (λ a b. omega arith) ∙ f.outputs y (omega arith) t;
      }

  -- afterwards
  abbrev LaidPoint : List ℕ → ℕ → Bool → Type 0
  LaidPoint w i true = (entry w i ≡ source_of i) × (entry w (i + 1) ≡ kinds_from + 7)
  LaidPoint w i false = (entry w i ≡ 0) × (entry w (i + 1) ≡ left_out)

  abbrev pub Laid : List ℕ → Element → Type 0
  Laid w (point i) = LaidPoint w i (kept m (point i))
  Laid w (part r i) = ((x : ℕ) → i ≤ x → x < i + (part_at r).inputs → entry w x ≡ source_of x) × (entry w (i + (part_at r).inputs) ≡ kinds_from + r)

  -- an element of the netlist
  abbrev pub Here : Element → Type 0
  Here (point i) = (1 ≤ made_at_lem m.elements i) × (T (is_out m.elements (i + 1)) × T (point_in m.elements i))
  Here (part r i) = ((x : ℕ) → i ≤ x → x < i + (part_at r).inputs → 1 ≤ made_at_lem m.elements x)

  one-laid : (w : List ℕ) (x : Element) (n c : ℕ) → Own x n c → c ≤ 8192 → Here x → Fresh w n → Laid (name_one w x) x
  one-laid w (part r i) n c o h k f =
      let z = f.size in
      let a = o.0 in
      let b = o.1 in (
        λ x l g. entry_other w (i + (part_at r).inputs) x (kinds_from + r) (λ q. omega arith) ∙ f.inputs x (omega arith) (k x l g),
        entry-same w (i + (part_at r).inputs) (kinds_from + r) z (omega arith),
      )
  one-laid w (point i) n c o h k f = rw (← f.outputs (i + 1) (omega (arith, o.0)) k.1.0) (by (eqb (entry w (i + 1)) (i + 1)))
    where
      by : (b : Bool) → LaidPoint (cond b (set w (roots_at + (i + 1)) (kinds_from + 7)) (set (set w (roots_at + i) 0) (roots_at + (i + 1)) left_out)) i b
      by true =
          let z = f.size in
          (entry_other w (i + 1) i (kinds_from + 7) (λ q. omega arith) ∙ f.inputs i (omega (arith, o.0)) k.0, entry-same w (i + 1) (kinds_from + 7) z (omega (arith, o.0, o.1)))
      by false =
          let z = f.size in
          let s = name-within-left in
          (entry_other (set w (roots_at + i) 0) (i + 1) i left_out (λ q. omega arith) ∙ entry-same w i 0 z (omega (arith, o.0, o.1)), entry-same (set w (roots_at + i) 0) (i + 1) left_out (omega arith) (omega (arith, o.0, o.1)))
        where
          name-within-left : length (set w (roots_at + i) 0) ≡ length w
          name-within-left = length-set w (roots_at + i) 0

  -- what is laid stays where its terminals do
  laid-stays : (w v : List ℕ) (x : Element) (n c : ℕ) → Own x n c → ((y : ℕ) → y < c → entry v y ≡ entry w y) → Laid w x → Laid v x
  laid-stays w v (part r i) n c o s l = (λ x a b. s x (omega (arith, o.0, o.1)) ∙ l.0 x a b, s (i + (part_at r).inputs) (omega (arith, o.0, o.1)) ∙ l.1)
  laid-stays w v (point i) n c o s l = by (kept m (point i)) l
    where
      by : (b : Bool) → LaidPoint w i b → LaidPoint v i b
      by true l = (s i (omega (arith, o.0, o.1)) ∙ l.0, s (i + 1) (omega (arith, o.0, o.1)) ∙ l.1)
      by false l = (s i (omega (arith, o.0, o.1)) ∙ l.0, s (i + 1) (omega (arith, o.0, o.1)) ∙ l.1)

  pub all_laid : (es : List Element) (n e : ℕ) (w : List ℕ) → Tiled es n e → e ≤ 8192 → All Here es → Fresh w n → All (Laid (named_all w es)) es
  all_laid [] n e w t h k f = tt
  all_laid (point i ∷ es) n e w t h k f =
      let c = n + 2 in
      let g = tiled_up es c e t.1 in
      let v = name_one w (point i) in
      let own : Own (point i) n c = (t.0, refl) in (
        laid-stays v (named_all v es) (point i) n c own (λ y l. named-below es c e v y t.1 l) (one-laid w (point i) n c own (omega arith) k.0 f),
        all_laid es c e v t.1 h k.1 (fresh-next w (point i) n c (omega arith) (omega arith) own f),
      )
  all_laid (part r i ∷ es) n e w t h k f =
      let c = n + (part_at r).inputs + 1 in
      let g = tiled_up es c e t.1 in
      let v = name_one w (part r i) in
      let own : Own (part r i) n c = (t.0, refl) in (
        laid-stays v (named_all v es) (part r i) n c own (λ y l. named-below es c e v y t.1 l) (one-laid w (part r i) n c own (omega arith) k.0 f),
        all_laid es c e v t.1 h k.1 (fresh-next w (part r i) n c (omega arith) (omega arith) own f),
      )

  -- ---- what the table says, then

  -- roots are terminals, and a kept point that is no pin is its own driver's root
  pub record Roots : Type 0 where
    pub low : (x : ℕ) → 1 ≤ made_at_lem m.elements x → is_pin m.pins x ≡ false → root m (driver m.wires x 0) < 8192
    pub ring : (i : ℕ) → T (point_in m.elements i) → is_pin m.pins i ≡ false → root m (driver m.wires i 0) ≡ root m (i + 1)

  module _ (w : List ℕ) (q : Roots) where
    pub source_low : (x : ℕ) → 1 ≤ made_at_lem m.elements x → source_of x ≤ 8192
    source_low x h = by (is_pin m.pins x) refl
      where
        by : (b : Bool) → is_pin m.pins x ≡ b → cond b 0 (root m (driver m.wires x 0) + 1) ≤ 8192
        by true z = omega arith
        by false z = omega (arith, q.low x h z)

    source-wire : (x : ℕ) → 1 ≤ made_at_lem m.elements x → wire_at (source_of x) x ≡ cond (is_pin m.pins x) [] (wire_of (root m (driver m.wires x 0)) x ∷ [])
    source-wire x h = by (is_pin m.pins x) refl
      where
        by : (b : Bool) → is_pin m.pins x ≡ b → wire_at (cond b 0 (root m (driver m.wires x 0) + 1)) x ≡ cond b [] (wire_of (root m (driver m.wires x 0)) x ∷ [])
        by true z = refl
        by false z = wire-from (root m (driver m.wires x 0)) x (q.low x h z)

    inputs-laid : (c x : ℕ) → ((y : ℕ) → x ≤ y → y < x + c → (1 ≤ made_at_lem m.elements y) × (entry w y ≡ source_of y)) → row_in wire_at roots_at w c x ≡ to_inputs m c x
    inputs-laid zero x h = refl
    inputs-laid (suc c) x h =
        let a = h x (omega arith) (omega arith) in
        rw (a.1, source-wire x a.0, inputs-laid c (x + 1) (λ y l g. h y (omega arith) (omega arith)))

    -- a point's two terminals
    point-elements : (i : ℕ) (rest : List Element) → (b : Bool) → Here (point i) → LaidPoint w i b
        → element_at (entry w i) i ++ (element_at (entry w (i + 1)) (i + 1) ++ rest) ≡ cond b (point i ∷ rest) rest
    point-elements i rest true k l = rw (l.0, l.1, element_input (source_of i) i (omega (arith, source_low i k.0))) (ap (λ (xs : List Element). xs ++ rest) (element_point i))
    point-elements i rest false k l = rw (l.0, l.1)

    point-wires : (i : ℕ) (rest : List Wire) → Here (point i) → Laid w (point i)
        → wire_at (entry w i) i ++ (wire_at (entry w (i + 1)) (i + 1) ++ rest) ≡ to_element m (point i) ++ rest
    point-wires i rest k l = by (kept m (point i)) refl l
      where
        ringed : (p : Bool) → is_pin m.pins i ≡ p → root m (i + 1) ≡ i + 1
            → cond p [] (wire_of (root m (driver m.wires i 0)) i ∷ []) ≡ cond (true && not p) (wire_of (i + 1) i ∷ []) []
        ringed true z e = refl
        ringed false z e = ap (λ (x : ℕ). wire_of x i ∷ []) (q.ring i k.1.1 z ∙ e)

        by : (b : Bool) → kept m (point i) ≡ b → LaidPoint w i b
            → wire_at (entry w i) i ++ (wire_at (entry w (i + 1)) (i + 1) ++ rest) ≡ cond (b && not (is_pin m.pins i)) (wire_of (i + 1) i ∷ []) [] ++ rest
        by true z l = rw (l.0, l.1, source-wire i k.0) (ap (λ (ws : List Wire). ws ++ rest) (ringed (is_pin m.pins i) refl (eqb-true (root m (i + 1)) (i + 1) z)))
        by false z l = rw (l.0, l.1)

    module _ (js : List ℕ) where
      point-makers : (i : ℕ) (b : Bool) → Here (point i) → LaidPoint w i b → (rest : List ℕ → List ℕ)
          → maker_at (entry w i) js ++ (maker_at (entry w (i + 1)) (left_after (entry w i) js) ++ rest (left_after (entry w (i + 1)) (left_after (entry w i) js)))
          ≡ cond b (maker js ∷ rest (drop 1 js)) (rest (drop 1 js))
      point-makers i true k l rest = rw (l.0, l.1, lt-ltb (source_of i) kinds_from (omega (arith, source_low i k.0)))
      point-makers i false k l rest = rw (l.0, l.1)

    -- all of them

    pub elements-are : (es : List Element) (n e : ℕ) → Tiled es n e → All Here es → All Known es → All (Laid w) es → row_in element_at roots_at w (span es) n ≡ keep m es
    elements-are [] n e t k s l = refl
    elements-are (point i ∷ es) n e t k s l =
        let g : n + 1 + 1 ≡ n + 2 = omega arith in
        rw (g, ← t.0, elements-are es (i + 2) e (rw t.0 t.1) k.1 s.1 l.1) (point-elements i (keep m es) (kept m (point i)) k.0 l.0)
    elements-are (part r i ∷ es) n e t k s l =
        let c = (part_at r).inputs in
        rw (row-append element_at roots_at w c (suc (span es)) n, ← t.0, row-none element_at roots_at w c i (λ y a b. rw (l.0.0 y a b) (element_input (source_of y) y (omega (arith, source_low y (k.0 y a b))))), l.0.1, element_part r i s.0, elements-are es (i + c + 1) e (rw t.0 t.1) k.1 s.1 l.1)

    pub wires-are : (es : List Element) (n e : ℕ) → Tiled es n e → All Here es → All Known es → All (Laid w) es → row_in wire_at roots_at w (span es) n ≡ lean_wires m es
    wires-are [] n e t k s l = refl
    wires-are (point i ∷ es) n e t k s l =
        let g : n + 1 + 1 ≡ n + 2 = omega arith in
        rw (g, ← t.0, wires-are es (i + 2) e (rw t.0 t.1) k.1 s.1 l.1) (point-wires i (lean_wires m es) k.0 l.0)
    wires-are (part r i ∷ es) n e t k s l =
        let c = (part_at r).inputs in
        rw (row-append wire_at roots_at w c (suc (span es)) n, ← t.0, inputs-laid c i (λ y a b. (k.0 y a b, l.0.0 y a b)), l.0.1, wire-output (kinds_from + r) (i + c) (omega arith), wires-are es (i + c + 1) e (rw t.0 t.1) k.1 s.1 l.1)

    -- inputs take no maker
    makers-past : (c b x : ℕ) (js : List ℕ) → ((y : ℕ) → x ≤ y → y < x + c → entry w y < kinds_from) → lean_makers_in w (c + b) x js ≡ lean_makers_in w b (x + c) js
    makers-past zero b x js h = let e : 0 + b ≡ b = omega arith in let g : x + 0 ≡ x = omega arith in rw (e, g)
    makers-past (suc c) b x js h =
        let e : suc c + b ≡ suc (c + b) = omega arith in
        let g : x + suc c ≡ x + 1 + c = omega arith in
        rw (e, g, lt-ltb (entry w x) kinds_from (h x (omega arith) (omega arith))) (makers-past c b (x + 1) js (λ y l k. h y (omega arith) (omega arith)))

    pub makers-are : (es : List Element) (n e : ℕ) (js : List ℕ) → Tiled es n e → All Here es → All Known es → All (Laid w) es → lean_makers_in w (span es) n js ≡ keep_makers m es js
    makers-are [] n e js t k s l = refl
    makers-are (point i ∷ es) n e js t k s l =
        let g : n + 1 + 1 ≡ n + 2 = omega arith in
        rw (g, ← t.0, ← makers-are es (i + 2) e (drop 1 js) (rw t.0 t.1) k.1 s.1 l.1) (point-makers js i (kept m (point i)) k.0 l.0 (lean_makers_in w (span es) (i + 2)))
    makers-are (part r i ∷ es) n e js t k s l =
        let c = (part_at r).inputs in
        let b = s.0 in
        rw (← t.0, makers-past c (suc (span es)) i js (λ y a b. rw (l.0.0 y a b) (omega (arith, source_low y (k.0 y a b)))), l.0.1, le-ltb (kinds_from + r) kinds_from (omega arith), lt-ltb (kinds_from + r) left_out (omega arith), makers-are es (i + c + 1) e (drop 1 js) (rw t.0 t.1) k.1 s.1 l.1)

    -- each entry is an input's or an output's
    pub record Fits (x : ℕ) : Type 0 where
      pub input : entry w x < kinds_from → entry w x ≤ 8192
      pub output : kinds_from ≤ entry w x → entry w x < left_out → output_of (entry w x - kinds_from) 0 ≤ x
      pub point : entry w x ≡ kinds_from + 7 → is_pin m.pins (x - 1) ≡ eqb (entry w (x - 1)) 0
      pub left : left_out ≤ entry w x → T (is_out m.elements x)

    source-none : (x : ℕ) → is_pin m.pins x ≡ eqb (source_of x) 0
    source-none x = by (is_pin m.pins x)
      where
        by : (b : Bool) → b ≡ eqb (cond b 0 (root m (driver m.wires x 0) + 1)) 0
        by true = refl
        by false = sym (ne_eqb (root m (driver m.wires x 0) + 1) 0 (λ z. omega arith))

    fits-input : (x : ℕ) → entry w x ≤ 8192 → Fits x
    fits-input x h = record { input = λ l. h; output = λ l g. absurd (omega arith); point = λ l. absurd (omega arith); left = λ l. absurd (omega arith) }

    fits-output : (x k : ℕ) → k < 8 → entry w x ≡ kinds_from + k → output_of k 0 ≤ x → (k ≡ 7 → is_pin m.pins (x - 1) ≡ eqb (entry w (x - 1)) 0) → Fits x
    fits-output x k b e h g = record {
      input = λ l. absurd (omega arith);
      output = λ l g. let z : entry w x - kinds_from ≡ k = omega arith in subst (λ (y : ℕ). output_of y 0 ≤ x) (sym z) h;
      point = λ l. g (omega arith);
      left = λ l. absurd (omega arith);
    }

    pub all_fit : (es : List Element) (n e : ℕ) → Tiled es n e → All Here es → All Known es → All (Laid w) es → (x : ℕ) → n ≤ x → x < e → Fits x
    all_fit [] n e t k s l x a b = absurd (let z : n ≡ e = t in omega arith)
    all_fit (point i ∷ es) n e t k s l x a b =
        elim (dec_le (n + 2) x) [
          | yes g ↦ all_fit es (n + 2) e t.1 k.1 s.1 l.1 x g b
          | no g ↦ elim (ℕ_discrete x i) [
            | yes z ↦ subst Fits (sym z) (first (kept m (point i)) l.0)
            | no z ↦ let o = t.0 in let y : x ≡ i + 1 = omega arith in subst Fits (sym y) (second (kept m (point i)) l.0)
          ]
        ]
      where
        first : (b : Bool) → LaidPoint w i b → Fits i
        first true l = fits-input i (subst (λ (y : ℕ). y ≤ 8192) (sym l.0) (source_low i k.0.0))
        first false l = fits-input i (omega (arith, l.0))

        second : (b : Bool) → LaidPoint w i b → Fits (i + 1)
        second true l =
            fits-output (i + 1) 7 (omega arith) l.1 (omega arith) (λ _. let z : i + 1 - 1 ≡ i = omega arith in rw (z, l.0) (source-none i))
        second false l = record { input = λ g. absurd (omega (arith, l.1)); output = λ f g. absurd (omega (arith, l.1)); point = λ g. absurd (omega (arith, l.1)); left = λ g. k.0.1.0 }
    all_fit (part r i ∷ es) n e t k s l x a b =
        let o = t.0 in
        elim (dec_le (n + (part_at r).inputs + 1) x) [
          | yes g ↦ all_fit es (n + (part_at r).inputs + 1) e t.1 k.1 s.1 l.1 x g b
          | no g ↦ elim (ℕ_discrete x (i + (part_at r).inputs)) [
            | yes z ↦ (let d = s.0 in fits-output x r (omega arith) (ap (entry w) z ∙ l.0.1) (rw (ne_eqb r 7 (λ y. omega arith)) (omega arith)) (λ y. absurd (omega arith)))
            | no z ↦ fits-input x (subst (λ (y : ℕ). y ≤ 8192) (sym (l.0.0 x (omega arith) (omega arith))) (source_low x (k.0 x (omega arith) (omega arith))))
          ]
        ]

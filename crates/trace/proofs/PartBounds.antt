-- How many gates and registers a run has: a sheet has at most 1,024 parts, and in a lean netlist without rings all points are at pins.
-- Assumes nothing.
use Prim.Native.Nat.{ℕ, suc, ◌+◌, ◌≤◌, ◌<◌}
use mathlib.Core.Path.{◌≡◌, refl, sym, ap, ◌∙◌, subst}
use mathlib.Core.Logic.{⊎_elim}
use mathlib.Core.Bool.{Bool, true, false, cond, not, ◌&&◌}
use mathlib.Core.List.{List, [], ◌∷◌, ◌++◌, map}
use native.Mathlib.Omega.{arith}
use native.Mathlib.Decide.{dec_le}
use lib.ListN.{length, get_or, length-append, length-map}
use lib.Dec.{T, eqb, leb, eqb→eq, eqb_refl}
use Rattle.laws.proofs.Tests.{T-is, or_elim, or_left, or_right}
use Rattle.calculus.specs.Answer.{good}
use Rattle.calculus.proofs.Answers.{on-need}
use Rattle.calculus.specs.Terms.{Term, var, lvar, fun, app, lfun, lapp, pair, proj, fix, con, name, nodes, part_at}
use Rattle.calculus.specs.Net.{Interface, inp, out, Element, point, part, wire_of, Net, make}
use Rattle.calculus.specs.Lean.{is_pin, kept, keep, to_element, lean_wires, lean}
use Rattle.calculus.specs.Record.{Among, here, there}
use Rattle.calculus.specs.Translate.{full}
use Rattle.sheet_theorems.proofs.Laying.{laid}
use Rattle.circuit_theorems.specs.Terminals.{has}
use Rattle.circuit_theorems.proofs.Bounds.{part_count, constants, parts-made}
use Rattle.circuit_theorems.proofs.Main.{accepts}
use Rattle.circuit_theorems.proofs.Rings.{pigeon}
use Rattle.trace_calculus.specs.Trace.{OnRing, one_step, then, by_wire, by_point, terminals, in_pins, registers}
use Rattle.trace_theorems.proofs.Owners.{keep_in, pin_map}
use Rattle.trace_theorems.proofs.Sources.{has_left, has_right, out_terminal}
use Rattle.translator.specs.Made.{lent}
use Rattle.trace_steps.specs.Map.{point_entry}
use Rattle.trace_steps.specs.Pins.{counted}
use Rattle.trace_rings.specs.Rings.{met}
use Rattle.trace.specs.Tables.{TableEntry, of_pin, of_wire, of_point, of_part, part_ends, FewParts, Looking, Tabled}
use Rattle.trace.specs.Said.{Runnable, Roomy}
use Rattle.trace.proofs.PinLists.{up_to, upto_is, ins-length, ins-outs}
use Rattle.trace.proofs.RegisterLists.{Collected, collect, registers-length}

outs-parts : (es : List Element) → length (part_ends es) ≡ part_count es
outs-parts [] = refl
outs-parts (point i ∷ es) = outs-parts es
outs-parts (part p i ∷ es) = ap suc (outs-parts es)

-- ---- constants are leaves: with two subterms at most, there are fewer nodes with subterms than half

constants_half : (e : Term) → constants e + constants e ≤ nodes e + 1
constants_half (var i) = omega arith
constants_half (lvar i) = omega arith
constants_half (fun t e) = omega (arith, constants_half e)
constants_half (app f a) = omega (arith, constants_half f, constants_half a)
constants_half (lfun t e) = omega (arith, constants_half e)
constants_half (lapp f a) = omega (arith, constants_half f, constants_half a)
constants_half (pair t a b) = omega (arith, constants_half a, constants_half b)
constants_half (proj a e) = omega (arith, constants_half a, constants_half e)
constants_half (fix t e) = omega (arith, constants_half e)
constants_half (con p t) = omega arith
constants_half (name a e) = omega (arith, constants_half a, constants_half e)

pub sheet-parts : (s : List ℕ) (m : Net) → full s ≡ good m → FewParts m
sheet-parts s m ok =
    let a = accepts s m ok in
    let k = make a.sheet.table a.sheet.term [] 0 in
    let h : length (part_ends k.elements) ≤ 1024 = omega (arith, outs-parts k.elements, parts-made a.sheet.table a.sheet.term [] 0, constants_half a.sheet.term, (laid s a.sheet a.reads).few) in
    subst FewParts a.is h

pub lent-parts : (memory : ℕ) (s : List ℕ) (m : Net) → good m ≡ lent memory s → FewParts m
unfolding lent
lent-parts memory s m e = on-need (leb 32768 memory) 1 0 _ m (sym e) λ h k. sheet-parts s m k

-- ---- the lean netlist has the same parts

keep-parts : (m : Net) (es : List Element) → part_ends (keep m es) ≡ part_ends es
keep-parts m [] = refl
keep-parts m (point i ∷ es) = by (kept m (point i)) (keep-parts m es)
  where
    by : (c : Bool) → part_ends (keep m es) ≡ part_ends es → part_ends (cond c (point i ∷ keep m es) (keep m es)) ≡ part_ends es
    by true e = e
    by false e = e
keep-parts m (part p i ∷ es) = ap (λ (l : List ℕ). (i + (part_at p).inputs) ∷ l) (keep-parts m es)

pub lean-parts : (m : Net) → FewParts m → FewParts (lean m)
unfolding lean
lean-parts m h = subst (λ (l : List ℕ). length l ≤ 1024) (sym (keep-parts m m.elements)) h

-- ---- a kept point whose input is no pin has a wire to itself

in_left : {A : Type 0} {v : A} (xs ys : List A) → Among v xs → Among v (xs ++ ys)
in_left {A = A} {v = v} [] ys x' = elim x' [ ]
in_left (x ∷ xs) ys here = here
in_left (x ∷ xs) ys (there h) = there (in_left xs ys h)

in_right : {A : Type 0} {v : A} (xs ys : List A) → Among v ys → Among v (xs ++ ys)
in_right [] ys h = h
in_right (x ∷ xs) ys h = there (in_right xs ys h)

self_wire : (m : Net) (i : ℕ) (es : List Element) → Among (point i) es → T (kept m (point i)) → is_pin m.pins i ≡ false → Among (wire_of (i + 1) i) (lean_wires m es)
self_wire m i [] x3 k p = elim x3 [ ]
self_wire m i (point j ∷ es) here k p = in_left (to_element m (point i)) (lean_wires m es) (by (kept m (point i)) (is_pin m.pins i) (T-is (kept m (point i)) k) p)
  where
    by : (a b : Bool) → a ≡ true → b ≡ false → Among (wire_of (i + 1) i) (cond (a && not b) (wire_of (i + 1) i ∷ []) [])
    by true false e f = here
    by true true e f = absurd (subst T f tt)
    by false b e f = absurd (subst T (sym e) tt)
self_wire m i (a ∷ es) (there h) k p = in_right (to_element m a) (lean_wires m es) (self_wire m i es h k p)

module _ (m : Net) (free : (x : ℕ) → OnRing (lean m) x → ⊥) where
  pub points_at_pins : (i : ℕ) → Among (point i) (lean m).elements → T (is_pin (lean m).pins i)
  unfolding lean
  points_at_pins i h = by (is_pin m.pins i) refl
    where
      q : Among (point i) m.elements × T (kept m (point i))
      q = keep_in m m.elements h

      by : (b : Bool) → is_pin m.pins i ≡ b → T (is_pin (lean m).pins i)
      by true e = subst T (sym (pin_map m m.pins i ∙ e)) tt
      by false e = absurd (free i (then (by_point i h) (one_step (by_wire (wire_of (i + 1) i) (self_wire m i m.elements q.0 q.1 e)))))

-- ---- so many gates, and so many registers

part_hole : (p i : ℕ) {es : List Element} → Among (part p i) es → T (has (part_ends es) (i + (part_at p).inputs))
part_hole p i (here {xs = es}) = or_left (eqb (i + (part_at p).inputs) (i + (part_at p).inputs)) (has (part_ends es) (i + (part_at p).inputs)) (eqb_refl (i + (part_at p).inputs))
part_hole p i (there {y = point j} {xs = es} h) = part_hole p i h
part_hole p i (there {y = part q j} {xs = es} h) = or_right (eqb (j + (part_at q).inputs) (i + (part_at p).inputs)) (has (part_ends es) (i + (part_at p).inputs)) (part_hole p i h)

abbrev pin_outs : Interface → List ℕ
pin_outs ps = map (λ (i : ℕ). i + 1) (in_pins ps)

pin_hole : (ps : Interface) (i : ℕ) → T (is_pin ps i) → T (has (pin_outs ps) (i + 1))
pin_hole [] i t = absurd t
pin_hole (inp j ∷ ps) i t = or_elim (eqb j i) (is_pin ps i) t
    (λ v. or_left (eqb (j + 1) (i + 1)) (has (pin_outs ps) (i + 1)) (subst (λ (z : ℕ). T (eqb (j + 1) (z + 1))) (eqb→eq j i v) (eqb_refl (j + 1))))
    (λ v. or_right (eqb (j + 1) (i + 1)) (has (pin_outs ps) (i + 1)) (pin_hole ps i v))
pin_hole (out o ∷ ps) i t = pin_hole ps i t

pub registers-few : (m : Net) → FewParts m → length (registers m.elements) ≤ 1024
registers-few m h = omega (arith, fewer m.elements)
  where
    fewer : (es : List Element) → length (registers es) ≤ length (part_ends es)
    fewer [] = omega arith
    fewer (point i ∷ es) = fewer es
    fewer (part p i ∷ es) = by (eqb p 1) (fewer es)
      where
        by : (b : Bool) → length (registers es) ≤ length (part_ends es) → length (cond b (i ∷ registers es) (registers es)) ≤ suc (length (part_ends es))
        by true l = omega arith
        by false l = omega arith

module _ (w : List ℕ) (m : Net) (end pins : ℕ) (t : Tabled w m end pins) (few : FewParts m) (points : (i : ℕ) → Among (point i) m.elements → T (is_pin m.pins i)) where
  ins-few : length (in_pins m.pins) ≤ 128
  ins-few =
      let z = t.size in
      let f = t.few_pins in
      let e : up_to w pins ≡ m.pins = upto_is w pins (omega arith) ∙ t.shown in
      omega (arith, ap (λ (ps : Interface). length (in_pins ps)) e, ins-length w pins, ins-outs w pins)

  abbrev holes : List ℕ
  holes = part_ends m.elements ++ pin_outs m.pins

  holes-few : length holes ≤ 1152
  holes-few = omega (arith, length-append (part_ends m.elements) (pin_outs m.pins), length-map (in_pins m.pins) (λ (i : ℕ). i + 1), ins-few, few)

  -- what looks at something is a part's output, or that of a point at a pin
  looking-hole : (x : ℕ) → T (has (terminals m.elements) x) → Looking (get_or w x 0) → T (has holes x)
  looking-hole x h l = go (t.entries x h) refl
    where
      never : {X : Type 0} → get_or w x 0 < 8192 → X
      never k = absurd (⊎_elim (λ (e : get_or w x 0 ≡ point_entry). omega arith) (λ r. omega (arith, r.0)) l)

      go : {v : ℕ} → TableEntry m x v → v ≡ get_or w x 0 → T (has holes x)
      go (of_pin a b) e = never (let k = t.low x h in let f = t.few in omega arith)
      go (of_wire y a b c) e = never (let k = t.low y (out_terminal m.elements y c) in let f = t.few in omega arith)
      go (of_point i a b) e = has_right (part_ends m.elements) (pin_outs m.pins) x (subst (λ (z : ℕ). T (has (pin_outs m.pins) z)) b (pin_hole m.pins i (points i a)))
      go (of_part p i a b c) e = has_left (part_ends m.elements) (pin_outs m.pins) x (subst (λ (z : ℕ). T (has (part_ends m.elements) z)) b (part_hole p i a))

  pub gates-few : (n : ℕ) (g : ℕ → ℕ) → ((j : ℕ) → j < n → T (has (terminals m.elements) (g j)) × Looking (get_or w (g j) 0)) → ((i j : ℕ) → i < n → j < n → g i ≡ g j → i ≡ j) → n ≤ 1152
  gates-few n g each apart = elim (dec_le n (length holes)) [
    | yes l ↦ omega (arith, holes-few)
    | no l ↦ absurd (twice (pigeon n holes g (omega arith) (λ k hk. looking-hole (g k) (each k hk).0 (each k hk).1)))
  ]
    where
      twice : ((a : ℕ) × (b : ℕ) × (a < b) × (b < n) × (g a ≡ g b)) → ⊥
      twice (a, b, l, h, e) = let q = apart a b (omega arith) h e in omega arith

-- a netlist that can be run has room in the flat layout
pub roomy : (m : Net) (w : List ℕ) (end settled pins : ℕ) → FewParts m → Runnable w (lean m) end settled pins → Roomy w end settled
roomy m w end settled pins few rn = record {
  gates = omega (arith, gates-few w (lean m) end pins rn.tabled (lean-parts m few) (points_at_pins m rn.free) settled (met w) rn.listed rn.order.apart);
  registers = λ v regs ls.
      let e : length (registers (lean m).elements) ≡ regs = registers-length w (lean m) end pins rn.tabled (counted v regs) (subst (Collected w end) (sym ls.whole) (collect w end rn.tabled.size rn.tabled.few)) in
      omega (arith, registers-few (lean m) (lean-parts m few));
}

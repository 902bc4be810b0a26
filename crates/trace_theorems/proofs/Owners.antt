-- An input belongs to one element; a lean wire comes from the root of what drives its target; the first input on a ring is refused. Assumes nothing.
use Prim.Native.Nat.{ℕ, zero, suc, ◌+◌, ◌≤◌}
use mathlib.Core.Path.{◌≡◌, refl, sym, ap, ◌∙◌, subst}
use mathlib.Core.Logic.{◌⊎◌, inl, inr, ⊎_elim}
use mathlib.Core.Bool.{Bool, true, false, cond, not, ◌&&◌, ◌||◌}
use mathlib.Core.List.{List, [], ◌∷◌, ◌++◌, map}
use native.Mathlib.Omega.{arith}
use lib.Dec.{T, eqb, eqb→eq, eqb_refl}
use Rattle.calculus.specs.Answer.{Refusal, Answer, good, refused, refuse}
use Rattle.calculus.specs.Terms.{part_at}
use Rattle.calculus.specs.Net.{inp, out, Interface, Element, point, part, Wire, Net}
use Rattle.calculus.specs.Lean.{driver, is_pin, root, kept, keep, to_inputs, to_element, lean_wires, lean_pin, lean}
use Rattle.calculus.specs.Record.{Among, here, there}
use Rattle.circuit_theorems.specs.Terminals.{has}
use Rattle.circuit_theorems.specs.Formed.{Rising, Formed}
use Rattle.trace_calculus.specs.Trace.{OnRing, inputs, none_on_ring}
use Rattle.laws.proofs.Tests.{or_left, or_right}
use Rattle.circuit_theorems.proofs.Terminals.{point_in}
use Rattle.circuit_theorems.proofs.BackLaws.{point_root}
use Rattle.circuit_theorems.proofs.Terminals.{driver-any, no_ins, point_made}
use Rattle.trace_theorems.proofs.Sources.{point_low, part-from}
use Rattle.trace_theorems.proofs.TraceRings.{accepted, ring_place}

-- ---- the element that has a terminal

abbrev pub start : Element → ℕ
start (point i) = i
start (part p i) = i

abbrev pub last : Element → ℕ
last (point i) = i + 1
last (part p i) = i + (part_at p).inputs

low : {es : List Element} {b : Element} (n e : ℕ) → Among b es → Rising es n e → n ≤ start b
low {b = point i} n e h r = point_low n e h r
low {b = part p i} n e h r = part-from n e h r

above : (a : Element) (es : List Element) (n e : ℕ) → Rising (a ∷ es) n e → Rising es (last a + 1) e
above (point i) es n e r = let q : i + 2 ≡ i + 1 + 1 = omega arith in subst (λ (z : ℕ). Rising es z e) q r.1
above (part p i) es n e r = r.1

-- two elements that share a terminal are one
pub same_owner : {a b : Element} {es : List Element} (n e x : ℕ) → Rising es n e → Among a es → Among b es → start a ≤ x → x ≤ last a → start b ≤ x → x ≤ last b → a ≡ b
same_owner n e x r here here _ _ _ _ = refl
same_owner {a = a} n e x r (here {xs = es}) (there h) l k l' k' = absurd (let z = low (last a + 1) e h (above a es n e r) in omega arith)
same_owner {b = b} n e x r (there h) (here {xs = es}) l k l' k' = absurd (let z = low (last b + 1) e h (above b es n e r) in omega arith)
same_owner n e x r (there {y = c} {xs = es} h) (there g) l k l' k' = same_owner (last c + 1) e x (above c es n e r) h g l k l' k'

-- ---- members

pub in_cons : {A : Type 0} {v : A} (x : A) (xs : List A) → Among v (x ∷ xs) → (v ≡ x) ⊎ Among v xs
in_cons x xs here = inl refl
in_cons x xs (there h) = inr h

in_one : {A : Type 0} {v : A} (x : A) → Among v (x ∷ []) → v ≡ x
in_one x h = ⊎_elim (λ e. e) (λ g. elim g [ ]) (in_cons x [] h)

-- ---- what the lean netlist keeps

pub keep_in : (m : Net) {a : Element} (es : List Element) → Among a (keep m es) → Among a es × T (kept m a)
keep_in m [] h = elim h [ ]
keep_in m {a} (b ∷ es) h = by (kept m b) refl h (keep_in m es)
  where
    by : (c : Bool) → kept m b ≡ c → Among a (cond c (b ∷ keep m es) (keep m es)) → (Among a (keep m es) → Among a es × T (kept m a)) → Among a (b ∷ es) × T (kept m a)
    by true q h f =
        ⊎_elim (λ (e : a ≡ b). subst (λ (z : Element). Among z (b ∷ es) × T (kept m z)) (sym e) (here, subst (λ (c : Bool). T c) (sym q) tt))
        (λ g. let r = f g in (there r.0, r.1)) (in_cons b (keep m es) h)
    by false q h f = let r = f h in (there r.0, r.1)

pub in_keep : (m : Net) {a : Element} {es : List Element} → Among a es → T (kept m a) → Among a (keep m es)
in_keep m {a} (here {xs = es}) t = by (kept m a) t
  where
    by : (c : Bool) → T c → Among a (cond c (a ∷ keep m es) (keep m es))
    by true t = here
    by false t = absurd t
in_keep m {a} (there {y = b} {xs = es} h) t = by (kept m b) (in_keep m h t)
  where
    by : (c : Bool) → Among a (keep m es) → Among a (cond c (b ∷ keep m es) (keep m es))
    by true h = there h
    by false h = h

pub point_in_lem : {i : ℕ} {es : List Element} → Among (point i) es → T (point_in es i)
point_in_lem {i = i} (here {xs = es}) = or_left (eqb i i) (point_in es i) (eqb_refl i)
point_in_lem {i = i} (there {y = point j} {xs = es} h) = or_right (eqb j i) (point_in es i) (point_in_lem h)
point_in_lem {i = i} (there {y = part p j} {xs = es} h) = point_in_lem h

-- an input pin stays one
pub pin_map : (m : Net) (ps : Interface) (i : ℕ) → is_pin (map (lean_pin m) ps) i ≡ is_pin ps i
pin_map m [] i = refl
pin_map m (inp j ∷ ps) i = ap (λ (b : Bool). eqb j i || b) (pin_map m ps i)
pin_map m (out o ∷ ps) i = pin_map m ps i

-- ---- the lean wires

in_append : {A : Type 0} {v : A} (xs ys : List A) → Among v (xs ++ ys) → Among v xs ⊎ Among v ys
in_append [] ys h = inr h
in_append (x ∷ xs) ys here = inl here
in_append (x ∷ xs) ys (there h) = ⊎_elim (λ g. inl (there g)) inr (in_append xs ys h)

-- it comes from the root of what drives its target, and its target is no pin
pub record FromRoot (m : Net) (v : Wire) : Type 0 where
  pub free : is_pin m.pins v.to ≡ false
  pub root_of_lem : v.from ≡ root m (driver m.wires v.to 0)

module _ (m : Net) (ok : Formed m) where
  inputs-root : (k i : ℕ) {v : Wire} → Among v (to_inputs m k i) → FromRoot m v
  inputs-root zero i h = elim h [ ]
  inputs-root (suc k) i {v} h = ⊎_elim (λ g. by (is_pin m.pins i) refl g) (λ g. inputs-root k (i + 1) g) (in_append (cond (is_pin m.pins i) [] (record { from = root m (driver m.wires i 0); to = i } ∷ [])) (to_inputs m k (i + 1)) h)
    where
      by : (b : Bool) → is_pin m.pins i ≡ b → Among v (cond b [] (record { from = root m (driver m.wires i 0); to = i } ∷ [])) → FromRoot m v
      by true q g = elim g [ ]
      by false q g = subst (FromRoot m) (sym (in_one (record { from = root m (driver m.wires i 0); to = i }) g)) (record { free = q; root_of_lem = refl })

  element-root : (a : Element) → Among a m.elements → {v : Wire} → Among v (to_element m a) → FromRoot m v
  element-root (part p i) a h = inputs-root (part_at p).inputs i h
  element-root (point i) a {v} h = by (kept m (point i)) (is_pin m.pins i) refl refl h
    where
      by : (b c : Bool) → kept m (point i) ≡ b → is_pin m.pins i ≡ c → Among v (cond (b && not c) (record { from = i + 1; to = i } ∷ []) []) → FromRoot m v
      by false c q r g = elim g [ ]
      by true true q r g = elim g [ ]
      by true false q r g = subst (FromRoot m) (sym (in_one (record { from = i + 1; to = i }) g)) (record {
        free = r;
        root_of_lem =
            sym (eqb→eq (root m (i + 1)) (i + 1) (subst (λ (b : Bool). T b) (sym q) tt))
            ∙ point_root m i (point_in_lem a) r
            ∙ ap (root m) (driver-any m.wires i (i + 1) 0 (omega (arith, ok.reached i, no_ins m.pins i r, point_made m.elements i (point_in_lem a))));
      })

  all-root : (es : List Element) → ((a : Element) → Among a es → Among a m.elements) → {v : Wire} → Among v (lean_wires m es) → FromRoot m v
  all-root [] f h = elim h [ ]
  all-root (a ∷ es) f h = ⊎_elim (λ g. element-root a (f a here) g) (λ g. all-root es (λ b k. f b (there k)) g) (in_append (to_element m a) (lean_wires m es) h)

  pub lean-root : {v : Wire} → Among v (lean m).wires → FromRoot m v
  unfolding lean
  lean-root h = all-root m.elements (λ a k. k) h

-- ---- refusal 19

-- an input on a ring, below which no input is on any: 19 is given there
pub ring_is : (m : Net) (ok : Formed m) (b : ℕ) → T (has (inputs m.elements) b) → OnRing m b → ((i : ℕ) → T (has (inputs m.elements) i) → OnRing m i → b ≤ i) → none_on_ring m (inputs m.elements) ≡ refuse 19 b
ring_is m ok b t r f = go (none_on_ring m (inputs m.elements)) refl
  where
    go : (a : Answer (Unit {0})) → none_on_ring m (inputs m.elements) ≡ a → none_on_ring m (inputs m.elements) ≡ refuse 19 b
    go (good tt) q = absurd (accepted m ok q b r)
    go (refused why) q =
        let l = ring_place m ok why q in
        let e : why.place ≡ b = (let u = l.lowest b t r in let v = f why.place l.listed l.ring in omega arith) in
        q ∙ ap (λ (r : Refusal). refused r) l.nineteen ∙ ap (refuse 19) e

-- The lean netlist that comes back has the same parts with the same drivers, by its own wires and pins (document 02, L11). Both netlists
-- are held against the list of gates, and each input has one driver. Assumes nothing.
use Prim.Native.Nat.{ℕ, zero, suc, ◌+◌, ◌-◌, ◌*◌, ◌<◌, ◌≤◌}
use mathlib.Core.Path.{◌≡◌, refl, sym, ap, subst, ◌∙◌}
use mathlib.Core.Logic.{inl, inr}
use mathlib.Core.Bool.{Bool, true, false, cond, not, ◌||◌}
use mathlib.Core.List.{List, [], ◌∷◌, ◌++◌, append_assoc}
use native.Mathlib.Omega.{arith}
use native.Mathlib.Nat.{le_refl, add-zero}
use native.Mathlib.Numerals.{add-one}
use lib.Dec.{T, eqb, leb, le→leb, leb→le, eqb_refl}
use lib.ListN.{length, get_or}
use Rattle.laws.proofs.Tests.{or_left, or_right, by_eqb, and_of, and_both, T-is, is_false, not_true, false_not, false_not_T}
use Rattle.calculus.specs.Terms.{part_at}
use Rattle.calculus.specs.Net.{Terminal, inp, out, Interface, Element, point, part, Wire, Net, part_side}
use Rattle.calculus.specs.Lean.{driver}
use Rattle.calculus.specs.Inputs.{ins, made_at_lem, targets, has_wire, is_out}
use Rattle.calculus.specs.Record.{All, Among, here, there}
use Rattle.circuit_theorems.specs.Formed.{Rising, Formed}
use Rattle.circuit_theorems.proofs.Terminals.{made-low, made_one, unique}
use Rattle.back_calculus.specs.Back.{DrivenBy, undriven, output, Gate, part_before, sources, undrivens, gates_from, gates, open_ins, points_from, inputs_from, parts_from, outputs_from, output_at, source_at, gate_wires, all_wires, back_net}
use Rattle.back_calculus.specs.Promises.{PartOnly, Returns}
use Rattle.back_calculus.specs.Drivers.{NthPart, this_part, past_point, past_part, RunsTo, FromPart, is_undriven, undriven_below, NthUndriven, FromPin, SameDriver, SameDrivers}
use Rattle.back_theorems.proofs.Typing.{SourceIn, GateIn}
use Rattle.back_theorems.proofs.CameBack.{gates-length, gates_in}

-- ---- lists

all_among : {A : Type 0} (P : A → Type 0) (x : A) (xs : List A) → All P xs → Among x xs → P x
all_among {A = A} P x [] a x3 = elim x3 [ ]
all_among P x (y ∷ xs) a here = a.0
all_among P x (y ∷ xs) a (there h) = all_among P x xs a.1 h

among-behind : {A : Type 0} (xs : List A) (x : A) (ys : List A) → Among x (xs ++ x ∷ ys)
among-behind [] x ys = here
among-behind (y ∷ xs) x ys = there (among-behind xs x ys)

-- ---- elements and the list of gates

-- each of these sources drives its terminal, from terminal i on
abbrev InsHold : (DrivenBy → ℕ → Type 0) → List DrivenBy → ℕ → Type 0
InsHold D [] i = Unit {0}
InsHold D (s ∷ ss) i = D s i × InsHold D ss (i + 1)

abbrev Gated : (DrivenBy → ℕ → Type 0) → List Element → List Gate → Type 0
Gated D [] [] = Unit {0}
Gated D [] (g ∷ gs) = ⊥
Gated D (point i ∷ es) gs = Gated D es gs
Gated D (part p i ∷ es) [] = ⊥
Gated D (part p i ∷ es) (g ∷ gs) = (g.part ≡ p) × (length g.ins ≡ (part_at p).inputs) × InsHold D g.ins i × Gated D es gs

abbrev no_gate : Gate
no_gate = record { part = 0; ins = [] }

record GateAt (D : DrivenBy → ℕ → Type 0) (gs : List Gate) (k p i : ℕ) : Type 0 where
  low : k < length gs
  part_is : (get_or gs k no_gate).part ≡ p
  whole : length (get_or gs k no_gate).ins ≡ (part_at p).inputs
  holds : InsHold D (get_or gs k no_gate).ins i

module _ (D : DrivenBy → ℕ → Type 0) where
  gate-at : (es : List Element) (gs : List Gate) (k p i : ℕ) → Gated D es gs → NthPart es k p i → GateAt D gs k p i
  gate-at [] gs k p i h n = elim n [ ]
  gate-at (point x ∷ es) gs k p i h (past_point n) = gate-at es gs k p i h n
  gate-at (part r x ∷ es) [] k p i h n = absurd h
  gate-at (part r x ∷ es) (g ∷ gs) k p i h this_part = record { low = omega arith; part_is = h.0; whole = h.1; holds = h.2 }
  gate-at (part r x ∷ es) (g ∷ gs) (suc k) p i h (past_part n) =
      let t = gate-at es gs k p i h.3 n in
      record { low = omega (arith, t.low); part_is = t.part_is; whole = t.whole; holds = t.holds }

  part-there : (es : List Element) (gs : List Gate) (k : ℕ) → Gated D es gs → k < length gs → (i : ℕ) × NthPart es k (get_or gs k no_gate).part i
  part-there [] [] k h l = absurd (omega arith)
  part-there [] (g ∷ gs) k h l = absurd h
  part-there (point x ∷ es) gs k h l = let r = part-there es gs k h l in (r.0, past_point r.1)
  part-there (part p i ∷ es) [] k h l = absurd h
  part-there (part p i ∷ es) (g ∷ gs) zero h l = (i, subst (λ (z : ℕ). NthPart (part p i ∷ es) zero z i) (sym h.0) this_part)
  part-there (part p i ∷ es) (g ∷ gs) (suc k) h l = let r = part-there es gs k h.3 (let z : suc k < suc (length gs) = l in omega arith) in (r.0, past_part r.1)

module _ (D E : DrivenBy → ℕ → Type 0) where
  parts_to : (es fs : List Element) (gs : List Gate) → Gated D es gs → Gated E fs gs → (k p : ℕ) → ((i : ℕ) × NthPart es k p i) → ((j : ℕ) × NthPart fs k p j)
  parts_to es fs gs h g k p (i, n) =
      let a = gate-at D es gs k p i h n in
      let r = part-there E fs gs k g a.low in
      (r.0, subst (λ (z : ℕ). NthPart fs k z r.0) a.part_is r.1)

  source_of : (ss : List DrivenBy) (i j x : ℕ) → InsHold D ss i → InsHold E ss j → x < length ss → (s : DrivenBy) × D s (i + x) × E s (j + x)
  source_of [] i j x h g l = absurd (omega arith)
  source_of (s ∷ ss) i j zero h g l = (s, subst (D s) (sym (add-zero i)) h.0, subst (E s) (sym (add-zero j)) g.0)
  source_of (s ∷ ss) i j (suc x) h g l =
      let r = source_of ss (i + 1) (j + 1) x h.1 g.1 (let z : suc x < suc (length ss) = l in omega arith) in
      let u : i + 1 + x ≡ i + suc x = omega arith in
      let v : j + 1 + x ≡ j + suc x = omega arith in
      (r.0, subst (D r.0) u r.1, subst (E r.0) v r.2)

  source-at : (es fs : List Element) (gs : List Gate) → Gated D es gs → Gated E fs gs → (k p i j : ℕ) → NthPart es k p i → NthPart fs k p j → (x : ℕ) → x < (part_at p).inputs
      → (s : DrivenBy) × D s (i + x) × E s (j + x)
  source-at es fs gs h g k p i j n o x l =
      let a = gate-at D es gs k p i h n in
      let b = gate-at E fs gs k p j g o in
      source_of (get_or gs k no_gate).ins i j x a.holds b.holds (omega (arith, a.whole))

-- ---- one driver for each input

nth_low : (es : List Element) (n e k p i : ℕ) → Rising es n e → NthPart es k p i → n ≤ i
nth_low [] n e k p i r x'' = elim x'' [ ]
nth_low (point x ∷ es) n e k p i r (past_point h) = omega (arith, r.0, nth_low es (x + 2) e k p i r.1 h)
nth_low (part q x ∷ es) n e k p i r this_part = r.0
nth_low (part q x ∷ es) n e (suc k) p i r (past_part h) = omega (arith, r.0, nth_low es (x + (part_at q).inputs + 1) e k p i r.1 h)

point_low : (es : List Element) (n e y : ℕ) → Rising es n e → Among (point y) es → n ≤ y
point_low [] n e y r x'' = elim x'' [ ]
point_low (point x ∷ es) n e y r here = r.0
point_low (point x ∷ es) n e y r (there h) = omega (arith, r.0, point_low es (x + 2) e y r.1 h)
point_low (part q x ∷ es) n e y r (there h) = omega (arith, r.0, point_low es (x + (part_at q).inputs + 1) e y r.1 h)

-- no two parts have one output
part-once : (es : List Element) (n e k l p q i j : ℕ) → Rising es n e → NthPart es k p i → NthPart es l q j → i + (part_at p).inputs ≡ j + (part_at q).inputs → k ≡ l
part-once [] n e k l p q i j r x4 _ u = elim x4 [ ]
part-once (point x ∷ es) n e k l p q i j r (past_point g) (past_point h) u = part-once es (x + 2) e k l p q i j r.1 g h u
part-once (part a x ∷ es) n e k l p q i j r this_part this_part u = refl
part-once (part a x ∷ es) n e k (suc l) p q i j r this_part (past_part h) u = absurd (let z = nth_low es (x + (part_at a).inputs + 1) e l q j r.1 h in omega arith)
part-once (part a x ∷ es) n e (suc k) l p q i j r (past_part g) this_part u = absurd (let z = nth_low es (x + (part_at a).inputs + 1) e k p i r.1 g in omega arith)
part-once (part a x ∷ es) n e (suc k) (suc l) p q i j r (past_part g) (past_part h) u = ap suc (part-once es (x + (part_at a).inputs + 1) e k l p q i j r.1 g h u)

-- .. nor a point and a part
point_or_part : (es : List Element) (n e y k p i : ℕ) → Rising es n e → Among (point y) es → NthPart es k p i → y + 1 ≡ i + (part_at p).inputs → ⊥
point_or_part [] n e y k p i r x4 _ u = elim x4 [ ]
point_or_part (point x ∷ es) n e y k p i r here (past_point h) u = let z = nth_low es (x + 2) e k p i r.1 h in omega arith
point_or_part (point x ∷ es) n e y k p i r (there g) (past_point h) u = point_or_part es (x + 2) e y k p i r.1 g h u
point_or_part (part a x ∷ es) n e y k p i r (there g) this_part u = let z = point_low es (x + (part_at a).inputs + 1) e y r.1 g in omega arith
point_or_part (part a x ∷ es) n e y (suc k) p i r (there g) (past_part h) u = point_or_part es (x + (part_at a).inputs + 1) e y k p i r.1 g h u

-- no pin stands twice
ins-more : (t : Terminal) (ps : Interface) (y : ℕ) → ins ps y ≤ ins (t ∷ ps) y
ins-more (inp j) ps y = omega arith
ins-more (out o) ps y = omega arith

not_out : {o y : ℕ} → ◌≡◌ {A = Terminal} (out o) (inp y) → ⊥
not_out e = let z : ◌≡◌ {A = ℕ} 0 1 = cc in omega arith

ins_here : (t : Terminal) (ps : Interface) (y : ℕ) → t ≡ inp y → ins (t ∷ ps) y ≡ 1 + ins ps y
ins_here t ps y e = ap (λ (x : Terminal). ins (x ∷ ps) y) e ∙ ap (λ (b : Bool). cond b 1 0 + ins ps y) (T-is (eqb y y) (eqb_refl y))

pin_counted : (ps : Interface) (n y : ℕ) → get_or ps n (out 0) ≡ inp y → 1 ≤ ins ps y
pin_counted [] n y e = absurd (not_out e)
pin_counted (t ∷ ps) zero y e = omega (arith, ins_here t ps y e)
pin_counted (t ∷ ps) (suc n) y e = omega (arith, ins-more t ps y, pin_counted ps n y e)

pin_once : (ps : Interface) (n k y : ℕ) → get_or ps n (out 0) ≡ inp y → get_or ps k (out 0) ≡ inp y → ins ps y ≤ 1 → n ≡ k
pin_once [] n k y e f l = absurd (not_out e)
pin_once (t ∷ ps) zero zero y e f l = refl
pin_once (t ∷ ps) zero (suc k) y e f l = absurd (omega (arith, ins_here t ps y e, pin_counted ps k y f))
pin_once (t ∷ ps) (suc n) zero y e f l = absurd (omega (arith, ins_here t ps y f, pin_counted ps n y e))
pin_once (t ∷ ps) (suc n) (suc k) y e f l = ap suc (pin_once ps n k y e f (omega (arith, ins-more t ps y)))

runs-has : (ws : List Wire) (o x : ℕ) → Among (record { from = o; to = x }) ws → T (has_wire ws x)
runs-has [] o x x3 = elim x3 [ ]
runs-has (w ∷ ws) o x here = or_left (eqb x x) (has_wire ws x) (eqb_refl x)
runs-has (w ∷ ws) o x (there h) = or_right (eqb w.to x) (has_wire ws x) (runs-has ws o x h)

module _ (m : Net) (ok : Formed m) where
  targets-one : (x : ℕ) → targets m.wires x ≤ 1
  targets-one x = omega (arith, ok.reached x, made_one m.elements 0 ok.end x ok.rising)

  pins-one : (x : ℕ) → ins m.pins x ≤ 1
  pins-one x = omega (arith, ok.reached x, made_one m.elements 0 ok.end x ok.rising)

  one_wire : (o u x : ℕ) → RunsTo m o x → RunsTo m u x → o ≡ u
  one_wire o u x g h = sym (found o g) ∙ found u h
    where
      found : (o : ℕ) → RunsTo m o x → driver m.wires x 0 ≡ o
      found o g = all_among (λ w. (d : ℕ) → driver m.wires w.to d ≡ w.from) (record { from = o; to = x }) m.wires (unique m.wires targets-one) g 0

  one_part : (k l x : ℕ) → FromPart m k x → FromPart m l x → k ≡ l
  one_part k l x (p, i, n, g) (q, j, o, h) = part-once m.elements 0 ok.end k l p q i j ok.rising n o (one_wire _ _ x g h)

  not_both : (n k x : ℕ) → FromPin m n x → FromPart m k x → ⊥
  not_both n k x f (p, i, o, h) = point_or_part m.elements 0 ok.end f.input k p i ok.rising f.a_point o (one_wire _ _ x f.runs h)

  one-pin : (n k x : ℕ) → FromPin m n x → FromPin m k x → n ≡ k
  one-pin n k x f g =
      let e : f.input + 1 ≡ g.input + 1 = one_wire _ _ x f.runs g.runs in
      let i : g.input ≡ f.input = omega arith in
      pin_once m.pins n k f.input f.a_pin (g.a_pin ∙ ap inp i) (pins-one f.input)

undriven_not : (m : Net) (n q x : ℕ) → NthUndriven m n x → FromPart m q x → ⊥
undriven_not m n q x (t, e) (p, i, o, h) =
    false_not_T (has_wire m.wires x) (not_true (has_wire m.wires x) (and_both (leb 1 (made_at_lem m.elements x)) (not (has_wire m.wires x)) t).1) (runs-has m.wires _ x h)

-- ---- in the netlist that was given

abbrev OldDriver : Net → DrivenBy → ℕ → Type 0
OldDriver m (undriven n) x = NthUndriven m n x
OldDriver m (output q) x = FromPart m q x

-- .. and in the one that comes back
abbrev NewDriver : Net → DrivenBy → ℕ → Type 0
NewDriver b (undriven n) x = FromPin b n x
NewDriver b (output q) x = FromPart b q x

same-driver : (m b : Net) → Formed m → Formed b → (x y : ℕ) (s : DrivenBy) → OldDriver m s x → NewDriver b s y → SameDriver m b x y
same-driver m b f g x y (output q) d e = record {
  by_part = λ k. ((λ h. subst (λ (z : ℕ). FromPart b z y) (one_part m f q k x d h) e), (λ h. subst (λ (z : ℕ). FromPart m z x) (one_part b g q k y e h) d));
  by_pin = λ n. ((λ h. absurd (undriven_not m n q x h d)), (λ h. absurd (not_both b g n q y h e)));
  one_of = inl (q, d);
}
same-driver m b f g x y (undriven n) d e = record {
  by_part = λ k. ((λ h. absurd (undriven_not m n k x d h)), (λ h. absurd (not_both b g n k y e h)));
  by_pin = λ k. ((λ h. subst (λ (z : ℕ). FromPin b z y) (sym d.1 ∙ h.1) e), (λ h. subst (λ (z : ℕ). NthUndriven m z x) (one-pin b g n k y e h) d));
  one_of = inr (n, d);
}

-- ---- the gates of the netlist that was given

side_in : (k i x : ℕ) → i ≤ x → x < i + k → 1 ≤ ins (part_side k i) x
side_in zero i x a b = absurd (omega arith)
side_in (suc k) i x a b =
    by_eqb (λ c. 1 ≤ cond c 1 0 + ins (part_side k (i + 1)) x) i x (λ e. omega arith) (λ d. omega (arith, side_in k (i + 1) x (past d) (omega arith)))
  where
    past : ¬ (i ≡ x) → i + 1 ≤ x
    past d = omega arith

side_out : (k i x : ℕ) → i + k ≤ x → ins (part_side k i) x ≡ 0
side_out zero i x a = refl
side_out (suc k) i x a = by_eqb (λ c. cond c 1 0 + ins (part_side k (i + 1)) x ≡ 0) i x (λ e. absurd (omega arith)) (λ d. omega (arith, side_out k (i + 1) x (omega arith)))

by_bool : (F : Bool → Type 0) (b : Bool) → (b ≡ true → F true) → (b ≡ false → F false) → F b
by_bool F true f g = f refl
by_bool F false f g = g refl

-- the wire that `driver` finds
driver-runs : (ws : List Wire) (x : ℕ) → T (has_wire ws x) → Among (record { from = driver ws x 0; to = x }) ws
driver-runs [] x t = absurd t
driver-runs (w ∷ ws) x t =
    by_eqb (λ b. T (b || has_wire ws x) → Among (record { from = cond b w.from (driver ws x 0); to = x }) (w ∷ ws)) w.to x
    (λ e h. subst (λ (z : ℕ). Among (record { from = w.from; to = z }) (w ∷ ws)) e here) (λ d h. there (driver-runs ws x h)) t

nth_of : (es : List Element) (o : ℕ) → All PartOnly es → T (is_out es o) → (p : ℕ) × (i : ℕ) × NthPart es (part_before es o) p i × (i + (part_at p).inputs ≡ o)
nth_of [] o a t = absurd t
nth_of (point i ∷ es) o a t = absurd a.0
nth_of (part p i ∷ es) o a t =
    by_eqb (λ b. T (b || is_out es o) → (q : ℕ) × (j : ℕ) × NthPart (part p i ∷ es) (cond b 0 (suc (part_before es o))) q j × (j + (part_at q).inputs ≡ o)) (i + (part_at p).inputs) o
    (λ e h. (p, i, this_part, e)) (λ d h. let r = nth_of es o a.1 h in (r.0, r.1, past_part r.2, r.3)) t

module _ (m : Net) (parts : All PartOnly m.elements) (from : All (λ w. T (is_out m.elements w.from)) m.wires) where
  none_here : (x : ℕ) → (T (is_undriven m x) → ⊥) → undriven_below m (x + 1) ≡ undriven_below m x
  none_here x f =
      let z : 0 + undriven_below m x ≡ undriven_below m x = omega arith in
      ap (undriven_below m) (add-one x) ∙ ap (λ (b : Bool). cond b 1 0 + undriven_below m x) (is_false (is_undriven m x) f) ∙ z

  parts_of_lem : (x : ℕ) → T (is_undriven m x) → (1 ≤ made_at_lem m.elements x) × (has_wire m.wires x ≡ false)
  parts_of_lem x t =
      let b = and_both (leb 1 (made_at_lem m.elements x)) (not (has_wire m.wires x)) t in
      (leb→le 1 (made_at_lem m.elements x) b.0, not_true (has_wire m.wires x) b.1)

  closed : (x : ℕ) → made_at_lem m.elements x ≡ 0 → undriven_below m (x + 1) ≡ undriven_below m x
  closed x e = none_here x (λ t. omega (arith, (parts_of_lem x t).0))

  gap : (n d : ℕ) → ((x : ℕ) → n ≤ x → x < n + d → made_at_lem m.elements x ≡ 0) → undriven_below m (n + d) ≡ undriven_below m n
  gap n zero f = ap (undriven_below m) (add-zero n)
  gap n (suc d) f =
      let e : n + suc d ≡ n + d + 1 = omega arith in
      ap (undriven_below m) e ∙ closed (n + d) (f (n + d) (omega arith) (omega arith)) ∙ gap n d (λ x a b. f x a (omega arith))

  from-part : (x : ℕ) → T (has_wire m.wires x) → FromPart m (part_before m.elements (driver m.wires x 0)) x
  from-part x t =
      let h = driver-runs m.wires x t in
      let r = nth_of m.elements (driver m.wires x 0) parts (all_among (λ w. T (is_out m.elements w.from)) (record { from = driver m.wires x 0; to = x }) m.wires from h) in
      (r.0, r.1, r.2, subst (λ (z : ℕ). RunsTo m z x) (sym r.3) h)

  is_open : (x : ℕ) → 1 ≤ made_at_lem m.elements x → has_wire m.wires x ≡ false → T (is_undriven m x)
  is_open x a e = and_of (leb 1 (made_at_lem m.elements x)) (not (has_wire m.wires x)) (le→leb 1 (made_at_lem m.elements x) a) (false_not (has_wire m.wires x) e)

  one_more : (x j : ℕ) → T (is_undriven m x) → undriven_below m x ≡ j → undriven_below m (x + 1) ≡ suc j
  one_more x j t e =
      let z : 1 + undriven_below m x ≡ suc j = omega arith in
      ap (undriven_below m) (add-one x) ∙ ap (λ (b : Bool). cond b 1 0 + undriven_below m x) (T-is (is_undriven m x) t) ∙ z

  none_more : (x j : ℕ) → T (has_wire m.wires x) → undriven_below m x ≡ j → undriven_below m (x + 1) ≡ j
  none_more x j t e = none_here x (λ u. false_not_T (has_wire m.wires x) (parts_of_lem x u).1 t) ∙ e

  sources-whole : (k i j : ℕ) → length (sources m k i j) ≡ k
  sources-whole zero i j = refl
  sources-whole (suc k) i j =
      by_bool (λ b. length (cond b (output (part_before m.elements (driver m.wires i 0)) ∷ sources m k (i + 1) j) (undriven j ∷ sources m k (i + 1) (suc j))) ≡ suc k) (has_wire m.wires i)
      (λ t. ap suc (sources-whole k (i + 1) j)) (λ t. ap suc (sources-whole k (i + 1) (suc j)))

  old-ins : (k i j : ℕ) → undriven_below m i ≡ j → ((x : ℕ) → i ≤ x → x < i + k → 1 ≤ made_at_lem m.elements x)
      → InsHold (OldDriver m) (sources m k i j) i × (undriven_below m (i + k) ≡ j + undrivens (sources m k i j))
  old-ins zero i j e f = (tt, omega (arith, ap (undriven_below m) (add-zero i), e))
  old-ins (suc k) i j e f =
      let z : i + suc k ≡ i + 1 + k = omega arith in
      by_bool (λ b. let ss = cond b (output (part_before m.elements (driver m.wires i 0)) ∷ sources m k (i + 1) j) (undriven j ∷ sources m k (i + 1) (suc j)) in
      InsHold (OldDriver m) ss i × (undriven_below m (i + suc k) ≡ j + undrivens ss)) (has_wire m.wires i)
      (λ t. let r = old-ins k (i + 1) j (none_more i j (subst T (sym t) tt) e) (λ x a b. f x (omega arith) (omega arith)) in ((from-part i (subst T (sym t) tt), r.0), ap (undriven_below m) z ∙ r.1))
      (λ t. let o = is_open i (f i (omega arith) (omega arith)) t in
      let r = old-ins k (i + 1) (suc j) (one_more i j o e) (λ x a b. f x (omega arith) (omega arith)) in (((o, e), r.0), ap (undriven_below m) z ∙ r.1 ∙ omega arith))

  module _ (end : ℕ) where
    old-gated : (es : List Element) (n j : ℕ) → Rising es n end → All PartOnly es → undriven_below m n ≡ j → ((x : ℕ) → n ≤ x → made_at_lem m.elements x ≡ made_at_lem es x)
        → Gated (OldDriver m) es (gates_from m es j)
    old-gated [] n j r a e f = tt
    old-gated (point i ∷ es) n j r a e f = absurd a.0
    old-gated (part p i ∷ es) n j r a e f =
        let k = (part_at p).inputs in
        let l : n ≤ i = r.0 in
        let z : n + (i - n) ≡ i = omega arith in
        let first : undriven_below m i ≡ j = ap (undriven_below m) (sym z) ∙ gap n (i - n) (λ x u v. f x u ∙ made-low (part p i ∷ es) i end x (le_refl i, r.1) (omega arith)) ∙ e in
        let h = old-ins k i j first (λ x u v. omega (arith, f x (omega arith), side_in k i x u v)) in
        let last : undriven_below m (i + k + 1) ≡ j + undrivens (sources m k i j) =
        closed (i + k) (f (i + k) (omega arith) ∙ omega (arith, side_out k i (i + k) (omega arith), made-low es (i + k + 1) end (i + k) r.1 (omega arith))) ∙ h.1 in
        (refl, sources-whole k i j, h.0, old-gated es (i + k + 1) (j + undrivens (sources m k i j)) r.1 a.1 last (λ x u. f x (omega arith) ∙ omega (arith, side_out k i x (omega arith))))

    -- the undriven inputs of the parts from terminal n on
    counted-from : (es : List Element) (n j : ℕ) → Rising es n end → All PartOnly es → undriven_below m n ≡ j → ((x : ℕ) → n ≤ x → made_at_lem m.elements x ≡ made_at_lem es x)
        → undriven_below m end ≡ j + open_ins (gates_from m es j)
    counted-from [] n j r a e f =
        let z : n + (end - n) ≡ end = omega arith in
        ap (undriven_below m) (sym z) ∙ gap n (end - n) (λ x u v. f x u) ∙ omega (arith, e)
    counted-from (point i ∷ es) n j r a e f = absurd a.0
    counted-from (part p i ∷ es) n j r a e f =
        let k = (part_at p).inputs in
        let l : n ≤ i = r.0 in
        let z : n + (i - n) ≡ i = omega arith in
        let first : undriven_below m i ≡ j = ap (undriven_below m) (sym z) ∙ gap n (i - n) (λ x u v. f x u ∙ made-low (part p i ∷ es) i end x (le_refl i, r.1) (omega arith)) ∙ e in
        let h = old-ins k i j first (λ x u v. omega (arith, f x (omega arith), side_in k i x u v)) in
        let last : undriven_below m (i + k + 1) ≡ j + undrivens (sources m k i j) =
        closed (i + k) (f (i + k) (omega arith) ∙ omega (arith, side_out k i (i + k) (omega arith), made-low es (i + k + 1) end (i + k) r.1 (omega arith))) ∙ h.1 in
        counted-from es (i + k + 1) (j + undrivens (sources m k i j)) r.1 a.1 last (λ x u. f x (omega arith) ∙ omega (arith, side_out k i x (omega arith)))
        ∙ omega arith

-- the undriven inputs, terminal by terminal, are as many as the definition's
pub open_counted : (m : Net) → All PartOnly m.elements → (f : Formed m) → undriven_below m f.end ≡ open_ins (gates m)
open_counted m parts f = counted-from m parts f.from f.end m.elements 0 0 f.rising parts refl (λ x h. refl) ∙ omega arith

-- ---- the gates of the netlist that comes back

pin_place : (k n j : ℕ) (s : Interface) → j < k → get_or (inputs_from k n ++ s) j (out 0) ≡ inp (n + 2 * j)
pin_place zero n j s h = absurd (omega arith)
pin_place (suc k) n zero s h = let e : n ≡ n + 2 * 0 = omega arith in ap inp e
pin_place (suc k) n (suc j) s h = let e : n + 2 + 2 * j ≡ n + 2 * suc j = omega arith in pin_place k (n + 2) j s (omega arith) ∙ ap inp e

point_place : (k n j : ℕ) (es : List Element) → j < k → Among (point (n + 2 * j)) (points_from k n ++ es)
point_place zero n j es h = absurd (omega arith)
point_place (suc k) n zero es h = let e : n ≡ n + 2 * 0 = omega arith in subst (λ (z : ℕ). Among (point z) (point n ∷ points_from k (n + 2) ++ es)) e here
point_place (suc k) n (suc j) es h =
    let e : n + 2 + 2 * j ≡ n + 2 * suc j = omega arith in
    there (subst (λ (z : ℕ). Among (point z) (points_from k (n + 2) ++ es)) e (point_place k (n + 2) j es (omega arith)))

nth_part : (gs : List Gate) (n r : ℕ) → r < length gs → (p : ℕ) × (i : ℕ) × NthPart (parts_from gs n) r p i × (i + (part_at p).inputs ≡ output_at gs n r)
nth_part [] n r h = absurd (omega arith)
nth_part (g ∷ gs) n zero h = (g.part, n, this_part, refl)
nth_part (g ∷ gs) n (suc r) h =
    let z : suc r < suc (length gs) = h in
    let t = nth_part gs (n + (part_at g.part).inputs + 1) r (omega arith) in
    (t.0, t.1, past_part t.2, t.3)

past_points : (k n : ℕ) (es : List Element) {r p i : ℕ} → NthPart es r p i → NthPart (points_from k n ++ es) r p i
past_points zero n es h = h
past_points (suc k) n es h = past_point (past_points k (n + 2) es h)

gated-points : (D : DrivenBy → ℕ → Type 0) (k n : ℕ) (es : List Element) (gs : List Gate) → Gated D es gs → Gated D (points_from k n ++ es) gs
gated-points D zero n es gs h = h
gated-points D (suc k) n es gs h = gated-points D k (n + 2) es gs h

module _ (k q : ℕ) (gs : List Gate) (len : length gs ≡ suc q) where
  abbrev net : Net
  net = back_net k gs

  abbrev top : ℕ
  top = 2 * k + 2 * length gs

  new-driver : (s : DrivenBy) (x : ℕ) → SourceIn k q s → RunsTo (back_net k gs) (source_at gs (2 * k + 2 * length gs) s) x → NewDriver (back_net k gs) s x
  new-driver (undriven j) x l h =
      let e : 0 + 2 * j ≡ 2 * j = omega arith in
      record {
        input = 2 * j;
        a_pin = pin_place k 0 j (outputs_from gs top) l ∙ ap inp e;
        a_point = subst (λ (z : ℕ). Among (point z) net.elements) e (point_place k 0 j (parts_from gs top) l);
        runs = h;
      }
  new-driver (output r) x l h =
      let t = nth_part gs top r (omega arith) in
      (t.0, t.1, past_points k 0 (parts_from gs top) t.2, subst (λ (z : ℕ). RunsTo net z x) (sym t.3) h)

  new-ins : (ss : List DrivenBy) (i : ℕ) (A B : List Wire) → All (SourceIn k q) ss → net.wires ≡ A ++ (gate_wires (source_at gs (2 * k + 2 * length gs)) ss i ++ B) → InsHold (NewDriver (back_net k gs)) ss i
  new-ins [] i A B o e = tt
  new-ins (s ∷ ss) i A B o e =
      let w : Wire = record { from = source_at gs top s; to = i } in (
        new-driver s i o.0 (subst (λ (ws : List Wire). Among w ws) (sym e) (among-behind A w (gate_wires (source_at gs top) ss (i + 1) ++ B))),
        new-ins ss (i + 1) (A ++ w ∷ []) B o.1 (e ∙ sym (append_assoc A (w ∷ []) _)),
      )

  new-gated : (fs : List Gate) (n : ℕ) (A : List Wire) → All (GateIn k q) fs → net.wires ≡ A ++ all_wires (source_at gs (2 * k + 2 * length gs)) fs n → Gated (NewDriver (back_net k gs)) (parts_from fs n) fs
  new-gated [] n A o e = tt
  new-gated (g ∷ fs) n A o e =
      let t = n + (part_at g.part).inputs + 1 in
      let ws = gate_wires (source_at gs top) g.ins n in
      (refl, o.0.whole, new-ins g.ins n A (all_wires (source_at gs top) fs t) o.0.from e, new-gated fs t (A ++ ws) o.1 (e ∙ sym (append_assoc A ws _)))

-- ---- both

pub drivers-same : (m : Net) → Returns m → Formed m → (b : Net) → Formed b → b ≡ back_net (open_ins (gates m)) (gates m) → SameDrivers m b
drivers-same m ok f b g e =
    let k = open_ins (gates m) in
    let gs = gates m in
    let n = gates-length m m.elements 0 ok.parts in
    let q = length m.elements - 1 in
    let s = ok.some in
    let o : All (GateIn k q) gs = gates_in m ok q (omega arith) k m.elements 0 ok.parts (omega arith) in
    let l : length gs ≡ suc q = omega arith in
    let top = 2 * k + 2 * length gs in
    let old : Gated (OldDriver m) m.elements gs = old-gated m ok.parts ok.from f.end m.elements 0 0 f.rising ok.parts refl (λ x h. refl) in
    let new : Gated (NewDriver b) b.elements gs =
    subst (λ (x : Net). Gated (NewDriver x) x.elements gs) (sym e) (gated-points (NewDriver (back_net k gs)) k 0 (parts_from gs top) gs (new-gated k q gs l gs top [] o refl)) in
    record {
      parts = λ i p. (parts_to (OldDriver m) (NewDriver b) m.elements b.elements gs old new i p, parts_to (NewDriver b) (OldDriver m) b.elements m.elements gs new old i p);
      inputs = λ i p u v h t x c.
          let r = source-at (OldDriver m) (NewDriver b) m.elements b.elements gs old new i p u v h t x c in
          same-driver m b f g (u + x) (v + x) r.0 r.1 r.2;
    }

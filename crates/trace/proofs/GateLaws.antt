-- What an output looks at, by the table and by the netlist. Assumes nothing.
use Prim.Native.Nat.{ℕ, zero, suc, ◌+◌, ◌-◌, ◌≤◌, ◌<◌}
use mathlib.Core.Path.{◌≡◌, refl, sym, ap, ◌∙◌, subst}
use mathlib.Core.Logic.{◌⊎◌, inl, inr, ⊎_elim}
use mathlib.Core.Bool.{Bool, true, false, cond, ◌&&◌, ◌||◌}
use mathlib.Core.List.{List, [], ◌∷◌}
use native.Mathlib.Omega.{arith}
use lib.ListN.{get_or}
use lib.Dec.{T, eqb, ltb, eqb→eq, eqb_refl}
use borrow.Author.Tests.{eq-eqb, ne_eqb, lt-ltb, ltb-true}
use Rattle.laws.proofs.Tests.{or_elim, or_left, or_right}
use Rattle.calculus.specs.Terms.{part_at}
use Rattle.calculus.specs.Net.{Element, point, part, Net}
use Rattle.calculus.specs.Lean.{is_pin}
use Rattle.calculus.specs.Inputs.{made_at_lem, is_out}
use Rattle.calculus.specs.Record.{Among}
use Rattle.circuit_theorems.specs.Terminals.{has}
use Rattle.circuit_theorems.specs.Formed.{Formed}
use Rattle.lean.specs.Layout.{left_out, kinds_from}
use Rattle.trace_calculus.specs.Trace.{Source, from, made_part as made_by, source, looks, before, terminals}
use Rattle.trace_theorems.proofs.Sources.{at_point, at_part, at_pin, out_terminal}
use Rattle.trace_steps.specs.Map.{register_entry, inverter_entry, one_entry, point_entry}
use Rattle.trace_steps.specs.Steps.{first_in, Looks, free_in}
use Rattle.trace_steps.proofs.Laws.{first_two, first_one}
use Rattle.trace_rings.specs.Lists.{looks_at, looks_in}
use Rattle.trace_rings.specs.Rings.{InputOf}
use Rattle.trace.specs.Tables.{TableEntry, of_pin, of_wire, of_point, of_part, Tabled, Looking}
use Rattle.trace.proofs.ElementLaws.{in_out_lem, within-made, in_terminal, input-not_out, made-within}

one_of : (a y : ℕ) → T (has (a ∷ []) y) → a ≡ y
one_of a y t = or_elim (eqb a y) false t (λ u. eqb→eq a y u) (λ u. absurd u)

of_one : (a y : ℕ) → a ≡ y → T (has (a ∷ []) y)
of_one a y e = or_left (eqb a y) false (subst (λ (z : ℕ). T (eqb a z)) e (eqb_refl a))

module _ (w : List ℕ) (m : Net) (end pins : ℕ) (t : Tabled w m end pins) where
  abbrev es : List Element
  es = m.elements

  abbrev ok : Formed m
  ok = t.formed

  low : (x : ℕ) → T (has (terminals es) x) → x < 8192
  low x h = let l = t.low x h in let f = t.few in omega arith

  out_low : (x : ℕ) → T (is_out es x) → x < 8192
  out_low x h = low x (out_terminal es x h)

  made_terminal : (z : ℕ) → 1 ≤ made_at_lem es z → T (has (terminals es) z)
  made_terminal z h = let g = made-within es z h in in_terminal g.0 z g.1 g.2 (let k = g.3 in omega arith)

  -- ---- inputs

  pub data Input (z : ℕ) : Type 0 where
    at-a-pin : T (is_pin m.pins z) → get_or w z 0 ≡ z → Input z
    at-a-wire : source m z ≡ from (get_or w z 0) → T (is_out es (get_or w z 0)) → Input z

  pub input : (z : ℕ) → 1 ≤ made_at_lem es z → Input z
  input z h = go (t.entries z (made_terminal z h)) refl
    where
      never : {X : Type 0} → T (is_out es z) → X
      never u = absurd (subst T (input-not_out es 0 ok.end z ok.rising h) u)

      go : {v : ℕ} → TableEntry m z v → v ≡ get_or w z 0 → Input z
      go (of_pin a b) e = at-a-pin a (sym e)
      go (of_wire y a b c) e = at-a-wire (a ∙ ap from e) (subst (λ (y : ℕ). T (is_out es y)) e c)
      go (of_point i a b) e = never (subst (λ (y : ℕ). T (is_out es y)) b (in_out_lem (point i) a))
      go (of_part p i a b c) e = never (subst (λ (y : ℕ). T (is_out es y)) b (in_out_lem (part p i) a))

  pub input-low : (z : ℕ) → 1 ≤ made_at_lem es z → get_or w z 0 < 8192
  input-low z h = go (input z h)
    where
      go : Input z → get_or w z 0 < 8192
      go (at-a-pin a e) = let l = low z (made_terminal z h) in omega arith
      go (at-a-wire a b) = out_low (get_or w z 0) b

  -- what an input looks at: its source, where that is no pin
  pub input-before : (z y : ℕ) → 1 ≤ made_at_lem es z → T (has (before m z) y) → (y ≡ get_or w z 0) × T (is_out es y)
  input-before z y h g = go (input z h)
    where
      go : Input z → (y ≡ get_or w z 0) × T (is_out es y)
      go (at-a-pin a e) = absurd (subst (λ (s : Source). T (has (looks s) y)) (at_pin m ok z a) g)
      go (at-a-wire a b) =
          let e = one_of (get_or w z 0) y (subst (λ (s : Source). T (has (looks s) y)) a g) in
          (sym e, subst (λ (x : ℕ). T (is_out es x)) e b)

  -- ---- outputs that look at something

  pub data Gate (o : ℕ) : Type 0 where
    one : (i : ℕ) → looks (source m o) ≡ i ∷ [] → i + 1 ≡ o → inverter_entry ≤ get_or w o 0 → 1 ≤ made_at_lem es i → Gate o
    two : (i : ℕ) → looks (source m o) ≡ i ∷ (i + 1) ∷ [] → i + 2 ≡ o → kinds_from ≤ get_or w o 0 → get_or w o 0 < inverter_entry → 1 ≤ made_at_lem es i → 1 ≤ made_at_lem es (i + 1) → Gate o

  pub gate-at : (o : ℕ) → T (has (terminals es) o) → Looking (get_or w o 0) → Gate o
  gate-at o h l = go (t.entries o h) refl
    where
      low_not : get_or w o 0 < 8192 → Gate o
      low_not k = absurd (⊎_elim (λ (e : get_or w o 0 ≡ point_entry). omega arith) (λ r. omega (arith, r.0)) l)

      by_part : (p i : ℕ) → Among (part p i) es → i + (part_at p).inputs ≡ o → kinds_from + p ≡ get_or w o 0 → p < 7 → Gate o
      by_part zero i a b e c = absurd (⊎_elim (λ (q : get_or w o 0 ≡ point_entry). omega arith) (λ r. omega (arith, r.0)) l)
      by_part (suc zero) i a b e c = absurd (⊎_elim (λ (q : get_or w o 0 ≡ point_entry). omega arith) (λ r. omega (arith, r.0)) l)
      by_part (suc (suc zero)) i a b e c = two i (ap looks (subst (λ (z : ℕ). source m z ≡ made_by 2 i) b (at_part m ok a))) b (omega arith) (omega arith) (within-made (part 2 i) i a (omega arith) (omega arith)) (within-made (part 2 i) (i + 1) a (omega arith) (omega arith))
      by_part (suc (suc (suc zero))) i a b e c = two i (ap looks (subst (λ (z : ℕ). source m z ≡ made_by 3 i) b (at_part m ok a))) b (omega arith) (omega arith) (within-made (part 3 i) i a (omega arith) (omega arith)) (within-made (part 3 i) (i + 1) a (omega arith) (omega arith))
      by_part (suc (suc (suc (suc zero)))) i a b e c = two i (ap looks (subst (λ (z : ℕ). source m z ≡ made_by 4 i) b (at_part m ok a))) b (omega arith) (omega arith) (within-made (part 4 i) i a (omega arith) (omega arith)) (within-made (part 4 i) (i + 1) a (omega arith) (omega arith))
      by_part (suc (suc (suc (suc (suc zero))))) i a b e c = one i (ap looks (subst (λ (z : ℕ). source m z ≡ made_by 5 i) b (at_part m ok a))) b (omega arith) (within-made (part 5 i) i a (omega arith) (omega arith))
      by_part (suc (suc (suc (suc (suc (suc p)))))) i a b e c = absurd (⊎_elim (λ (q : get_or w o 0 ≡ point_entry). omega arith) (λ r. omega (arith, r.1)) l)

      go : {v : ℕ} → TableEntry m o v → v ≡ get_or w o 0 → Gate o
      go (of_pin a b) e = low_not (let k = low o h in omega arith)
      go (of_wire y a b c) e = low_not (let k = out_low y c in omega arith)
      go (of_point i a b) e = one i (ap looks (subst (λ (z : ℕ). source m z ≡ from i) b (at_point m ok a))) b (omega arith) (within-made (point i) i a (omega arith) (omega arith))
      go (of_part p i a b c) e = by_part p i a b e c

  first-is : (o : ℕ) → Gate o → (i : ℕ) × (first_in w o ≡ i) × (i < o) × (1 ≤ made_at_lem es i)
  first-is o (one i a b c d) = let e : o - 1 ≡ i = omega arith in (i, sym (first_one w o c) ∙ e, omega arith, d)
  first-is o (two i a b k c d f) = let e : o - 2 ≡ i = omega arith in (i, sym (first_two w o c) ∙ e, omega arith, d)

  last-is : (o : ℕ) → Gate o → 1 ≤ made_at_lem es (o - 1)
  last-is o (one i a b c d) = let e : i ≡ o - 1 = omega arith in subst (λ (z : ℕ). 1 ≤ made_at_lem es z) e d
  last-is o (two i a b k c d f) = let e : i + 1 ≡ o - 1 = omega arith in subst (λ (z : ℕ). 1 ≤ made_at_lem es z) e f

  pub input-made : (o z : ℕ) → Gate o → InputOf w o z → 1 ≤ made_at_lem es z
  input-made o z g (inl e) = let f = first-is o g in subst (λ (x : ℕ). 1 ≤ made_at_lem es x) (sym (e ∙ f.1)) f.3
  input-made o z g (inr e) = subst (λ (x : ℕ). 1 ≤ made_at_lem es x) (sym e) (last-is o g)

  pub gate-looks : (o : ℕ) → o < 8192 → Gate o → Looks w o
  gate-looks o l g =
      let f = first-is o g in
      record {
        size = t.size;
        low = l;
        some = let k = f.2 in omega arith;
        kind = kind g;
        two = two-low g;
        first = subst (λ (z : ℕ). get_or w z 0 < 8192) (sym f.1) (input-low f.0 f.3);
        last = input-low (o - 1) (last-is o g);
      }
    where
      kind : Gate o → kinds_from ≤ get_or w o 0
      kind (one i a b c d) = omega arith
      kind (two i a b k c d f) = k

      two-low : Gate o → get_or w o 0 < inverter_entry → 2 ≤ o
      two-low (one i a b c d) h = absurd (omega arith)
      two-low (two i a b k c d f) h = omega arith

  pub before-input : (o z : ℕ) → Gate o → T (has (before m o) z) → InputOf w o z
  before-input o z (one i a b c d) h = inr (let e = one_of i z (subst (λ (l : List ℕ). T (has l z)) a h) in omega arith)
  before-input o z (two i a b k c d f) h =
      or_elim (eqb i z) (has ((i + 1) ∷ []) z) (subst (λ (l : List ℕ). T (has l z)) a h)
      (λ u. inl (let e : i ≡ z = eqb→eq i z u in let q : o - 2 ≡ i = omega arith in sym (sym (first_two w o c) ∙ q ∙ e)))
      (λ u. inr (let e = one_of (i + 1) z u in omega arith))

  pub input-look : (o z : ℕ) → Gate o → InputOf w o z → T (has (before m o) z)
  input-look o z (one i a b c d) (inl e) = subst (λ (l : List ℕ). T (has l z)) (sym a) (of_one i z (let q : o - 1 ≡ i = omega arith in sym (e ∙ sym (first_one w o c) ∙ q)))
  input-look o z (one i a b c d) (inr e) = subst (λ (l : List ℕ). T (has l z)) (sym a) (of_one i z (omega arith))
  input-look o z (two i a b k c d f) (inl e) =
      subst (λ (l : List ℕ). T (has l z)) (sym a) (or_left (eqb i z) (has ((i + 1) ∷ []) z) (let q : o - 2 ≡ i = omega arith in subst (λ (x : ℕ). T (eqb i x)) (sym (e ∙ sym (first_two w o c) ∙ q)) (eqb_refl i)))
  input-look o z (two i a b k c d f) (inr e) = subst (λ (l : List ℕ). T (has l z)) (sym a) (or_right (eqb i z) (has ((i + 1) ∷ []) z) (of_one (i + 1) z (omega arith)))

  -- ---- an output looks at something, or is settled from the start

  pub out_cases : (y : ℕ) → T (is_out es y) → Looking (get_or w y 0) ⊎ ((free_in w y ≡ true) × (looks (source m y) ≡ []))
  out_cases y h = go (t.entries y (out_terminal es y h)) refl
    where
      never : {X : Type 0} → is_out es y ≡ false → X
      never b = absurd (subst T b h)

      free : (v : ℕ) → v ≡ get_or w y 0 → (v ≡ kinds_from) ⊎ ((v ≡ register_entry) ⊎ (v ≡ one_entry)) → free_in w y ≡ true
      free v e c = ap (λ (x : ℕ). eqb x y || (eqb x kinds_from || (eqb x register_entry || eqb x one_entry))) (sym e) ∙ by c
        where
          or-last : (a : Bool) → a || true ≡ true
          or-last true = refl
          or-last false = refl

          by : (v ≡ kinds_from) ⊎ ((v ≡ register_entry) ⊎ (v ≡ one_entry)) → eqb v y || (eqb v kinds_from || (eqb v register_entry || eqb v one_entry)) ≡ true
          by (inl q) = ap (λ (x : Bool). eqb v y || (x || (eqb v register_entry || eqb v one_entry))) (eq-eqb v kinds_from q) ∙ or-last (eqb v y)
          by (inr (inl q)) = ap (λ (x : Bool). eqb v y || (eqb v kinds_from || (x || eqb v one_entry))) (eq-eqb v register_entry q) ∙ ap (λ (x : Bool). eqb v y || x) (or-last (eqb v kinds_from)) ∙ or-last (eqb v y)
          by (inr (inr q)) = ap (λ (x : Bool). eqb v y || (eqb v kinds_from || (eqb v register_entry || x))) (eq-eqb v one_entry q) ∙ ap (λ (x : Bool). eqb v y || (eqb v kinds_from || x)) (or-last (eqb v register_entry)) ∙ ap (λ (x : Bool). eqb v y || x) (or-last (eqb v kinds_from)) ∙ or-last (eqb v y)

      by_part : (p i : ℕ) → Among (part p i) es → i + (part_at p).inputs ≡ y → kinds_from + p ≡ get_or w y 0 → p < 7 → Looking (get_or w y 0) ⊎ ((free_in w y ≡ true) × (looks (source m y) ≡ []))
      by_part zero i a b e c = inr (free kinds_from e (inl refl), ap looks (subst (λ (z : ℕ). source m z ≡ made_by 0 i) b (at_part m ok a)))
      by_part (suc zero) i a b e c = inr (free register_entry e (inr (inl refl)), ap looks (subst (λ (z : ℕ). source m z ≡ made_by 1 i) b (at_part m ok a)))
      by_part (suc (suc zero)) i a b e c = inl (inr (omega arith, omega arith))
      by_part (suc (suc (suc zero))) i a b e c = inl (inr (omega arith, omega arith))
      by_part (suc (suc (suc (suc zero)))) i a b e c = inl (inr (omega arith, omega arith))
      by_part (suc (suc (suc (suc (suc zero))))) i a b e c = inl (inr (omega arith, omega arith))
      by_part (suc (suc (suc (suc (suc (suc zero)))))) i a b e c = inr (free one_entry e (inr (inr refl)), ap looks (subst (λ (z : ℕ). source m z ≡ made_by 6 i) b (at_part m ok a)))
      by_part (suc (suc (suc (suc (suc (suc (suc p))))))) i a b e c = absurd (omega arith)

      go : {v : ℕ} → TableEntry m y v → v ≡ get_or w y 0 → Looking (get_or w y 0) ⊎ ((free_in w y ≡ true) × (looks (source m y) ≡ []))
      go (of_pin a b) e = never b
      go (of_wire z a b c) e = never b
      go (of_point i a b) e = inl (inl (sym e))
      go (of_part p i a b c) e = by_part p i a b e c

  -- ---- the test of the code

  pub looks_looking : (x : ℕ) → x < end → looks_in w x ≡ true → T (has (terminals es) x) × Looking (get_or w x 0)
  looks_looking x l q = by (eqb (get_or w x 0) point_entry) (ltb register_entry (get_or w x 0)) (ltb (get_or w x 0) one_entry) refl refl refl q
    where
      there : register_entry < get_or w x 0 → get_or w x 0 ≤ point_entry → T (has (terminals es) x)
      there u v = ⊎_elim (λ h. h) (λ h. absurd (⊎_elim (λ (i : get_or w x 0 < 8192). omega arith) (λ (i : left_out ≤ get_or w x 0). omega arith) h)) (t.others x l)

      by : (a b c : Bool) → eqb (get_or w x 0) point_entry ≡ a → ltb register_entry (get_or w x 0) ≡ b → ltb (get_or w x 0) one_entry ≡ c → cond a true (b && c) ≡ true → T (has (terminals es) x) × Looking (get_or w x 0)
      by true b c p r s e = let z = eqb→eq (get_or w x 0) point_entry (subst T (sym p) tt) in (there (omega arith) (omega arith), inl z)
      by false true true p r s e =
          let u = ltb-true register_entry (get_or w x 0) r in
          let v = ltb-true (get_or w x 0) one_entry s in
          (there u (omega arith), inr (u, v))
      by false true false p r s e = absurd (subst T (sym e) tt)
      by false false c p r s e = absurd (subst T (sym e) tt)

pub looking_looks : (v : ℕ) → Looking v → looks_at v ≡ true
looking_looks v (inl e) = rw (eq-eqb v point_entry e)
looking_looks v (inr (a, b)) = rw (ne_eqb v point_entry (λ z. omega arith), lt-ltb register_entry v a, lt-ltb v one_entry b)

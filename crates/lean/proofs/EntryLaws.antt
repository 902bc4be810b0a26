-- What an entry of the lean netlist by terminal says of the netlist that stands there, and the netlist of its entries. Assumes nothing.
use Prim.Native.Nat.{ℕ, zero, suc, ◌+◌, ◌-◌, ◌/◌, ◌%◌, ◌≤◌, ◌<◌}
use mathlib.Core.Path.{◌≡◌, refl, sym, ap, ◌∙◌, subst}
use mathlib.Core.Logic.{◌⊎◌, inl, inr, ⊎_elim}
use mathlib.Core.Bool.{Bool, true, false, cond}
use mathlib.Core.List.{List, [], ◌∷◌, ◌++◌}
use native.Mathlib.Omega.{arith}
use native.Mathlib.Decide.{ℕ_discrete, dec_le}
use lib.Dec.{T, eqb, eqb→eq}
use lib.ListN.{length, get_or}
use borrow.Author.Tests.{ne_eqb}
use Rattle.laws.proofs.Tests.{or_elim, or_left, or_right}
use Rattle.laws.proofs.Regions.{region-length, region-at}
use Rattle.calculus.specs.Terms.{part_at}
use Rattle.calculus.specs.Net.{inp, out, Element, point, part, Wire, wire_of, Net}
use Rattle.calculus.specs.Lean.{kept, keep, lean}
use Rattle.calculus.specs.Inputs.{is_out}
use Rattle.calculus.specs.Record.{All, Among, here, there}
use Rattle.circuit_theorems.specs.Formed.{Shown, Formed}
use Rattle.circuit_theorems.proofs.Forming.{lean-formed}
use Rattle.memory.specs.Map.{roots_at, region, elements_from, terminal_of, net_in, Ready}
use Rattle.netlist.specs.Elements.{output_of}
use Rattle.lean.specs.Table.{entry}
use Rattle.lean.specs.Layout.{lean_pins_at, kinds_from, left_out, first_terminal, element_at, wire_at, row_in, lean_in, LeanReady, Leant}
use Rattle.lean.proofs.DriverLaws.{output_free}
use Rattle.lean.proofs.MakeLaws.{element_input, element_left, element_here, wire-none, wire-output, wire-here}
use Rattle.lean.proofs.LeantLaws.{pin_at}

-- ---- members of a row

module _ {A : Type 0} where
  none : {a : A} → Among a [] → ⊥
  none = elim [ ]

  one : {a b : A} → Among a (b ∷ []) → a ≡ b
  one here = refl
  one (there h) = absurd (none h)

  in_both : {a : A} (xs ys : List A) → Among a (xs ++ ys) → Among a xs ⊎ Among a ys
  in_both [] ys h = inr h
  in_both (x ∷ xs) ys here = inl here
  in_both (x ∷ xs) ys (there h) = ⊎_elim (λ g. inl (there g)) inr (in_both xs ys h)

  in_first : {a : A} {xs : List A} (ys : List A) → Among a xs → Among a (xs ++ ys)
  in_first ys here = here
  in_first ys (there h) = there (in_first ys h)

  in_second : {a : A} (xs ys : List A) → Among a ys → Among a (xs ++ ys)
  in_second [] ys h = h
  in_second (x ∷ xs) ys h = there (in_second xs ys h)

every : {A : Type 0} (F : A → Type 0) {x : A} {xs : List A} → Among x xs → All F xs → F x
every F here a = a.0
every F (there h) a = every F h a.1

module _ {A : Type 0} (f : ℕ → ℕ → List A) (at : ℕ) (w : List ℕ) where
  row-in : {a : A} (c x : ℕ) → Among a (row_in f at w c x) → (y : ℕ) × (y < x + c) × Among a (f (get_or w (at + y) 0) y)
  row-in zero x h = absurd (none h)
  row-in {a = a} (suc c) x h = ⊎_elim (λ g. (x, omega arith, g)) (λ g. let r = row-in {a = a} c (x + 1) g in (r.0, omega (arith, r.1), r.2)) (in_both (f (get_or w (at + x) 0) x) (row_in f at w c (x + 1)) h)

  in_row : {a : A} (c x y : ℕ) → x ≤ y → y < x + c → Among a (f (get_or w (at + y) 0) y) → Among a (row_in f at w c x)
  in_row zero x y l h g = absurd (omega arith)
  in_row {a} (suc c) x y l h g =
      elim (ℕ_discrete y x) [
        | yes e ↦ in_first (row_in f at w c (x + 1)) (subst (λ (z : ℕ). Among a (f (get_or w (at + z) 0) z)) e g)
        | no d ↦ in_second (f (get_or w (at + x) 0) x) (row_in f at w c (x + 1)) (in_row c (x + 1) y (omega arith) (omega arith) g)
      ]

-- ---- one entry

-- v is the entry of element a, whose output is x
abbrev pub EntryTells : Element → ℕ → ℕ → Type 0
EntryTells (point i) v x = (i + 1 ≡ x) × (v ≡ kinds_from + 7)
EntryTells (part p i) v x = (i + (part_at p).inputs ≡ x) × (v ≡ kinds_from + p) × (p < 7)

wire_tells : (v x : ℕ) {a : Wire} → Among a (wire_at v x) → (a.to ≡ x) × (v ≡ a.from + 1)
wire_tells v x {a} h =
    elim (ℕ_discrete v 0) [
      | yes e ↦ absurd (none (subst (Among a) (wire-none v x e) h))
      | no d ↦ elim (dec_le kinds_from v) [
        | yes g ↦ absurd (none (subst (Among a) (wire-output v x g) h))
        | no g ↦ (let e : a ≡ wire_of (v - 1) x = one (subst (Among a) (wire-here v x d (omega arith)) h) in (ap (λ (z : Wire). z.to) e, let z = ap (λ (z : Wire). z.from) e in omega arith))
      ]
    ]

-- the element that entry v of terminal x tells
told : (v x : ℕ) → kinds_from ≤ v → v < left_out → output_of (v - kinds_from) 0 ≤ x → (a : Element) × (element_at v x ≡ a ∷ []) × EntryTells a v x
told v x h l o =
    elim (ℕ_discrete (v - kinds_from) 7) [
      | yes e ↦ (
        point (x - 1),
        element_here v x h l ∙ ap (λ (k : ℕ). elements_from (k ∷ []) (first_terminal k x)) e,
        ((let b = subst (λ (k : ℕ). output_of k 0 ≤ x) e o in omega arith), omega arith),
      )
      | no d ↦ (
        part (v - kinds_from) (x - (0 + (part_at (v - kinds_from)).inputs)),
        element_here v x h l ∙ rw (ne_eqb (v - kinds_from) 7 d),
        ((let b = rw (ne_eqb (v - kinds_from) 7 d) at o in omega arith), omega arith, omega arith),
      )
    ]

element_tells : (v x : ℕ) {a : Element} → (kinds_from ≤ v → v < left_out → output_of (v - kinds_from) 0 ≤ x) → Among a (element_at v x) → EntryTells a v x
element_tells v x {a} o h =
    elim (dec_le kinds_from v) [
      | no g ↦ absurd (none (subst (Among a) (element_input v x (omega arith)) h))
      | yes g ↦ elim (dec_le left_out v) [
        | yes l ↦ absurd (none (subst (Among a) (element_left v x l) h))
        | no l ↦ (let t = told v x g (omega arith) (o g (omega arith)) in subst (λ (b : Element). EntryTells b v x) (sym (one (subst (Among a) t.1 h))) t.2)
      ]
    ]

-- ---- the netlist

module _ (w : List ℕ) (end pins : ℕ) (r : LeanReady w end pins) where
  pub element_entry : {a : Element} → Among a (lean_in w end pins).elements → (x : ℕ) × (x < end) × EntryTells a (entry w x) x
  unfolding lean_in
  element_entry h =
      let y = row-in element_at roots_at w end 0 h in
      let l : y.0 < end = omega (arith, y.1) in
      (y.0, l, element_tells (entry w y.0) y.0 (r.outputs y.0 l) y.2)

  pub wire-entry : {v : Wire} → Among v (lean_in w end pins).wires → (v.to < end) × (entry w v.to ≡ v.from + 1)
  unfolding lean_in
  wire-entry {v} h =
      let y = row-in wire_at roots_at w end 0 h in
      let t = wire_tells (entry w y.0) y.0 y.2 in
      (omega (arith, y.1, t.0), ap (entry w) t.0 ∙ t.1)

  pub entry-wire : (x : ℕ) → x < end → (entry w x ≡ 0 → ⊥) → entry w x < kinds_from → Among (wire_of (entry w x - 1) x) (lean_in w end pins).wires
  unfolding lean_in
  entry-wire x l d h = in_row wire_at roots_at w end 0 x (omega arith) (omega arith) (subst (Among (wire_of (entry w x - 1) x)) (sym (wire-here (entry w x) x d h)) here)

  pub entry_element : (x : ℕ) → x < end → kinds_from ≤ entry w x → entry w x < left_out → (a : Element) × Among a (lean_in w end pins).elements × EntryTells a (entry w x) x
  unfolding lean_in
  entry_element x l h g =
      let t = told (entry w x) x h g (r.outputs x l h g) in
      (t.0, in_row element_at roots_at w end 0 x (omega arith) (omega arith) (subst (Among t.0) (sym t.1) here), t.2)

-- ---- an output of the lean netlist is one of the full netlist, and no wire goes to it

pub out_keep : (m : Net) (es : List Element) (x : ℕ) → T (is_out (keep m es) x) → T (is_out es x)
out_keep m [] x t = t
out_keep m (point i ∷ es) x t = by (kept m (point i)) t (out_keep m es x)
  where
    by : (b : Bool) → T (is_out (cond b (point i ∷ keep m es) (keep m es)) x) → (T (is_out (keep m es) x) → T (is_out es x)) → T (is_out (point i ∷ es) x)
    by true t f = or_elim (eqb (i + 1) x) (is_out (keep m es) x) t (or_left (eqb (i + 1) x) (is_out es x)) (λ u. or_right (eqb (i + 1) x) (is_out es x) (f u))
    by false t f = or_right (eqb (i + 1) x) (is_out es x) (f t)
out_keep m (part p i ∷ es) x t =
    or_elim (eqb (i + (part_at p).inputs) x) (is_out (keep m es) x) t (or_left (eqb (i + (part_at p).inputs) x) (is_out es x)) (λ u. or_right (eqb (i + (part_at p).inputs) x) (is_out es x) (out_keep m es x u))

-- an output has an element
out_among : (es : List Element) (x : ℕ) → T (is_out es x) → (a : Element) × Among a es × ((v y : ℕ) → EntryTells a v y → y ≡ x)
out_among [] x t = absurd t
out_among (point i ∷ es) x t =
    or_elim (eqb (i + 1) x) (is_out es x) t (λ u. (point i, here, λ v y g. sym g.0 ∙ eqb→eq (i + 1) x u)) (λ u. let r = out_among es x u in (r.0, there r.1, r.2))
out_among (part p i ∷ es) x t =
    or_elim (eqb (i + (part_at p).inputs) x) (is_out es x) t (λ u. (part p i, here, λ v y g. sym g.0 ∙ eqb→eq (i + (part_at p).inputs) x u)) (λ u. let r = out_among es x u in (r.0, there r.1, r.2))

module _ (u : List ℕ) (e k p : ℕ) (ready : Ready u e k p) (w : List ℕ) (end : ℕ) (l : Leant u e k p w end) where
  pub lean_out : (o : ℕ) → T (is_out (lean_in w end p).elements o) → T (is_out (net_in u e k p).elements o)
  unfolding lean
  lean_out o t = out_keep (net_in u e k p) (net_in u e k p).elements o (subst (λ (m : Net). T (is_out m.elements o)) l.net t)

  pub lean-ok : Formed (lean_in w end p)
  lean-ok = subst Formed (sym l.net) (lean-formed (net_in u e k p) ready.formed)

  -- where a wire comes from, and what a pin shows
  pub source_out : (x : ℕ) → x < end → (entry w x ≡ 0 → ⊥) → entry w x < kinds_from → T (is_out (lean_in w end p).elements (entry w x - 1))
  source_out x b d h = every (λ v. T (is_out (lean_in w end p).elements v.from)) (entry-wire w end p l.ready x b d h) lean-ok.from

  pub pin_out : (j : ℕ) → j < p → (get_or w (lean_pins_at + j) 0 % 2 ≡ 0 → ⊥) → T (is_out (lean_in w end p).elements (get_or w (lean_pins_at + j) 0 / 2))
  unfolding lean_in
  pin_out j h d =
      let z = l.ready.size in
      let f = l.ready.few_pins in
      let n : length (region w lean_pins_at p) ≡ p = region-length w lean_pins_at p (omega arith) in
      let c = get_or w (lean_pins_at + j) 0 in
      subst (λ (b : Bool). Shown (lean_in w end p).elements (cond b (inp (c / 2)) (out (c / 2)))) (ne_eqb (c % 2) 0 d)
      (subst (λ (x : ℕ). Shown (lean_in w end p).elements (terminal_of x)) (region-at w lean_pins_at p j h) (pin_at (Shown (lean_in w end p).elements) (region w lean_pins_at p) j lean-ok.shown (omega arith)))

  pub lean_free : (o : ℕ) → T (is_out (lean_in w end p).elements o) → (o < end) × (get_or w o 0 ≡ 65535)
  lean_free o t =
      let a = out_among (lean_in w end p).elements o t in
      let x = element_entry w end p l.ready a.1 in
      let z = a.2 (entry w x.0) x.0 x.2 in
      let b = l.ready.below in
      let h : o < end = omega (arith, x.1) in
      (h, l.around.below o (omega arith) ∙ output_free u e k p ready o (lean_out o t))

-- The steps that make the lean netlist by terminal: one more input, pin or element. Assumes nothing.
use Prim.Native.Nat.{ℕ, ◌+◌, ◌*◌, ◌/◌, ◌%◌, ◌≤◌, ◌<◌}
use mathlib.Core.Path.{◌≡◌, refl, sym, ap, ◌∙◌, subst}
use mathlib.Core.Logic.{◌≢◌}
use mathlib.Core.Bool.{Bool, true, false, cond}
use mathlib.Core.List.{List, [], ◌∷◌}
use native.Mathlib.Omega.{arith}
use native.Mathlib.Decide.{ℕ_discrete, dec_le}
use lib.Dec.{eqb}
use lib.ListN.{length, get_or, set, drop, length-set}
use lib.Seq.{get_or-set_same, get_or-set_other, set-get_or}
use borrow.Author.Tests.{ne_eqb, eq-eqb}
use Rattle.laws.proofs.Tests.{by_eqb}
use Rattle.calculus.specs.Terms.{part_at}
use Rattle.calculus.specs.Net.{Element, point, part}
use Rattle.memory.specs.Map.{elements_at, stack_at, roots_at, memory_size, region, elements_from}
use Rattle.netlist.specs.Elements.{output_of, after, after_all}
use Rattle.netlist.proofs.Elements.{after-rises}
use Rattle.lean.specs.Table.{entry, Within}
use Rattle.lean.specs.Layout.{kinds_from, left_out, lean_pins_at, link_in, RootedDriver, Linkable, Linked, rooted_in, Rootable, Pinned, name_one, named_all}
use Rattle.lean.proofs.KindLaws.{region-next}
use Rattle.lean.proofs.TableLaws.{within_none, within_then, within-set, entry-same, entry_other}

-- ---- inputs

pub link_none : (w : List ℕ) (x : ℕ) → get_or w x 0 ≡ 65535 → entry w x ≡ link_in w x
link_none w x e = sym (ap (λ (b : Bool). cond b (entry w x) (entry w (get_or w x 0) + 1)) (eq-eqb (get_or w x 0) 65535 e))

pub link_driven : (w : List ℕ) (x : ℕ) → (get_or w x 0 ≡ 65535 → ⊥) → entry w (get_or w x 0) + 1 ≡ link_in w x
link_driven w x d = sym (ap (λ (b : Bool). cond b (entry w x) (entry w (get_or w x 0) + 1)) (ne_eqb (get_or w x 0) 65535 d))

-- a store of what stands there already
pub link_stays : (w : List ℕ) (x : ℕ) → get_or w x 0 ≡ 65535 → w ≡ set w (roots_at + x) (link_in w x)
link_stays w x e = sym (ap (set w (roots_at + x)) (sym (link_none w x e)) ∙ set-get_or w (roots_at + x) 0)

pub link_start : (u : List ℕ) → Linked u 0 u
link_start u = record { within = within_none u; links = λ x h. absurd (omega arith); others = λ x h l. refl }

module _ (u w : List ℕ) (end x : ℕ) (p : Linkable u end) (h : x < end) (l : Linked u x w) where
  here : get_or w x 0 ≡ get_or u x 0
  here = let b = p.below in l.within.below x (omega arith)

  -- a driver's entry stays
  source-same : (d : ℕ) → RootedDriver u d → entry w d ≡ entry u d
  source-same d s =
      elim (dec_le x d) [
        | yes g ↦ l.others d g s.low
        | no g ↦ l.links d (omega arith) ∙ sym (link_none u d s.none)
      ]

  pub source-here : (get_or w x 0 ≡ 65535 → ⊥) → (get_or w x 0 < 8192) × (entry w (get_or w x 0) < 8192)
  source-here = subst (λ (d : ℕ). (d ≡ 65535 → ⊥) → (d < 8192) × (entry w d < 8192)) (sym here)
      (λ z. let s = p.sources x h z in (s.low, subst (λ (y : ℕ). y < 8192) (sym (source-same (get_or u x 0) s)) s.root))

  link-same : link_in w x ≡ link_in u x
  link-same =
      elim (ℕ_discrete (get_or u x 0) 65535) [
        | yes z ↦ let b = p.below in sym (link_none w x (here ∙ z)) ∙ l.others x (omega arith) (omega arith) ∙ link_none u x z
        | no z ↦ sym (link_driven w x (λ e. z (sym here ∙ e))) ∙ ap (λ (d : ℕ). entry w d + 1) here
            ∙ ap (λ (y : ℕ). y + 1) (source-same (get_or u x 0) (p.sources x h z)) ∙ link_driven u x z
      ]

  pub link_next : (v : ℕ) → v ≡ link_in w x → Linked u (x + 1) (set w (roots_at + x) v)
  link_next v e =
      let b = p.below in
      let z = p.size in
      let s = l.within.size in
      record {
        within = within_then l.within (within-set w x v (omega arith));
        links = λ y g. elim (ℕ_discrete y x) [
          | yes q ↦ ap (entry (set w (roots_at + x) v)) q ∙ entry-same w x v (omega arith) (omega arith) ∙ e ∙ link-same ∙ ap (link_in u) (sym q)
          | no q ↦ entry_other w x y v q ∙ l.links y (omega arith)
        ];
        others = λ y g k. entry_other w x y v (λ q. omega arith) ∙ l.others y (omega arith) k;
      }

-- ---- pins

pub rooted_in_lem : (w : List ℕ) (c : ℕ) → c % 2 ≡ 0 → c ≡ rooted_in w c
rooted_in_lem w c e = sym (ap (λ (b : Bool). cond b c (2 * entry w (c / 2) + 1)) (eq-eqb (c % 2) 0 e))

pub rooted_out : (w : List ℕ) (c : ℕ) → (c % 2 ≡ 0 → ⊥) → 2 * entry w (c / 2) + 1 ≡ rooted_in w c
rooted_out w c d = sym (ap (λ (b : Bool). cond b c (2 * entry w (c / 2) + 1)) (ne_eqb (c % 2) 0 d))

pub pin_start : (u : List ℕ) → Pinned u 0 u
pin_start u = record { size = refl; below = λ j l. refl; above = λ j l. refl; done = λ j l. absurd (omega arith) }

module _ (u w : List ℕ) (n k : ℕ) (p : Rootable u n) (h : k < n) (l : Pinned u k w) where
  code_same : get_or w (stack_at + k) 0 ≡ get_or u (stack_at + k) 0
  code_same = let f = p.few in l.below (stack_at + k) (omega arith)

  entry-stays : (x : ℕ) → x < 8192 → entry w x ≡ entry u x
  entry-stays x g = l.below (roots_at + x) (omega arith)

  pub pin_ready : (get_or w (stack_at + k) 0 / 2 < 8192) × (entry w (get_or w (stack_at + k) 0 / 2) ≤ 8192)
  pin_ready =
      let s = p.shown k h in
      subst (λ (c : ℕ). (c / 2 < 8192) × (entry w (c / 2) ≤ 8192)) (sym code_same)
      (s.0, subst (λ (y : ℕ). y ≤ 8192) (sym (entry-stays (get_or u (stack_at + k) 0 / 2) s.0)) s.1)

  rooted-same : rooted_in w (get_or w (stack_at + k) 0) ≡ rooted_in u (get_or u (stack_at + k) 0)
  rooted-same =
      let c = get_or u (stack_at + k) 0 in
      ap (rooted_in w) code_same ∙ ap (λ (y : ℕ). cond (eqb (c % 2) 0) c (2 * y + 1)) (entry-stays (c / 2) (p.shown k h).0)

  pub pin_next : (v : ℕ) → v ≡ rooted_in w (get_or w (stack_at + k) 0) → Pinned u (k + 1) (set w (lean_pins_at + k) v)
  pin_next v e =
      let f = p.few in
      let z = p.size in
      let s = l.size in
      let other : (j : ℕ) → j ≢ lean_pins_at + k → get_or (set w (lean_pins_at + k) v) j 0 ≡ get_or w j 0 = λ j q. get_or-set_other w (lean_pins_at + k) j v 0 q in
      record {
        size = length-set w (lean_pins_at + k) v ∙ l.size;
        below = λ j g. other j (λ q. omega arith) ∙ l.below j g;
        above = λ j g. other j (λ q. omega arith) ∙ l.above j g;
        done = λ j g. elim (ℕ_discrete j k) [
          | yes q ↦ ap (λ (i : ℕ). get_or (set w (lean_pins_at + k) v) (lean_pins_at + i) 0) q ∙ get_or-set_same w (lean_pins_at + k) v 0 (omega arith)
              ∙ e ∙ rooted-same ∙ ap (λ (i : ℕ). rooted_in u (get_or u (stack_at + i) 0)) (sym q)
          | no q ↦ other (lean_pins_at + j) (λ z. q (omega arith)) ∙ l.done j (omega arith)
        ];
      }

-- ---- elements

pub name-kept : (w : List ℕ) (n : ℕ) → entry w (n + 1) ≡ n + 1 → set w (roots_at + (n + 1)) (kinds_from + 7) ≡ name_one w (point n)
name-kept w n e = rw (eq-eqb (entry w (n + 1)) (n + 1) e)

pub name-left : (w : List ℕ) (n : ℕ) → (entry w (n + 1) ≡ n + 1 → ⊥) → set (set w (roots_at + n) 0) (roots_at + (n + 1)) left_out ≡ name_one w (point n)
name-left w n d = rw (ne_eqb (entry w (n + 1)) (n + 1) d)

pub name_point : (w : List ℕ) (k n : ℕ) → k ≡ 7 → (n + 2 ≡ after k n) × (name_one w (point n) ≡ named_all w (elements_from (k ∷ []) n))
name_point w k n e = rw (eq-eqb k 7 e) (refl, refl)

pub name-part : (w : List ℕ) (k n : ℕ) → (k ≡ 7 → ⊥) → set w (roots_at + output_of k n) (kinds_from + k) ≡ named_all w (elements_from (k ∷ []) n)
name-part w k n d = rw (ne_eqb k 7 d)

pub name-first : (w : List ℕ) (k : ℕ) (ks : List ℕ) (n : ℕ) → named_all w (elements_from (k ∷ ks) n) ≡ named_all (named_all w (elements_from (k ∷ []) n)) (elements_from ks (after k n))
name-first w k ks n = by (eqb k 7)
  where
    by : (b : Bool)
        → named_all w (cond b (point n ∷ elements_from ks (n + 2)) (part k n ∷ elements_from ks (n + (part_at k).inputs + 1)))
        ≡ named_all (named_all w (cond b (point n ∷ []) (part k n ∷ []))) (elements_from ks (cond b (n + 2) (n + (part_at k).inputs + 1)))
    by true = refl
    by false = refl

-- an element takes the terminals from n up to c
abbrev pub Own : Element → ℕ → ℕ → Type 0
Own (part p i) n c = (i ≡ n) × (n + (part_at p).inputs + 1 ≡ c)
Own (point i) n c = (i ≡ n) × (n + 2 ≡ c)

-- one element changes the table at its own terminals
pub name-within : (w : List ℕ) (e : Element) (n c : ℕ) → n ≤ 8192 → c ≤ 8192 → Own e n c → Within w (name_one w e)
name-within w (part p i) n c h g o = within-set w (i + (part_at p).inputs) (kinds_from + p) (omega (arith, o.0, o.1))
name-within w (point i) n c h g o = by (eqb (entry w (i + 1)) (i + 1))
  where
    by : (b : Bool) → Within w (cond b (set w (roots_at + (i + 1)) (kinds_from + 7)) (set (set w (roots_at + i) 0) (roots_at + (i + 1)) left_out))
    by true = within-set w (i + 1) (kinds_from + 7) (omega (arith, o.0, o.1))
    by false = within_then (within-set w i 0 (omega (arith, o.0, o.1))) (within-set (set w (roots_at + i) 0) (i + 1) left_out (omega (arith, o.0, o.1)))

-- i elements are done, from terminal `at` on the others are to come
pub record Naming (w₀ : List ℕ) (elements : ℕ) (w : List ℕ) (at i : ℕ) : Type 0 where
  pub within : Within w₀ w
  pub end : after_all (drop i (region w₀ elements_at elements)) at ≡ after_all (region w₀ elements_at elements) 0
  pub whole : named_all w (elements_from (drop i (region w₀ elements_at elements)) at) ≡ named_all w₀ (elements_from (region w₀ elements_at elements) 0)

module _ (w₀ w : List ℕ) (elements at i : ℕ) (size : memory_size ≤ length w₀) (count : elements ≤ 5120) (few : after_all (region w₀ elements_at elements) 0 ≤ 8192) (lt : i < elements) (s : Naming w₀ elements w at i) where
  abbrev ks : List ℕ
  ks = region w₀ elements_at elements

  abbrev k : ℕ
  k = get_or w (elements_at + i) 0

  next : drop i ks ≡ k ∷ drop (i + 1) ks
  next = region-next w₀ elements_at elements i (omega arith) lt ∙ ap (λ (x : ℕ). x ∷ drop (i + 1) ks) (sym (s.within.below (elements_at + i) (omega arith)))

  end-next : after_all (drop (i + 1) ks) (after k at) ≡ after_all ks 0
  end-next = subst (λ (xs : List ℕ). after_all xs at ≡ after_all ks 0) next s.end

  pub naming_low : after k at ≤ 8192
  naming_low = omega (arith, after-rises (drop (i + 1) ks) (after k at), end-next)

  one-within : Within w (named_all w (elements_from (k ∷ []) at))
  one-within = by_eqb (λ b. cond b (at + 2) (at + (part_at k).inputs + 1) ≤ 8192 → Within w (named_all w (cond b (point at ∷ []) (part k at ∷ [])))) k 7
      (λ e h. name-within w (point at) at (at + 2) (omega arith) h (refl, refl))
      (λ d h. name-within w (part k at) at (at + (part_at k).inputs + 1) (omega arith) h (refl, refl)) naming_low

  pub naming_next : Naming w₀ elements (named_all w (elements_from (k ∷ []) at)) (after k at) (i + 1)
  naming_next = record {
    within = within_then s.within one-within;
    end = end-next;
    whole = sym (name-first w k (drop (i + 1) ks) at) ∙ subst (λ (xs : List ℕ). named_all w (elements_from xs at) ≡ named_all w₀ (elements_from ks 0)) next s.whole;
  }

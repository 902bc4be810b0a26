-- Laws of a memory that changes in the table of roots only. Assumes nothing.
use Prim.Native.Nat.{ℕ, ◌+◌, ◌≤◌, ◌<◌}
use mathlib.Core.Path.{◌≡◌, refl, sym, ap, ◌∙◌, subst}
use mathlib.Core.Logic.{◌≢◌}
use mathlib.Core.List.{List, ◌∷◌, ◌++◌, append_assoc}
use native.Mathlib.Omega.{arith}
use lib.ListN.{length, get_or, set, take, drop, replicate, length-set, length-replicate, get_or-replicate}
use lib.Seq.{sets, sets-eq, length-sets, drop-drop, get_or-set_same, get_or-set_other}
use Rattle.laws.proofs.Regions.{sets-before, sets_outside, sets-read, region-at}
use borrow.Author.Tests.{ne_eqb, eq-eqb}
use Rattle.memory.specs.Map.{elements_at, roots_at, memory_size, region}
use Rattle.netlist.specs.Elements.{output_of, after, after_all}
use Rattle.lean.specs.Table.{entry, Within, Blank, start_root, started}
use Rattle.netlist.proofs.Elements.{after-rises}
use Rattle.lean.proofs.KindLaws.{output-low, region-next}

pub within_none : (w : List ℕ) → Within w w
within_none w = record { size = refl; below = λ j h. refl; above = λ j h. refl }

pub within_then : {u v w : List ℕ} → Within u v → Within v w → Within u w
within_then a b = record {
  size = b.size ∙ a.size;
  below = λ j h. b.below j h ∙ a.below j h;
  above = λ j h. b.above j h ∙ a.above j h;
}

-- one store in the table
pub within-set : (w : List ℕ) (x v : ℕ) → x < 8192 → Within w (set w (roots_at + x) v)
within-set w x v h = record {
  size = length-set w (roots_at + x) v;
  below = λ j l. let ne : j ≢ roots_at + x = omega arith in get_or-set_other w (roots_at + x) j v 0 ne;
  above = λ j l. let ne : j ≢ roots_at + x = omega arith in get_or-set_other w (roots_at + x) j v 0 ne;
}

pub entry-same : (w : List ℕ) (x v : ℕ) → memory_size ≤ length w → x < 8192 → entry (set w (roots_at + x) v) x ≡ v
entry-same w x v l h = get_or-set_same w (roots_at + x) v 0 (omega arith)

pub entry_other : (w : List ℕ) (x y v : ℕ) → (y ≡ x → ⊥) → entry (set w (roots_at + x) v) y ≡ entry w y
entry_other w x y v d = let ne : roots_at + y ≢ roots_at + x = λ e. d (omega arith) in get_or-set_other w (roots_at + x) (roots_at + y) v 0 ne

-- a part filled is a run stored
pub filled : (w : List ℕ) (a n : ℕ) → a + n ≤ length w → take a w ++ (replicate n 0 ++ drop n (drop a w)) ≡ sets w a (replicate n 0)
filled w a n h =
    let vs = replicate n 0 in
    let l = length-replicate n 0 in
    ap (λ (r : List ℕ). take a w ++ (vs ++ r)) (drop-drop n a w) ∙ sym (append_assoc (take a w) vs (drop (a + n) w))
    ∙ sym (sets-eq vs w a (omega arith) ∙ ap (λ (k : ℕ). take a w ++ vs ++ drop (a + k) w) l)

-- all entries 0
pub blanked : (w : List ℕ) (n : ℕ) → n ≡ 8192 → memory_size ≤ length w → Blank w (sets w roots_at (replicate n 0))
blanked w n e h =
    let vs : List ℕ = replicate n 0 in
    let l : length vs ≡ 8192 = length-replicate n 0 ∙ e in
    record {
      within = record {
        size = length-sets w roots_at vs;
        below = λ j g. sets-before vs w roots_at j 0 g;
        above = λ j g. sets_outside vs w roots_at j 0 (λ z. omega (arith, g)) (omega (arith, g, l));
      };
      none = λ x g. sym (region-at (sets w roots_at vs) roots_at (length vs) x (omega (arith, g, l))) ∙ ap (λ (v : List ℕ). get_or v x 0) (sets-read vs w roots_at (omega (arith, l, h))) ∙ get_or-replicate n x 0 0 (omega (arith, g, e));
    }

-- ---- how it starts

pub first_loose : (w : List ℕ) (k n : ℕ) → k ≡ 7 → (get_or w n 0 ≡ 65535 → ⊥) → 65535 ≡ start_root w k n
first_loose w k n e d = rw (eq-eqb k 7 e, ne_eqb (get_or w n 0) 65535 d)

pub first_pin : (w : List ℕ) (k n : ℕ) → k ≡ 7 → get_or w n 0 ≡ 65535 → output_of k n ≡ start_root w k n
first_pin w k n e f = rw (eq-eqb k 7 e, eq-eqb (get_or w n 0) 65535 f)

pub first_part : (w : List ℕ) (k n : ℕ) → (k ≡ 7 → ⊥) → output_of k n ≡ start_root w k n
first_part w k n d = rw (ne_eqb k 7 d)

-- i elements are done, from terminal `at` on the others are to come
pub record Starting (w₀ : List ℕ) (elements : ℕ) (w : List ℕ) (at i : ℕ) : Type 0 where
  pub within : Within w₀ w
  pub end : after_all (drop i (region w₀ elements_at elements)) at ≡ after_all (region w₀ elements_at elements) 0
  pub whole : started w (drop i (region w₀ elements_at elements)) at ≡ started w₀ (region w₀ elements_at elements) 0

module _ (w₀ w : List ℕ) (elements at i : ℕ) (size : memory_size ≤ length w₀) (count : elements ≤ 5120) (few : after_all (region w₀ elements_at elements) 0 ≤ 8192) (lt : i < elements) (s : Starting w₀ elements w at i) where
  abbrev ks : List ℕ
  ks = region w₀ elements_at elements

  abbrev k : ℕ
  k = get_or w (elements_at + i) 0

  next : drop i ks ≡ k ∷ drop (i + 1) ks
  next = region-next w₀ elements_at elements i (omega arith) lt ∙ ap (λ (x : ℕ). x ∷ drop (i + 1) ks) (sym (s.within.below (elements_at + i) (omega arith)))

  end-next : after_all (drop (i + 1) ks) (after k at) ≡ after_all ks 0
  end-next = subst (λ (xs : List ℕ). after_all xs at ≡ after_all ks 0) next s.end

  pub starting-low : after k at ≤ 8192
  starting-low = omega (arith, after-rises (drop (i + 1) ks) (after k at), end-next)

  pub starting-next : Starting w₀ elements (set w (roots_at + output_of k at) (start_root w k at)) (after k at) (i + 1)
  starting-next = record {
    within = within_then s.within (within-set w (output_of k at) (start_root w k at) (output-low k at 8192 starting-low));
    end = end-next;
    whole = subst (λ (xs : List ℕ). started w xs at ≡ started w₀ ks 0) next s.whole;
  }

-- The table as it starts: each entry is right or not settled. Assumes nothing.
use Prim.Native.Nat.{ℕ, ◌+◌, ◌-◌, ◌≤◌, ◌<◌}
use mathlib.Core.Path.{◌≡◌, refl, sym, ap, ◌∙◌, subst}
use mathlib.Core.Bool.{Bool, true, false, cond, ◌||◌}
use mathlib.Core.List.{List, [], ◌∷◌}
use native.Mathlib.Omega.{arith}
use lib.Dec.{T, eqb, eqb→eq, eqb_refl}
use lib.ListN.{length, get_or, set, length-set}
use Rattle.laws.proofs.Tests.{by_eqb, or_elim, or_left, or_right}
use Rattle.laws.proofs.Regions.{region_ext}
use Rattle.calculus.specs.Terms.{part_at}
use Rattle.calculus.specs.Net.{point, part, Net}
use Rattle.calculus.specs.Lean.{back, root}
use Rattle.calculus.specs.Record.{All}
use Rattle.calculus.specs.Inputs.{is_out}
use Rattle.circuit_theorems.proofs.Terminals.{point_in, point_made, out_high}
use Rattle.circuit_theorems.proofs.RootLaws.{root_stays}
use Rattle.circuit_theorems.proofs.BackLaws.{PartStays, back-parts}
use Rattle.memory.specs.Map.{elements_at, roots_at, memory_size, region, elements_from, net_in, Ready}
use Rattle.netlist.specs.Elements.{output_of, after, after_all}
use Rattle.lean.specs.Table.{entry, Within, Blank, start_root, started, Partly}
use Rattle.netlist.proofs.Elements.{after-rises}
use Rattle.lean.proofs.KindLaws.{output-low, after-output, output-from, tiled-after}
use Rattle.lean.proofs.TableLaws.{within_none, within_then, within-set, entry-same, entry_other}
use Rattle.memory.proofs.NetStays.{net-same, ready_same}
use Rattle.lean.proofs.DriverLaws.{rising, output-below, input-below, point_none, point_driven}

-- ---- what changes

pub started-within : (ks : List ℕ) (n : ℕ) (w : List ℕ) → after_all ks n ≤ 8192 → Within w (started w ks n)
started-within [] n w h = within_none w
started-within (k ∷ ks) n w h =
    let l : after k n ≤ 8192 = omega (arith, after-rises ks (after k n)) in
    within_then (within-set w (output_of k n) (start_root w k n) (output-low k n 8192 l)) (started-within ks (after k n) (set w (roots_at + output_of k n) (start_root w k n)) h)

-- an entry before the elements
started-before : (ks : List ℕ) (n : ℕ) (w : List ℕ) (x : ℕ) → x < n → entry (started w ks n) x ≡ entry w x
started-before [] n w x h = refl
started-before (k ∷ ks) n w x h =
    let a = output-from k n in
    let b = after-output k n in
    started-before ks (after k n) (set w (roots_at + output_of k n) (start_root w k n)) x (omega arith) ∙ entry_other w (output_of k n) x (start_root w k n) (λ e. absurd (omega arith))

-- an entry that is no output's
started-other : (ks : List ℕ) (n : ℕ) (w : List ℕ) (x : ℕ) → is_out (elements_from ks n) x ≡ false → entry (started w ks n) x ≡ entry w x
started-other [] n w x h = refl
started-other (k ∷ ks) n w x h = by (eqb k 7) h (λ v n. started-other ks n v x)
  where
    apart : (o : ℕ) (c : Bool) → eqb o x || c ≡ false → (x ≡ o → ⊥) × (c ≡ false)
    apart o c g = by_eqb (λ b. b || c ≡ false → (x ≡ o → ⊥) × (c ≡ false)) o x (λ e f. absurd (subst T f tt)) (λ d f. ((λ z. d (sym z)), f)) g

    by : (b : Bool) → is_out (cond b (point n ∷ elements_from ks (n + 2)) (part k n ∷ elements_from ks (n + (part_at k).inputs + 1))) x ≡ false
        → ((v : List ℕ) (n : ℕ) → is_out (elements_from ks n) x ≡ false → entry (started v ks n) x ≡ entry v x)
        → entry (started (set w (roots_at + cond b (n + 1) (n + (part_at k).inputs)) (cond b (cond (eqb (get_or w n 0) 65535) (n + 1) 65535) (n + (part_at k).inputs))) ks (cond b (n + 2) (n + (part_at k).inputs + 1))) x
        ≡ entry w x
    by true g f = let a = apart (n + 1) (is_out (elements_from ks (n + 2)) x) g in f _ (n + 2) a.1 ∙ entry_other w (n + 1) x _ a.0
    by false g f = let a = apart (n + (part_at k).inputs) (is_out (elements_from ks (n + (part_at k).inputs + 1)) x) g in f _ (n + (part_at k).inputs + 1) a.1 ∙ entry_other w (n + (part_at k).inputs) x _ a.0

-- ---- what an entry says

module _ (u : List ℕ) (e k p : ℕ) (r : Ready u e k p) where
  abbrev m : Net
  m = net_in u e k p

  -- the entry v of output o is right, or not settled and o goes back to its driver
  abbrev pub Says : ℕ → ℕ → Type 0
  Says o v = ((v ≡ 65535 → ⊥) → v ≡ root m o) × (v ≡ 65535 → (1 ≤ o) × (back m o ≡ get_or u (o - 1) 0))

  point-says : (i : ℕ) → T (point_in m.elements i) → Says (i + 1) (cond (eqb (get_or u i 0) 65535) (i + 1) 65535)
  point-says i h =
      by_eqb (λ b. Says (i + 1) (cond b (i + 1) 65535)) (get_or u i 0) 65535
      (λ z. ((λ d. sym (point_none u e k p r i h z)), λ f. absurd (big f)))
      (λ d. ((λ f. absurd (f refl)), λ f. (omega arith, point_driven u e k p r i h d ∙ ap (λ (x : ℕ). get_or u x 0) one)))
    where
      one : i ≡ i + 1 - 1
      one = omega arith

      big : i + 1 ≡ 65535 → ⊥
      big f = let l = input-below u e k p r i (point_made m.elements i h) in omega arith

  part_says : (o : ℕ) → o < 8192 → back m o ≡ o → Says o o
  part_says o l s = ((λ d. sym (root_stays m o s)), λ f. absurd (omega arith))

  -- where each entry says so, and the others are 0, the table is partly done
  pub partly_of : (w : List ℕ) → Within u w → ((x : ℕ) → x < 8192 → is_out m.elements x ≡ false → entry w x ≡ 0)
      → ((o : ℕ) → T (is_out m.elements o) → Says o (entry w o)) → Partly w e k p
  partly_of w h others says =
      let same = net-same u e k p r w h.size h.below in
      record {
        ready = ready_same u e k p r w h.size h.below;
        other = rw same others;
        right = rw same (λ o t. (says o t).0);
        loose = λ o t z.
            let t₁ = subst (λ (y : Net). T (is_out y.elements o)) same t in
            let s = (says o t₁).1 z in
            let l = output-below u e k p r o t₁ in
            (s.0, ap (λ (y : Net). back y o) same ∙ s.1 ∙ sym (h.below (o - 1) (omega arith)));
      }

  -- the entries of the elements that are still to come, in a memory v that has u's drivers
  abbrev Rest : List ℕ → ℕ → List ℕ → Type 0
  Rest ks n v = after_all ks n ≤ 8192 → memory_size ≤ length v → ((j : ℕ) → j < 8192 → get_or v j 0 ≡ get_or u j 0) → All (PartStays m) (elements_from ks n)
      → ((x : ℕ) → T (point_in (elements_from ks n) x) → T (point_in m.elements x)) → (o : ℕ) → T (is_out (elements_from ks n) o) → Says o (entry (started v ks n) o)

  -- one element's output, and the rest
  one-says : (ks : List ℕ) (n o a : ℕ) (v : List ℕ) (x : ℕ) → o < n → after_all ks n ≤ 8192 → memory_size ≤ length v → ((j : ℕ) → j < 8192 → get_or v j 0 ≡ get_or u j 0)
      → All (PartStays m) (elements_from ks n) → ((x : ℕ) → T (point_in (elements_from ks n) x) → T (point_in m.elements x))
      → T (eqb o x || is_out (elements_from ks n) x) → Says o a → Rest ks n (set v (roots_at + o) a) → Says x (entry (started (set v (roots_at + o) a) ks n) x)
  one-says ks n o a v x lt h l same stays f t says rest =
      let low : o < 8192 = omega (arith, after-rises ks n) in
      or_elim (eqb o x) (is_out (elements_from ks n) x) t
      (λ z. subst (λ (y : ℕ). Says y (entry (started (set v (roots_at + o) a) ks n) y)) (eqb→eq o x z)
      (subst (λ (y : ℕ). Says o y) (sym (started-before ks n (set v (roots_at + o) a) o lt ∙ entry-same v o a l low)) says))
      (λ z. rest h (simp length-set l) (λ j b. (within-set v o a low).below j (omega arith) ∙ same j b) stays f x z)

  started-says : (ks : List ℕ) (n : ℕ) (v : List ℕ) → Rest ks n v
  started-says [] n v h l same stays f o t = absurd t
  started-says (k ∷ ks) n v h l same stays f o t = by (eqb k 7) h stays f t (λ n v. started-says ks n v)
    where
      by : (b : Bool) → after_all ks (cond b (n + 2) (n + (part_at k).inputs + 1)) ≤ 8192
          → All (PartStays m) (cond b (point n ∷ elements_from ks (n + 2)) (part k n ∷ elements_from ks (n + (part_at k).inputs + 1)))
          → ((x : ℕ) → T (point_in (cond b (point n ∷ elements_from ks (n + 2)) (part k n ∷ elements_from ks (n + (part_at k).inputs + 1))) x) → T (point_in m.elements x))
          → T (is_out (cond b (point n ∷ elements_from ks (n + 2)) (part k n ∷ elements_from ks (n + (part_at k).inputs + 1))) o)
          → ((n : ℕ) (v : List ℕ) → Rest ks n v)
          → Says o (entry (started (set v (roots_at + cond b (n + 1) (n + (part_at k).inputs)) (cond b (cond (eqb (get_or v n 0) 65535) (n + 1) 65535) (n + (part_at k).inputs))) ks (cond b (n + 2) (n + (part_at k).inputs + 1))) o)
      by true h stays f t rest =
          let a : ℕ = cond (eqb (get_or v n 0) 65535) (n + 1) 65535 in
          let low : n < 8192 = omega (arith, after-rises ks (n + 2)) in
          one-says ks (n + 2) (n + 1) a v o (omega arith) h l same stays.1 (λ x z. f x (or_right (eqb n x) _ z)) t
          (subst (λ (y : ℕ). Says (n + 1) (cond (eqb y 65535) (n + 1) 65535)) (sym (same n low)) (point-says n (f n (or_left (eqb n n) _ (eqb_refl n)))))
          (rest (n + 2) (set v (roots_at + (n + 1)) a))
      by false h stays f t rest =
          let o₁ : ℕ = n + (part_at k).inputs in
          one-says ks (o₁ + 1) o₁ o₁ v o (omega arith) h l same stays.1 f t (part_says o₁ (omega (arith, after-rises ks (o₁ + 1))) stays.0) (rest (o₁ + 1) (set v (roots_at + o₁) o₁))

-- ---- the whole

-- u is w with the table as it starts, and `end` is the first terminal that no element takes
pub record Begun (w u : List ℕ) (elements wires pins end : ℕ) : Type 0 where
  pub within : Within w u
  pub partly : Partly u elements wires pins
  pub low : end ≤ 8192
  pub before : (x : ℕ) → T (is_out (net_in w elements wires pins).elements x) → x < end
  pub ends : end ≡ after_all (region w elements_at elements) 0

module _ (w v : List ℕ) (e k p : ℕ) (r : Ready w e k p) (b : Blank w v) where
  abbrev rv : Ready v e k p
  rv = ready_same w e k p r v b.within.size b.within.below

  abbrev ks : List ℕ
  ks = region v elements_at e

  pub kinds-low : after_all ks 0 ≤ 8192
  unfolding net_in
  kinds-low = let q = tiled-after ks 0 rv.end rv.tiled in let z = rv.below in omega arith

  started-in : Within v (started v ks 0)
  started-in = started-within ks 0 v kinds-low

  says_all : (o : ℕ) → T (is_out (net_in v e k p).elements o) → Says v e k p rv o (entry (started v ks 0) o)
  unfolding net_in
  says_all o t =
      started-says v e k p rv ks 0 v kinds-low rv.size (λ j h. refl) (back-parts (net_in v e k p) rv.end (rising v e k p rv)) (λ x z. z) o t

  others : (x : ℕ) → x < 8192 → is_out (net_in v e k p).elements x ≡ false → entry (started v ks 0) x ≡ 0
  unfolding net_in
  others x l h = started-other ks 0 v x h ∙ b.none x l

  started-partly : Partly (started v ks 0) e k p
  started-partly = partly_of v e k p rv (started v ks 0) started-in others says_all

  -- no output is past the last element
  before-end : (x : ℕ) → T (is_out (net_in w e k p).elements x) → x < after_all ks 0
  unfolding net_in
  before-end x t =
      let same = net-same w e k p r v b.within.size b.within.below in
      let q = tiled-after ks 0 rv.end rv.tiled in
      let h = out_high (net_in v e k p).elements 0 rv.end x (rising v e k p rv) (subst (λ (y : Net). T (is_out y.elements x)) (sym same) t) in
      omega arith

  kinds-same : ks ≡ region w elements_at e
  kinds-same =
      let z = r.size in
      let f = r.few_elements in
      let s = b.within.size in
      region_ext elements_at e w v (omega arith) (omega arith) (λ j l g. b.within.below j (omega arith))

  pub begun : (u : List ℕ) (end : ℕ) → (end ≡ after_all ks 0) × (u ≡ started v ks 0) → Begun w u e k p end
  begun u end h = record {
    within = subst (Within w) (sym h.1) (within_then b.within started-in);
    partly = subst (λ (x : List ℕ). Partly x e k p) (sym h.1) started-partly;
    low = let a = h.0 in omega (arith, kinds-low);
    before = λ x t. let a = h.0 in omega (arith, before-end x t);
    ends = h.0 ∙ ap (λ (xs : List ℕ). after_all xs 0) kinds-same;
  }

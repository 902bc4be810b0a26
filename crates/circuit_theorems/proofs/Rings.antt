-- As many steps back as there are points end at an output that stays, or in a ring. Assumes nothing.
use Prim.Native.Nat.{ℕ, zero, suc, ◌+◌, ◌-◌, ◌<◌, ◌≤◌}
use mathlib.Core.Path.{◌≡◌, refl, sym, ap, ◌∙◌, subst}
use mathlib.Core.Logic.{◌⊎◌, inl, inr, ⊎_elim}
use mathlib.Core.Bool.{cond, ◌||◌}
use mathlib.Core.List.{List, [], ◌∷◌}
use native.Mathlib.Nat.{suc-add, zero-add, eq-or-lt_of_le, not-suc-le-zero, le_of_suc-le-suc, le_refl, add_comm}
use native.Mathlib.Decide.{ℕ_discrete}
use native.Mathlib.Omega.{arith}
use lib.Dec.{T, eqb, eqb→eq}
use lib.ListN.{length}
use Rattle.laws.proofs.Tests.{or_cases, or_left, or_right, by_eqb}
use Rattle.calculus.specs.Net.{Element, point, part, Net}
use Rattle.calculus.specs.Lean.{driver, is_pin, point_count, back_in, back, backs}
use Rattle.circuit_theorems.specs.Terminals.{has}

-- ---- more pigeons than holes

abbrev remove : ℕ → List ℕ → List ℕ
remove q [] = []
remove q (y ∷ P) = cond (eqb y q) P (y ∷ remove q P)

remove-length : (q : ℕ) (P : List ℕ) → T (has P q) → suc (length (remove q P)) ≡ length P
remove-length q [] h = absurd h
remove-length q (y ∷ P) h =
    by_eqb (λ b. T (b || has P q) → suc (length (cond b P (y ∷ remove q P))) ≡ suc (length P)) y q
    (λ e t. refl)
    (λ d t. ap suc (remove-length q P t)) h

remove-has : (q x : ℕ) (P : List ℕ) → T (has P x) → ¬ (x ≡ q) → T (has (remove q P) x)
remove-has q x [] h d = h
remove-has q x (y ∷ P) h d =
    by_eqb (λ b. T (has (cond b P (y ∷ remove q P)) x)) y q
    (λ e. ⊎_elim (λ t. absurd (d (sym (eqb→eq y x t) ∙ e))) (λ t. t) (or_cases (eqb y x) (has P x) h))
    (λ _. ⊎_elim (λ t. or_left (eqb y x) (has (remove q P) x) t) (λ t. or_right (eqb y x) (has (remove q P) x) (remove-has q x P t d)) (or_cases (eqb y x) (has P x) h))

find : (n : ℕ) (g : ℕ → ℕ) (q : ℕ) → ((k : ℕ) × (k < n) × (g k ≡ q)) ⊎ ((k : ℕ) → k < n → ¬ (g k ≡ q))
find zero g q = inr (λ k h. absurd (not-suc-le-zero h))
find (suc n) g q = go (ℕ_discrete (g n) q) (find n g q)
  where
    go : Dec (g n ≡ q) → ((k : ℕ) × (k < n) × (g k ≡ q)) ⊎ ((k : ℕ) → k < n → ¬ (g k ≡ q)) → ((k : ℕ) × (k < suc n) × (g k ≡ q)) ⊎ ((k : ℕ) → k < suc n → ¬ (g k ≡ q))
    go (yes e) r = inl (n, le_refl (suc n), e)
    go (no d) (inl (k, h, e)) = inl (k, omega arith, e)
    go (no d) (inr f) = inr (λ k h. ⊎_elim (λ (e : k ≡ n). λ z. d (ap g (sym e) ∙ z)) (λ l. f k l) (eq-or-lt_of_le (le_of_suc-le-suc h)))

pub pigeon : (n : ℕ) (P : List ℕ) (g : ℕ → ℕ) → length P < n → ((k : ℕ) → k < n → T (has P (g k))) → (a : ℕ) × (b : ℕ) × (a < b) × (b < n) × (g a ≡ g b)
pigeon zero P g h m = absurd (not-suc-le-zero h)
pigeon (suc n) P g h m =
    ⊎_elim (λ (x : (k : ℕ) × (k < n) × (g k ≡ g n)). (x.0, n, x.1, le_refl (suc n), x.2))
    (λ f.
    let l = remove-length (g n) P (m n (le_refl (suc n))) in
    let (a, b, i, j, e) = pigeon n (remove (g n) P) g (omega arith) (λ k hk. remove-has (g n) (g k) P (m k (omega arith)) (f k hk)) in
    (a, b, i, omega arith, e))
    (find n g (g n))

-- ---- steps back

abbrev pub point_outs : List Element → List ℕ
point_outs [] = []
point_outs (point i ∷ es) = (i + 1) ∷ point_outs es
point_outs (part p i ∷ es) = point_outs es

pub outs-length : (es : List Element) → length (point_outs es) ≡ point_count es
outs-length [] = refl
outs-length (point i ∷ es) = ap suc (outs-length es)
outs-length (part p i ∷ es) = outs-length es

module _ (m : Net) where
  -- an output stays, or is a point's
  pub moves_in : (es : List Element) (x : ℕ) → (back_in es m x ≡ x) ⊎ T (has (point_outs es) x)
  moves_in [] x = inl refl
  moves_in (point i ∷ es) x =
      by_eqb (λ b. (cond b (cond (is_pin m.pins i) x (driver m.wires i x)) (back_in es m x) ≡ x) ⊎ T (b || has (point_outs es) x)) (i + 1) x
      (λ e. inr tt)
      (λ d. moves_in es x)
  moves_in (part p i ∷ es) x = moves_in es x

  pub backs_add : (a b x : ℕ) → backs (a + b) m x ≡ backs b m (backs a m x)
  backs_add zero b x = rw zero-add
  backs_add (suc a) b x = rw suc-add (backs_add a b (back m x))

  pub stay : (k x : ℕ) → back m x ≡ x → backs k m x ≡ x
  stay zero x e = refl
  stay (suc k) x e = ap (backs k m) e ∙ stay k x e

  -- an output that comes round within n steps
  pub record Round (n p : ℕ) : Type 0 where
    pub steps : ℕ
    pub some : 1 ≤ steps
    pub few : steps ≤ n
    pub same : backs steps m p ≡ p

  stops : (n x : ℕ) → ((k : ℕ) × (k < n) × (back m (backs k m x) ≡ backs k m x)) ⊎ ((k : ℕ) → k < n → T (has (point_outs m.elements) (backs k m x)))
  stops zero x = inr (λ k h. absurd (not-suc-le-zero h))
  stops (suc n) x = go (moves_in m.elements (backs n m x)) (stops n x)
    where
      go : (back m (backs n m x) ≡ backs n m x) ⊎ T (has (point_outs m.elements) (backs n m x))
          → ((k : ℕ) × (k < n) × (back m (backs k m x) ≡ backs k m x)) ⊎ ((k : ℕ) → k < n → T (has (point_outs m.elements) (backs k m x)))
          → ((k : ℕ) × (k < suc n) × (back m (backs k m x) ≡ backs k m x)) ⊎ ((k : ℕ) → k < suc n → T (has (point_outs m.elements) (backs k m x)))
      go (inl e) r = inl (n, le_refl (suc n), e)
      go (inr t) (inl (k, h, e)) = inl (k, omega arith, e)
      go (inr t) (inr f) = inr (λ k h. ⊎_elim (λ (e : k ≡ n). rw e t) (λ l. f k l) (eq-or-lt_of_le (le_of_suc-le-suc h)))

  -- what comes round, comes round later too
  pub later : (n a x : ℕ) → Round n x → Round n (backs a m x)
  later n a x r = record {
    steps = r.steps;
    some = r.some;
    few = r.few;
    same = sym (backs_add a r.steps x) ∙ ap (λ (k : ℕ). backs k m x) (add_comm a r.steps) ∙ backs_add r.steps a x ∙ ap (backs a m) r.same;
  }

  pub backs_sub : (a b x : ℕ) → a ≤ b → backs (b - a) m (backs a m x) ≡ backs b m x
  backs_sub a b x h = let e : a + (b - a) ≡ b = omega arith in sym (backs_add a (b - a) x) ∙ rw e

  abbrev pub count : ℕ
  count = point_count m.elements

  pub rounds : (x : ℕ) → 1 ≤ count → Round count (backs count m x)
  rounds x one = ⊎_elim halted ringed (stops (suc count) x)
    where
      halted : (k : ℕ) × (k < suc count) × (back m (backs k m x) ≡ backs k m x) → Round count (backs count m x)
      halted (k, h, e) =
          let p : backs count m x ≡ backs k m x = sym (backs_sub k count x (le_of_suc-le-suc h)) ∙ stay (count - k) (backs k m x) e in
          record { steps = 1; some = le_refl 1; few = one; same = ap (back m) p ∙ e ∙ sym p }

      comes : (a : ℕ) × (b : ℕ) × (a < b) × (b < suc count) × (backs a m x ≡ backs b m x) → Round count (backs count m x)
      comes (a, b, i, j, e) =
          subst (λ (y : ℕ). Round count y) (backs_sub a count x (omega arith))
          (later count (count - a) (backs a m x) (record { steps = b - a; some = omega arith; few = omega arith; same = backs_sub a b x (omega arith) ∙ sym e }))

      ringed : ((k : ℕ) → k < suc count → T (has (point_outs m.elements) (backs k m x))) → Round count (backs count m x)
      ringed f =
          comes (pigeon (suc count) (point_outs m.elements) (λ k. backs k m x) (omega (arith, outs-length m.elements)) f)

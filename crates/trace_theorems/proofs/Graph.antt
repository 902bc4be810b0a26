-- Terminals that look back at others: a ring exists just when some terminal is never settled, and a ring is found within as many steps as there are terminals.
-- Assumes nothing.
use Prim.Native.Nat.{ℕ, zero, suc, ◌+◌, ◌-◌, ◌<◌, ◌≤◌}
use mathlib.Core.Path.{◌≡◌, refl, sym, ap, ◌∙◌, subst}
use mathlib.Core.Logic.{◌⊎◌, inl, inr, ⊎_elim}
use mathlib.Core.Bool.{Bool, true, false, cond, ◌&&◌, ◌||◌}
use mathlib.Core.List.{List, [], ◌∷◌}
use native.Mathlib.Nat.{not-suc-le-zero, le_of_suc-le-suc, le_refl, eq-or-lt_of_le}
use native.Mathlib.Decide.{dec_le}
use native.Mathlib.Omega.{arith}
use lib.Dec.{T, eqb, eqb→eq, eqb_refl}
use lib.ListN.{length}
use Rattle.circuit_theorems.specs.Terminals.{has}
use Rattle.trace_calculus.specs.Trace.{any, reach}
use Rattle.laws.proofs.Tests.{and_both, and_of, or_cases, or_left, or_right}
use Rattle.circuit_theorems.proofs.Rings.{pigeon}

-- ---- any and all

abbrev pub all_of : (ℕ → Bool) → List ℕ → Bool
all_of f [] = true
all_of f (x ∷ xs) = f x && all_of f xs

pub all-at : (f : ℕ → Bool) (xs : List ℕ) → T (all_of f xs) → (x : ℕ) → T (has xs x) → T (f x)
all-at f [] a x h = absurd h
all-at f (y ∷ xs) a x h =
    ⊎_elim (λ u. subst (λ (k : ℕ). T (f k)) (eqb→eq y x u) (and_both (f y) (all_of f xs) a).0) (λ u. all-at f xs (and_both (f y) (all_of f xs) a).1 x u) (or_cases (eqb y x) (has xs x) h)

pub all_of_lem : (f : ℕ → Bool) (xs : List ℕ) → ((x : ℕ) → T (has xs x) → T (f x)) → T (all_of f xs)
all_of_lem f [] h = tt
all_of_lem f (x ∷ xs) h = and_of (f x) (all_of f xs) (h x (or_left (eqb x x) (has xs x) (eqb_refl x))) (all_of_lem f xs (λ y t. h y (or_right (eqb x y) (has xs y) t)))

-- the first that fails
abbrev first_not : (ℕ → Bool) → List ℕ → ℕ → ℕ
first_not f [] d = d
first_not f (x ∷ xs) d = cond (f x) (first_not f xs d) x

first_not_lem : (f : ℕ → Bool) (xs : List ℕ) (d : ℕ) → all_of f xs ≡ false → T (has xs (first_not f xs d)) × (f (first_not f xs d) ≡ false)
first_not_lem f [] d e = absurd (subst (λ (b : Bool). T b) e tt)
first_not_lem f (x ∷ xs) d e = go (f x) refl e (first_not_lem f xs d)
  where
    go : (b : Bool) → f x ≡ b → (b && all_of f xs) ≡ false → (all_of f xs ≡ false → T (has xs (first_not f xs d)) × (f (first_not f xs d) ≡ false)) → T (has (x ∷ xs) (cond b (first_not f xs d) x)) × (f (cond b (first_not f xs d) x) ≡ false)
    go true h e ih = let r = ih e in (or_right (eqb x (first_not f xs d)) (has xs (first_not f xs d)) r.0, r.1)
    go false h e ih = (or_left (eqb x x) (has xs x) (eqb_refl x), h)

any_at : (f : ℕ → Bool) (xs : List ℕ) → T (any f xs) → (x : ℕ) × T (has xs x) × T (f x)
any_at f [] t = absurd t
any_at f (y ∷ xs) t =
    ⊎_elim (λ u. (y, or_left (eqb y y) (has xs y) (eqb_refl y), u))
    (λ u. let r = any_at f xs u in (r.0, or_right (eqb y r.0) (has xs r.0) r.1, r.2))
    (or_cases (f y) (any f xs) t)

at-any : (f : ℕ → Bool) (xs : List ℕ) (x : ℕ) → T (has xs x) → T (f x) → T (any f xs)
at-any f [] x h t = absurd h
at-any f (y ∷ xs) x h t =
    ⊎_elim (λ u. or_left (f y) (any f xs) (subst (λ (k : ℕ). T (f k)) (sym (eqb→eq y x u)) t)) (λ u. or_right (f y) (any f xs) (at-any f xs x u t)) (or_cases (eqb y x) (has xs x) h)

and_up : (a b c d : Bool) → (T a → T b) → (T c → T d) → T (a && c) → T (b && d)
and_up true true c d f g t = g t
and_up true false c d f g t = absurd (f tt)
and_up false b c d f g t = absurd t

module _ (back : ℕ → List ℕ) where
  -- from x back to y, in one step or more
  pub data Back : ℕ → ℕ → Type 0 where
    last : {x y : ℕ} → T (has (back x) y) → Back x y
    step : {x y z : ℕ} → T (has (back x) y) → Back y z → Back x z

  pub longer : {x y z : ℕ} → Back x y → Back y z → Back x z
  longer (last h) q = step h q
  longer (step h p) q = step h (longer p q)

  -- ---- settled within k rounds

  abbrev pub settled : ℕ → ℕ → Bool
  settled zero x = false
  settled (suc k) x = all_of (settled k) (back x)

  all_up : (f g : ℕ → Bool) → ((x : ℕ) → T (f x) → T (g x)) → (xs : List ℕ) → T (all_of f xs) → T (all_of g xs)
  all_up f g h [] a = tt
  all_up f g h (x ∷ xs) a = and_up (f x) (g x) (all_of f xs) (all_of g xs) (h x) (all_up f g h xs) a

  pub settled_up : (k x : ℕ) → T (settled k x) → T (settled (suc k) x)
  settled_up zero x t = absurd t
  settled_up (suc k) x t = all_up (settled k) (settled (suc k)) (settled_up k) (back x) t

  -- what is settled looks back at what was settled one round before
  settled_back : (k : ℕ) {x y : ℕ} → Back x y → T (settled (suc k) x) → T (settled k y)
  settled_back k {x} {y} (last h) t = all-at (settled k) (back x) t y h
  settled_back k {x} (step {y = y} h p) t = settled_back k p (settled_up k y (all-at (settled k) (back x) t y h))

  pub settled_free : (k x : ℕ) → T (settled k x) → Back x x → ⊥
  settled_free zero x t p = t
  settled_free (suc k) x t p = settled_free k x (settled_back k p t) p

  -- ---- what is not settled after more rounds than there are terminals has a ring behind it

  trail : ℕ → ℕ → ℕ → ℕ
  trail k x zero = x
  trail zero x (suc j) = x
  trail (suc k) x (suc j) = trail k (first_not (settled k) (back x) x) j

  trail-steps : (k x : ℕ) → settled k x ≡ false → (j : ℕ) → j < k → T (has (back (trail k x j)) (trail k x (suc j)))
  unfolding trail
  trail-steps zero x e j h = absurd (not-suc-le-zero h)
  trail-steps (suc k) x e zero h = (first_not_lem (settled k) (back x) x e).0
  trail-steps (suc k) x e (suc j) h = trail-steps k (first_not (settled k) (back x) x) (first_not_lem (settled k) (back x) x e).1 j (le_of_suc-le-suc h)

  -- a stretch of a path, as a chain
  stretch : (g : ℕ → ℕ) (n : ℕ) → ((j : ℕ) → j < n → T (has (back (g j)) (g (suc j)))) → (a d : ℕ) → suc (a + d) ≤ n → Back (g a) (g (suc (a + d)))
  stretch g n s a zero h = let e : a + 0 ≡ a = omega arith in last {x = g a} {y = g (suc (a + 0))} (rw e (s a (omega arith)))
  stretch g n s a (suc d) h =
      let e : a + suc d ≡ suc a + d = omega arith in
      step {x = g a} {y = g (suc a)} {z = g (suc (a + suc d))} (s a (omega arith)) (rw e (stretch g n s (suc a) d (omega arith)))

  module _ (ts : List ℕ) (closed : (x y : ℕ) → T (has (back x) y) → T (has ts y)) where
    pub ring-behind : (x : ℕ) → settled (suc (length ts)) x ≡ false → (y : ℕ) × Back y y
    ring-behind x e = meet (pigeon k ts (λ j. trail k x (suc j)) (le_refl k) (λ j h. closed (trail k x j) (trail k x (suc j)) (trail-steps k x e j h)))
      where
        k : ℕ
        k = suc (length ts)

        meet : (a : ℕ) × (b : ℕ) × (a < b) × (b < k) × (trail k x (suc a) ≡ trail k x (suc b)) → (y : ℕ) × Back y y
        meet (a, b, l, h, q) =
            let e₁ : suc (suc a + (b - suc a)) ≡ suc b = omega arith in
            (trail k x (suc a), subst (λ (z : ℕ). Back (trail k x (suc a)) z) (ap (trail k x) e₁ ∙ sym q) (stretch (trail k x) k (trail-steps k x e) (suc a) (b - suc a) (omega arith)))

    is-settled : (b : Bool) → (b ≡ false → ⊥) → T b
    is-settled true f = tt
    is-settled false f = absurd (f refl)

    pub all_settled : ((y : ℕ) → Back y y → ⊥) → (x : ℕ) → T (settled (suc (length ts)) x)
    all_settled free x = is-settled (settled (suc (length ts)) x) (λ e. let r = ring-behind x e in free r.0 r.1)

  -- ---- the search back

  pub reach-back : (k y x : ℕ) → T (reach back k y x) → Back x y
  reach-back zero y x t = absurd t
  reach-back (suc k) y x t =
      let r = any_at (λ d. eqb d y || reach back k y d) (back x) t in
      ⊎_elim (λ u. last (subst (λ (z : ℕ). T (has (back x) z)) (eqb→eq r.0 y u) r.1)) (λ u. step r.1 (reach-back k y r.0 u)) (or_cases (eqb r.0 y) (reach back k y r.0) r.2)

  -- a path of n + 1 steps, as a function of the step
  pub record Path (n x y : ℕ) : Type 0 where
    pub at : ℕ → ℕ
    pub start : at 0 ≡ x
    pub end : at (suc n) ≡ y
    pub steps : (j : ℕ) → j < suc n → T (has (back (at j)) (at (suc j)))

  path-reach : (n x y : ℕ) → Path n x y → T (reach back (suc n) y x)
  path-reach zero x y p =
      at-any (λ d. eqb d y || false) (back x) (p.at 1) (subst (λ (z : ℕ). T (has (back z) (p.at 1))) p.start (p.steps 0 (le_refl 1)))
      (or_left (eqb (p.at 1) y) false (subst (λ (z : ℕ). T (eqb (p.at 1) z)) p.end (eqb_refl (p.at 1))))
  path-reach (suc n) x y p =
      at-any (λ d. eqb d y || reach back (suc n) y d) (back x) (p.at 1) (subst (λ (z : ℕ). T (has (back z) (p.at 1))) p.start (p.steps 0 (omega arith)))
      (or_right (eqb (p.at 1) y) (reach back (suc n) y (p.at 1)) (path-reach n (p.at 1) y (record { at = λ j. p.at (suc j); start = refl; end = p.end; steps = λ j h. p.steps (suc j) (omega arith) })))

  back-path : {x y : ℕ} → Back x y → (n : ℕ) × Path n x y
  back-path {x} {y} (last h) = (0, record { at = elim [ zero ↦ x | suc j ↦ y ]; start = refl; end = refl; steps = only })
    where
      only : (j : ℕ) → j < 1 → T (has (back (elim j as (λ _. ℕ) [ zero ↦ x | suc j ↦ y ])) y)
      only zero l = h
      only (suc j) l = absurd (not-suc-le-zero (le_of_suc-le-suc l))
  back-path {x} (step {y = u} {z = z} h q) = go (back-path q)
    where
      go : (n : ℕ) × Path n u z → (n : ℕ) × Path n x z
      go (n, p) = (suc n, record { at = elim [ zero ↦ x | suc j ↦ p.at j ]; start = refl; end = p.end; steps = more })
        where
          more : (j : ℕ) → j < suc (suc n) → T (has (back (elim j as (λ _. ℕ) [ zero ↦ x | suc j ↦ p.at j ])) (p.at j))
          more zero l = subst (λ (z : ℕ). T (has (back x) z)) (sym p.start) h
          more (suc j) l = p.steps j (le_of_suc-le-suc l)

  -- cut out the stretch between two equal places, until the path is short enough
  module _ (ts : List ℕ) (closed : (x y : ℕ) → T (has (back x) y) → T (has ts y)) where
    abbrev cut_at : (ℕ → ℕ) → ℕ → ℕ → ℕ → ℕ
    cut_at g a d j = elim (dec_le j a) [ yes h ↦ g j | no h ↦ g (j + d) ]

    cut_low : (g : ℕ → ℕ) (a d j : ℕ) → j ≤ a → cut_at g a d j ≡ g j
    cut_low g a d j h = go (dec_le j a)
      where
        go : (c : Dec (j ≤ a)) → elim c as (λ _. ℕ) [ yes h ↦ g j | no h ↦ g (j + d) ] ≡ g j
        go (yes _) = refl
        go (no f) = absurd (f h)

    cut_high : (g : ℕ → ℕ) (a d j : ℕ) → a < j → cut_at g a d j ≡ g (j + d)
    cut_high g a d j h = go (dec_le j a)
      where
        go : (c : Dec (j ≤ a)) → elim c as (λ _. ℕ) [ yes h ↦ g j | no h ↦ g (j + d) ] ≡ g (j + d)
        go (yes l) = absurd (omega arith)
        go (no f) = refl

    cut-path : (n x y a d : ℕ) (p : Path n x y) → a + d < suc n → p.at (suc a) ≡ p.at (suc (a + d)) → Path (n - d) x y
    cut-path n x y a d p h q = record {
      at = cut_at p.at a d;
      start = cut_low p.at a d 0 (omega arith) ∙ p.start;
      end = let e : suc (n - d) + d ≡ suc n = omega arith in cut_high p.at a d (suc (n - d)) (omega arith) ∙ ap p.at e ∙ p.end;
      steps = steps;
    }
      where
        ends : (j : ℕ) (c e : ℕ) → cut_at p.at a d j ≡ c → cut_at p.at a d (suc j) ≡ e → T (has (back c) e) → T (has (back (cut_at p.at a d j)) (cut_at p.at a d (suc j)))
        ends j c e u v t = subst (λ (z : ℕ). T (has (back z) (cut_at p.at a d (suc j)))) (sym u) (subst (λ (z : ℕ). T (has (back c) z)) (sym v) t)

        steps : (j : ℕ) → j < suc (n - d) → T (has (back (cut_at p.at a d j)) (cut_at p.at a d (suc j)))
        steps j l = ⊎_elim (λ (e : j ≡ a). ends j (p.at a) (p.at (suc a)) (ap (cut_at p.at a d) e ∙ cut_low p.at a d a (le_refl a))
            (ap (λ (k : ℕ). cut_at p.at a d (suc k)) e ∙ cut_high p.at a d (suc a) (le_refl (suc a)) ∙ (let z : suc a + d ≡ suc (a + d) = omega arith in ap p.at z) ∙ sym q) (p.steps a (omega arith)))
            (λ u. u) (sides (dec_le j a))
          where
            sides : Dec (j ≤ a) → (j ≡ a) ⊎ T (has (back (cut_at p.at a d j)) (cut_at p.at a d (suc j)))
            sides (yes i) = ⊎_elim inl (λ (i₁ : j < a). inr (ends j (p.at j) (p.at (suc j)) (cut_low p.at a d j i) (cut_low p.at a d (suc j) i₁) (p.steps j (omega arith)))) (eq-or-lt_of_le i)
            sides (no i) = inr (ends j (p.at (j + d)) (p.at (suc (j + d))) (cut_high p.at a d j (omega arith)) (cut_high p.at a d (suc j) (omega arith) ∙ (let z : suc j + d ≡ suc (j + d) = omega arith in ap p.at z)) (p.steps (j + d) (omega arith)))

    repeat : (n x y : ℕ) (p : Path n x y) → length ts ≤ n → (a : ℕ) × (b : ℕ) × (a < b) × (b < suc n) × (p.at (suc a) ≡ p.at (suc b))
    repeat n x y p l = pigeon (suc n) ts (λ j. p.at (suc j)) (omega arith) (λ j h. closed (p.at j) (p.at (suc j)) (p.steps j h))

    shorter : (n x y : ℕ) (p : Path n x y) → length ts ≤ n → (k : ℕ) × (k < n) × Path k x y
    shorter n x y p l = go (repeat n x y p l)
      where
        go : (a : ℕ) × (b : ℕ) × (a < b) × (b < suc n) × (p.at (suc a) ≡ p.at (suc b)) → (k : ℕ) × (k < n) × Path k x y
        go (a, b, i, j, q) = let e : a + (b - a) ≡ b = omega arith in (n - (b - a), omega arith, cut-path n x y a (b - a) p (omega arith) (q ∙ ap (λ (k : ℕ). p.at (suc k)) (sym e)))

    short : (fuel n x y : ℕ) → n ≤ fuel → Path n x y → (k : ℕ) × (k < length ts) × Path k x y
    short zero n x y h p = at_once (dec_le (length ts) n)
      where
        at_once : Dec (length ts ≤ n) → (k : ℕ) × (k < length ts) × Path k x y
        at_once (yes l) = let r = shorter n x y p l in absurd (let z : suc r.0 ≤ 0 = omega (arith, r.1) in not-suc-le-zero z)
        at_once (no l) = (n, omega arith, p)
    short (suc fuel) n x y h p = go (dec_le (length ts) n) (short fuel)
      where
        go : Dec (length ts ≤ n) → ((k x y : ℕ) → k ≤ fuel → Path k x y → (k : ℕ) × (k < length ts) × Path k x y) → (k : ℕ) × (k < length ts) × Path k x y
        go (yes l) ih = let r = shorter n x y p l in ih r.0 x y (omega (arith, r.1)) r.2
        go (no l) ih = (n, omega arith, p)

    any-up : (f g : ℕ → Bool) → ((x : ℕ) → T (f x) → T (g x)) → (xs : List ℕ) → T (any f xs) → T (any g xs)
    any-up f g h xs t = let r = any_at f xs t in at-any g xs r.0 r.1 (h r.0 r.2)

    reach-suc : (k y x : ℕ) → T (reach back k y x) → T (reach back (suc k) y x)
    reach-suc zero y x t = absurd t
    reach-suc (suc k) y x t =
        any-up (λ d. eqb d y || reach back k y d) (λ d. eqb d y || reach back (suc k) y d)
        (λ d u. ⊎_elim (λ v. or_left (eqb d y) (reach back (suc k) y d) v) (λ v. or_right (eqb d y) (reach back (suc k) y d) (reach-suc k y d v)) (or_cases (eqb d y) (reach back k y d) u))
        (back x) t

    reach-up : (j k y x : ℕ) → T (reach back k y x) → T (reach back (j + k) y x)
    reach-up zero k y x t = let e : 0 + k ≡ k = omega arith in rw e t
    reach-up (suc j) k y x t = let e : suc j + k ≡ suc (j + k) = omega arith in subst (λ (z : ℕ). T (reach back z y x)) (sym e) (reach-suc (j + k) y x (reach-up j k y x t))

    -- what can be met at all is met within as many steps as there are terminals, and one more
    pub back-reach : {x y : ℕ} → Back x y → T (reach back (suc (length ts)) y x)
    back-reach {x} {y} b = go (back-path b)
      where
        go : (n : ℕ) × Path n x y → T (reach back (suc (length ts)) y x)
        go (n, p) =
            let r = short n n x y (le_refl n) p in
            let e : (length ts - r.0) + suc r.0 ≡ suc (length ts) = omega (arith, r.1) in
            subst (λ (z : ℕ). T (reach back z y x)) e (reach-up (length ts - r.0) (suc r.0) y x (path-reach r.0 x y r.2))

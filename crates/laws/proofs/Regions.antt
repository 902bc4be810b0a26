-- Regions of one working memory: a run of stores, `sets l i vs`, is what is left of the memory; a second run after the first is one run. Assumes nothing.
use mathlib.Core.Path.{◌≡◌, refl, ap, sym, ◌∙◌}
use mathlib.Core.List.{List, [], ◌∷◌, ◌++◌, append_assoc}
use mathlib.Core.Logic.{◌≢◌}
use Prim.Native.Nat.{ℕ, zero, suc, ◌+◌, ◌≤◌, ◌<◌}
use native.Mathlib.Omega.{arith}
use lib.ListN.{length, get_or, set, take, drop, length-drop}
use lib.Seq.{sets, set_comm, get_or-set_other, ext_get_or, get_or-take, get_or-drop, sets-eq, drop-set-lt, length-take-le, take_at, drop_at, take-add, drop-drop}

-- a second run of stores, right after the first
pub sets-append : (vs ws l : List ℕ) (i : ℕ) → sets (sets l i vs) (i + length vs) ws ≡ sets l i (vs ++ ws)
sets-append [] ws l i = let e : i + 0 ≡ i = omega arith in rw e
sets-append (v ∷ vs) ws l i =
    let e : i + suc (length vs) ≡ suc i + length vs = omega arith in
    rw e (sets-append vs ws (set l i v) (suc i))

-- .. at an offset that is told
pub written-more : (out bs cs : List ℕ) (from at : ℕ) → at ≡ from + length bs → sets (sets out from bs) at cs ≡ sets out from (bs ++ cs)
written-more out bs cs from at h = rw h (sets-append bs cs out from)

-- what stands outside a run
pub sets_outside : (vs l : List ℕ) (i j d : ℕ) → (j < i → ⊥) → i + length vs ≤ j → get_or (sets l i vs) j d ≡ get_or l j d
sets_outside [] l i j d h g = refl
sets_outside (v ∷ vs) l i j d h g =
    let ne : j ≢ i = omega arith in
    sets_outside vs (set l i v) (suc i) j d (omega arith) (omega arith) ∙ get_or-set_other l i j v d ne

pub sets-before : (vs l : List ℕ) (i j d : ℕ) → j < i → get_or (sets l i vs) j d ≡ get_or l j d
sets-before [] l i j d h = refl
sets-before (v ∷ vs) l i j d h =
    let ne : j ≢ i = omega arith in
    sets-before vs (set l i v) (suc i) j d (omega arith) ∙ get_or-set_other l i j v d ne

-- a store past a run, or before it, and the run: either first
pub set-sets : (vs l : List ℕ) (i j v : ℕ) → i + length vs ≤ j → set (sets l i vs) j v ≡ sets (set l j v) i vs
set-sets [] l i j v h = refl
set-sets (w ∷ vs) l i j v h =
    let ne : i ≢ j = omega arith in
    set-sets vs (set l i w) (suc i) j v (omega arith) ∙ ap (λ (x : List ℕ). sets x (suc i) vs) (set_comm l i j w v ne)

-- two runs in two regions: either first
pub sets_comm : (ws vs l : List ℕ) (i j : ℕ) → i + length vs ≤ j → sets (sets l i vs) j ws ≡ sets (sets l j ws) i vs
sets_comm [] vs l i j h = refl
sets_comm (w ∷ ws) vs l i j h =
    ap (λ (x : List ℕ). sets x (suc j) ws) (set-sets vs l i j w h) ∙ sets_comm ws vs (set l j w) i (suc j) (omega arith)

-- a run from the start
pub sets-front : (vs l : List ℕ) → length vs ≤ length l → sets l 0 vs ≡ vs ++ drop (length vs) l
sets-front vs l h = let e : 0 + length vs ≡ length vs = omega arith in sets-eq vs l 0 (omega arith) ∙ ap (λ (k : ℕ). vs ++ drop k l) e

-- a run that ends by n changes nothing from n on
pub sets-drop : (vs l : List ℕ) (i n : ℕ) → i + length vs ≤ n → drop n (sets l i vs) ≡ drop n l
sets-drop [] l i n h = refl
sets-drop (v ∷ vs) l i n h = sets-drop vs (set l i v) (suc i) n (omega arith) ∙ drop-set-lt n l i v (omega arith)

-- what a run stored is read back
pub sets-read : (vs l : List ℕ) (i : ℕ) → i + length vs ≤ length l → take (length vs) (drop i (sets l i vs)) ≡ vs
sets-read vs l i h =
    let r : List ℕ = drop (i + length vs) l in
    let t : length (take i l) ≡ i = length-take-le i l (omega arith) in
    rw (sets-eq vs l i h, append_assoc (take i l) vs r, drop_at (take i l) (vs ++ r) i t, take_at vs r (length vs) refl)

-- ---- regions

pub region-length : (w : List ℕ) (a n : ℕ) → a + n ≤ length w → length (take n (drop a w)) ≡ n
region-length w a n h = length-take-le n (drop a w) (rw length-drop (omega arith))

pub region-at : (w : List ℕ) (a n j : ℕ) → j < n → get_or (take n (drop a w)) j 0 ≡ get_or w (a + j) 0
region-at w a n j h = get_or-take n (drop a w) j 0 h ∙ get_or-drop a w j 0

-- what a run stored is read back
pub sets-at : (vs l : List ℕ) (i j : ℕ) → i + length vs ≤ length l → j < length vs → get_or (sets l i vs) (i + j) 0 ≡ get_or vs j 0
sets-at vs l i j h k = sym (region-at (sets l i vs) i (length vs) j k) ∙ ap (λ (x : List ℕ). get_or x j 0) (sets-read vs l i h)

-- a region of two memories that agree there
pub region_ext : (a n : ℕ) (v w : List ℕ) → a + n ≤ length v → a + n ≤ length w → ((j : ℕ) → a ≤ j → j < a + n → get_or w j 0 ≡ get_or v j 0)
    → take n (drop a w) ≡ take n (drop a v)
region_ext a n v w hv hw same =
    let lw = region-length w a n hw in
    ext_get_or 0 (take n (drop a w)) (take n (drop a v)) (lw ∙ sym (region-length v a n hv))
    (λ i lt. let h : i < n = omega arith in
    region-at w a n i h ∙ same (a + i) (omega arith) (omega arith) ∙ sym (region-at v a n i h))

-- two regions side by side are one
pub region-join : (a m n : ℕ) (w : List ℕ) → take (m + n) (drop a w) ≡ take m (drop a w) ++ take n (drop (a + m) w)
region-join a m n w = take-add m n (drop a w) ∙ ap (λ (x : List ℕ). take m (drop a w) ++ take n x) (drop-drop m a w)

-- a region after its first part
pub region-after : (a m n : ℕ) (w : List ℕ) → drop m (take (m + n) (drop a w)) ≡ take n (drop (a + m) w)
region-after a m n w = drop-take-add m n (drop a w) ∙ ap (take n) (drop-drop m a w)
  where
    drop-take-add : (m n : ℕ) (l : List ℕ) → drop m (take (m + n) l) ≡ take n (drop m l)
    drop-take-add zero n l = let e : 0 + n ≡ n = omega arith in rw e
    drop-take-add (suc m) n [] = let e : suc m + n ≡ suc (m + n) = omega arith in rw e (none n)
      where
        none : (n : ℕ) → [] ≡ take {A = ℕ} n []
        none zero = refl
        none (suc n) = refl
    drop-take-add (suc m) n (x ∷ l) = let e : suc m + n ≡ suc (m + n) = omega arith in rw e (drop-take-add m n l)

pub drop_past : {A : Type 0} (xs : List A) (n : ℕ) → length xs ≤ n → drop n xs ≡ []
drop_past [] zero h = refl
drop_past [] (suc n) h = refl
drop_past (x ∷ xs) zero h = absurd (omega arith)
drop_past (x ∷ xs) (suc n) h = drop_past xs n (let l : suc (length xs) ≤ suc n = h in omega arith)

-- Two names are compared: as many bytes as the first has, and that the second ends behind them. Assumes nothing.
use Prim.Native.Nat.{ℕ, zero, suc, ◌+◌, ◌-◌, ◌≤◌, ◌<◌}
use mathlib.Core.Path.{◌≡◌, refl, sym, ap, ◌∙◌}
use mathlib.Core.Bool.{Bool, true, false, not, ◌&&◌, cond}
use mathlib.Core.List.{List, [], ◌∷◌}
use native.Mathlib.Omega.{arith}
use lib.Dec.{eqb, ltb}
use lib.ListN.{length, get_or, take, drop}
use lib.Seq.{drop-cons, drop-drop, take-nil}
use borrow.Author.Tests.{ne_eqb, eq-eqb, eqb-true}
use Rattle.notation_calculus.specs.Words.{same_name, in_name, run}
use Rattle.words.specs.Next.{goes_on_lem, run_at}
use Rattle.words.specs.Stretches.{BothInside}
use Rattle.words.proofs.WordLaws.{take-here}
use Rattle.words.proofs.FoundLaws.{eqb_sym, run_inside, run_long}
use Rattle.words.proofs.KeyLaws.{Small, same-is, keys_same, keys_differ}
use Rattle.words.specs.Keys.{key_of}

and_last : (a b c : Bool) → ((a && b) && c) ≡ (a && (b && c))
and_last true b c = refl
and_last false b c = refl

pub names-swap : (n m : List ℕ) → same_name n m ≡ same_name m n
names-swap [] [] = refl
names-swap [] (d ∷ m) = refl
names-swap (c ∷ n) [] = refl
names-swap (c ∷ n) (d ∷ m) = ap (λ (x : Bool). x && same_name n m) (eqb_sym c d) ∙ ap (λ (x : Bool). eqb d c && x) (names-swap n m)

-- ---- what goes on a name

pub goes-here : (text : List ℕ) (at : ℕ) (r : Bool) → at < length text → r ≡ in_name (get_or text at 0) → r ≡ goes_on_lem (drop at text)
goes-here text at r h e = e ∙ sym (ap goes_on_lem (drop-cons text at 0 h))

-- ---- a stretch in two parts

same_parts : (k m : ℕ) (s u : List ℕ) → same_name (take (k + m) s) (take (k + m) u) ≡ (same_name (take k s) (take k u) && same_name (take m (drop k s)) (take m (drop k u)))
same_parts zero m s u = let e : 0 + m ≡ m = omega arith in rw e refl
same_parts (suc k) m [] [] = let e : suc k + m ≡ suc (k + m) = omega arith in rw (e, take-nil {A = ℕ} m) refl
same_parts (suc k) m [] (d ∷ u) = let e : suc k + m ≡ suc (k + m) = omega arith in rw e refl
same_parts (suc k) m (c ∷ s) [] = let e : suc k + m ≡ suc (k + m) = omega arith in rw e refl
same_parts (suc k) m (c ∷ s) (d ∷ u) =
    let e : suc k + m ≡ suc (k + m) = omega arith in
    rw e (ap (λ (x : Bool). eqb c d && x) (same_parts k m s u) ∙ sym (and_last (eqb c d) (same_name (take k s) (take k u)) (same_name (take m (drop k s)) (take m (drop k u)))))

and_true : (x : Bool) → (x && true) ≡ x
and_true true = refl
and_true false = refl

-- one byte of each
pub one_byte : (text : List ℕ) (a b n : ℕ) → BothInside text a b n → n < 2 → ¬ (n ≡ 0) → eqb (get_or text a 0) (get_or text b 0) ≡ same_name (take n (drop a text)) (take n (drop b text))
one_byte text a b n inside h z =
    let some : 0 < n = omega arith in
    let e : n - 1 ≡ 0 = omega arith in
    sym (ap (λ (s : List ℕ). same_name s (take n (drop b text))) (take-here text a n some (omega (arith, inside.first)))
    ∙ ap (λ (s : List ℕ). same_name (get_or text a 0 ∷ take (n - 1) (drop (a + 1) text)) s) (take-here text b n some (omega (arith, inside.second)))
    ∙ ap (λ (m : ℕ). eqb (get_or text a 0) (get_or text b 0) && same_name (take m (drop (a + 1) text)) (take m (drop (b + 1) text))) e
    ∙ and_true (eqb (get_or text a 0) (get_or text b 0)))

-- a name's bytes at both places, with a byte behind them at the second
pub inside_both : (text : List ℕ) (a b n : ℕ) → a ≤ length text → n ≡ run (drop a text) → n < length text - b → BothInside text a b n
inside_both text a b n ha e h = record { first = omega (arith, e, run_inside text a ha); second = omega (arith, h) }

-- one byte more of each
module _ (text : List ℕ) (a b : ℕ) where
  abbrev same_at : ℕ → Bool
  same_at i = eqb (get_or text (a + i) 0) (get_or text (b + i) 0)

  abbrev same_from : ℕ → ℕ → Bool
  same_from i n = same_name (take n (drop (a + i) text)) (take n (drop (b + i) text))

  byte_more : (i n : ℕ) → BothInside text a b (i + suc n) → same_from i (suc n) ≡ (same_at i && same_from (suc i) n)
  byte_more i n inside =
      let x : a + i + 1 ≡ a + suc i = omega arith in
      let y : b + i + 1 ≡ b + suc i = omega arith in
      let z : suc n - 1 ≡ n = omega arith in
      ap (λ (s : List ℕ). same_name s (take (suc n) (drop (b + i) text))) (take-here text (a + i) (suc n) (omega arith) (omega (arith, inside.first)))
      ∙ ap (λ (s : List ℕ). same_name (get_or text (a + i) 0 ∷ take (suc n - 1) (drop (a + i + 1) text)) s) (take-here text (b + i) (suc n) (omega arith) (omega (arith, inside.second)))
      ∙ ap (λ (m : ℕ). same_at i && same_name (take m (drop (a + i + 1) text)) (take m (drop (b + i + 1) text))) z
      ∙ ap (λ (m : ℕ). same_at i && same_name (take n (drop m text)) (take n (drop (b + i + 1) text))) x
      ∙ ap (λ (m : ℕ). same_at i && same_name (take n (drop (a + suc i) text)) (take n (drop m text))) y

  from-none : (n : ℕ) → same_name (take n (drop a text)) (take n (drop b text)) ≡ same_from 0 n
  from-none n =
      let x : a + 0 ≡ a = omega arith in
      let y : b + 0 ≡ b = omega arith in
      rw (x, y) refl

  -- four bytes or fewer, from both ends: the first and the last, the second and the last but one
  abbrev by_ends : ℕ → ℕ → Bool
  by_ends n o = (same_at 0 && same_at (n - 1)) && (same_at o && same_at (n - 1 - o))

  few_bytes : (n : ℕ) → BothInside text a b n → 0 < n → n ≤ 4 → by_ends n (cond (ltb 2 n) 1 0) ≡ same_from 0 n
  few_bytes zero inside h g = absurd (omega arith)
  few_bytes (suc zero) inside h g = one (same_at 0) ∙ sym (byte_more 0 0 inside)
    where
      one : (x : Bool) → ((x && x) && (x && x)) ≡ (x && true)
      one true = refl
      one false = refl
  few_bytes (suc (suc zero)) inside h g = two (same_at 0) (same_at 1) ∙ sym (byte_more 0 1 inside ∙ ap (λ (y : Bool). same_at 0 && y) (byte_more 1 0 inside))
    where
      two : (x y : Bool) → ((x && y) && (x && y)) ≡ (x && (y && true))
      two true true = refl
      two true false = refl
      two false y = refl
  few_bytes (suc (suc (suc zero))) inside h g = three (same_at 0) (same_at 1) (same_at 2) ∙ sym (byte_more 0 2 inside ∙ ap (λ (y : Bool). same_at 0 && y) (byte_more 1 1 inside ∙ ap (λ (y : Bool). same_at 1 && y) (byte_more 2 0 inside)))
    where
      three : (x y z : Bool) → ((x && z) && (y && y)) ≡ (x && (y && (z && true)))
      three true true true = refl
      three true true false = refl
      three true false true = refl
      three true false false = refl
      three false y z = refl
  few_bytes (suc (suc (suc (suc zero)))) inside h g = four (same_at 0) (same_at 1) (same_at 2) (same_at 3) ∙ sym (byte_more 0 3 inside ∙ ap (λ (y : Bool). same_at 0 && y) (byte_more 1 2 inside ∙ ap (λ (y : Bool). same_at 1 && y) (byte_more 2 1 inside ∙ ap (λ (y : Bool). same_at 2 && y) (byte_more 3 0 inside))))
    where
      four : (x y z u : Bool) → ((x && u) && (y && z)) ≡ (x && (y && (z && (u && true))))
      four true true true true = refl
      four true true true false = refl
      four true true false true = refl
      four true true false false = refl
      four true false z true = refl
      four true false z false = refl
      four false y z u = refl
  few_bytes (suc (suc (suc (suc (suc n))))) inside h g = absurd (omega arith)

  module _ (n o : ℕ) (inside : BothInside text a b n) (some : 0 < n) (few : n ≤ 4) (second : o ≡ cond (ltb 2 n) 1 0) (x y : Bool) (outer : x ≡ (eqb (get_or text a 0) (get_or text b 0) && same_at (n - 1))) (inner : y ≡ (same_at o && same_at (n - 1 - o))) where
    first-is : eqb (get_or text a 0) (get_or text b 0) ≡ same_at 0
    first-is =
        let z : a + 0 ≡ a = omega arith in
        let u : b + 0 ≡ b = omega arith in
        rw (z, u) refl

    by_bytes : (x && y) ≡ same_name (take n (drop a text)) (take n (drop b text))
    by_bytes = ap (λ (c : Bool). c && y) (outer ∙ ap (λ (c : Bool). c && same_at (n - 1)) first-is) ∙ ap (λ (c : Bool). (same_at 0 && same_at (n - 1)) && c) inner ∙ ap (by_ends n) second ∙ few_bytes n inside some few ∙ sym (from-none n)

    pub brief-outer : x ≡ false → same_name (take n (drop a text)) (take n (drop b text)) ≡ false
    brief-outer e = sym by_bytes ∙ ap (λ (c : Bool). c && y) e

    pub brief-inner : x ≡ true → y ≡ same_name (take n (drop a text)) (take n (drop b text))
    brief-inner e = sym (ap (λ (c : Bool). c && y) e) ∙ by_bytes

-- the first k bytes of both stretches, and what is left
module _ (text : List ℕ) (a b n k : ℕ) (fewer : k ≤ n) where
  abbrev behind_first : Bool
  behind_first = same_name (take (n - k) (drop (a + k) text)) (take (n - k) (drop (b + k) text))

  pub in_parts : same_name (take n (drop a text)) (take n (drop b text)) ≡ (same_name (take k (drop a text)) (take k (drop b text)) && behind_first)
  in_parts =
      let e : n ≡ k + (n - k) = omega arith in
      ap (λ (m : ℕ). same_name (take m (drop a text)) (take m (drop b text))) e
      ∙ same_parts k (n - k) (drop a text) (drop b text)
      ∙ ap (λ (s : List ℕ). same_name (take k (drop a text)) (take k (drop b text)) && same_name (take (n - k) s) (take (n - k) (drop k (drop b text)))) (drop-drop k a text)
      ∙ ap (λ (s : List ℕ). same_name (take k (drop a text)) (take k (drop b text)) && same_name (take (n - k) (drop (a + k) text)) (take (n - k) s)) (drop-drop k b text)

-- .. of three parts, the first two told by one answer
module _ (text : List ℕ) (a b n k m : ℕ) (first : k ≤ m) (second : m ≤ n) where
  abbrev pub part_of : ℕ → ℕ → Bool
  part_of at long = same_name (take long (drop (a + at) text)) (take long (drop (b + at) text))

  in_three : same_name (take n (drop a text)) (take n (drop b text)) ≡ ((same_name (take k (drop a text)) (take k (drop b text)) && part_of k (m - k)) && part_of m (n - m))
  in_three = in_parts text a b n m second ∙ ap (λ (x : Bool). x && part_of m (n - m)) (in_parts text a b m k first)

  module _ (x v : Bool) (is : x ≡ same_name (take k (drop a text)) (take k (drop b text))) where
    abbrev pub Told : Type 0
    Told = v ≡ (x && part_of k (m - k))

    pub told_on : x ≡ true → v ≡ part_of k (m - k) → Told
    told_on e f = f ∙ sym (ap (λ (y : Bool). y && part_of k (m - k)) e)

    pub told_off : x ≡ false → v ≡ x → Told
    told_off e f = f ∙ e ∙ sym (ap (λ (y : Bool). y && part_of k (m - k)) e)

    by_three : Told → same_name (take n (drop a text)) (take n (drop b text)) ≡ (v && part_of m (n - m))
    by_three told = in_three ∙ ap (λ (y : Bool). (y && part_of k (m - k)) && part_of m (n - m)) (sym is) ∙ ap (λ (y : Bool). y && part_of m (n - m)) (sym told)

    pub three_on : Told → v ≡ true → part_of m (n - m) ≡ same_name (take n (drop a text)) (take n (drop b text))
    three_on told e = sym (by_three told ∙ ap (λ (y : Bool). y && part_of m (n - m)) e)

    pub three_off : Told → v ≡ false → v ≡ same_name (take n (drop a text)) (take n (drop b text))
    three_off told e = e ∙ sym (by_three told ∙ ap (λ (y : Bool). y && part_of m (n - m)) e)

-- the first k bytes of both stretches as one number each
module _ (text : List ℕ) (a b n k : ℕ) (inside : BothInside text a b n) (fewer : k ≤ n) (small : Small text) (i j : ℕ) (first : i ≡ key_of (take k (drop a text))) (second : j ≡ key_of (take k (drop b text))) where
  pub stretch-differ : ¬ (i ≡ j) → false ≡ same_name (take n (drop a text)) (take n (drop b text))
  stretch-differ h = sym (in_parts text a b n k fewer ∙ ap (λ (x : Bool). x && behind_first text a b n k fewer) (keys_differ text a b k i j first second h))

  pub stretch_on : i ≡ j → same_name (take n (drop a text)) (take n (drop b text)) ≡ same_name (take (n - k) (drop (a + k) text)) (take (n - k) (drop (b + k) text))
  stretch_on h = in_parts text a b n k fewer ∙ ap (λ (x : Bool). x && behind_first text a b n k fewer) (keys_same text a b k i j (omega (arith, inside.first)) (omega (arith, inside.second)) small first second h)

  -- all the bytes
  pub keys_tell : n ≡ k → eqb i j ≡ same_name (take n (drop a text)) (take n (drop b text))
  keys_tell e = by (eqb i j) refl ∙ ap (λ (m : ℕ). same_name (take m (drop a text)) (take m (drop b text))) (sym e)
    where
      by : (x : Bool) → eqb i j ≡ x → x ≡ same_name (take k (drop a text)) (take k (drop b text))
      by true f = sym (keys_same text a b k i j (omega (arith, inside.first)) (omega (arith, inside.second)) small first second (eqb-true i j f))
      by false f =
          sym
          (keys_differ text a b k i j first second λ z.
          let x : ◌≡◌ {A = Bool} true false = sym (eq-eqb i j z) ∙ f in
          let y : ◌≡◌ {A = ℕ} 0 1 = cc in
          absurd (omega arith))

-- ---- after i bytes

module _ (text : List ℕ) (a b n i : ℕ) where
  -- what is left of both stretches tells whether they are the same
  abbrev pub Left : Type 0
  Left = same_name (take n (drop a text)) (take n (drop b text)) ≡ same_name (take (n - i) (drop (a + i) text)) (take (n - i) (drop (b + i) text))

  pub left-inside : BothInside text a b n → i ≤ n → BothInside text (a + i) (b + i) (n - i)
  left-inside inside h = record { first = omega (arith, inside.first); second = omega (arith, inside.second) }

  pub left_on : (k : ℕ) → same_name (take (n - i - k) (drop (a + i + k) text)) (take (n - i - k) (drop (b + i + k) text)) ≡ same_name (take (n - (i + k)) (drop (a + (i + k)) text)) (take (n - (i + k)) (drop (b + (i + k)) text))
  left_on k =
      let x : a + i + k ≡ a + (i + k) = omega arith in
      let y : b + i + k ≡ b + (i + k) = omega arith in
      let z : n - i - k ≡ n - (i + k) = omega arith in
      rw (x, y, z) refl

-- ---- as many bytes as the first name has

abbrev run_of : List ℕ → List ℕ
run_of s = take (run s) s

abbrev Split : List ℕ → List ℕ → Type 0
Split s u = same_name (run_of s) (run_of u) ≡ (same_name (run_of s) (take (run s) u) && not (goes_on_lem (drop (run s) u)))

split_none : (u : List ℕ) → same_name [] (run_of u) ≡ not (goes_on_lem u)
split_none [] = refl
split_none (d ∷ u) = by (in_name d) refl
  where
    by : (y : Bool) → in_name d ≡ y → same_name [] (run_of (d ∷ u)) ≡ not (in_name d)
    by true f = rw f refl
    by false f = rw f refl

other_byte : (c d : ℕ) → in_name c ≡ true → in_name d ≡ false → eqb c d ≡ false
other_byte c d e f = ne_eqb c d λ z.
    let x : ◌≡◌ {A = Bool} true false = sym e ∙ ap in_name z ∙ f in
    let y : ◌≡◌ {A = ℕ} 0 1 = cc in
    absurd (omega arith)

-- both go on with a byte
split_both : (c d : ℕ) (s u : List ℕ) (y : Bool) → Split s u → in_name c ≡ true → in_name d ≡ y → same_name (c ∷ run_of s) (run_of (d ∷ u)) ≡ ((eqb c d && same_name (run_of s) (take (run s) u)) && not (goes_on_lem (drop (run s) u)))
split_both c d s u true later e f = rw f (ap (λ (x : Bool). eqb c d && x) later ∙ sym (and_last (eqb c d) (same_name (run_of s) (take (run s) u)) (not (goes_on_lem (drop (run s) u)))))
split_both c d s u false later e f = rw (f, other_byte c d e f) refl

split_on : (c : ℕ) (s u : List ℕ) → ((v : List ℕ) → Split s v) → in_name c ≡ true → same_name (c ∷ run_of s) (run_of u) ≡ (same_name (c ∷ run_of s) (take (suc (run s)) u) && not (goes_on_lem (drop (suc (run s)) u)))
split_on c s [] later e = refl
split_on c s (d ∷ u) later e = split_both c d s u (in_name d) (later u) e refl

split_first : (c : ℕ) (s u : List ℕ) (x : Bool) → ((v : List ℕ) → Split s v) → in_name c ≡ x → Split (c ∷ s) u
split_first c s u true later e = rw e (split_on c s u later e)
split_first c s u false later e = rw e (split_none u)

names_split : (s u : List ℕ) → Split s u
names_split [] u = split_none u
names_split (c ∷ s) u = split_first c s u (in_name c) (λ v. names_split s v) refl

module _ (text : List ℕ) (a b n : ℕ) (long : n ≡ run (drop a text)) where
  split-here : same_name (run_at text a) (run_at text b) ≡ (same_name (take n (drop a text)) (take n (drop b text)) && not (goes_on_lem (drop (b + n) text)))
  split-here =
      names_split (drop a text) (drop b text)
      ∙ ap (λ (m : ℕ). same_name (take m (drop a text)) (take m (drop b text)) && not (goes_on_lem (drop m (drop b text)))) (sym long)
      ∙ ap (λ (s : List ℕ). same_name (take n (drop a text)) (take n (drop b text)) && not (goes_on_lem s)) (drop-drop n b text)

  -- the bytes of the first name are not those at the second place
  pub names-differ : same_name (take n (drop a text)) (take n (drop b text)) ≡ false → false ≡ same_name (run_at text a) (run_at text b)
  names-differ e = sym (split-here ∙ ap (λ (x : Bool). x && not (goes_on_lem (drop (b + n) text))) e)

  -- they are, and what stands behind them tells
  pub names-behind : same_name (take n (drop a text)) (take n (drop b text)) ≡ true → not (goes_on_lem (drop (b + n) text)) ≡ same_name (run_at text a) (run_at text b)
  names-behind e = sym (split-here ∙ ap (λ (x : Bool). x && not (goes_on_lem (drop (b + n) text))) e)

  -- fewer bytes are left for the second name than the first has
  pub names-short : a ≤ length text → b ≤ length text → length text - b < n → false ≡ same_name (run_at text a) (run_at text b)
  names-short ha hb h = by (same_name (run_at text a) (run_at text b)) refl
    where
      by : (x : Bool) → same_name (run_at text a) (run_at text b) ≡ x → false ≡ x
      by true e = absurd (omega (arith, h, long, run_inside text b hb, run_long text a ha, run_long text b hb, ap length (same-is (run_at text a) (run_at text b) e)))
      by false e = refl

-- Words of the same length are told apart by their bytes as one number. Assumes nothing.
use Prim.Native.Nat.{ℕ, zero, suc, ◌+◌, ◌*◌, ◌≤◌, ◌<◌}
use mathlib.Core.Path.{◌≡◌, refl, sym, ap, ◌∙◌}
use mathlib.Core.Bool.{Bool, true, false, not, ◌&&◌, cond}
use mathlib.Core.List.{List, [], ◌∷◌}
use native.Mathlib.Omega.{arith}
use lib.Dec.{eqb, leb}
use lib.ListN.{length, get_or, take, drop, length-drop}
use lib.Seq.{length-take-le, get_or-drop}
use borrow.Author.Tests.{eq-eqb, ne_eqb, eqb-true, leb-true}
use Rattle.notation_calculus.specs.Words.{Spelled, same_name}
use Rattle.words.specs.Tables.{token_code, token_value, RowSaid, row_of}
use Rattle.words.specs.Keys.{key_from, key_of}
use Rattle.words.proofs.WordLaws.{take-here}
use Rattle.words.proofs.FoundLaws.{same-name}

-- ---- one byte more

key_last : (s : List ℕ) (n k : ℕ) → n < length s → key_from k (take (suc n) s) ≡ 256 * key_from k (take n s) + get_or s n 0
unfolding key_from
key_last [] n k h = absurd (omega arith)
key_last (c ∷ s) zero k h = refl
key_last (c ∷ s) (suc n) k h = key_last s n (256 * k + c) (omega arith)

pub key_next : (text : List ℕ) (at n : ℕ) → at + suc n ≤ length text → key_of (take (suc n) (drop at text)) ≡ 256 * key_of (take n (drop at text)) + get_or text (at + n) 0
key_next text at n h = key_last (drop at text) n 0 (omega (arith, length-drop at text)) ∙ ap (λ (c : ℕ). 256 * key_of (take n (drop at text)) + c) (get_or-drop at text n 0)

pub key_more : (text : List ℕ) (at n k c : ℕ) → at + suc n ≤ length text → k ≡ key_of (take n (drop at text)) → c ≡ get_or text (at + n) 0 → k * 256 + c ≡ key_of (take (suc n) (drop at text))
key_more text at n k c h p q = omega (arith, key_next text at n h)

key_one : (text : List ℕ) (at : ℕ) → at < length text → key_of (take 1 (drop at text)) ≡ get_or text at 0
unfolding key_from
key_one text at h = ap key_of (take-here text at 1 (omega arith) h) ∙ plain (get_or text at 0)
  where
    plain : (n : ℕ) → 256 * 0 + n ≡ n
    plain n = omega arith

pub key_two : (text : List ℕ) (at b c : ℕ) → at + 2 ≤ length text → b ≡ get_or text at 0 → c ≡ get_or text (at + 1) 0 → b * 256 + c ≡ key_of (take 2 (drop at text))
key_two text at b c h p q = key_more text at 1 b c h (p ∙ sym (key_one text at (omega arith))) q

-- ---- all are bytes

abbrev pub Small : List ℕ → Type 0
Small s = (i : ℕ) → get_or s i 0 < 256

small_drop : (s : List ℕ) (n : ℕ) → Small s → Small (drop n s)
small_drop s n h i = rw (get_or-drop n s i 0) (h (n + i))

small_take : (s : List ℕ) (n : ℕ) → Small s → Small (take n s)
small_take s zero h i = omega arith
small_take [] (suc n) h i = omega arith
small_take (c ∷ s) (suc n) h zero = h 0
small_take (c ∷ s) (suc n) h (suc i) = small_take s n (λ j. h (suc j)) i

abbrev pub smalls : List ℕ → Bool
smalls [] = true
smalls (c ∷ s) = leb c 255 && smalls s

pub both-parts : (a b : Bool) → (a && b) ≡ true → (a ≡ true) × (b ≡ true)
both-parts true b e = (refl, e)
both-parts false b e = let z : ◌≡◌ {A = ℕ} 0 1 = cc in absurd (omega arith)

small_all : (s : List ℕ) → smalls s ≡ true → Small s
small_all [] e i = omega arith
small_all (c ∷ s) e zero = let h = leb-true c 255 (both-parts (leb c 255) (smalls s) e).0 in omega arith
small_all (c ∷ s) e (suc i) = small_all s (both-parts (leb c 255) (smalls s) e).1 i

-- ---- a key tells its word

key_tells : (w v : List ℕ) (j k : ℕ) → length w ≡ length v → Small w → Small v → key_from j w ≡ key_from k v → (j ≡ k) × (w ≡ v)
unfolding key_from
key_tells [] [] j k l a b e = (e, refl)
key_tells [] (d ∷ v) j k l a b e = absurd (omega arith)
key_tells (c ∷ w) [] j k l a b e = absurd (omega arith)
key_tells (c ∷ w) (d ∷ v) j k l a b e =
    let p = key_tells w v (256 * j + c) (256 * k + d) (omega arith) (λ i. a (suc i)) (λ i. b (suc i)) e in
    (higher c d j k (a 0) (b 0) p.0, ap (λ (x : ℕ). x ∷ w) (lower c d j k (a 0) (b 0) p.0) ∙ ap (λ (x : List ℕ). d ∷ x) p.1)
  where
    higher : (c d j k : ℕ) → c < 256 → d < 256 → 256 * j + c ≡ 256 * k + d → j ≡ k
    higher c d j k f g e = omega arith

    lower : (c d j k : ℕ) → c < 256 → d < 256 → 256 * j + c ≡ 256 * k + d → c ≡ d
    lower c d j k f g e = omega arith

-- ---- the rows by a whole word

unfoldable pub row_named_lem : List ℕ → List Spelled → RowSaid
row_named_lem w [] = record { code = 0; value = 0; long = 0 }
row_named_lem w (r ∷ rs) = cond (same_name w r.spelling) (record { code = token_code r.token; value = token_value r.token; long = length r.spelling }) (row_named_lem w rs)

row_named : (s : List ℕ) (long : ℕ) (rs : List Spelled) → long ≤ length s → row_of true long s rs ≡ row_named_lem (take long s) rs
unfolding row_of row_named_lem
row_named s long [] h = refl
row_named s long (r ∷ rs) h = ap (λ (b : Bool). cond b (record { code = token_code r.token; value = token_value r.token; long = length r.spelling }) (row_of true long s rs)) (sym (same-name r.spelling s long h)) ∙ ap (λ (x : RowSaid). cond (same_name (take long s) r.spelling) (record { code = token_code r.token; value = token_value r.token; long = length r.spelling }) x) (row_named s long rs h)

pub same-is : (w v : List ℕ) → same_name w v ≡ true → w ≡ v
same-is [] [] e = refl
same-is [] (d ∷ v) e = let z : ◌≡◌ {A = ℕ} 0 1 = cc in absurd (omega arith)
same-is (c ∷ w) [] e = let z : ◌≡◌ {A = ℕ} 0 1 = cc in absurd (omega arith)
same-is (c ∷ w) (d ∷ v) e =
    let p = both-parts (eqb c d) (same_name w v) e in
    ap (λ (x : ℕ). x ∷ w) (eqb-true c d p.0) ∙ ap (λ (x : List ℕ). d ∷ x) (same-is w v p.1)

-- no row of this length has this key
unfoldable pub misses : ℕ → ℕ → List Spelled → Bool
misses k n [] = true
misses k n (r ∷ rs) = not (eqb (length r.spelling) n && eqb (key_of r.spelling) k) && misses k n rs

missed_by : (w : List ℕ) (r : Spelled) (rs : List Spelled) (b : Bool) → same_name w r.spelling ≡ b → not (eqb (length r.spelling) (length w) && eqb (key_of r.spelling) (key_of w)) ≡ true → row_named_lem w rs ≡ record { code = 0; value = 0; long = 0 } → cond b (record { code = token_code r.token; value = token_value r.token; long = length r.spelling }) (row_named_lem w rs) ≡ record { code = 0; value = 0; long = 0 }
missed_by w r rs true f p q = let z : ◌≡◌ {A = Bool} false true = ap not (sym (hits (same-is w r.spelling f))) ∙ p in let y : ◌≡◌ {A = ℕ} 0 1 = cc in absurd (omega arith)
  where
    hits : w ≡ r.spelling → (eqb (length r.spelling) (length w) && eqb (key_of r.spelling) (key_of w)) ≡ true
    hits q = ap (λ (b : Bool). b && eqb (key_of r.spelling) (key_of w)) (eq-eqb (length r.spelling) (length w) (ap length (sym q))) ∙ eq-eqb (key_of r.spelling) (key_of w) (ap key_of (sym q))
missed_by w r rs false f p q = q

row_missed : (w : List ℕ) (rs : List Spelled) → misses (key_of w) (length w) rs ≡ true → row_named_lem w rs ≡ record { code = 0; value = 0; long = 0 }
unfolding row_named_lem misses
row_missed w [] e = refl
row_missed w (r ∷ rs) e =
    let p = both-parts (not (eqb (length r.spelling) (length w) && eqb (key_of r.spelling) (key_of w))) (misses (key_of w) (length w) rs) e in
    missed_by w r rs (same_name w r.spelling) refl p.0 (row_missed w rs p.1)

-- ---- two stretches of a text

same_self : (w : List ℕ) → same_name w w ≡ true
same_self [] = refl
same_self (c ∷ w) = ap (λ (b : Bool). b && same_name w w) (eq-eqb c c refl) ∙ same_self w

module _ (text : List ℕ) (a b n j k : ℕ) where
  pub keys_same : a + n ≤ length text → b + n ≤ length text → Small text → j ≡ key_of (take n (drop a text)) → k ≡ key_of (take n (drop b text)) → j ≡ k → same_name (take n (drop a text)) (take n (drop b text)) ≡ true
  keys_same ha hb t e f g =
      let la = length-take-le n (drop a text) (omega (arith, length-drop a text)) in
      let lb = length-take-le n (drop b text) (omega (arith, length-drop b text)) in
      let z = (key_tells (take n (drop a text)) (take n (drop b text)) 0 0 (la ∙ sym lb) (small_take (drop a text) n (small_drop text a t)) (small_take (drop b text) n (small_drop text b t)) (sym e ∙ g ∙ f)).1 in
      ap (λ (w : List ℕ). same_name w (take n (drop b text))) z ∙ same_self (take n (drop b text))

  pub keys_differ : j ≡ key_of (take n (drop a text)) → k ≡ key_of (take n (drop b text)) → ¬ (j ≡ k) → same_name (take n (drop a text)) (take n (drop b text)) ≡ false
  keys_differ e f h = by (same_name (take n (drop a text)) (take n (drop b text))) refl
    where
      by : (x : Bool) → same_name (take n (drop a text)) (take n (drop b text)) ≡ x → x ≡ false
      by true g = absurd (h (e ∙ ap key_of (same-is (take n (drop a text)) (take n (drop b text)) g) ∙ sym f))
      by false g = refl

-- ---- at an offset

module _ (text : List ℕ) (at n : ℕ) (rs : List Spelled) (h : at + n ≤ length text) where
  size : length (take n (drop at text)) ≡ n
  size = length-take-le n (drop at text) (omega (arith, length-drop at text))

  named_here : row_of true n (drop at text) rs ≡ row_named_lem (take n (drop at text)) rs
  named_here = row_named (drop at text) n rs (omega (arith, length-drop at text))

  -- the word of a key
  pub key_row : (key : ℕ) (v : List ℕ) → Small text → length v ≡ n → smalls v ≡ true → key ≡ key_of (take n (drop at text)) → key ≡ key_of v → row_of true n (drop at text) rs ≡ row_named_lem v rs
  key_row key v t l b e f = named_here ∙ ap (λ (w : List ℕ). row_named_lem w rs) (key_tells (take n (drop at text)) v 0 0 (size ∙ sym l) (small_take (drop at text) n (small_drop text at t)) (small_all v b) (sym e ∙ f)).1

  -- .. and of no key
  pub key_none : (key : ℕ) → key ≡ key_of (take n (drop at text)) → misses key n rs ≡ true → row_of true n (drop at text) rs ≡ record { code = 0; value = 0; long = 0 }
  key_none key e m = named_here ∙ row_missed (take n (drop at text)) rs (ap (λ (k : ℕ). misses k (length (take n (drop at text))) rs) (sym e) ∙ ap (λ (l : ℕ). misses key l rs) size ∙ m)

pub off : (c d : ℕ) → ¬ (c ≡ d) → eqb d c ≡ false
off c d h = ne_eqb d c (λ e. h (sym e))

-- What the class of a byte tells of the word that it begins. Assumes nothing.
use Prim.Native.Nat.{ℕ, suc, ◌+◌, ◌-◌, ◌≤◌, ◌<◌}
use mathlib.Core.Path.{◌≡◌, refl, sym, ap, ◌∙◌}
use mathlib.Core.Bool.{Bool, true, false, not, ◌&&◌, cond}
use mathlib.Core.List.{List, [], ◌∷◌, ◌++◌}
use native.Mathlib.Omega.{arith}
use lib.Dec.{eqb}
use lib.ListN.{length, get_or, drop}
use borrow.Author.Tests.{ne_eqb}
use Rattle.notation_calculus.specs.Words.{Spelled, reserved, signs, blank, digit, letter, gap, run, begins_with}
use Rattle.words.specs.Tables.{token_code, token_value, row_fits, RowSaid, row_of, two_signs, three_signs}
use Rattle.words.specs.Next.{found_at, named_at, told}
use Rattle.words.specs.Classes.{BeginsWord, SingleSign, PlainLetter, ClassIs, gapped, signed, numbered, plain, lettered, others, NoSingle, NotListed}
use Rattle.laws.proofs.Regions.{drop_past}
use Rattle.words.proofs.ByteLaws.{late_blank, letter-high, letter-name, above}
use Rattle.words.proofs.WordLaws.{drop_here, run-behind, gap-stops, no_dash, and_false}
use Rattle.words.proofs.KeyLaws.{both-parts, off}
use Rattle.words.proofs.FoundLaws.{digit_low, named-name, long_rows, long-row}
use Rattle.words.proofs.LexLaws.{next_word, word-single, stands}
use Rattle.words.specs.Lexed.{Lexed, Stands}

-- ---- a byte that no reserved word begins with

head_off : ℕ → List ℕ → Bool
head_off c [] = false
head_off c (d ∷ ds) = not (eqb d c)

heads_off : ℕ → List Spelled → Bool
heads_off c [] = true
heads_off c (r ∷ rs) = head_off c r.spelling && heads_off c rs

row-off : (c long : ℕ) (s spelling : List ℕ) → head_off c spelling ≡ true → row_fits true long (c ∷ s) spelling ≡ false
unfolding head_off
row-off c long s [] e = let z : ◌≡◌ {A = ℕ} 0 1 = cc in absurd (omega arith)
row-off c long s (d ∷ ds) e = by (eqb d c) refl e
  where
    by : (b : Bool) → eqb d c ≡ b → not b ≡ true → row_fits true long (c ∷ s) (d ∷ ds) ≡ false
    by true f g = let z : ◌≡◌ {A = ℕ} 0 1 = cc in absurd (omega arith)
    by false f g = ap (λ (b : Bool). eqb (suc (length ds)) long && (b && begins_with ds s)) f ∙ and_false (eqb (suc (length ds)) long)

rows-off : (c long : ℕ) (s : List ℕ) (rs : List Spelled) → heads_off c rs ≡ true → row_of true long (c ∷ s) rs ≡ record { code = 0; value = 0; long = 0 }
unfolding heads_off row_of
rows-off c long s [] e = refl
rows-off c long s (r ∷ rs) e =
    let p = both-parts (head_off c r.spelling) (heads_off c rs) e in
    ap (λ (b : Bool). cond b (record { code = token_code r.token; value = token_value r.token; long = length r.spelling }) (row_of true long (c ∷ s) rs)) (row-off c long s r.spelling p.0) ∙ rows-off c long s rs p.1

listed-off : (c : ℕ) → NotListed c → heads_off c reserved ≡ true
unfolding heads_off head_off reserved
listed-off c n = simp (off c 97 n.letter97, off c 101 n.letter101, off c 102 n.letter102, off c 105 n.letter105, off c 108 n.letter108, off c 111 n.letter111, off c 114 n.letter114, off c 116 n.letter116, off c 120 n.letter120, off c 122 n.letter122)

-- ---- the classes of letters and digits

pub class_letter : (c : ℕ) → NotListed c → letter c ≡ true → ClassIs c 65
class_letter c n e =
    let h = letter-high c e in
    plain (late_blank c (omega arith), ne_eqb c 45 (λ q. absurd (omega arith))) (above 48 57 c (omega arith)) (e, λ long s. rows-off c long s reserved (listed-off c n))

pub class_digit : (c : ℕ) → digit c ≡ true → ClassIs c 64
class_digit c e = let h = digit_low c e in numbered (late_blank c (omega arith), ne_eqb c 45 (λ q. absurd (omega arith))) e

-- ---- what a class tells

pub class_begins : (c k : ℕ) → ClassIs c k → 1 < k → BeginsWord c
class_begins c k (gapped b) h = absurd (omega arith)
class_begins c k (signed p q b d l s) h = b
class_begins c k (numbered b d) h = b
class_begins c k (plain b d l) h = b
class_begins c k (lettered b d l) h = b
class_begins c k (others b d l m) h = absurd (omega arith)

pub class_sign : (c k : ℕ) → ClassIs c k → 1 < k → k < 64 → (digit c ≡ false) × (letter c ≡ false) × SingleSign c k
class_sign c k (gapped b) h g = absurd (omega arith)
class_sign c k (signed p q b d l s) h g = (d, l, s)
class_sign c k (numbered b d) h g = absurd (omega arith)
class_sign c k (plain b d l) h g = absurd (omega arith)
class_sign c k (lettered b d l) h g = absurd (omega arith)
class_sign c k (others b d l m) h g = absurd (omega arith)

pub class_number : (c k : ℕ) → ClassIs c k → k ≡ 64 → digit c ≡ true
class_number c k (gapped b) e = absurd (omega arith)
class_number c k (signed p q b d l s) e = absurd (omega arith)
class_number c k (numbered b d) e = d
class_number c k (plain b d l) e = absurd (omega arith)
class_number c k (lettered b d l) e = absurd (omega arith)
class_number c k (others b d l m) e = absurd (omega arith)

pub class_plain : (c k : ℕ) → ClassIs c k → k ≡ 65 → PlainLetter c
class_plain c k (gapped b) e = absurd (omega arith)
class_plain c k (signed p q b d l s) e = absurd (omega arith)
class_plain c k (numbered b d) e = absurd (omega arith)
class_plain c k (plain b d l) e = l
class_plain c k (lettered b d l) e = absurd (omega arith)
class_plain c k (others b d l m) e = absurd (omega arith)

pub class_name : (c k : ℕ) → ClassIs c k → 64 < k → (digit c ≡ false) × (letter c ≡ true)
class_name c k (gapped b) h = absurd (omega arith)
class_name c k (signed p q b d l s) h = absurd (omega arith)
class_name c k (numbered b d) h = absurd (omega arith)
class_name c k (plain b d l) h = (d, l.0)
class_name c k (lettered b d l) h = (d, l)
class_name c k (others b d l m) h = absurd (omega arith)

pub class_blank : (c k : ℕ) → ClassIs c k → k ≡ 1 → blank c ≡ true
class_blank c k (gapped b) e = b
class_blank c k (signed p q b d l s) e = absurd (omega arith)
class_blank c k (numbered b d) e = absurd (omega arith)
class_blank c k (plain b d l) e = absurd (omega arith)
class_blank c k (lettered b d l) e = absurd (omega arith)
class_blank c k (others b d l m) e = absurd (omega arith)

pub class_other : (c k : ℕ) → ClassIs c k → k ≡ 0 → (blank c ≡ false) × (digit c ≡ false) × (letter c ≡ false) × NoSingle c
class_other c k (gapped b) e = absurd (omega arith)
class_other c k (signed p q b d l s) e = absurd (omega arith)
class_other c k (numbered b d) e = absurd (omega arith)
class_other c k (plain b d l) e = absurd (omega arith)
class_other c k (lettered b d l) e = absurd (omega arith)
class_other c k (others b d l m) e = (b, d, l, m)

-- ---- at an offset

module _ (text : List ℕ) (at k : ℕ) (h : at < length text) (is : ClassIs (get_or text at 0) k) where
  pub class_stops : 1 < k → gap false (drop at text) ≡ 0
  class_stops g = let b = class_begins (get_or text at 0) k is g in gap-stops text at h b.0 (no_dash text at b.1)

-- a sign of one byte that stands right at an offset
pub single_stands : (text : List ℕ) (at k : ℕ) → Lexed text at → at < length text → ClassIs (get_or text at 0) k → 1 < k → k < 64 → Stands text at (record { code = k; value = 0; place = at; end = at + 1 })
single_stands text at k lexed h is g l =
    let s = class_sign (get_or text at 0) k is g l in
    stands text at lexed _ (word-single text at s.0 k h s.1 s.2 ∙ next_word text at at (omega (arith, class_stops text at k h is g)) h)

-- a name that begins as no reserved word does
pub plain-name : (text : List ℕ) (start end : ℕ) → start < length text → PlainLetter (get_or text start 0) → end ≡ start + 1 + run (drop (start + 1) text) → record { code = 24; value = 0; place = start; end = end } ≡ told (found_at start (named_at text start))
plain-name text start end h p e = named-name text start end (omega arith) (run-behind text start end h (letter-name (get_or text start 0) p.0) e) (record { code = 0; value = 0; long = 0 }) (sym (ap (λ (s : List ℕ). row_of true (end - start) s reserved) (drop_here text start h) ∙ p.1 (end - start) (drop (start + 1) text))) refl

-- ---- signs of more than one byte

pub no_single : (c : ℕ) → ¬ (c ≡ 40) → ¬ (c ≡ 41) → ¬ (c ≡ 42) → ¬ (c ≡ 43) → ¬ (c ≡ 44) → ¬ (c ≡ 46) → ¬ (c ≡ 58) → ¬ (c ≡ 61) → ¬ (c ≡ 91) → ¬ (c ≡ 93) → ¬ (c ≡ 94) → ¬ (c ≡ 123) → ¬ (c ≡ 125) → NoSingle c
unfolding row_of signs two_signs three_signs
no_single c n40 n41 n42 n43 n44 n46 n58 n61 n91 n93 n94 n123 n125 s = simp (off c 40 n40, off c 41 n41, off c 42 n42, off c 43 n43, off c 44 n44, off c 46 n46, off c 58 n58, off c 61 n61, off c 91 n91, off c 93 n93, off c 94 n94, off c 123 n123, off c 125 n125)

row_first : (s : List ℕ) (xs ys : List Spelled) → long_rows xs ≡ true → ¬ ((row_of false 0 s xs).long ≡ 0) → row_of false 0 s (xs ++ ys) ≡ row_of false 0 s xs
unfolding row_of
row_first s [] ys e n = absurd (n refl)
row_first s (r ∷ rs) ys e n = by (begins_with r.spelling s) n (λ m. row_first s rs ys (long-row r rs e).1 m)
  where
    by : (b : Bool) → ¬ ((cond b (record { code = token_code r.token; value = token_value r.token; long = length r.spelling }) (row_of false 0 s rs)).long ≡ 0) → (¬ ((row_of false 0 s rs).long ≡ 0) → row_of false 0 s (rs ++ ys) ≡ row_of false 0 s rs) → cond b (record { code = token_code r.token; value = token_value r.token; long = length r.spelling }) (row_of false 0 s (rs ++ ys)) ≡ cond b (record { code = token_code r.token; value = token_value r.token; long = length r.spelling }) (row_of false 0 s rs)
    by true m f = refl
    by false m f = f m

row-second : (s : List ℕ) (xs ys : List Spelled) → long_rows xs ≡ true → (row_of false 0 s xs).long ≡ 0 → row_of false 0 s (xs ++ ys) ≡ row_of false 0 s ys
unfolding row_of
row-second s [] ys e n = refl
row-second s (r ∷ rs) ys e n = by (begins_with r.spelling s) n (λ m. row-second s rs ys (long-row r rs e).1 m)
  where
    by : (b : Bool) → (cond b (record { code = token_code r.token; value = token_value r.token; long = length r.spelling }) (row_of false 0 s rs)).long ≡ 0 → ((row_of false 0 s rs).long ≡ 0 → row_of false 0 s (rs ++ ys) ≡ row_of false 0 s ys) → cond b (record { code = token_code r.token; value = token_value r.token; long = length r.spelling }) (row_of false 0 s (rs ++ ys)) ≡ row_of false 0 s ys
    by true m f = absurd ((long-row r rs e).0 m)
    by false m f = f m

two-whole : (s : List ℕ) → row_of true 2 s two_signs ≡ row_of false 0 s two_signs
unfolding row_of two_signs
two-whole s = refl

three-whole : (s : List ℕ) → row_of true 3 s three_signs ≡ row_of false 0 s three_signs
unfolding row_of three_signs
three-whole s = refl

two-long : long_rows two_signs ≡ true
unfolding two_signs
two-long = refl

two-short : (c : ℕ) → row_of false 0 (c ∷ []) (two_signs ++ three_signs) ≡ record { code = 0; value = 0; long = 0 }
unfolding row_of two_signs three_signs
two-short c = simp and_false

three-short : (c d : ℕ) → row_of false 0 (c ∷ d ∷ []) three_signs ≡ record { code = 0; value = 0; long = 0 }
unfolding row_of three_signs
three-short c d = simp and_false

module _ (text : List ℕ) (at : ℕ) (h : at < length text) (n : NoSingle (get_or text at 0)) where
  signs-here : row_of false 0 (drop at text) signs ≡ row_of false 0 (drop at text) (two_signs ++ three_signs)
  signs-here = ap (λ (s : List ℕ). row_of false 0 s signs) (drop_here text at h) ∙ n (drop (at + 1) text) ∙ ap (λ (s : List ℕ). row_of false 0 s (two_signs ++ three_signs)) (sym (drop_here text at h))

  pub sign_last : length text - at < 2 → record { code = 0; value = 0; long = 0 } ≡ row_of false 0 (drop at text) signs
  sign_last e = sym (signs-here ∙ ap (λ (s : List ℕ). row_of false 0 s (two_signs ++ three_signs)) (drop_here text at h ∙ ap (λ (s : List ℕ). get_or text at 0 ∷ s) (drop_past text (at + 1) (omega arith))) ∙ two-short (get_or text at 0))

  module _ (row : RowSaid) (is : row ≡ row_of true 2 (drop at text) two_signs) where
    pub sign-two : ¬ (row.long ≡ 0) → row ≡ row_of false 0 (drop at text) signs
    sign-two e = is ∙ two-whole (drop at text) ∙ sym (signs-here ∙ row_first (drop at text) two_signs three_signs two-long (λ z. e (ap (λ (r : RowSaid). r.long) (is ∙ two-whole (drop at text)) ∙ z)))

    module _ (e : row.long ≡ 0) where
      sign-rest : row_of false 0 (drop at text) signs ≡ row_of false 0 (drop at text) three_signs
      sign-rest = signs-here ∙ row-second (drop at text) two_signs three_signs two-long (ap (λ (r : RowSaid). r.long) (sym (is ∙ two-whole (drop at text))) ∙ e)

      pub sign-three : (other : RowSaid) → other ≡ row_of true 3 (drop at text) three_signs → other ≡ row_of false 0 (drop at text) signs
      sign-three other o = o ∙ three-whole (drop at text) ∙ sym sign-rest

      pub sign-short : 2 ≤ length text - at → length text - at < 3 → record { code = 0; value = 0; long = 0 } ≡ row_of false 0 (drop at text) signs
      sign-short p q = sym (sign-rest ∙ ap (λ (s : List ℕ). row_of false 0 s three_signs) (drop_here text at h ∙ ap (λ (s : List ℕ). get_or text at 0 ∷ s) (drop_here text (at + 1) (omega arith) ∙ ap (λ (s : List ℕ). get_or text (at + 1) 0 ∷ s) (drop_past text (at + 1 + 1) (omega arith)))) ∙ three-short (get_or text at 0) (get_or text (at + 1) 0))

-- Numbers, names and signs: what stands at an offset, by the loops that look. Assumes nothing.
use Prim.Native.Nat.{ℕ, zero, suc, ◌+◌, ◌*◌, ◌-◌, ◌≤◌, ◌<◌}
use mathlib.Core.Path.{◌≡◌, refl, sym, ap, ◌∙◌}
use mathlib.Core.Bool.{Bool, true, false, not, ◌&&◌, cond}
use mathlib.Core.List.{List, [], ◌∷◌}
use native.Mathlib.Omega.{arith}
use native.Mathlib.Decide.{ℕ_discrete}
use lib.Dec.{eqb, leb, eqb-suc-suc, eqb-zero-suc, eqb-suc-zero}
use lib.ListN.{length, get_or, take, drop, length-drop}
use lib.Seq.{length-take-le}
use borrow.Author.Tests.{eq-eqb, ne_eqb, le-leb, lt-leb, leb-true}
use Rattle.calculus.specs.Answer.{Answer, good, refuse}
use Rattle.notation_calculus.specs.Words.{Token, name, Spelled, same_name, digit, in_name, run, all_digits, capped, value_from, Read, named, begins_with, sign_at, number_word, reserved, signs}
use Rattle.words.specs.Tables.{token_code, token_value, row_fits, RowSaid, row_of}
use Rattle.words.specs.Next.{found_at, run_at, Said, told}
use Rattle.words.specs.Digits.{DigitsAt}
use Rattle.words.proofs.WordLaws.{take-here}

-- ---- runs

run-some : (c : ℕ) (s : List ℕ) (b : Bool) → run s ≤ length s → cond b (suc (run s)) 0 ≤ suc (length s)
run-some c s true h = omega arith
run-some c s false h = omega arith

pub run_short : (s : List ℕ) → run s ≤ length s
run_short [] = omega arith
run_short (c ∷ s) = run-some c s (in_name c) (run_short s)

pub run_inside : (text : List ℕ) (from : ℕ) → from ≤ length text → from + run (drop from text) ≤ length text
run_inside text from h = omega (arith, run_short (drop from text), length-drop from text)

pub run_long : (text : List ℕ) (from : ℕ) → from ≤ length text → length (run_at text from) ≡ run (drop from text)
run_long text from h = length-take-le (run (drop from text)) (drop from text) (run_short (drop from text))

run-part : (text : List ℕ) (from end : ℕ) → end ≡ from + run (drop from text) → run_at text from ≡ take (end - from) (drop from text)
run-part text from end e = let z : run (drop from text) ≡ end - from = omega arith in rw z

-- ---- numbers

digits-here : (text : List ℕ) (at end : ℕ) → at < end → end ≤ length text → take (end - at) (drop at text) ≡ get_or text at 0 ∷ take (end - (at + 1)) (drop (at + 1) text)
digits-here text at end h g =
    let z : end - at - 1 ≡ end - (at + 1) = omega arith in
    take-here text at (end - at) (omega arith) (omega arith) ∙ ap (λ (n : ℕ). get_or text at 0 ∷ take n (drop (at + 1) text)) z

pub digits-first : (text : List ℕ) (start end : ℕ) → start ≤ length text → end ≡ start + run (drop start text) → DigitsAt text start end 0 start
digits-first text start end h e = record { all = ap all_digits (run-part text start end e); sum = ap (value_from 0) (run-part text start end e); small = omega arith; within = omega arith; inside = omega (arith, run_inside text start h); ends = e }

-- a zero that stands first tells nothing
pub zero_on : (text : List ℕ) (start end at : ℕ) → DigitsAt text start end 0 at → at < end → get_or text at 0 ≡ 48 → DigitsAt text start end 0 (at + 1)
zero_on text start end at d h e =
    let rest' = take (end - (at + 1)) (drop (at + 1) text) in
    record {
      all = d.all ∙ ap all_digits (digits-here text at end h d.inside) ∙ ap (λ (c : ℕ). digit c && all_digits rest') e;
      sum = d.sum ∙ ap (value_from 0) (digits-here text at end h d.inside) ∙ ap (λ (c : ℕ). value_from (capped (10 * 0 + (c - 48))) rest') e;
      small = omega arith;
      within = omega arith;
      inside = d.inside;
      ends = d.ends;
    }

pub digit_low : (c : ℕ) → digit c ≡ true → 48 ≤ c
digit_low c e = by (leb 48 c) refl e
  where
    by : (b : Bool) → leb 48 c ≡ b → (b && leb c 57) ≡ true → 48 ≤ c
    by true h e = leb-true 48 c h
    by false h e = let z : ◌≡◌ {A = ℕ} 0 1 = cc in absurd (omega arith)

module _ (text : List ℕ) (start end value at : ℕ) (d : DigitsAt text start end value at) (h : at < end) where
  pub digits_bad : digit (get_or text at 0) ≡ false → all_digits (run_at text start) ≡ false
  digits_bad e = d.all ∙ ap all_digits (digits-here text at end h d.inside) ∙ ap (λ (b : Bool). b && all_digits (take (end - (at + 1)) (drop (at + 1) text))) e

  pub digits_on : (more : ℕ) → digit (get_or text at 0) ≡ true → more ≡ capped (10 * value + (get_or text at 0 - 48)) → more ≤ 256 → DigitsAt text start end more (at + 1)
  digits_on more e s small =
      let rest' = take (end - (at + 1)) (drop (at + 1) text) in
      record {
        all = d.all ∙ ap all_digits (digits-here text at end h d.inside) ∙ ap (λ (b : Bool). b && all_digits rest') e;
        sum = d.sum ∙ ap (value_from value) (digits-here text at end h d.inside) ∙ ap (λ (n : ℕ). value_from n rest') (sym s);
        small = small;
        within = omega arith;
        inside = d.inside;
        ends = d.ends;
      }

said_eq : {a b c d a' b' c' d' : ℕ} → a ≡ a' → b ≡ b' → c ≡ c' → d ≡ d' → ◌≡◌ {A = Said} (record { code = a; value = b; place = c; end = d }) (record { code = a'; value = b'; place = c'; end = d' })
said_eq p q r s = cc

pub number_bad : (text : List ℕ) (start : ℕ) → all_digits (run_at text start) ≡ false → record { code = 31; value = 0; place = start; end = start } ≡ told (found_at start (number_word (run_at text start) start))
number_bad text start e = simp e

module _ (text : List ℕ) (start end value at : ℕ) (d : DigitsAt text start end value at) (h : end ≤ at) where
  none : take (end - at) (drop at text) ≡ []
  none = let z : end - at ≡ 0 = omega arith in rw z

  digits-all : all_digits (run_at text start) ≡ true
  digits-all = d.all ∙ ap all_digits none

  digits_sum : value_from 0 (run_at text start) ≡ value
  digits_sum = d.sum ∙ ap (value_from value) none

  pub number_large : 255 < value → record { code = 34; value = 0; place = start; end = start } ≡ told (found_at start (number_word (run_at text start) start))
  number_large g = simp (digits-all, digits_sum, lt-leb value 255 g)

  pub number_good : start ≤ length text → value ≤ 255 → record { code = 23; value = value; place = start; end = end } ≡ told (found_at start (number_word (run_at text start) start))
  number_good i g = simp (digits-all, digits_sum, le-leb value 255 g) (said_eq refl refl refl (d.ends ∙ ap (λ (n : ℕ). start + n) (sym (run_long text start i))))

-- ---- reserved words and names

pub eqb_sym : (a b : ℕ) → eqb a b ≡ eqb b a
eqb_sym a b = elim (ℕ_discrete a b) [ yes e ↦ eq-eqb a b e ∙ sym (eq-eqb b a (sym e)) | no d ↦ ne_eqb a b d ∙ sym (ne_eqb b a (λ e. d (sym e))) ]

and_swap : (a b c : Bool) → (a && (b && c)) ≡ (b && (a && c))
and_swap true true c = refl
and_swap true false c = refl
and_swap false true c = refl
and_swap false false c = refl

-- a word is spelled so if it is as long, and begins so
pub same-name : (spelling s : List ℕ) (long : ℕ) → long ≤ length s → same_name (take long s) spelling ≡ (eqb (length spelling) long && begins_with spelling s)
same-name [] s zero h = refl
same-name [] [] (suc k) h = absurd (omega arith)
same-name [] (c ∷ s) (suc k) h = sym (ap (λ (b : Bool). b && true) (eqb-zero-suc k))
same-name (d ∷ ds) s zero h = sym (ap (λ (b : Bool). b && begins_with (d ∷ ds) s) (eqb-suc-zero (length ds)))
same-name (d ∷ ds) [] (suc k) h = absurd (omega arith)
same-name (d ∷ ds) (c ∷ s) (suc k) h =
    let g : suc k ≤ suc (length s) = h in
    ap (λ (b : Bool). eqb c d && b) (same-name ds s k (omega arith)) ∙ and_swap (eqb c d) (eqb (length ds) k) (begins_with ds s) ∙ ap (λ (b : Bool). b && (eqb c d && begins_with ds s)) (sym (eqb-suc-suc (length ds) k)) ∙ ap (λ (b : Bool). eqb (suc (length ds)) (suc k) && (b && begins_with ds s)) (eqb_sym c d)

abbrev pub long_rows : List Spelled → Bool
long_rows [] = true
long_rows (r ∷ rs) = not (eqb (length r.spelling) 0) && long_rows rs

pub long-row : (r : Spelled) (rs : List Spelled) → long_rows (r ∷ rs) ≡ true → (¬ (length r.spelling ≡ 0)) × (long_rows rs ≡ true)
long-row r rs e = by (eqb (length r.spelling) 0) refl e
  where
    by : (b : Bool) → eqb (length r.spelling) 0 ≡ b → (not b && long_rows rs) ≡ true → (¬ (length r.spelling ≡ 0)) × (long_rows rs ≡ true)
    by true h e = let z : ◌≡◌ {A = ℕ} 0 1 = cc in absurd (omega arith)
    by false h e = ((λ q. let g = eq-eqb _ _ q in let z : ◌≡◌ {A = ℕ} 0 1 = cc in omega arith), e)

module _ (s : List ℕ) (long : ℕ) (h : long ≤ length s) where
  abbrev Told : List Spelled → RowSaid → Token → Type 0
  Told rs row t = (row.long ≡ 0 → t ≡ name (take long s)) × (¬ (row.long ≡ 0) → (row.code ≡ token_code t) × (row.value ≡ token_value t))

  named_by : (r : Spelled) (rs : List Spelled) (b : Bool) → ¬ (length r.spelling ≡ 0) → Told rs (row_of true long s rs) (named (take long s) rs)
      → Told (r ∷ rs) (cond b (record { code = token_code r.token; value = token_value r.token; long = length r.spelling }) (row_of true long s rs)) (cond b r.token (named (take long s) rs))
  named_by r rs true n t = ((λ e. absurd (n e)), (λ e. (refl, refl)))
  named_by r rs false n t = t

  named-row : (rs : List Spelled) → long_rows rs ≡ true → Told rs (row_of true long s rs) (named (take long s) rs)
  unfolding row_of
  named-row [] e = ((λ z. refl), (λ z. absurd (z refl)))
  named-row (r ∷ rs) e =
      let l = long-row r rs e in
      rw (same-name r.spelling s long h) (named_by r rs (row_fits true long s r.spelling) l.0 (named-row rs l.1))

module _ (text : List ℕ) (start end : ℕ) (inside : start ≤ length text) (ends : end ≡ start + run (drop start text)) (row : RowSaid) (is : row ≡ row_of true (end - start) (drop start text) reserved) where
  size : run (drop start text) ≡ end - start
  size = omega arith

  short : end - start ≤ length (drop start text)
  short = omega (arith, run_short (drop start text))

  all-long : long_rows reserved ≡ true
  unfolding reserved
  all-long = refl

  row_told : (row.long ≡ 0 → named (run_at text start) reserved ≡ name (run_at text start)) × (¬ (row.long ≡ 0) → (row.code ≡ token_code (named (run_at text start) reserved)) × (row.value ≡ token_value (named (run_at text start) reserved)))
  row_told = rw (is, size) (named-row (drop start text) (end - start) short reserved all-long)

  end_is : end ≡ start + length (run_at text start)
  end_is = omega (arith, run_long text start inside)

  pub named-name : row.long ≡ 0 → record { code = 24; value = 0; place = start; end = end } ≡ told (found_at start (good (record { token = named (run_at text start) reserved; long = length (run_at text start) })))
  named-name z = let e = row_told.0 z in said_eq (sym (ap token_code e)) (sym (ap token_value e)) refl end_is

  pub named-spelled : ¬ (row.long ≡ 0) → record { code = row.code; value = row.value; place = start; end = end } ≡ told (found_at start (good (record { token = named (run_at text start) reserved; long = length (run_at text start) })))
  named-spelled z = let e = row_told.1 z in said_eq e.0 e.1 refl end_is

-- ---- signs

pub begins-short : (spelling s : List ℕ) → begins_with spelling s ≡ true → length spelling ≤ length s
begins-short [] s e = omega arith
begins-short (c ∷ cs) [] e = let z : ◌≡◌ {A = ℕ} 0 1 = cc in absurd (omega arith)
begins-short (c ∷ cs) (d ∷ s) e = by (eqb c d) e (begins-short cs s)
  where
    by : (b : Bool) → (b && begins_with cs s) ≡ true → (begins_with cs s ≡ true → length cs ≤ length s) → suc (length cs) ≤ suc (length s)
    by true e h = omega (arith, h e)
    by false e h = let z : ◌≡◌ {A = ℕ} 0 1 = cc in absurd (omega arith)

module _ (s : List ℕ) (at : ℕ) where
  pub record SignTold (row : RowSaid) (m : Answer Read) : Type 0 where
    pub none : row.long ≡ 0 → m ≡ refuse 31 at
    pub some : ¬ (row.long ≡ 0) → record { code = row.code; value = row.value; place = at; end = at + row.long } ≡ told (found_at at m)
    pub short : row.long ≤ length s

  sign-by : (r : Spelled) (rs : List Spelled) (b : Bool) → begins_with r.spelling s ≡ b → ¬ (length r.spelling ≡ 0) → SignTold (row_of false 0 s rs) (sign_at rs s at)
      → SignTold (cond b (record { code = token_code r.token; value = token_value r.token; long = length r.spelling }) (row_of false 0 s rs)) (cond b (good (record { token = r.token; long = length r.spelling })) (sign_at rs s at))
  sign-by r rs true e n t = record { none = λ z. absurd (n z); some = λ z. refl; short = begins-short r.spelling s e }
  sign-by r rs false e n t = t

  sign-row : (rs : List Spelled) → long_rows rs ≡ true → SignTold (row_of false 0 s rs) (sign_at rs s at)
  unfolding row_of
  sign-row [] e = record { none = λ z. refl; some = λ z. absurd (z refl); short = omega arith }
  sign-row (r ∷ rs) e = let l = long-row r rs e in sign-by r rs (begins_with r.spelling s) refl l.0 (sign-row rs l.1)

  signs-long : long_rows signs ≡ true
  unfolding signs
  signs-long = refl

  pub sign_told : (row : RowSaid) → row ≡ row_of false 0 s signs → SignTold row (sign_at signs s at)
  sign_told row e = rw e (sign-row signs signs-long)

  pub sign_none : (row : RowSaid) → row ≡ row_of false 0 s signs → row.long ≡ 0 → record { code = 31; value = 0; place = at; end = at } ≡ told (found_at at (sign_at signs s at))
  sign_none row e z = ap (λ (m : Answer Read). told (found_at at m)) (sym ((sign_told row e).none z))

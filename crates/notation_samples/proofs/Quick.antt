-- The words of a text, made by looking at each byte a few times only: the definition looks at all that is left of a text for each word, too
-- much for one declaration where a text is long. That the words are the same. Assumes nothing.
use Rattle.std.specs.Prelude.{◌≡◌, ℕ, zero, suc, ◌+◌, Bool, true, false, not, ◌&&◌, cond, List, [], ◌∷◌, map, eqb, leb, length, take, drop}
use mathlib.Core.Path.{refl, ap, ◌∙◌}
use lib.Dec.{eqb-suc-zero}
use Rattle.calculus.specs.Answer.{Answer, good, refused, ◌>>=◌, need}
use Rattle.notation_calculus.specs.Words.{sign, ends, Word, Read, reserved, signs, blank, ends_line, digit, letter, in_name, first, gap, run, named, number_word, sign_at, word_at, words_from, words}
use Rattle.notation_calculus.specs.Grammar.{text_of}
use Rattle.notation_calculus.specs.Make.{Placed, sheet_of, make, bytes_of}
use Rattle.notation_calculus.specs.Samples.{Row, made_of}

-- ---- runs

-- the run goes on with the first byte, or not
abbrev pub run_on : Bool → List ℕ → ℕ
run_on false s = 0
run_on true [] = 0
run_on true (c ∷ s) = suc (run_on (in_name (first s)) s)

run_is : (s : List ℕ) → run s ≡ run_on (in_name (first s)) s
run_is [] = refl
run_is (c ∷ s) = either (run_is s) (in_name c)
  where
    either : run s ≡ run_on (in_name (first s)) s → (b : Bool) → cond b (suc (run s)) 0 ≡ run_on b (c ∷ s)
    either h true = ap suc h
    either h false = refl

-- ---- gaps

abbrev pub second : List ℕ → ℕ
second [] = 0
second (c ∷ s) = first s

-- outside a comment: 1 at a blank, 2 where a comment begins, else 0
abbrev pub what : List ℕ → ℕ
what s = cond (blank (first s)) 1 (cond (eqb (first s) 45 && eqb (second s) 45) 2 0)

-- how many bytes stand before the next word; 3 means in a comment
abbrev pub walk : ℕ → List ℕ → ℕ
walk zero s = 0
walk (suc k) [] = 0
walk (suc zero) (c ∷ s) = suc (walk (what s) s)
walk (suc (suc zero)) (c ∷ s) = suc (walk 3 s)
walk (suc (suc (suc k))) (c ∷ s) = suc (walk (cond (ends_line c) (what s) 3) s)

gap_is : (s : List ℕ) → (gap false s ≡ walk (what s) s) × (gap true s ≡ walk 3 s)
gap_is [] = (refl, refl)
gap_is (c ∷ s) = let (g, h) = gap_is s in (outside g h (blank c) (eqb c 45 && eqb (first s) 45), inside g h (ends_line c))
  where
    outside : gap false s ≡ walk (what s) s → gap true s ≡ walk 3 s → (a b : Bool) → cond a (suc (gap false s)) (cond b (suc (gap true s)) 0) ≡ walk (cond a 1 (cond b 2 0)) (c ∷ s)
    outside g h true b = ap suc g
    outside g h false true = ap suc h
    outside g h false false = refl

    inside : gap false s ≡ walk (what s) s → gap true s ≡ walk 3 s → (b : Bool) → suc (gap (not b) s) ≡ suc (walk (cond b (what s) 3) s)
    inside g h true = ap suc g
    inside g h false = ap suc h

-- ---- words

abbrev pub word_on : List ℕ → ℕ → Answer Read
word_on s at =
    let run' = take (run_on (in_name (first s)) s) s in
    cond (digit (first s)) (number_word run' at) (cond (letter (first s)) (good (record { token = named run' reserved; long = length run' })) (sign_at signs s at))

word_is : (s : List ℕ) (at : ℕ) → word_at s at ≡ word_on s at
unfolding word_at
word_is s at = ap (λ (n : ℕ). cond (digit (first s)) (number_word (take n s) at) (cond (letter (first s)) (good (record { token = named (take n s) reserved; long = length (take n s) })) (sign_at signs s at))) (run_is s)

abbrev pub on_empty : {A : Type 0} → List ℕ → A → A → A
on_empty [] a b = a
on_empty (c ∷ s) a b = b

empty_is : {A : Type 0} (s : List ℕ) (a b : A) → cond (eqb (length s) 0) a b ≡ on_empty s a b
empty_is [] a b = refl
empty_is (c ∷ s) a b = ap (λ (t : Bool). cond t a b) (eqb-suc-zero (length s))

abbrev pub quick_from : ℕ → List ℕ → ℕ → Answer (List Word)
quick_from zero s at = good (record { token = sign ends; place = at } ∷ [])
quick_from (suc rounds) s at =
    let n = walk (what s) s in
    let r = drop n s in
    on_empty r (good (record { token = sign ends; place = at + n } ∷ [])) (do
      w ← word_on r (at + n)
      ws ← quick_from rounds (drop w.long r) (at + n + w.long)
      good (record { token = w.token; place = at + n } ∷ ws))

then_same : {A B : Type 0} (m : Answer A) (f g : A → Answer B) → ((a : A) → f a ≡ g a) → (m >>= f) ≡ (m >>= g)
then_same (good a) f g h = h a
then_same (refused why) f g h = refl

quick_is : (rounds : ℕ) (s : List ℕ) (at : ℕ) → words_from rounds s at ≡ quick_from rounds s at
quick_is zero s at = refl
quick_is (suc rounds) s at = ap behind (gap_is s).0 ∙ empty_is r (good (record { token = sign ends; place = at + n } ∷ [])) (word_at r (at + n) >>= next) ∙ ap (λ (a : Answer (List Word)). on_empty r (good (record { token = sign ends; place = at + n } ∷ [])) a) (ap (λ (w : Answer Read). w >>= next) (word_is r (at + n)) ∙ then_same (word_on r (at + n)) next quick λ w. ap (λ (a : Answer (List Word)). a >>= λ ws. good (record { token = w.token; place = at + n } ∷ ws)) (quick_is rounds (drop w.long r) (at + n + w.long)))
  where
    behind : ℕ → Answer (List Word)
    behind m = cond (eqb (length (drop m s)) 0) (good (record { token = sign ends; place = at + m } ∷ [])) (do
      w ← word_at (drop m s) (at + m)
      ws ← words_from rounds (drop w.long (drop m s)) (at + m + w.long)
      good (record { token = w.token; place = at + m } ∷ ws))

    n : ℕ
    n = walk (what s) s

    r : List ℕ
    r = drop n s

    next : Read → Answer (List Word)
    next w = words_from rounds (drop w.long r) (at + n + w.long) >>= λ ws. good (record { token = w.token; place = at + n } ∷ ws)

    quick : Read → Answer (List Word)
    quick w = quick_from rounds (drop w.long r) (at + n + w.long) >>= λ ws. good (record { token = w.token; place = at + n } ∷ ws)

abbrev pub quick_words : List ℕ → Answer (List Word)
quick_words s = quick_from (suc (length s)) s 0

words_are : (s : List ℕ) → words s ≡ quick_words s
unfolding words
words_are s = quick_is (suc (length s)) s 0

-- ---- sheets

unfoldable pub quick_make : List ℕ → Answer Placed
quick_make text = do
  _ ← need (leb (length text) 65535) 30 0
  ws ← quick_words text
  X ← text_of ws
  sheet_of X

pub make_is : (text : List ℕ) → make text ≡ quick_make text
unfolding make quick_make
make_is text = ap (λ (a : Answer (List Word)). need (leb (length text) 65535) 30 0 >>= λ _. a >>= λ ws. text_of ws >>= λ X. sheet_of X) (words_are text)

unfoldable pub quickly_made : Row → Answer (List ℕ)
quickly_made r = do
  m ← quick_make r.text
  good (bytes_of m.sheet)

pub made_are : (rs : List Row) → map made_of rs ≡ map quickly_made rs
unfolding made_of quickly_made
made_are [] = refl
made_are (r ∷ rs) = ap (λ (m : Answer Placed). (m >>= λ p. good (bytes_of p.sheet)) ∷ map made_of rs) (make_is r.text) ∙ ap (λ (ms : List (Answer (List ℕ))). quickly_made r ∷ ms) (made_are rs)

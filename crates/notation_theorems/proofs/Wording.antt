-- Every word of a text but the end stands in it, and every part among them is one of the seven. So each node of a made sheet has a place in
-- the text, and its parts are known. Assumes nothing.
use Prim.Native.Nat.{ℕ, zero, suc, ◌+◌, ◌<◌}
use mathlib.Core.Path.{◌≡◌, refl, subst}
use mathlib.Core.Bool.{Bool, true, false, not, ◌&&◌}
use mathlib.Core.List.{List, [], ◌∷◌}
use native.Mathlib.Omega.{arith}
use lib.Dec.{T, eqb, leb, ltb, ltb→lt}
use lib.ListN.{length, take, drop, length-drop}
use Rattle.calculus.specs.Answer.{Answer, good, ◌>>=◌, need}
use Rattle.calculus.specs.Record.{All, Among, here, there}
use Rattle.calculus.specs.Terms.{parts}
use Rattle.laws.proofs.Tests.{and_both, on_cond}
use Rattle.notation_calculus.specs.Words.{Name, same_name, Token, sign, part, number, name, Word, Spelled, reserved, signs, first, gap, run, digit, letter, all_digits, value_from, Read, named, begins_with, sign_at, number_word, word_at, words_from, words}
use Rattle.notation_calculus.specs.Trees.{Text}
use Rattle.notation_calculus.specs.Grammar.{text_of}
use Rattle.notation_calculus.specs.Make.{Placed, make}
use Rattle.notation_theorems.specs.Circuits.{Says}
use Rattle.notation_theorems.specs.Counted.{Spelt, ClauseIn}
use Rattle.notation_theorems.specs.Worded.{IsPart, TokenIn, WordIn, BeginsAt}
use Rattle.notation_theorems.proofs.Answering.{On, on_step, on_any, on_either, on_tests, on_good}
use Rattle.notation_theorems.proofs.Reading.{SheetKept, sheet-kept, of_bytes}
use Rattle.notation_theorems.proofs.Treeing.{text_in}

-- ---- parts

abbrev known : Token → Bool
known (sign s) = true
known (part p) = ltb p (length parts)
known (number n) = true
known (name n) = true

abbrev all_known : List Spelled → Bool
all_known [] = true
all_known (r ∷ rs) = known r.token && all_known rs

abbrev Known : Read → Type 0
Known w = T (known w.token)

named-known : (n : Name) (rs : List Spelled) → T (all_known rs) → T (known (named n rs))
named-known n [] h = tt
named-known n (r ∷ rs) h =
    let (a, b) = and_both (known r.token) (all_known rs) h in
    on_cond (λ (t : Token). T (known t)) (same_name n r.spelling) r.token (named n rs) (λ _. a) (named-known n rs b)

sign_known : (rs : List Spelled) (s : List ℕ) (at : ℕ) → T (all_known rs) → On Known (sign_at rs s at)
sign_known [] s at h = tt
sign_known (r ∷ rs) s at h =
    let (a, b) = and_both (known r.token) (all_known rs) h in
    on_either Known (begins_with r.spelling s) (good (record { token = r.token; long = length r.spelling })) (sign_at rs s at) a (sign_known rs s at b)

number-known : (digits : List ℕ) (at : ℕ) → On Known (number_word digits at)
number-known digits at = on_any Known (need (all_digits digits) 31 at) _ λ _. on_any Known (need (leb (value_from 0 digits) 255) 34 at) _ λ _. tt

reserved-known : T (all_known reserved)
unfolding reserved
reserved-known = tt

signs-known : T (all_known signs)
unfolding signs
signs-known = tt

word-known : (s : List ℕ) (at : ℕ) → On Known (word_at s at)
unfolding word_at
word-known s at = on_either Known (digit (first s)) _ _ (number-known (take (run s) s) at) (on_either Known (letter (first s)) _ _ (named-known (take (run s) s) reserved reserved-known) (sign_known signs s at signs-known))

-- ---- places

token_in : (P : ℕ → Type 0) (k : Token) (at : ℕ) → T (known k) → P at → TokenIn P IsPart at k
token_in P (sign s) at h p = λ _. p
token_in P (part n) at h p = (p, ltb→lt n (length parts) h)
token_in P (number n) at h p = p
token_in P (name n) at h p = p

some : (n : ℕ) → T (not (eqb n 0)) → 0 < n
some zero t = absurd t
some (suc n) t = omega arith

-- `at` is where the bytes s begin, if there are any
words-from : (long rounds : ℕ) (s : List ℕ) (at : ℕ) → (0 < length s → at + length s ≡ long) → On (All (WordIn (λ (n : ℕ). n < long) IsPart)) (words_from rounds s at)
words-from long zero s at h = ((λ t. absurd t), tt)
words-from long (suc rounds) s at h = on_tests Q (eqb (length r) 0) _ _ (λ _. ((λ t. absurd t), tt)) λ t.
    on_step Known Q (word_at r (at + n)) _ (word-known r (at + n)) λ w k.
    on_step Q Q (words_from rounds (drop w.long r) (at + n + w.long)) _ (words-from long rounds (drop w.long r) (at + n + w.long) (behind w.long (some (length r) t))) λ ws g.
    (token_in (λ (m : ℕ). m < long) w.token (at + n) k (inside (some (length r) t)), g)
  where
    n : ℕ
    n = gap false s

    r : List ℕ
    r = drop n s

    Q : List Word → Type 0
    Q = All (WordIn (λ (m : ℕ). m < long) IsPart)

    inside : 0 < length r → at + n < long
    inside l = omega (arith, length-drop n s, h (omega (arith, length-drop n s)))

    behind : (m : ℕ) → 0 < length r → 0 < length (drop m r) → at + n + m + length (drop m r) ≡ long
    behind m l k = omega (arith, length-drop n s, length-drop m r, h (omega (arith, length-drop n s)))

words_in : (text : List ℕ) → On (All (WordIn (λ (n : ℕ). n < length text) IsPart)) (words text)
unfolding words
words_in text = words-from (length text) (suc (length text)) text 0 λ _. omega arith

-- ---- the text, and its sheet

clauses_in : (text : List ℕ) (X : Text) → Says text X → All (ClauseIn (λ (n : ℕ). n < length text) IsPart) X.clauses
clauses_in text X e =
    let P : ℕ → Type 0 = λ n. n < length text in
    let Q : Text → Type 0 = λ Y. All (ClauseIn P IsPart) Y.clauses in
    on_good Q (words text >>= text_of) X (on_step (All (WordIn P IsPart)) Q (words text) text_of (words_in text) λ ws h. text_in P IsPart ws h) e

text-kept : (text : List ℕ) (p : Placed) → make text ≡ good p → SheetKept (λ (n : ℕ). n < length text) IsPart p
text-kept text p e = of_bytes (SheetKept (λ (n : ℕ). n < length text) IsPart) text p e λ X says f. sheet-kept (λ (n : ℕ). n < length text) IsPart X p (clauses_in text X says) f

-- each place is an offset of a byte of the text
pub places_in_text : (text : List ℕ) (p : Placed) → make text ≡ good p → All (λ (n : ℕ). n < length text) p.places
places_in_text text p e = (text-kept text p e).1

-- each part of the sheet is one of the seven
pub make-parts : (text : List ℕ) (p : Placed) → make text ≡ good p → Spelt IsPart p.sheet.edition p.sheet.term
make-parts text p e = (text-kept text p e).4

-- ---- the words themselves

abbrev AnyPart : ℕ → Type 0
AnyPart p = Unit {0}

begun : (ws : List Word) (k : Token) (at : ℕ) → BeginsAt ws at → TokenIn (BeginsAt ws) AnyPart at k
begun ws (sign s) at h = λ _. h
begun ws (part p) at h = (h, tt)
begun ws (number n) at h = h
begun ws (name n) at h = h

all-begun : (ws us : List Word) → ((w : Word) → Among w us → Among w ws) → All (WordIn (BeginsAt ws) AnyPart) us
all-begun ws [] h = tt
all-begun ws (w ∷ us) h = (begun ws w.token w.place (w, h w here, refl), all-begun ws us λ u a. h u (there a))

-- each place is one where a word of the text begins
pub places_are_words : (text : List ℕ) (ws : List Word) (p : Placed) → words text ≡ good ws → make text ≡ good p → All (BeginsAt ws) p.places
places_are_words text ws p d e = of_bytes (λ (q : Placed). All (BeginsAt ws) q.places) text p e λ X says f.
    let Q : Text → Type 0 = λ Y. All (ClauseIn (BeginsAt ws) AnyPart) Y.clauses in
    let within : Q X = on_good Q (text_of ws) X (text_in (BeginsAt ws) AnyPart ws (all-begun ws ws λ w a. a)) (subst (λ (m : Answer (List Word)). (m >>= text_of) ≡ good X) d says) in
    (sheet-kept (BeginsAt ws) AnyPart X p within f).1

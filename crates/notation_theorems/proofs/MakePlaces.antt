-- Where a refusal of `make` stands: the words are refused where a word is due, and so are the grammar and the making. Assumes nothing.
use Prim.Native.Nat.{ℕ, zero, suc, ◌+◌, ◌<◌, ◌≤◌}
use mathlib.Core.Path.{◌≡◌, refl, sym, ap, subst, ◌∙◌}
use mathlib.Core.Bool.{Bool, true, false, not, ◌&&◌, ◌||◌, cond}
use mathlib.Core.List.{List, [], ◌∷◌}
use native.Mathlib.Omega.{arith}
use native.Mathlib.Decide.{dec_le}
use borrow.Author.Tests.{leb-false}
use lib.Dec.{T, eqb, leb, ltb, leb→le, ltb→lt}
use lib.ListN.{length, take, drop, length-drop}
use lib.Seq.{drop-drop}
use Rattle.calculus.specs.Answer.{Refusal, Answer, good, refused, numbered, ◌>>=◌}
use Rattle.calculus.specs.Record.{All, Among, here, there}
use Rattle.calculus.proofs.Answers.{good-inj, refused≢good}
use Rattle.laws.proofs.Tests.{and_both}
use Rattle.sheet_theorems.proofs.Judging.{Judged, value, refusal, Any, of_bind, of_require, weaker}
use Rattle.notation_calculus.specs.Words.{Word, Spelled, signs, blank, ends_line, digit, letter, in_name, first, gap, run, all_digits, value_from, Read, begins_with, sign_at, number_word, word_at, words_from, words}
use Rattle.notation_calculus.specs.Grammar.{text_of}
use Rattle.notation_calculus.specs.Make.{sheet_of, make}
use Rattle.notation_theorems.specs.MakePlace.{Due, first as begins, next, MakePlace}
use Rattle.notation_theorems.specs.Worded.{BeginsAt}
use Rattle.notation_theorems.proofs.Telling.{RefusedOn, of_tests}
use Rattle.notation_theorems.proofs.TreeTells.{Ended, In, text_tells}
use Rattle.notation_theorems.proofs.MakingTells.{sheet_tells}

-- ---- how long a word is

-- a word has a byte, and no more than there are
abbrev Long : List ℕ → Read → Type 0
Long s w = (0 < w.long) × (w.long ≤ length s)

begins-short : (cs s : List ℕ) → T (begins_with cs s) → length cs ≤ length s
begins-short [] s h = omega arith
begins-short (c ∷ cs) [] h = absurd h
begins-short (c ∷ cs) (d ∷ s) h = omega (arith, begins-short cs s (and_both (eqb c d) (begins_with cs s) h).1)

take_short : (n : ℕ) (s : List ℕ) → length (take n s) ≤ length s
take_short zero s = omega arith
take_short (suc n) [] = omega arith
take_short (suc n) (c ∷ s) = omega (arith, take_short n s)

run-some : (s : List ℕ) → T (in_name (first s)) → 0 < length (take (run s) s)
run-some [] h = absurd h
run-some (c ∷ s) h = by (in_name c) h
  where
    by : (b : Bool) → T b → 0 < length (take (cond b (suc (run s)) 0) (c ∷ s))
    by true t = omega arith
    by false t = absurd t

digit_in : (a b c : Bool) → T b → T (a || b || c)
digit_in true b c h = tt
digit_in false true c h = tt
digit_in false false c h = absurd h

letter_in : (a b c : Bool) → T a → T (a || b || c)
letter_in true b c h = tt
letter_in false b c h = absurd h

gap-short : (b : Bool) (s : List ℕ) → gap b s ≤ length s
gap-short true [] = omega arith
gap-short true (c ∷ s) = omega (arith, gap-short (not (ends_line c)) s)
gap-short false [] = omega arith
gap-short false (c ∷ s) = by (blank c) (eqb c 45 && eqb (first s) 45) (gap-short false s) (gap-short true s)
  where
    by : (a b : Bool) → gap false s ≤ length s → gap true s ≤ length s → cond a (suc (gap false s)) (cond b (suc (gap true s)) 0) ≤ suc (length s)
    by true b h g = omega arith
    by false true h g = omega arith
    by false false h g = omega arith

-- ---- where a word is refused

-- 31 or 34 at the word
pub record WordStops (at : ℕ) (why : Refusal) : Type 0 where
  pub from : 31 ≤ why.number
  pub to : why.number ≤ 34
  pub here : why.place ≡ at
  pub plain : (why.wanted ≡ 0) × (why.found ≡ 0)

stops : (number at : ℕ) → 31 ≤ number → number ≤ 34 → WordStops at (numbered number at)
stops number at f t = record { from = f; to = t; here = refl; plain = (refl, refl) }

abbrev all_some : List Spelled → Bool
all_some [] = true
all_some (r ∷ rs) = ltb 0 (length r.spelling) && all_some rs

signs-some : T (all_some signs)
unfolding signs
signs-some = tt

sign_tells : (rs : List Spelled) (s : List ℕ) (at : ℕ) → T (all_some rs) → Judged (WordStops at) (Long s) (sign_at rs s at)
sign_tells [] s at h = refusal (stops 31 at (omega arith) (omega arith))
sign_tells (r ∷ rs) s at h =
    let a = and_both (ltb 0 (length r.spelling)) (all_some rs) h in
    of_tests (begins_with r.spelling s) (good (record { token = r.token; long = length r.spelling })) (sign_at rs s at) (λ t. value (ltb→lt 0 (length r.spelling) a.0, begins-short r.spelling s t)) λ _. sign_tells rs s at a.1

number_tells : (s digits : List ℕ) (at : ℕ) → 0 < length digits → length digits ≤ length s → Judged (WordStops at) (Long s) (number_word digits at)
number_tells s digits at h l =
    of_require (all_digits digits) (numbered 31 at) _ (λ _. stops 31 at (omega arith) (omega arith)) λ _.
    of_require (leb (value_from 0 digits) 255) (numbered 34 at) _ (λ _. stops 34 at (omega arith) (omega arith)) λ _. value (h, l)

word_tells : (s : List ℕ) (at : ℕ) → Judged (WordStops at) (Long s) (word_at s at)
unfolding word_at
word_tells s at =
    of_tests (digit (first s)) _ _ (λ t. number_tells s (take (run s) s) at (run-some s (digit_in (letter (first s)) (digit (first s)) (eqb (first s) 39) t)) (take_short (run s) s)) λ _.
    of_tests (letter (first s)) _ _ (λ t. value (run-some s (letter_in (letter (first s)) (digit (first s)) (eqb (first s) 39) t), take_short (run s) s)) λ _. sign_tells signs s at signs-some

-- ---- the words of a text

some : (n : ℕ) → T (not (eqb n 0)) → 0 < n
some zero t = absurd t
some (suc n) t = omega arith

ended_on : (w : Word) (ws : List Word) → Ended ws → Ended (w ∷ ws)
ended_on w [] h = absurd h
ended_on w (u ∷ us) h = h

module _ (text : List ℕ) (few : length text ≤ 65535) where
  abbrev At : ℕ → Type 0
  At n = (n ≤ length text) × Due text n

  of-stop : (at : ℕ) → at < length text → Due text at → (why : Refusal) → WordStops at why → MakePlace text why
  of-stop at l d why h = record {
    from = omega (arith, h.from);
    to = omega (arith, h.to);
    low = omega (arith, h.here);
    long = λ e. absurd (omega (arith, h.from));
    short = λ _. few;
    due = λ _. subst (Due text) (sym h.here) d;
    byte = λ _. omega (arith, h.here);
    plain = h.plain;
  }

  of-stand : (why : Refusal) → RefusedOn At why → MakePlace text why
  of-stand why h = record {
    from = omega (arith, h.from);
    to = h.to;
    low = h.there.0;
    long = λ e. absurd (omega (arith, h.from));
    short = λ _. few;
    due = λ _. h.there.1;
    byte = λ e. absurd (omega (arith, h.from));
    plain = h.plain;
  }

  -- s is what the text has from `at` on
  words-from : (rounds : ℕ) (s : List ℕ) (at : ℕ) → s ≡ drop at text → at + length s ≡ length text → length s < rounds → Due text (at + gap false s) → Judged (MakePlace text) (In At) (words_from rounds s at)
  words-from zero s at e l h d = absurd (omega arith)
  words-from (suc rounds) s at e l h d =
      of_tests (eqb (length r) 0) _ _ (λ _. value (((inside, d), tt), tt)) λ t.
      of_bind (word_at r (at + n)) _ (weaker (of-stop (at + n) (below (some (length r) t)) d) (word_tells r (at + n))) λ w q k.
      of_bind (words_from rounds (drop w.long r) (at + n + w.long)) _ (words-from rounds (drop w.long r) (at + n + w.long) (on w.long) (left w.long k.1) (fewer w.long k.0 k.1) (after w q)) λ ws _ g.
      value (((inside, d), g.0), ended_on (record { token = w.token; place = at + n }) ws g.1)
    where
      n : ℕ
      n = gap false s

      r : List ℕ
      r = drop n s

      inside : at + n ≤ length text
      inside = omega (arith, gap-short false s)

      below : 0 < length r → at + n < length text
      below k = omega (arith, length-drop n s)

      here : r ≡ drop (at + n) text
      here = ap (drop n) e ∙ drop-drop n at text

      on : (m : ℕ) → drop m r ≡ drop (at + n + m) text
      on m = ap (drop m) here ∙ drop-drop m (at + n) text

      left : (m : ℕ) → m ≤ length r → at + n + m + length (drop m r) ≡ length text
      left m k = omega (arith, length-drop n s, length-drop m r, gap-short false s)

      fewer : (m : ℕ) → 0 < m → m ≤ length r → length (drop m r) < rounds
      fewer m k i = omega (arith, length-drop n s, length-drop m r)

      after : (w : Read) → word_at r (at + n) ≡ good w → Due text (at + n + w.long + gap false (drop w.long r))
      after w q = subst (λ (u : List ℕ). Due text (at + n + w.long + gap false u)) (sym (on w.long)) (next (at + n) w d (subst (λ (u : List ℕ). word_at u (at + n) ≡ good w) here q))

  words-tells : Judged (MakePlace text) (In At) (words text)
  unfolding words
  words-tells = words-from (suc (length text)) text 0 refl (omega arith) (omega arith) (subst (Due text) (omega arith) begins)

too_long : (text : List ℕ) → 65535 < length text → MakePlace text (numbered 30 0)
too_long text h = record {
  from = omega arith;
  to = omega arith;
  low = omega arith;
  long = λ _. (refl, h);
  short = λ k. absurd (omega arith);
  due = λ k. absurd (omega arith);
  byte = λ e. absurd (omega arith);
  plain = (refl, refl);
}

-- every refusal of every text
pub make-places : (text : List ℕ) → Judged (MakePlace text) Any (make text)
unfolding make
make-places text =
    of_require (leb (length text) 65535) (numbered 30 0) _ (λ f. too_long text (leb-false (length text) 65535 f)) λ t.
    let few : length text ≤ 65535 = leb→le (length text) 65535 t in
    of_bind (words text) _ (words-tells text few) λ ws _ h.
    of_bind (text_of ws) _ (weaker (of-stand text few) (text_tells (At text few) ws h)) λ X _ k.
    weaker (of-stand text few) (sheet_tells (At text few) X k)

-- so each place is small, however long the text
pub place-few : (text : List ℕ) (why : Refusal) → MakePlace text why → why.place ≤ 65535
place-few text why h = elim (dec_le 31 why.number) [ yes k ↦ omega (arith, h.low, h.short k) | no k ↦ omega (arith, (h.long (omega (arith, h.from))).0) ]

-- ---- the words themselves

of_good : {P : Refusal → Type 0} {A : Type 0} (Q : A → Type 0) (m : Answer A) (a : A) → Judged P Q m → m ≡ good a → Q a
of_good Q (good x) a (value h) e = subst Q (good-inj e) h
of_good Q (refused why) a (refusal h) e = absurd (refused≢good e)

all-begin : (ws us : List Word) → ((w : Word) → Among w us → Among w ws) → All (λ (w : Word). BeginsAt ws w.place) us
all-begin ws [] h = tt
all-begin ws (w ∷ us) h = ((w, h w here, refl), all-begin ws us λ u a. h u (there a))

-- one of the words of a text begins there; the end is the last of them
abbrev pub AtWord : List Word → Refusal → Type 0
AtWord ws why = 31 ≤ why.number → BeginsAt ws why.place

at-word : (ws : List Word) (why : Refusal) → RefusedOn (BeginsAt ws) why → AtWord ws why
at-word ws why h = λ _. h.there

-- .. of every text whose words can be read: where they cannot, there is no such list
pub refusals_are_words : (text : List ℕ) (ws : List Word) → words text ≡ good ws → Judged (AtWord ws) Any (make text)
unfolding make
refusals_are_words text ws d =
    of_require (leb (length text) 65535) (numbered 30 0) _ (λ _ k. absurd (omega arith)) λ t.
    let ended : Ended ws = (of_good (In (At text (leb→le (length text) 65535 t))) (words text) ws (words-tells text (leb→le (length text) 65535 t)) d).1 in
    subst (λ (m : Answer (List Word)). Judged (AtWord ws) Any (m >>= λ us. text_of us >>= sheet_of)) (sym d) (of_bind (text_of ws) _ (weaker (at-word ws) (text_tells (BeginsAt ws) ws (all-begin ws ws (λ w a. a), ended))) λ X _ k. weaker (at-word ws) (sheet_tells (BeginsAt ws) X k))

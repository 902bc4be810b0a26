-- The words of a text one after the other: `lexed` by what stands next. Assumes nothing.
use Prim.Native.Nat.{ℕ, zero, suc, ◌+◌, ◌-◌, ◌≤◌, ◌<◌}
use mathlib.Core.Path.{◌≡◌, refl, sym, ap, subst, ◌∙◌}
use mathlib.Core.Bool.{Bool, true, false, not, ◌&&◌, ◌||◌, cond}
use mathlib.Core.List.{List, [], ◌∷◌}
use native.Mathlib.Omega.{arith}
use lib.Dec.{eqb, leb}
use lib.ListN.{length, get_or, take, drop, length-drop}
use lib.Seq.{length-take-le, drop-drop}
use borrow.Author.Tests.{eq-eqb, ne_eqb, eqb-true, eqb-false}
use Rattle.calculus.specs.Answer.{Refusal, Answer, good, refused, ◌>>=◌, refuse, numbered, need}
use Rattle.calculus.proofs.Answers.{refused≢good, refused-inj}
use Rattle.notation_calculus.specs.Words.{Sign, sign_code, ends, fun, fix, lets, within, type, edition, table, arrow, linear, times, round, endRound, equals, comma, colon, dot, square, endSquare, curly, endCurly, plus, power, Token, sign, part, number, name, same_name, Spelled, Word, blank, ends_line, digit, letter, in_name, first, gap, run, all_digits, value_from, Read, begins_with, named, sign_at, number_word, reserved, signs, word_at, words_from, words}
use Rattle.notation_calculus.specs.Grammar.{peek, behind}
use Rattle.words.specs.Tables.{token_code, token_value, row_of}
use Rattle.words.specs.Classes.{SingleSign}
use Rattle.words.specs.Next.{FoundWord, found_at, run_at, named_at, next_of, Said, told}
use Rattle.words.specs.Lexed.{lexed, valued, from, Lexed, Stands, reason_of, Passed}
use Rattle.answers.specs.Refusals.{reason_number, refusal_at}
use Rattle.std.proofs.Common.{Ok, Err}
use Rattle.laws.proofs.Regions.{drop_past}
use Rattle.words.proofs.WordLaws.{drop_here, at_front}
use Rattle.words.proofs.FoundLaws.{run_short, long_rows, long-row, begins-short, sign_told}

-- ---- what stands at an offset

module _ (text : List ℕ) (at start : ℕ) (is : start ≡ at + gap false (drop at text)) where
  abbrev next_from : ℕ → Answer FoundWord
  next_from b = cond (eqb (length (drop b text)) 0) (good (record { token = sign ends; place = b; end = b })) (found_at b (word_at (drop b text) b))

  next-by : next_from start ≡ next_of text at
  unfolding next_of
  next-by = ap next_from is

  pub next-end : length text ≤ start → record { code = 0; value = 0; place = start; end = start } ≡ told (next_of text at)
  next-end h = ap told (sym (ap (λ (b : Bool). cond b (good (record { token = sign ends; place = start; end = start })) (found_at start (word_at (drop start text) start))) (eq-eqb (length (drop start text)) 0 (omega (arith, length-drop start text)))) ∙ next-by)

  pub next_word : start < length text → told (found_at start (word_at (drop start text) start)) ≡ told (next_of text at)
  next_word h = ap told (sym (ap (λ (b : Bool). cond b (good (record { token = sign ends; place = start; end = start })) (found_at start (word_at (drop start text) start))) (ne_eqb (length (drop start text)) 0 (λ e. absurd (omega (arith, length-drop start text, e))))) ∙ next-by)

-- the word at an offset, by its first byte
module _ (text : List ℕ) (start : ℕ) where
  first-digit : (b : Bool) → digit (get_or text start 0) ≡ b → digit (first (drop start text)) ≡ b
  first-digit b d = ap digit (sym (at_front text start)) ∙ d

  pub word_number : digit (get_or text start 0) ≡ true → told (found_at start (number_word (run_at text start) start)) ≡ told (found_at start (word_at (drop start text) start))
  unfolding word_at
  word_number d = ap (λ (b : Bool). told (found_at start (cond b (number_word (run_at text start) start) (cond (letter (first (drop start text))) (named_at text start) (sign_at signs (drop start text) start))))) (sym (first-digit true d))

  module _ (d : digit (get_or text start 0) ≡ false) where
    word-other : told (found_at start (cond (letter (first (drop start text))) (named_at text start) (sign_at signs (drop start text) start))) ≡ told (found_at start (word_at (drop start text) start))
    unfolding word_at
    word-other = ap (λ (b : Bool). told (found_at start (cond b (number_word (run_at text start) start) (cond (letter (first (drop start text))) (named_at text start) (sign_at signs (drop start text) start))))) (sym (first-digit false d))

    pub word-name : letter (get_or text start 0) ≡ true → told (found_at start (named_at text start)) ≡ told (found_at start (word_at (drop start text) start))
    word-name l = ap (λ (b : Bool). told (found_at start (cond b (named_at text start) (sign_at signs (drop start text) start)))) (sym (ap letter (sym (at_front text start)) ∙ l)) ∙ word-other

    pub word-sign : letter (get_or text start 0) ≡ false → told (found_at start (sign_at signs (drop start text) start)) ≡ told (found_at start (word_at (drop start text) start))
    word-sign l = ap (λ (b : Bool). told (found_at start (cond b (named_at text start) (sign_at signs (drop start text) start)))) (sym (ap letter (sym (at_front text start)) ∙ l)) ∙ word-other

    -- a sign that its first byte tells
    pub word-single : (k : ℕ) → start < length text → letter (get_or text start 0) ≡ false → SingleSign (get_or text start 0) k → record { code = k; value = 0; place = start; end = start + 1 } ≡ told (found_at start (word_at (drop start text) start))
    word-single k h l s = (sign_told (drop start text) start (record { code = k; value = 0; long = 1 }) (sym (ap (λ (r : List ℕ). row_of false 0 r signs) (drop_here text start h) ∙ s (drop (start + 1) text)))).some (λ e. omega arith) ∙ word-sign l

-- ---- a word is not empty, not past the end and not the end; or it is refused here

-- a name is spelled by its bytes, which are all letters and digits that stand here
abbrev Spelt : List ℕ → Read → Type 0
Spelt r w = token_code w.token ≡ 24 → (w.token ≡ name (take w.long r)) × (w.long ≡ run r)

pub data View (r : List ℕ) (at : ℕ) : Answer Read → Type 0 where
  fine : {w : Read} → 0 < w.long → w.long ≤ length r → ¬ (token_code w.token ≡ 0) → Spelt r w → View r at (good w)
  unknown : View r at (refuse 31 at)
  large : View r at (refuse 34 at)

-- no row has this code
abbrev pub coded : ℕ → List Spelled → Bool
coded n [] = true
coded n (r ∷ rs) = not (eqb (token_code r.token) n) && coded n rs

coded-row : (n : ℕ) (r : Spelled) (rs : List Spelled) → coded n (r ∷ rs) ≡ true → (¬ (token_code r.token ≡ n)) × (coded n rs ≡ true)
coded-row n r rs e = by (eqb (token_code r.token) n) refl e
  where
    by : (b : Bool) → eqb (token_code r.token) n ≡ b → (not b && coded n rs) ≡ true → (¬ (token_code r.token ≡ n)) × (coded n rs ≡ true)
    by true h e = let z : ◌≡◌ {A = ℕ} 0 1 = cc in absurd (omega arith)
    by false h e = (eqb-false (token_code r.token) n h, e)

-- a run of letters that may be reserved has the code of a name, or of a row
named-off : (k : ℕ) → ¬ (24 ≡ k) → (n : List ℕ) (rs : List Spelled) → coded k rs ≡ true → ¬ (token_code (named n rs) ≡ k)
named-off k d n [] e = d
named-off k d n (r ∷ rs) e = let c = coded-row k r rs e in by (same_name n r.spelling) c.0 (named-off k d n rs c.1)
  where
    by : (b : Bool) → ¬ (token_code r.token ≡ k) → ¬ (token_code (named n rs) ≡ k) → ¬ (token_code (cond b r.token (named n rs)) ≡ k)
    by true h g = h
    by false h g = g

pub reserved-off : (k : ℕ) → ¬ (24 ≡ k) → (n : List ℕ) → coded k reserved ≡ true → ¬ (token_code (named n reserved) ≡ k)
reserved-off k d n e = named-off k d n reserved e

reserved-coded : (n : List ℕ) → ¬ (token_code (named n reserved) ≡ 0)
unfolding reserved
reserved-coded n = reserved-off 0 (λ z. omega arith) n refl

spelt_by : (n : List ℕ) (b : Bool) (t u : Token) → ¬ (token_code t ≡ 24) → (token_code u ≡ 24 → u ≡ name n) → token_code (cond b t u) ≡ 24 → cond b t u ≡ name n
spelt_by n true t u h g e = absurd (h e)
spelt_by n false t u h g e = g e

named_spelt : (n : List ℕ) (rs : List Spelled) → coded 24 rs ≡ true → token_code (named n rs) ≡ 24 → named n rs ≡ name n
named_spelt n [] e = λ z. refl
named_spelt n (r ∷ rs) e = let c = coded-row 24 r rs e in spelt_by n (same_name n r.spelling) r.token (named n rs) c.0 (named_spelt n rs c.1)

reserved_spelt : (n : List ℕ) → token_code (named n reserved) ≡ 24 → named n reserved ≡ name n
unfolding reserved
reserved_spelt n = named_spelt n reserved refl

take-run : (r : List ℕ) → take (length (take (run r) r)) r ≡ take (run r) r
take-run r = ap (λ (k : ℕ). take k r) (length-take-le (run r) r (run_short r))

sign_view_by : (s : List ℕ) (at : ℕ) (r : Spelled) (b : Bool) (m : Answer Read) → begins_with r.spelling s ≡ b → ¬ (length r.spelling ≡ 0) → ¬ (token_code r.token ≡ 0) → ¬ (token_code r.token ≡ 24) → View s at m → View s at (cond b (good (record { token = r.token; long = length r.spelling })) m)
sign_view_by s at r true m e n c d v = let some : 0 < length r.spelling = omega arith in fine some (begins-short r.spelling s e) c (λ z. absurd (d z))
sign_view_by s at r false m e n c d v = v

sign_view : (s : List ℕ) (at : ℕ) (rs : List Spelled) → long_rows rs ≡ true → coded 0 rs ≡ true → coded 24 rs ≡ true → View s at (sign_at rs s at)
sign_view s at [] e f g = unknown
sign_view s at (r ∷ rs) e f g =
    let l = long-row r rs e in
    let c = coded-row 0 r rs f in
    let d = coded-row 24 r rs g in
    sign_view_by s at r (begins_with r.spelling s) (sign_at rs s at) refl l.0 c.0 d.0 (sign_view s at rs l.1 c.1 d.1)

signs-view : (s : List ℕ) (at : ℕ) → View s at (sign_at signs s at)
unfolding signs
signs-view s at = sign_view s at signs refl refl refl

number-view : (s : List ℕ) (at : ℕ) (digits : List ℕ) (a b : Bool) → 0 < length digits → length digits ≤ length s → (t : Token) → ¬ (token_code t ≡ 0) → ¬ (token_code t ≡ 24) → View s at (need a 31 at >>= λ _. need b 34 at >>= λ _. good (record { token = t; long = length digits }))
number-view s at digits true true h g t c d = fine h g c (λ z. absurd (d z))
number-view s at digits true false h g t c d = large
number-view s at digits false b h g t c d = unknown

run-first : (c : ℕ) (s : List ℕ) → in_name c ≡ true → 0 < run (c ∷ s)
run-first c s e = rw (ap (λ (b : Bool). cond b (suc (run s)) 0) e) (omega arith)

or_true : (a : Bool) → (a || true) ≡ true
or_true true = refl
or_true false = refl

digit-inside : (c : ℕ) → digit c ≡ true → in_name c ≡ true
digit-inside c e = by (letter c) (digit c) e
  where
    by : (a b : Bool) → b ≡ true → (a || b || eqb c 39) ≡ true
    by true b e = refl
    by false true e = refl
    by false false e = let z : ◌≡◌ {A = ℕ} 0 1 = cc in absurd (omega arith)

letter-inside : (c : ℕ) → letter c ≡ true → in_name c ≡ true
letter-inside c e = ap (λ (b : Bool). b || digit c || eqb c 39) e

runs : (r : List ℕ) → in_name (first r) ≡ true → (0 < length (take (run r) r)) × (length (take (run r) r) ≤ length r)
runs [] e = let z : ◌≡◌ {A = ℕ} 0 1 = cc in absurd (omega arith)
runs (c ∷ s) e =
    let l = length-take-le (run (c ∷ s)) (c ∷ s) (run_short (c ∷ s)) in
    (omega (arith, l, run-first c s e), omega (arith, l, run_short (c ∷ s)))

pub word-view : (r : List ℕ) (at : ℕ) → View r at (word_at r at)
unfolding word_at
word-view r at = by (digit (first r)) (letter (first r)) refl refl
  where
    by : (d l : Bool) → digit (first r) ≡ d → letter (first r) ≡ l → View r at (cond d (number_word (take (run r) r) at) (cond l (good (record { token = named (take (run r) r) reserved; long = length (take (run r) r) })) (sign_at signs r at)))
    by true l e f = let i = runs r (digit-inside (first r) e) in number-view r at (take (run r) r) (all_digits (take (run r) r)) (leb (value_from 0 (take (run r) r)) 255) i.0 i.1 (number (value_from 0 (take (run r) r))) (λ z. omega arith) (λ z. omega arith)
    by false true e f = let i = runs r (letter-inside (first r) f) in fine i.0 i.1 (reserved-coded (take (run r) r)) (λ z. (reserved_spelt (take (run r) r) z ∙ ap name (sym (take-run r)), length-take-le (run r) r (run_short r)))
    by false false e f = signs-view r at

-- ---- the rounds do not matter, if they are enough

gap-short : (b : Bool) (s : List ℕ) → gap b s ≤ length s
gap-short true [] = omega arith
gap-short true (c ∷ s) = omega (arith, gap-short (not (ends_line c)) s)
gap-short false [] = omega arith
gap-short false (c ∷ s) = by (blank c) (eqb c 45 && eqb (first s) 45) (gap-short false s) (gap-short true s)
  where
    by : (a b : Bool) → gap false s ≤ length s → gap true s ≤ length s → cond a (suc (gap false s)) (cond b (suc (gap true s)) 0) ≤ suc (length s)
    by true b h g = omega arith
    by false true h g = omega arith
    by false false h g = omega arith

abbrev behind_word : (List ℕ → ℕ → Answer (List Word)) → List ℕ → ℕ → Answer Read → Answer (List Word)
behind_word go r at m = m >>= λ w. go (drop w.long r) (at + w.long) >>= λ ws. good (record { token = w.token; place = at } ∷ ws)

behind-same : (go go' : List ℕ → ℕ → Answer (List Word)) (r : List ℕ) (at : ℕ) (m : Answer Read) → View r at m → ((k : ℕ) → 0 < k → k ≤ length r → go (drop k r) (at + k) ≡ go' (drop k r) (at + k)) → behind_word go r at m ≡ behind_word go' r at m
behind-same go go' r at (good w) (fine h g c d) same = ap (λ (a : Answer (List Word)). a >>= λ ws. good (record { token = w.token; place = at } ∷ ws)) (same w.long h g)
behind-same go go' r at (refused why) unknown same = refl
behind-same go go' r at (refused why) large same = refl

abbrev one_round : (List ℕ → ℕ → Answer (List Word)) → List ℕ → ℕ → Answer (List Word)
one_round go s at = cond (eqb (length (drop (gap false s) s)) 0) (good (record { token = sign ends; place = at + gap false s } ∷ [])) (behind_word go (drop (gap false s) s) (at + gap false s) (word_at (drop (gap false s) s) (at + gap false s)))

round_same : (go go' : List ℕ → ℕ → Answer (List Word)) (s : List ℕ) (at : ℕ) → ((k : ℕ) → 0 < k → k ≤ length (drop (gap false s) s) → go (drop k (drop (gap false s) s)) (at + gap false s + k) ≡ go' (drop k (drop (gap false s) s)) (at + gap false s + k)) → one_round go s at ≡ one_round go' s at
round_same go go' s at same = ap (λ (a : Answer (List Word)). cond (eqb (length (drop (gap false s) s)) 0) (good (record { token = sign ends; place = at + gap false s } ∷ [])) a) (behind-same go go' (drop (gap false s) s) (at + gap false s) _ (word-view (drop (gap false s) s) (at + gap false s)) same)

pub rounds_enough : (n m : ℕ) (s : List ℕ) (at : ℕ) → length s < n → length s < m → words_from n s at ≡ words_from m s at
rounds_enough zero m s at h g = absurd (omega arith)
rounds_enough (suc n) zero s at h g = absurd (omega arith)
rounds_enough (suc n) (suc m) s at h g = round_same (words_from n) (words_from m) s at (λ k p q. let r = drop (gap false s) s in rounds_enough n m (drop k r) _ (omega (arith, length-drop k r, length-drop (gap false s) s)) (omega (arith, length-drop k r, length-drop (gap false s) s)))

-- ---- the words from an offset on, by what stands next

-- a word, then the words behind it
abbrev pub word_joined : FoundWord → Answer (List Word) → Answer (List Word)
word_joined f m = m >>= λ ws. good (record { token = f.token; place = f.place } ∷ ws)

-- what is left of a list of words, once it is known if they are good
abbrev pub passes : Answer (List Word) → Answer (Unit {0})
passes (good ws) = good tt
passes (refused why) = refused why

pub passes-joined : (f : FoundWord) (m : Answer (List Word)) → passes (word_joined f m) ≡ passes m
passes-joined f (good ws) = refl
passes-joined f (refused why) = refl

-- a name that was found is spelled by the bytes between its place and its end, which are all letters and digits from its place on
abbrev NameAt : List ℕ → FoundWord → Type 0
NameAt text f = token_code f.token ≡ 24 → (f.token ≡ name (take (f.end - f.place) (drop f.place text))) × (f.end ≡ f.place + run (drop f.place text)) × (f.place < f.end)

-- what stands next: the end, a word, or a refusal
pub data Case (text : List ℕ) (at : ℕ) : Answer FoundWord → Type 0 where
  last : (n : ℕ) → n ≡ length text → lexed text at ≡ good (record { token = sign ends; place = n } ∷ []) → Case text at (good (record { token = sign ends; place = n; end = n }))
  word : (f : FoundWord) → at < f.end → f.end ≤ length text → ¬ (token_code f.token ≡ 0) → NameAt text f → lexed text at ≡ word_joined f (lexed text f.end) → Case text at (good f)
  bad31 : (n : ℕ) → lexed text at ≡ refuse 31 n → Case text at (refuse 31 n)
  bad34 : (n : ℕ) → lexed text at ≡ refuse 34 n → Case text at (refuse 34 n)

module _ (text : List ℕ) (at : ℕ) (inside : at ≤ length text) where
  start : ℕ
  start = at + gap false (drop at text)

  start-inside : start ≤ length text
  unfolding start
  start-inside = omega (arith, gap-short false (drop at text), length-drop at text)

  start-past : (k : ℕ) → 0 < k → at < start + k
  unfolding start
  start-past k h = omega arith

  long-is : (k : ℕ) → k ≡ start + k - start
  long-is k = omega arith

  abbrev go_on_lem : List ℕ → ℕ → Answer (List Word)
  go_on_lem = words_from (length text)

  lexed-is : lexed text at ≡ cond (eqb (length (drop start text)) 0) (good (record { token = sign ends; place = start } ∷ [])) (behind_word go_on_lem (drop start text) start (word_at (drop start text) start))
  unfolding lexed start
  lexed-is = ap (λ (r : List ℕ). cond (eqb (length r) 0) (good (record { token = sign ends; place = at + gap false (drop at text) } ∷ [])) (behind_word go_on_lem r (at + gap false (drop at text)) (word_at r (at + gap false (drop at text))))) (drop-drop (gap false (drop at text)) at text)

  go_on : (k : ℕ) → 0 < k → k ≤ length (drop start text) → go_on_lem (drop k (drop start text)) (start + k) ≡ lexed text (start + k)
  unfolding lexed
  go_on k h g = ap (λ (r : List ℕ). go_on_lem r (start + k)) (drop-drop k start text) ∙ rounds_enough (length text) (suc (length text)) (drop (start + k) text) (start + k) (omega (arith, length-drop (start + k) text, length-drop start text)) (omega (arith, length-drop (start + k) text, length-drop start text))

  case-word : (m : Answer Read) → View (drop start text) start m → lexed text at ≡ behind_word go_on_lem (drop start text) start m → Case text at (found_at start m)
  case-word (good w) (fine h g c d) e = word (record { token = w.token; place = start; end = start + w.long }) (start-past w.long h) (omega (arith, g, length-drop start text, start-inside)) c (λ z. ((d z).0 ∙ ap (λ (k : ℕ). name (take k (drop start text))) (long-is w.long), ap (λ (k : ℕ). start + k) (d z).1, omega arith)) (e ∙ ap (λ (a : Answer (List Word)). a >>= λ ws. good (record { token = w.token; place = start } ∷ ws)) (go_on w.long h g))
  case-word (refused why) unknown e = bad31 start e
  case-word (refused why) large e = bad34 start e

  next-case : Case text at (next_of text at)
  unfolding next_of start
  next-case = by (eqb (length (drop start text)) 0) refl lexed-is
    where
      by : (b : Bool) → eqb (length (drop start text)) 0 ≡ b → lexed text at ≡ cond b (good (record { token = sign ends; place = start } ∷ [])) (behind_word go_on_lem (drop start text) start (word_at (drop start text) start)) → Case text at (cond b (good (record { token = sign ends; place = start; end = start })) (found_at start (word_at (drop start text) start)))
      by true e l = last start (omega (arith, eqb-true (length (drop start text)) 0 e, length-drop start text, start-inside)) l
      by false e l = case-word (word_at (drop start text) start) (word-view (drop start text) start) l

-- ---- the words from where the next one begins are the same

gap-after : (b : Bool) (u : List ℕ) → gap false (drop (gap b u) u) ≡ 0
gap-after true [] = refl
gap-after true (c ∷ u) = gap-after (not (ends_line c)) u
gap-after false [] = refl
gap-after false (c ∷ u) = by (blank c) (eqb c 45 && eqb (first u) 45) refl refl (gap-after false u) (gap-after true u)
  where
    by : (a b : Bool) → blank c ≡ a → (eqb c 45 && eqb (first u) 45) ≡ b → gap false (drop (gap false u) u) ≡ 0 → gap false (drop (gap true u) u) ≡ 0 → gap false (drop (cond a (suc (gap false u)) (cond b (suc (gap true u)) 0)) (c ∷ u)) ≡ 0
    by true b e f p q = p
    by false true e f p q = q
    by false false e f p q = rw (e, f) refl

module _ (text : List ℕ) (at : ℕ) (inside : at ≤ length text) where
  start-again : start text (start text at inside) (start-inside text at inside) ≡ start text at inside
  unfolding start
  start-again =
      let n = gap false (drop at text) in
      let z : gap false (drop (at + n) text) ≡ 0 = ap (gap false) (sym (drop-drop n at text)) ∙ gap-after false (drop at text) in
      omega (arith, z)

  same-words : lexed text (start text at inside) ≡ lexed text at
  same-words = lexed-is text (start text at inside) (start-inside text at inside) ∙ ap (λ (n : ℕ). cond (eqb (length (drop n text)) 0) (good (record { token = sign ends; place = n } ∷ [])) (behind_word (words_from (length text)) (drop n text) n (word_at (drop n text) n))) start-again ∙ sym (lexed-is text at inside)

  start-same : (r : ℕ) → r ≡ at + gap false (drop at text) → Lexed text at → Lexed text r × (from text r ≡ from text at)
  unfolding from start
  start-same r is l =
      let same : lexed text r ≡ lexed text at = ap (lexed text) is ∙ same-words in
      (record { within = omega (arith, is, start-inside text at inside); words = same ∙ l.words ∙ ap good (sym (ap valued same)) }, ap valued same)

  -- a word, and a refusal too, has the place where the gap ends
  place-by : (m : Answer Read) → View (drop (start text at inside) text) (start text at inside) m → (told (found_at (start text at inside) m)).place ≡ start text at inside
  place-by (good w) (fine h g c d) = refl
  place-by (refused why) unknown = refl
  place-by (refused why) large = refl

  next_place : (told (next_of text at)).place ≡ start text at inside
  unfolding next_of start
  next_place = by (eqb (length (drop (start text at inside) text)) 0)
    where
      by : (b : Bool) → (told (cond b (good (record { token = sign ends; place = start text at inside; end = start text at inside })) (found_at (start text at inside) (word_at (drop (start text at inside) text) (start text at inside))))).place ≡ start text at inside
      by true = refl
      by false = place-by (word_at (drop (start text at inside) text) (start text at inside)) (word-view (drop (start text at inside) text) (start text at inside))

  starts-same : (w : Said) → w ≡ told (next_of text at) → Lexed text at → Lexed text w.place × (from text w.place ≡ from text at)
  unfolding start
  starts-same w e l = start-same w.place (ap (λ (v : Said). v.place) e ∙ next_place) l

-- ---- the word at an offset

from_is : (text : List ℕ) (at : ℕ) (ws : List Word) → lexed text at ≡ good ws → from text at ≡ ws
unfolding from
from_is text at ws e = ap valued e

module _ (text : List ℕ) (at : ℕ) (l : Lexed text at) where
  word_stands : (f : FoundWord) → at < f.end → f.end ≤ length text → ¬ (token_code f.token ≡ 0) → NameAt text f → from text f.place ≡ from text at → (m : Answer (List Word)) → lexed text f.end ≡ m → lexed text at ≡ word_joined f m → Stands text at (told (good f))
  word_stands f h g c d b (good ws) e j =
      let here = from_is text at _ j in
      let there = from_is text f.end ws e in
      record {
        code = sym (ap (λ (us : List Word). token_code (peek us).token) here);
        value = sym (ap (λ (us : List Word). token_value (peek us).token) here);
        place = sym (ap (λ (us : List Word). (peek us).place) here);
        onward = λ z. record {
          rest = ap behind here ∙ sym there;
          fewer = omega (arith, ap length here, ap length there);
          past = h;
          lexed = record { within = g; words = e ∙ ap good (sym there) };
        };
        last = λ z. absurd (c z);
        named = λ z. ap (λ (us : List Word). (peek us).token) here ∙ (d z).0;
        whole = λ z. (d z).1;
        long = λ z. (d z).2;
        begins = b;
      }
  word_stands f h g c d b (refused why) e j = absurd (refused≢good (sym j ∙ l.words))

  stands_by : (m : Answer FoundWord) → Case text at m → from text (told m).place ≡ from text at → Stands text at (told m)
  stands_by (good f) (last n h e) b =
      let here = from_is text at _ e in
      record {
        code = sym (ap (λ (us : List Word). token_code (peek us).token) here);
        value = sym (ap (λ (us : List Word). token_value (peek us).token) here);
        place = sym (ap (λ (us : List Word). (peek us).place) here);
        onward = λ z. absurd (z refl);
        last = λ z. ap behind here;
        named = λ z. absurd (omega arith);
        whole = λ z. absurd (omega arith);
        long = λ z. absurd (omega arith);
        begins = b;
      }
  stands_by (good f) (word f' h g c d e) b = word_stands f' h g c d b (lexed text f'.end) refl e
  stands_by (refused why) (bad31 n e) b = absurd (refused≢good (sym e ∙ l.words))
  stands_by (refused why) (bad34 n e) b = absurd (refused≢good (sym e ∙ l.words))

  pub stands : (w : Said) → w ≡ told (next_of text at) → Stands text at w
  stands w e = rw e (stands_by (next_of text at) (next-case text at l.within) (starts-same text at l.within (told (next_of text at)) refl l).1)

  -- where the gap ends the next word stands
  pub start-found : (r : ℕ) → r ≡ at + gap false (drop at text) → Lexed text r × (from text r ≡ from text at) × (r ≡ (peek (from text at)).place)
  unfolding start
  start-found r is =
      let same = start-same text at l.within r is l in
      (same.0, same.1, is ∙ sym (next_place text at l.within) ∙ (stands (told (next_of text at)) refl).place)

-- ---- where an opening parenthesis is the next word

-- a word of this code begins with this byte
abbrev Opens : List ℕ → Answer Read → Type 0
Opens r (good w) = token_code w.token ≡ 11 → first r ≡ 40
Opens r (refused why) = Unit {0}

open_reserved : (n : List ℕ) → ¬ (token_code (named n reserved) ≡ 11)
unfolding reserved
open_reserved n = reserved-off 11 (λ z. omega arith) n refl

open_number : (r : List ℕ) (at n k : ℕ) (a b : Bool) → Opens r (need a 31 at >>= λ _. need b 34 at >>= λ _. good (record { token = number n; long = k }))
open_number r at n k true true = λ z. absurd (omega arith)
open_number r at n k true false = tt
open_number r at n k false b = tt

-- rows of this code are spelled so
abbrev opened : List Spelled → Bool
opened [] = true
opened (r ∷ rs) = cond (eqb (token_code r.token) 11) (begins_with (40 ∷ []) r.spelling) true && opened rs

begins-first : (c : ℕ) (s u : List ℕ) → begins_with (c ∷ []) s ≡ true → begins_with s u ≡ true → first u ≡ c
begins-first c [] u e f = let z : ◌≡◌ {A = ℕ} 0 1 = cc in absurd (omega arith)
begins-first c (d ∷ s) [] e f = let z : ◌≡◌ {A = ℕ} 0 1 = cc in absurd (omega arith)
begins-first c (d ∷ s) (b ∷ u) e f = by (eqb c d) (eqb d b) refl refl e f
  where
    by : (x y : Bool) → eqb c d ≡ x → eqb d b ≡ y → (x && true) ≡ true → (y && begins_with s u) ≡ true → b ≡ c
    by true true g h e f = sym (eqb-true c d g ∙ eqb-true d b h)
    by true false g h e f = let z : ◌≡◌ {A = ℕ} 0 1 = cc in absurd (omega arith)
    by false y g h e f = let z : ◌≡◌ {A = ℕ} 0 1 = cc in absurd (omega arith)

opened-row : (r : Spelled) (rs : List Spelled) → opened (r ∷ rs) ≡ true → (token_code r.token ≡ 11 → begins_with (40 ∷ []) r.spelling ≡ true) × (opened rs ≡ true)
opened-row r rs e = by (eqb (token_code r.token) 11) (begins_with (40 ∷ []) r.spelling) refl e
  where
    by : (b x : Bool) → eqb (token_code r.token) 11 ≡ b → (cond b x true && opened rs) ≡ true → (token_code r.token ≡ 11 → x ≡ true) × (opened rs ≡ true)
    by true true h e = (λ z. refl, e)
    by true false h e = let z : ◌≡◌ {A = ℕ} 0 1 = cc in absurd (omega arith)
    by false x h e = (λ z. absurd (eqb-false (token_code r.token) 11 h z), e)

open_sign_by : (s : List ℕ) (r : Spelled) (b : Bool) (m : Answer Read) → begins_with r.spelling s ≡ b → (token_code r.token ≡ 11 → begins_with (40 ∷ []) r.spelling ≡ true) → Opens s m → Opens s (cond b (good (record { token = r.token; long = length r.spelling })) m)
open_sign_by s r true m e h o = λ z. begins-first 40 r.spelling s (h z) e
open_sign_by s r false m e h o = o

open_sign : (s : List ℕ) (at : ℕ) (rs : List Spelled) → opened rs ≡ true → Opens s (sign_at rs s at)
open_sign s at [] e = tt
open_sign s at (r ∷ rs) e = let o = opened-row r rs e in open_sign_by s r (begins_with r.spelling s) (sign_at rs s at) refl o.0 (open_sign s at rs o.1)

open_signs : (s : List ℕ) (at : ℕ) → Opens s (sign_at signs s at)
unfolding signs
open_signs s at = open_sign s at signs refl

word-opens : (r : List ℕ) (at : ℕ) → Opens r (word_at r at)
unfolding word_at
word-opens r at = by (digit (first r)) (letter (first r))
  where
    by : (d l : Bool) → Opens r (cond d (number_word (take (run r) r) at) (cond l (good (record { token = named (take (run r) r) reserved; long = length (take (run r) r) })) (sign_at signs r at)))
    by true l = open_number r at (value_from 0 (take (run r) r)) (length (take (run r) r)) (all_digits (take (run r) r)) (leb (value_from 0 (take (run r) r)) 255)
    by false true = λ z. absurd (open_reserved (take (run r) r) z)
    by false false = open_signs r at

module _ (text : List ℕ) (at : ℕ) (inside : at ≤ length text) where
  abbrev OpensAt : List Word → Type 0
  OpensAt ws = token_code (peek ws).token ≡ 11 → first (drop (peek ws).place text) ≡ 40

  open-joined : (w : Read) (from' : ℕ) → (token_code w.token ≡ 11 → first (drop from' text) ≡ 40) → (m : Answer (List Word)) → OpensAt (valued (m >>= λ ws. good (record { token = w.token; place = from' } ∷ ws)))
  open-joined w from' h (good ws) = h
  open-joined w from' h (refused why) = λ z. absurd (omega arith)

  open-behind : (m : Answer Read) → Opens (drop (start text at inside) text) m → OpensAt (valued (behind_word (go_on_lem text at inside) (drop (start text at inside) text) (start text at inside) m))
  open-behind (good w) h = open-joined w (start text at inside) h (go_on_lem text at inside (drop w.long (drop (start text at inside) text)) (start text at inside + w.long))
  open-behind (refused why) h = λ z. absurd (omega arith)

  open-first : OpensAt (from text at)
  unfolding from
  open-first = subst (λ (m : Answer (List Word)). OpensAt (valued m)) (sym (lexed-is text at inside)) (by (eqb (length (drop (start text at inside) text)) 0))
    where
      by : (b : Bool) → OpensAt (valued (cond b (good (record { token = sign ends; place = start text at inside } ∷ [])) (behind_word (go_on_lem text at inside) (drop (start text at inside) text) (start text at inside) (word_at (drop (start text at inside) text) (start text at inside)))))
      by true = λ z. absurd (omega arith)
      by false = open-behind (word_at (drop (start text at inside) text) (start text at inside)) (word-opens (drop (start text at inside) text) (start text at inside))

  -- where the first word from an offset on is an opening parenthesis, its byte stands at its place
  pub round_byte : token_code (peek (from text at)).token ≡ 11 → get_or text (peek (from text at)).place 0 ≡ 40
  round_byte z = at_front text (peek (from text at)).place ∙ open-first z

-- ---- the pass over all words

-- all words are good if those from an offset on are, and a refusal of those is the text's
pub record Pending (text : List ℕ) (at : ℕ) : Type 0 where
  pub within : at ≤ length text
  pub same : passes (lexed text 0) ≡ passes (lexed text at)

pub pending_first : (text : List ℕ) → Pending text 0
pending_first text = record { within = omega arith; same = refl }

sign_small : (t : Sign) → sign_code t ≤ 25
sign_small ends = omega arith
sign_small fun = omega arith
sign_small fix = omega arith
sign_small lets = omega arith
sign_small within = omega arith
sign_small type = omega arith
sign_small edition = omega arith
sign_small table = omega arith
sign_small arrow = omega arith
sign_small linear = omega arith
sign_small times = omega arith
sign_small round = omega arith
sign_small endRound = omega arith
sign_small equals = omega arith
sign_small comma = omega arith
sign_small colon = omega arith
sign_small dot = omega arith
sign_small square = omega arith
sign_small endSquare = omega arith
sign_small curly = omega arith
sign_small endCurly = omega arith
sign_small plus = omega arith
sign_small power = omega arith

code_small : (t : Token) → token_code t ≤ 25
code_small (sign t) = sign_small t
code_small (part p) = omega arith
code_small (number n) = omega arith
code_small (name n) = omega arith

lexed-past : (text : List ℕ) (at : ℕ) → length text ≤ at → passes (lexed text at) ≡ good tt
unfolding lexed
lexed-past text at h = ap (λ (s : List ℕ). passes (words_from (suc (length text)) s at)) (drop_past text at h)

-- one step of the pass
pub record Went (text : List ℕ) (at : ℕ) (w : Said) : Type 0 where
  pub bad : 25 < w.code → lexed text at ≡ refuse w.code w.place
  pub named : 25 < w.code → reason_number (reason_of w.code) ≡ w.code
  pub past : w.code ≤ 25 → at < w.end
  pub on : w.code ≤ 25 → Pending text w.end

module _ (text : List ℕ) (at : ℕ) (p : Pending text at) (more : at < length text) where
  went-by : (m : Answer FoundWord) → Case text at m → Went text at (told m)
  went-by (good f) (last n h e) = record {
    bad = λ z. absurd (omega arith);
    named = λ z. absurd (omega arith);
    past = λ z. omega arith;
    on = λ z. record { within = omega arith; same = p.same ∙ ap passes e ∙ sym (lexed-past text n (omega arith)) };
  }
  went-by (good f) (word f' h g c d e) = record {
    bad = λ z. absurd (omega (arith, code_small f'.token));
    named = λ z. absurd (omega (arith, code_small f'.token));
    past = λ z. h;
    on = λ z. record { within = g; same = p.same ∙ ap passes e ∙ passes-joined f' (lexed text f'.end) };
  }
  went-by (refused why) (bad31 n e) = record { bad = λ z. e; named = λ z. refl; past = λ z. absurd (omega arith); on = λ z. absurd (omega arith) }
  went-by (refused why) (bad34 n e) = record { bad = λ z. e; named = λ z. refl; past = λ z. absurd (omega arith); on = λ z. absurd (omega arith) }

  pub went : (w : Said) → w ≡ told (next_of text at) → Went text at w
  went w e = rw e (went-by (next_of text at) (next-case text at p.within))

refused_as : (m : Answer (List Word)) (why : Refusal) → passes m ≡ refused why → m ≡ refused why
refused_as (good ws) why e = absurd (refused≢good (sym e))
refused_as (refused why') why e = ap refused (refused-inj e)

good_as : (m : Answer (List Word)) → passes m ≡ good tt → m ≡ good (valued m)
good_as (good ws) e = refl
good_as (refused why) e = absurd (refused≢good e)

pub passed_bad : (text : List ℕ) (at : ℕ) → Pending text at → (n place : ℕ) → reason_number (reason_of n) ≡ n → lexed text at ≡ refuse n place → Passed text (Err (refusal_at (reason_of n) place))
unfolding words lexed
passed_bad text at p n place h e = refused_as (words_from (suc (length text)) text 0) (numbered n place) (p.same ∙ ap passes e) ∙ ap (λ (k : ℕ). refuse k place) (sym h)

pub passed_good : (text : List ℕ) (at : ℕ) → Pending text at → length text ≤ at → Passed text (Ok tt)
unfolding from
passed_good text at p h = record { within = omega arith; words = good_as (lexed text 0) (p.same ∙ lexed-past text at h) }

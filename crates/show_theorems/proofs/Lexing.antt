-- The words of a shown sheet are read from its text. Assumes nothing.
use Prim.Native.Nat.{ℕ, zero, suc, ◌+◌, ◌≤◌, ◌<◌}
use mathlib.Core.Path.{◌≡◌, refl, sym, ap, subst, ◌∙◌}
use mathlib.Core.Bool.{Bool, true, false, ◌&&◌, ◌||◌, cond}
use mathlib.Core.List.{List, [], ◌∷◌, ◌++◌}
use native.Mathlib.Omega.{arith}
use lib.Dec.{T, eqb, leb, eqb→eq, le→leb, eqb-suc-zero}
use lib.ListN.{length, get_or, take, drop, length-append}
use Rattle.calculus.specs.Answer.{Answer, good, ◌>>=◌}
use Rattle.calculus.specs.Listing.{decimal, names}
use Rattle.laws.proofs.Tests.{T-is, is_false}
use Rattle.notation_calculus.specs.Words.{Name, ascii, Token, sign, part, number, Word, ends, Read, blank, in_name, gap, run, named, reserved, signs, word_at, words_from, words}
use Rattle.notation_calculus.specs.Words as Words
use Rattle.show_theorems.specs.Shown.{shown_type, shown_binder, type_word, binder_word, Spoken, last, more}
use Rattle.show_theorems.proofs.Figures.{Figures, decimal_are, OneOrMore, some, decimal-some}

-- ---- words of a text

pub record LexedAs (rounds : ℕ) (s : List ℕ) (at : ℕ) (ts : List Token) : Type 0 where
  pub ws : List Word
  pub is : words_from rounds s at ≡ good ws
  pub said : Spoken ts ws

-- the text has these words, wherever it stands
abbrev pub Lexes : List ℕ → List Token → Type 0
Lexes s ts = (rounds at : ℕ) → length s < rounds → LexedAs rounds s at ts

-- the words from an offset where no gap is
abbrev here : ℕ → List ℕ → ℕ → Answer (List Word)
here rounds r at = cond (eqb (length r) 0) (good (record { token = sign ends; place = at } ∷ [])) (do
  w ← word_at r at
  ws ← words_from rounds (drop w.long r) (at + w.long)
  good (record { token = w.token; place = at } ∷ ws))

pub lex_end : Lexes [] []
lex_end zero at h = absurd (omega arith)
lex_end (suc rounds) at h = record { ws = _; is = refl; said = last }

pub lex_blank : (c : ℕ) (s : List ℕ) (ts : List Token) → blank c ≡ true → Lexes s ts → Lexes (c ∷ s) ts
lex_blank c s ts b f zero at h = absurd (omega arith)
lex_blank c s ts b f (suc rounds) at h =
    let g = f (suc rounds) (suc at) (omega arith) in
    let e : at + suc (gap false s) ≡ suc at + gap false s = omega arith in
    record { ws = g.ws; is = rw b (ap (λ (p : ℕ). here rounds (drop (gap false s) s) p) e ∙ g.is); said = g.said }

-- a word at the beginning
pub lex_word :
    (c : ℕ) (s rest : List ℕ) (t : Token) (n : ℕ) (ts : List Token) → gap false (c ∷ s) ≡ 0 → ((at : ℕ) → word_at (c ∷ s) at ≡ good (record { token = t; long = n }))
    → drop n (c ∷ s) ≡ rest → length rest ≤ length s → Lexes rest ts → Lexes (c ∷ s) (t ∷ ts)
lex_word c s rest t n ts g w d l f zero at h = absurd (omega arith)
lex_word c s rest t n ts g w d l f (suc rounds) at h =
    let p : ℕ = at + 0 in
    let k = f rounds (p + n) (omega arith) in
    let one : words_from (suc rounds) (c ∷ s) at ≡ here rounds (c ∷ s) p = ap (λ (m : ℕ). here rounds (drop m (c ∷ s)) (at + m)) g in
    let two : here rounds (c ∷ s) p ≡ (words_from rounds (drop n (c ∷ s)) (p + n) >>= λ ws. good (record { token = t; place = p } ∷ ws)) = rw (eqb-suc-zero (length s)) (ap (λ (r : Answer Read). r >>= λ v. words_from rounds (drop v.long (c ∷ s)) (p + v.long) >>= λ ws. good (record { token = v.token; place = p } ∷ ws)) (w p)) in
    let three : (words_from rounds (drop n (c ∷ s)) (p + n) >>= λ ws. good (record { token = t; place = p } ∷ ws)) ≡ good (record { token = t; place = p } ∷ k.ws) = ap (λ (r : List ℕ). words_from rounds r (p + n) >>= λ ws. good (record { token = t; place = p } ∷ ws)) d ∙ ap (λ (q : Answer (List Word)). q >>= λ ws. good (record { token = t; place = p } ∷ ws)) k.is in
    record { ws = record { token = t; place = p } ∷ k.ws; is = one ∙ two ∙ three; said = more k.said }

-- ---- names

-- what stands behind a name is no part of it
abbrev pub Stops : List ℕ → Type 0
Stops [] = Unit {0}
Stops (c ∷ s) = in_name c ≡ false

figure_in : (c : ℕ) → 48 ≤ c → c ≤ 57 → in_name c ≡ true
figure_in c h k = or-digit (Words.letter c) (Words.digit c) (eqb c 39) (T-is (Words.digit c) (and_in (leb 48 c) (leb c 57) (leb-in 48 c h) (leb-in c 57 k)))
  where
    leb-in : (a b : ℕ) → a ≤ b → T (leb a b)
    leb-in a b l = le→leb a b l

    and_in : (a b : Bool) → T a → T b → T (a && b)
    and_in true b x y = y
    and_in false b x y = absurd x

    or-digit : (a b d : Bool) → b ≡ true → (a || b || d) ≡ true
    or-digit true b d e = refl
    or-digit false true d e = refl
    or-digit false false d e = absurd (subst (λ (x : Bool). T x) (sym e) tt)

-- bytes that go on a name
abbrev InNames : List ℕ → Type 0
InNames [] = Unit {0}
InNames (c ∷ s) = (in_name c ≡ true) × InNames s

figures_in : (s : List ℕ) → Figures s → InNames s
figures_in [] f = tt
figures_in (c ∷ s) (a, b, f) = (figure_in c a b, figures_in s f)

run-names : (s rest : List ℕ) → InNames s → Stops rest → run (s ++ rest) ≡ length s
run-names [] [] f h = refl
run-names [] (c ∷ rest) f h = rw h refl
run-names (c ∷ s) rest (a, f) h = rw a (ap suc (run-names s rest f h))

take-front : (s rest : List ℕ) → take (length s) (s ++ rest) ≡ s
take-front [] rest = refl
take-front (c ∷ s) rest = ap (λ (l : List ℕ). c ∷ l) (take-front s rest)

drop-front : (s rest : List ℕ) → drop (length s) (s ++ rest) ≡ rest
drop-front [] rest = refl
drop-front (c ∷ s) rest = drop-front s rest

-- a figure is no letter
no_letter : (c d : ℕ) → c ≤ 57 → 57 < d → eqb c d ≡ false
no_letter c d h k = is_false (eqb c d) λ t. let e = eqb→eq c d t in absurd (omega arith)

type_named : (d : List ℕ) → Figures d → OneOrMore d → named (116 ∷ d) reserved ≡ Words.name (116 ∷ d)
unfolding reserved
type_named [] _ h = elim h [ ]
type_named (c ∷ d) (a, b, f) some = rw (no_letter c 121 b (omega arith), no_letter c 97 b (omega arith)) refl

binder-named : (d : List ℕ) → Figures d → OneOrMore d → named (120 ∷ d) reserved ≡ Words.name (120 ∷ d)
unfolding reserved
binder-named [] _ h = elim h [ ]
binder-named (c ∷ d) (a, b, f) some = rw (no_letter c 111 b (omega arith)) refl

second_of_lem : {A : Type 0} (x y : Bool) (a b c : A) → x ≡ false → y ≡ true → cond x a (cond y b c) ≡ b
second_of_lem true y a b c e f = absurd (subst (λ (z : Bool). T z) e tt)
second_of_lem false true a b c e f = refl
second_of_lem false false a b c e f = absurd (subst (λ (z : Bool). T z) (sym f) tt)

-- a letter and what goes on a name are one word
name-word :
    (c : ℕ) (d rest : List ℕ) (t : Token) (at : ℕ) → Words.digit c ≡ false → Words.letter c ≡ true → InNames d → Stops rest → named (c ∷ d) reserved ≡ t
    → word_at (c ∷ (d ++ rest)) at ≡ good (record { token = t; long = suc (length d) })
unfolding word_at
name-word c d rest t at g l f h e =
    let i : in_name c ≡ true = ap (λ (b : Bool). b || Words.digit c || eqb c 39) l in
    let r : run (c ∷ (d ++ rest)) ≡ suc (length d) = rw i (ap suc (run-names d rest f h)) in
    let k : take (run (c ∷ (d ++ rest))) (c ∷ (d ++ rest)) ≡ c ∷ d = ap (λ (n : ℕ). take n (c ∷ (d ++ rest))) r ∙ ap (λ (x : List ℕ). c ∷ x) (take-front d rest) in
    second_of_lem (Words.digit c) (Words.letter c) _ _ _ g l ∙ (ap (λ (x : Name). good (record { token = named x reserved; long = length x })) k ∙ ap (λ (x : Token). good (record { token = x; long = suc (length d) })) e)

-- .. whatever stands behind it
lex_name : (c : ℕ) (d rest : List ℕ) (t : Token) (ts : List Token) → gap false (c ∷ (d ++ rest)) ≡ 0 → Words.digit c ≡ false → Words.letter c ≡ true → InNames d → named (c ∷ d) reserved ≡ t → Stops rest → Lexes rest ts → Lexes (c ∷ (d ++ rest)) (t ∷ ts)
lex_name c d rest t ts z g l i e h f = lex_word c (d ++ rest) rest t (suc (length d)) ts z (λ at. name-word c d rest t at g l i h e) (drop-front d rest) (omega (arith, length-append d rest)) f

pub lex_type : (t : ℕ) (rest : List ℕ) (ts : List Token) → Stops rest → Lexes rest ts → Lexes (shown_type t ++ rest) (type_word t ∷ ts)
lex_type t rest ts h f = lex_name 116 (decimal t) rest (type_word t) ts refl refl refl (figures_in (decimal t) (decimal_are t)) (type_named (decimal t) (decimal_are t) (decimal-some t)) h f

pub lex_binder : (k : ℕ) (rest : List ℕ) (ts : List Token) → Stops rest → Lexes rest ts → Lexes (shown_binder k ++ rest) (binder_word k ∷ ts)
lex_binder k rest ts h f = lex_name 120 (decimal k) rest (binder_word k) ts refl refl refl (figures_in (decimal k) (decimal_are k)) (binder-named (decimal k) (decimal_are k) (decimal-some k)) h f

-- ---- signs, numbers and reserved words, each with the blanks around it

abbrev Adds : List ℕ → List Token → Type 0
Adds s ts = (rest : List ℕ) (us : List Token) → Lexes rest us → Lexes (s ++ rest) (ts ++ us)

blank_then : (s : List ℕ) (ts : List Token) → Lexes s ts → Lexes (32 ∷ s) ts
blank_then s ts f = lex_blank 32 s ts refl f

line_then : (s : List ℕ) (ts : List Token) → Lexes s ts → Lexes (10 ∷ s) ts
line_then s ts f = lex_blank 10 s ts refl f

sign_then : (c : ℕ) (rest : List ℕ) (t : Token) (ts : List Token) → gap false (c ∷ rest) ≡ 0 → ((at : ℕ) → word_at (c ∷ rest) at ≡ good (record { token = t; long = 1 })) → Lexes rest ts → Lexes (c ∷ rest) (t ∷ ts)
sign_then c rest t ts g w f = lex_word c rest rest t 1 ts g w refl (omega arith) f

pub lex_round : Adds (ascii "(") (sign Words.round ∷ [])
unfolding word_at signs
lex_round rest us f = sign_then 40 rest (sign Words.round) us refl (λ at. refl) f

pub lex_end_round : Adds (ascii ")") (sign Words.endRound ∷ [])
unfolding word_at signs
lex_end_round rest us f = sign_then 41 rest (sign Words.endRound) us refl (λ at. refl) f

pub lex_comma : Adds (ascii ", ") (sign Words.comma ∷ [])
unfolding word_at signs
lex_comma rest us f = sign_then 44 (32 ∷ rest) (sign Words.comma) us refl (λ at. refl) (blank_then rest us f)

pub lex_colon : Adds (ascii " : ") (sign Words.colon ∷ [])
unfolding word_at signs
lex_colon rest us f = blank_then _ _ (sign_then 58 (32 ∷ rest) (sign Words.colon) us refl (λ at. refl) (blank_then rest us f))

pub lex_dot : Adds (ascii ". ") (sign Words.dot ∷ [])
unfolding word_at signs
lex_dot rest us f = sign_then 46 (32 ∷ rest) (sign Words.dot) us refl (λ at. refl) (blank_then rest us f)

pub lex_equals : Adds (ascii " = ") (sign Words.equals ∷ [])
unfolding word_at signs
lex_equals rest us f = blank_then _ _ (sign_then 61 (32 ∷ rest) (sign Words.equals) us refl (λ at. refl) (blank_then rest us f))

pub lex_times : Adds (ascii " * ") (sign Words.times ∷ [])
unfolding word_at signs
lex_times rest us f = blank_then _ _ (sign_then 42 (32 ∷ rest) (sign Words.times) us refl (λ at. refl) (blank_then rest us f))

pub lex_arrow : Adds (ascii " -> ") (sign Words.arrow ∷ [])
unfolding word_at signs
lex_arrow rest us f = blank_then _ _ (lex_word 45 (62 ∷ 32 ∷ rest) (32 ∷ rest) (sign Words.arrow) 2 us refl (λ at. refl) refl (omega arith) (blank_then rest us f))

pub lex_linear : Adds (ascii " -o ") (sign Words.linear ∷ [])
unfolding word_at signs
lex_linear rest us f = blank_then _ _ (lex_word 45 (111 ∷ 32 ∷ rest) (32 ∷ rest) (sign Words.linear) 2 us refl (λ at. refl) refl (omega arith) (blank_then rest us f))

pub lex_fun : Adds (ascii "fun ") (sign Words.fun ∷ [])
unfolding word_at reserved
lex_fun rest us f = lex_word 102 (117 ∷ 110 ∷ 32 ∷ rest) (32 ∷ rest) (sign Words.fun) 3 us refl (λ at. refl) refl (omega arith) (blank_then rest us f)

pub lex_fix : Adds (ascii "fix ") (sign Words.fix ∷ [])
unfolding word_at reserved
lex_fix rest us f = lex_word 102 (105 ∷ 120 ∷ 32 ∷ rest) (32 ∷ rest) (sign Words.fix) 3 us refl (λ at. refl) refl (omega arith) (blank_then rest us f)

pub lex_let : Adds (ascii "let ") (sign Words.lets ∷ [])
unfolding word_at reserved
lex_let rest us f = lex_word 108 (101 ∷ 116 ∷ 32 ∷ rest) (32 ∷ rest) (sign Words.lets) 3 us refl (λ at. refl) refl (omega arith) (blank_then rest us f)

pub lex_in : Adds (ascii " in ") (sign Words.within ∷ [])
unfolding word_at reserved
lex_in rest us f = blank_then _ _ (lex_word 105 (110 ∷ 32 ∷ rest) (32 ∷ rest) (sign Words.within) 2 us refl (λ at. refl) refl (omega arith) (blank_then rest us f))

pub lex_type-word : Adds (ascii "type ") (sign Words.type ∷ [])
unfolding word_at reserved
lex_type-word rest us f = lex_word 116 (121 ∷ 112 ∷ 101 ∷ 32 ∷ rest) (32 ∷ rest) (sign Words.type) 4 us refl (λ at. refl) refl (omega arith) (blank_then rest us f)

pub lex_table-word : Adds (ascii "table ") (sign Words.table ∷ [])
unfolding word_at reserved
lex_table-word rest us f = lex_word 116 (97 ∷ 98 ∷ 108 ∷ 101 ∷ 32 ∷ rest) (32 ∷ rest) (sign Words.table) 5 us refl (λ at. refl) refl (omega arith) (blank_then rest us f)

-- the single bit at a line's end
pub lex_one : Adds (ascii "1\n") (number 1 ∷ [])
unfolding word_at
lex_one rest us f = lex_word 49 (10 ∷ rest) (10 ∷ rest) (number 1) 1 us refl (λ at. refl) refl (omega arith) (line_then rest us f)

pub lex_edition : Adds (ascii "edition 2\n") (sign Words.edition ∷ number 2 ∷ [])
unfolding word_at reserved
lex_edition rest us f = lex_word 101 (100 ∷ 105 ∷ 116 ∷ 105 ∷ 111 ∷ 110 ∷ 32 ∷ 50 ∷ 10 ∷ rest) (32 ∷ 50 ∷ 10 ∷ rest) (sign Words.edition) 7 (number 2 ∷ us) refl (λ at. refl) refl (omega arith) (blank_then _ _ (lex_word 50 (10 ∷ rest) (10 ∷ rest) (number 2) 1 us refl (λ at. refl) refl (omega arith) (line_then rest us f)))

pub lex_main : Adds (ascii "\nmain = ") (Words.name (ascii "main") ∷ sign Words.equals ∷ [])
unfolding word_at reserved signs
lex_main rest us f = line_then _ _ (lex_word 109 (97 ∷ 105 ∷ 110 ∷ 32 ∷ 61 ∷ 32 ∷ rest) (32 ∷ 61 ∷ 32 ∷ rest) (Words.name (ascii "main")) 4 (sign Words.equals ∷ us) refl (λ at. refl) refl (omega arith) (blank_then _ _ (sign_then 61 (32 ∷ rest) (sign Words.equals) us refl (λ at. refl) (blank_then rest us f))))

pub lex_let_round : Adds (ascii "let (") (sign Words.lets ∷ sign Words.round ∷ [])
lex_let_round rest us f = lex_let (40 ∷ rest) (sign Words.round ∷ us) (lex_round rest us f)

pub lex_round_equals : Adds (ascii ") = ") (sign Words.endRound ∷ sign Words.equals ∷ [])
lex_round_equals rest us f = lex_end_round (32 ∷ 61 ∷ 32 ∷ rest) (sign Words.equals ∷ us) (lex_equals rest us f)

-- ---- parts

pub lex_part : (p : ℕ) (rest : List ℕ) (ts : List Token) → p < 7 → Stops rest → Lexes rest ts → Lexes (get_or names p [] ++ rest) (part p ∷ ts)
unfolding reserved
lex_part zero rest ts l h f = lex_name 122 (ascii "ero") rest (part 0) ts refl refl refl (refl, (refl, (refl, tt))) refl h f
lex_part (suc zero) rest ts l h f = lex_name 114 (ascii "eg") rest (part 1) ts refl refl refl (refl, (refl, tt)) refl h f
lex_part (suc (suc zero)) rest ts l h f = lex_name 97 (ascii "nd") rest (part 2) ts refl refl refl (refl, (refl, tt)) refl h f
lex_part (suc (suc (suc zero))) rest ts l h f = lex_name 111 (ascii "r") rest (part 3) ts refl refl refl (refl, tt) refl h f
lex_part (suc (suc (suc (suc zero)))) rest ts l h f = lex_name 120 (ascii "or") rest (part 4) ts refl refl refl (refl, (refl, tt)) refl h f
lex_part (suc (suc (suc (suc (suc zero))))) rest ts l h f = lex_name 105 (ascii "nv") rest (part 5) ts refl refl refl (refl, (refl, tt)) refl h f
lex_part (suc (suc (suc (suc (suc (suc zero)))))) rest ts l h f = lex_name 111 (ascii "ne") rest (part 6) ts refl refl refl (refl, (refl, tt)) refl h f
lex_part (suc (suc (suc (suc (suc (suc (suc p))))))) rest ts l h f = absurd (omega arith)

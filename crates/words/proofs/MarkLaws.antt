-- A word whose first byte tells that it is none of the signs that are asked for. Assumes nothing.
use Prim.Native.Nat.{ℕ, ◌+◌, ◌≤◌, ◌<◌}
use mathlib.Core.Path.{◌≡◌, refl, sym, ap, subst, ◌∙◌}
use mathlib.Core.Logic.{◌⊎◌, inl, inr}
use mathlib.Core.Bool.{Bool, true, false, ◌||◌}
use mathlib.Core.List.{List}
use native.Mathlib.Omega.{arith}
use native.Mathlib.Decide.{ℕ_discrete, dec_lt}
use lib.Dec.{leb}
use lib.ListN.{length, get_or, drop}
use Rattle.calculus.specs.Answer.{good, ◌>>=◌, need}
use Rattle.notation_calculus.specs.Words.{number, digit, letter, gap, all_digits, value_from, named, reserved, word_at, signs}
use Rattle.words.specs.Tables.{token_code, row_of}
use Rattle.words.specs.Classes.{ClassIs, signed, lettered}
use Rattle.words.specs.Next.{found_at, run_at, next_of, Said, told}
use Rattle.words.specs.Lexed.{Lexed}
use Rattle.words.specs.Marks.{Untold, NoMark, Unread, Marks}
use borrow.Author.Tests.{ne_eqb}
use Rattle.words.proofs.ByteLaws.{late_blank, letter-high, above}
use Rattle.words.proofs.ClassLaws.{class_digit, class_sign, class_number, class_name}
use Rattle.words.proofs.LexLaws.{next_word, word_number, word-name, word-single, stands, reserved-off}

number-none : (at n k : ℕ) (a b : Bool) → NoMark (told (found_at at (need a 31 at >>= λ _. need b 34 at >>= λ _. good (record { token = number n; long = k })))).code
number-none at n k true true = (λ z. omega arith, λ z. omega arith, λ z. omega arith, λ z. omega arith, λ z. omega arith, λ z. omega arith, λ z. omega arith, λ z. omega arith)
number-none at n k true false = (λ z. omega arith, λ z. omega arith, λ z. omega arith, λ z. omega arith, λ z. omega arith, λ z. omega arith, λ z. omega arith, λ z. omega arith)
number-none at n k false b = (λ z. omega arith, λ z. omega arith, λ z. omega arith, λ z. omega arith, λ z. omega arith, λ z. omega arith, λ z. omega arith, λ z. omega arith)

named_none : (n : List ℕ) → NoMark (token_code (named n reserved))
unfolding reserved
named_none n = (reserved-off 8 (λ z. omega arith) n refl, reserved-off 9 (λ z. omega arith) n refl, reserved-off 10 (λ z. omega arith) n refl, reserved-off 13 (λ z. omega arith) n refl, reserved-off 17 (λ z. omega arith) n refl, reserved-off 19 (λ z. omega arith) n refl, reserved-off 21 (λ z. omega arith) n refl, reserved-off 25 (λ z. omega arith) n refl)

-- ---- bytes that begin such a word

silent_class : (c k : ℕ) → ClassIs c k → 63 < k → Unread c
silent_class c k is h = record { class = k; is = is; word = omega arith; silent = (λ z. omega arith, λ z. omega arith, λ z. omega arith, λ z. omega arith, λ z. omega arith, λ z. omega arith, λ z. omega arith, λ z. omega arith) }

letter_unread : (c : ℕ) → letter c ≡ true → Unread c
letter_unread c e =
    let h = letter-high c e in
    silent_class c 66 (lettered (late_blank c (omega arith), ne_eqb c 45 (λ q. absurd (omega arith))) (above 48 57 c (omega arith)) e) (omega arith)

pub either_unread : (c : ℕ) (a b : Bool) → letter c ≡ a → digit c ≡ b → (a || b) ≡ true → Unread c
either_unread c true b e f g = letter_unread c e
either_unread c false b e f g = silent_class c 64 (class_digit c (f ∙ g)) (omega arith)

sign_unread : (c d k : ℕ) → c ≡ d → ClassIs d k → 1 < k → NoMark k → Unread c
sign_unread c d k e is h n = record { class = k; is = subst (λ (x : ℕ). ClassIs x k) (sym e) is; word = h; silent = n }

-- ( )
pub round_unread : (c : ℕ) → 40 ≤ c → c < 42 → Unread c
unfolding row_of signs
round_unread c a b = elim (ℕ_discrete c 40) [
  | yes e ↦ sign_unread c 40 11 e (signed (omega arith) (omega arith) (refl, refl) refl refl (λ s. refl)) (omega arith) (λ z. omega arith, λ z. omega arith, λ z. omega arith, λ z. omega arith, λ z. omega arith, λ z. omega arith, λ z. omega arith, λ z. omega arith)
  | no d ↦ sign_unread c 41 12 (omega arith) (signed (omega arith) (omega arith) (refl, refl) refl refl (λ s. refl)) (omega arith) (λ z. omega arith, λ z. omega arith, λ z. omega arith, λ z. omega arith, λ z. omega arith, λ z. omega arith, λ z. omega arith, λ z. omega arith)
]

-- , . : ] }
pub signs_unread : (c : ℕ) → (c ≡ 44) ⊎ ((c ≡ 46) ⊎ ((c ≡ 58) ⊎ ((c ≡ 93) ⊎ (c ≡ 125)))) → Unread c
unfolding row_of signs
signs_unread c (inl e) = sign_unread c 44 14 e (signed (omega arith) (omega arith) (refl, refl) refl refl (λ s. refl)) (omega arith) (λ z. omega arith, λ z. omega arith, λ z. omega arith, λ z. omega arith, λ z. omega arith, λ z. omega arith, λ z. omega arith, λ z. omega arith)
signs_unread c (inr (inl e)) = sign_unread c 46 16 e (signed (omega arith) (omega arith) (refl, refl) refl refl (λ s. refl)) (omega arith) (λ z. omega arith, λ z. omega arith, λ z. omega arith, λ z. omega arith, λ z. omega arith, λ z. omega arith, λ z. omega arith, λ z. omega arith)
signs_unread c (inr (inr (inl e))) = sign_unread c 58 15 e (signed (omega arith) (omega arith) (refl, refl) refl refl (λ s. refl)) (omega arith) (λ z. omega arith, λ z. omega arith, λ z. omega arith, λ z. omega arith, λ z. omega arith, λ z. omega arith, λ z. omega arith, λ z. omega arith)
signs_unread c (inr (inr (inr (inl e)))) = sign_unread c 93 18 e (signed (omega arith) (omega arith) (refl, refl) refl refl (λ s. refl)) (omega arith) (λ z. omega arith, λ z. omega arith, λ z. omega arith, λ z. omega arith, λ z. omega arith, λ z. omega arith, λ z. omega arith, λ z. omega arith)
signs_unread c (inr (inr (inr (inr e)))) = sign_unread c 125 20 e (signed (omega arith) (omega arith) (refl, refl) refl refl (λ s. refl)) (omega arith) (λ z. omega arith, λ z. omega arith, λ z. omega arith, λ z. omega arith, λ z. omega arith, λ z. omega arith, λ z. omega arith, λ z. omega arith)

-- ---- the word

module _ (text : List ℕ) (start : ℕ) (h : start < length text) (u : Unread (get_or text start 0)) where
  sign_none : u.class < 64 → NoMark (told (found_at start (word_at (drop start text) start))).code
  sign_none low =
      let s = class_sign _ u.class u.is u.word low in
      rw (sym (ap (λ (w : Said). w.code) (word-single text start s.0 u.class h s.1 s.2))) u.silent

  word_none : NoMark (told (found_at start (word_at (drop start text) start))).code
  word_none = elim (ℕ_discrete u.class 64) [
    | yes e ↦ rw (sym (word_number text start (class_number _ u.class u.is e))) (number-none start (value_from 0 (run_at text start)) (length (run_at text start)) (all_digits (run_at text start)) (leb (value_from 0 (run_at text start)) 255))
    | no d ↦ elim (dec_lt u.class 64) [
      | yes low ↦ sign_none low
      | no high ↦ let t = class_name _ u.class u.is (omega arith) in rw (sym (word-name text start t.0 t.1)) (named_none (run_at text start))
    ]
  ]

module _ (text : List ℕ) (at : ℕ) (l : Lexed text at) where
  -- the word itself
  pub marks-word : (w : Said) → w ≡ told (next_of text at) → Marks text at w
  marks-word w e = record { stands = λ _. stands text at l w e; arrow = untold 8; linear = untold 9; times = untold 10; equals = untold 13; square = untold 17; curly = untold 19; plus = untold 21; power = untold 25 }
    where
      untold : (k : ℕ) → Untold text at w k
      untold k n z = n ((stands text at l w e).code ∙ z)

  -- .. and one that was not read
  pub marks-none : (start : ℕ) → start < length text → start ≡ at + gap false (drop at text) → Unread (get_or text start 0) → Marks text at (record { code = 24; value = 0; place = start; end = start })
  marks-none start h e u =
      let m = word_none text start h u in
      let s = stands text at l _ (next_word text at start e h) in
      record {
        stands = λ n. absurd (n refl);
        arrow = λ _ z. m.0 (s.code ∙ z);
        linear = λ _ z. m.1 (s.code ∙ z);
        times = λ _ z. m.2 (s.code ∙ z);
        equals = λ _ z. m.3 (s.code ∙ z);
        square = λ _ z. m.4 (s.code ∙ z);
        curly = λ _ z. m.5 (s.code ∙ z);
        plus = λ _ z. m.6 (s.code ∙ z);
        power = λ _ z. m.7 (s.code ∙ z);
      }

-- Ends put together: a step behind a step, a loop of steps; words by their codes. Assumes nothing.
use Prim.Native.Nat.{ℕ, ◌+◌, ◌≤◌}
use mathlib.Core.Path.{◌≡◌, refl, sym, ap, subst, ◌∙◌}
use mathlib.Core.Bool.{Bool, true, false, not}
use mathlib.Core.List.{List}
use native.Mathlib.Omega.{arith}
use lib.Dec.{T, eqb}
use lib.ListN.{length}
use borrow.Author.Tests.{eq-eqb, ne_eqb}
use Rattle.calculus.specs.Answer.{Answer, good, refused, ◌>>=◌, refuse, need}
use Rattle.answers.specs.declared.Reason.{Reason}
use Rattle.answers.specs.declared.Reason.TheVariants.{OtherWordDue}
use Rattle.answers.specs.Refusals.{reason_number, refusal_at, said_why}
use Rattle.notation_calculus.specs.Words.{Sign, sign_code, ends, fun, fix, lets, within, type, edition, table, arrow, linear, times, round, endRound, equals, comma, colon, dot, square, endSquare, curly, endCurly, plus, power, Token, sign, part, number, name, Word, between}
use Rattle.notation_calculus.specs.Grammar.{peek, behind, place, is_token, is, expect, is_name, is_part}
use Rattle.words.specs.Tables.{token_code}
use Rattle.words.specs.Next.{Said}
use Rattle.words.specs.Lexed.{from, Lexed, Stands}
use Rattle.words.specs.Marks.{Untold, Marks}
use Rattle.std.proofs.Common.{Ok, Err, IsErrAnd}
use Rattle.answers.specs.declared.Refusal.{Refusal as Why}
use Rattle.grammar.specs.Ends.{End, Ends}
use Rattle.grammar.specs.Skips.{Step, expect_code, is_number}

-- ---- tokens by their codes

-- the codes of parts, numbers and names
abbrev apart : ℕ → Bool
apart n = not (between 22 24 n)

sign_apart : (t : Sign) → T (apart (sign_code t))
sign_apart ends = tt
sign_apart fun = tt
sign_apart fix = tt
sign_apart lets = tt
sign_apart within = tt
sign_apart type = tt
sign_apart edition = tt
sign_apart table = tt
sign_apart arrow = tt
sign_apart linear = tt
sign_apart times = tt
sign_apart round = tt
sign_apart endRound = tt
sign_apart equals = tt
sign_apart comma = tt
sign_apart colon = tt
sign_apart dot = tt
sign_apart square = tt
sign_apart endSquare = tt
sign_apart curly = tt
sign_apart endCurly = tt
sign_apart plus = tt
sign_apart power = tt

-- .. are no sign's
pub sign_not : (t : Sign) (n : ℕ) → T (between 22 24 n) → ¬ (sign_code t ≡ n)
sign_not t n b e = both (between 22 24 n) b (subst (λ (c : ℕ). T (apart c)) e (sign_apart t))
  where
    both : (x : Bool) → T x → T (not x) → ⊥
    both true p q = q
    both false p q = p

pub token_is : (s : Sign) (t : Token) → is_token s t ≡ eqb (sign_code s) (token_code t)
token_is s (sign t) = refl
token_is s (part p) = sym (ne_eqb (sign_code s) 22 (sign_not s 22 tt))
token_is s (number n) = sym (ne_eqb (sign_code s) 23 (sign_not s 23 tt))
token_is s (name n) = sym (ne_eqb (sign_code s) 24 (sign_not s 24 tt))

pub expect-code : (s : Sign) (ws : List Word) → expect s ws ≡ expect_code (sign_code s) ws
expect-code s ws = ap (λ (b : Bool). need b 32 (place ws) >>= λ _. good (behind ws)) (token_is s (peek ws).token)

pub name_yes : (t : Token) → token_code t ≡ 24 → is_name t ≡ true
name_yes (sign t) e = absurd (sign_not t 24 tt e)
name_yes (part p) e = absurd (omega arith)
name_yes (number n) e = absurd (omega arith)
name_yes (name n) e = refl

pub name_no : (t : Token) → ¬ (token_code t ≡ 24) → is_name t ≡ false
name_no (sign t) e = refl
name_no (part p) e = refl
name_no (number n) e = refl
name_no (name n) e = absurd (e refl)

pub number_yes : (t : Token) → token_code t ≡ 23 → is_number t ≡ true
number_yes (sign t) e = absurd (sign_not t 23 tt e)
number_yes (part p) e = absurd (omega arith)
number_yes (number n) e = refl
number_yes (name n) e = absurd (omega arith)

pub number_no : (t : Token) → ¬ (token_code t ≡ 23) → is_number t ≡ false
number_no (sign t) e = refl
number_no (part p) e = refl
number_no (number n) e = absurd (e refl)
number_no (name n) e = refl

pub part_yes : (t : Token) → token_code t ≡ 22 → is_part t ≡ true
part_yes (sign t) e = absurd (sign_not t 22 tt e)
part_yes (part p) e = refl
part_yes (number n) e = absurd (omega arith)
part_yes (name n) e = absurd (omega arith)

pub part_no : (t : Token) → ¬ (token_code t ≡ 22) → is_part t ≡ false
part_no (sign t) e = refl
part_no (part p) e = absurd (e refl)
part_no (number n) e = refl
part_no (name n) e = refl

-- ---- the first word

module _ (text : List ℕ) (at : ℕ) (w : Said) (s : Stands text at w) where
  pub is_yes : (t : Sign) → w.code ≡ sign_code t → is t (from text at) ≡ true
  is_yes t e = token_is t (peek (from text at)).token ∙ eq-eqb _ _ (sym e ∙ s.code)

  pub is_no : (t : Sign) → ¬ (w.code ≡ sign_code t) → is t (from text at) ≡ false
  is_no t e = token_is t (peek (from text at)).token ∙ ne_eqb _ _ (λ q. e (s.code ∙ sym q))

-- .. where only a sign is asked for: one that was told stands there
pub mark-stands : (text : List ℕ) (at : ℕ) (w : Said) → Marks text at w → (n : ℕ) → w.code ≡ n → ¬ (n ≡ 24) → Stands text at w
mark-stands text at w m n e d = m.stands (λ z. d (sym e ∙ z))

-- .. and one that was not does not
pub mark_no : (text : List ℕ) (at : ℕ) (w : Said) (t : Sign) → Untold text at w (sign_code t) → ¬ (w.code ≡ sign_code t) → is t (from text at) ≡ false
mark_no text at w t u n = token_is t (peek (from text at)).token ∙ ne_eqb _ _ (λ q. u n (sym q))

-- .. and who knows the word knows that
pub word-marks : (text : List ℕ) (at : ℕ) (w : Said) → Stands text at w → Marks text at w
word-marks text at w s = record { stands = λ _. s; arrow = untold 8; linear = untold 9; times = untold 10; equals = untold 13; square = untold 17; curly = untold 19; plus = untold 21; power = untold 25 }
  where
    untold : (k : ℕ) → Untold text at w k
    untold k n z = n (s.code ∙ z)

-- ---- ends

module _ (text : List ℕ) where
  pub ends-here : (at : ℕ) → Lexed text at → Ends text (length (from text at) + 1) (good (from text at)) (Ok at)
  ends-here at l = record { is = refl; fewer = omega arith; lexed = l }

  -- a word is read
  pub ends-word : (at b : ℕ) (w : Said) (m : Answer (List Word)) → Stands text at w → ¬ (w.code ≡ 0) → length (from text at) ≤ b → m ≡ good (behind (from text at)) → Ends text b m (Ok w.end)
  ends-word at b w m s z h e =
      let o = s.onward z in
      record { is = e ∙ ap good o.rest; fewer = omega (arith, o.fewer); lexed = o.lexed }

  -- a refusal at the first word
  pub ends_bad : (at : ℕ) (w : Said) (m : Answer (List Word)) (why : Reason) (e : Why) → Stands text at w → e ≡ refusal_at why w.place → m ≡ refuse (reason_number why) (place (from text at)) → m ≡ refused (said_why e)
  ends_bad at w m why e s is g = g ∙ ap (λ (p : ℕ). refuse (reason_number why) p) (sym s.place) ∙ ap (λ (x : Why). refused (said_why x)) (sym is)

  -- .. which is 32
  pub ends-due : (at b : ℕ) (w : Said) (m : Answer (List Word)) (e : Why) → Stands text at w → e ≡ refusal_at OtherWordDue w.place → m ≡ refuse 32 (place (from text at)) → Ends text b m (Err e)
  ends-due at b w m e s is g = ends_bad at w m OtherWordDue e s is g

  pub ends_as : (b b' : ℕ) (m m' : Answer (List Word)) (r : End) → b ≤ b' → m' ≡ m → Ends text b m r → Ends text b' m' r
  ends_as b b' m m' (Ok p) h e t = record { is = e ∙ t.is; fewer = omega (arith, t.fewer); lexed = t.lexed }
  ends_as b b' m m' (Err why) h e t = e ∙ t

  -- a refusal passed on
  pub ends_passed : (b : ℕ) (m : Answer (List Word)) (r : End) (e : Why) → IsErrAnd r (λ (x : Why). x ≡ e) → Ends text b m (Err e) → Ends text b m r
  ends_passed b m (Ok p) e h t = absurd h
  ends_passed b m (Err x) e h t = t ∙ ap (λ (y : Why). refused (said_why y)) (sym h)

  -- a step is refused, and so is what goes on with it
  pub ends-stop : (m m' : Answer (List Word)) (go : Step) (e : Why) → m' ≡ (m >>= go) → m ≡ refused (said_why e) → m' ≡ refused (said_why e)
  ends-stop m m' go e is t = is ∙ ap (λ (k : Answer (List Word)). k >>= go) t

  -- a step behind a step
  pub step_is : (b : ℕ) (m m' : Answer (List Word)) (go : Step) (p : ℕ) → m' ≡ (m >>= go) → Ends text b m (Ok p) → m' ≡ go (from text p)
  step_is b m m' go p e t = e ∙ ap (λ (k : Answer (List Word)). k >>= go) t.is

  pub ends_then : (b b₁ b₂ : ℕ) (m m' : Answer (List Word)) (go : Step) (p : ℕ) (r : End) → m' ≡ (m >>= go) → Ends text b m (Ok p) → b₁ ≤ b₂ → Ends text b₁ (go (from text p)) r → Ends text b₂ m' r
  ends_then b b₁ b₂ m m' go p r e t h u = ends_as b₁ b₂ _ m' r h (step_is b m m' go p e t) u

  -- a sign behind a step
  pub ends-expect : (s : Sign) (b b₂ : ℕ) (m m' : Answer (List Word)) (p : ℕ) (r : End) → m' ≡ (m >>= λ us. expect s us) → Ends text b m (Ok p) → b ≤ b₂ → Ends text (length (from text p)) (expect_code (sign_code s) (from text p)) r → Ends text b₂ m' r
  ends-expect s b b₂ m m' p r e t h u = ends_then b (length (from text p)) b₂ m m' (λ us. expect s us) p r e t (omega (arith, t.fewer)) (ends_as _ _ _ _ r (omega arith) (expect-code s (from text p)) u)

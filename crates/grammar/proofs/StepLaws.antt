-- Steps by the code of the first word. Assumes nothing.
use Prim.Native.Nat.{ℕ, suc, ◌+◌, ◌<◌}
use mathlib.Core.Path.{◌≡◌, refl, sym, ap, ◌∙◌}
use mathlib.Core.Bool.{Bool, true, false, cond}
use mathlib.Core.List.{List}
use native.Mathlib.Omega.{arith}
use lib.ListN.{length}
use borrow.Author.Tests.{eq-eqb, ne_eqb}
use Rattle.calculus.specs.Answer.{Answer, good, ◌>>=◌, refuse, need}
use Rattle.notation_calculus.specs.Words.{plus, power, Token, sign, part, number, name, Word}
use Rattle.notation_calculus.specs.Grammar.{peek, behind, place, is}
use Rattle.words.specs.Tables.{token_code}
use Rattle.words.specs.Next.{Said}
use Rattle.words.specs.Lexed.{from, Onward, Stands}
use Rattle.std.proofs.Common.{Ok, Err}
use Rattle.answers.specs.declared.Refusal.{Refusal as Why}
use Rattle.answers.specs.declared.Reason.TheVariants.{OtherWordDue}
use Rattle.answers.specs.Refusals.{refusal_at}
use Rattle.grammar.specs.Ends.{End, Ends}
use Rattle.grammar.specs.Skips.{expect_code, name_end, is_number, plus_end, number_by_lem, number_end, ones_end}
use Rattle.grammar.proofs.EndLaws.{sign_not, name_yes, name_no, number_yes, number_no, is_yes, ends-word, ends-due, ends_as}

-- 32 at a word
abbrev pub DueAt : Why → Said → Type 0
DueAt e w = e ≡ refusal_at OtherWordDue w.place

number_by_number : (t : Token) (ws : List Word) → token_code t ≡ 23 → number_by_lem t ws ≡ good (behind ws)
number_by_number (sign t) ws e = absurd (sign_not t 23 tt e)
number_by_number (part p) ws e = absurd (omega arith)
number_by_number (number n) ws e = refl
number_by_number (name n) ws e = absurd (omega arith)

number_by_name : (t : Token) (ws : List Word) → token_code t ≡ 24 → number_by_lem t ws ≡ plus_end (behind ws)
number_by_name (sign t) ws e = absurd (sign_not t 24 tt e)
number_by_name (part p) ws e = absurd (omega arith)
number_by_name (number n) ws e = absurd (omega arith)
number_by_name (name n) ws e = refl

number_by_none : (t : Token) (ws : List Word) → ¬ (token_code t ≡ 23) → ¬ (token_code t ≡ 24) → number_by_lem t ws ≡ refuse 32 (place ws)
number_by_none (sign t) ws e f = refl
number_by_none (part p) ws e f = refl
number_by_none (number n) ws e f = absurd (e refl)
number_by_none (name n) ws e f = absurd (f refl)

pub ones_none : (ws : List Word) → is power ws ≡ false → ones_end ws ≡ good ws
ones_none ws e = ap (λ (b : Bool). cond b (number_end (behind ws)) (good ws)) e

pub plus_none : (ws : List Word) → is plus ws ≡ false → plus_end ws ≡ good ws
plus_none ws e = ap (λ (b : Bool). cond b (need (is_number (peek (behind ws)).token) 32 (place (behind ws)) >>= λ _. good (behind (behind ws))) (good ws)) e

module _ (text : List ℕ) (at : ℕ) (w : Said) (s : Stands text at w) where
  abbrev here : List Word
  here = from text at

  abbrev due : Bool → Answer (List Word)
  due b = need b 32 (place here) >>= λ _. good (behind here)

  pub code_is : (n : ℕ) → w.code ≡ n → token_code (peek here).token ≡ n
  code_is n e = sym s.code ∙ e

  pub code_not : (n : ℕ) → ¬ (w.code ≡ n) → ¬ (token_code (peek here).token ≡ n)
  code_not n e f = e (s.code ∙ f)

  not_end : (n : ℕ) → w.code ≡ suc n → ¬ (w.code ≡ 0)
  not_end n e z = omega arith

  pub expect_good : (c : ℕ) → w.code ≡ c → 0 < c → Ends text (length here) (expect_code c here) (Ok w.end)
  expect_good c e z = ends-word text at (length here) w (expect_code c here) s (λ q. omega arith) (omega arith) (ap due (eq-eqb c _ (sym e ∙ s.code)))

  pub expect_bad : (c : ℕ) → ¬ (w.code ≡ c) → (why : Why) → DueAt why w → Ends text (length here) (expect_code c here) (Err why)
  expect_bad c e r d = ends-due text at (length here) w (expect_code c here) r s d (ap due (ne_eqb c _ (λ q. e (s.code ∙ sym q))))

  pub name_good : w.code ≡ 24 → Ends text (length here) (name_end here) (Ok w.end)
  name_good e = ends-word text at (length here) w (name_end here) s (not_end 23 e) (omega arith) (ap due (name_yes (peek here).token (code_is 24 e)))

  pub name_bad : ¬ (w.code ≡ 24) → (why : Why) → DueAt why w → Ends text (length here) (name_end here) (Err why)
  name_bad e r d = ends-due text at (length here) w (name_end here) r s d (ap due (name_no (peek here).token (code_not 24 e)))

  -- ---- n + k

  abbrev plus_by : Bool → List Word → Answer (List Word)
  plus_by b us = cond b (need (is_number (peek us).token) 32 (place us) >>= λ _. good (behind us)) (good here)

  pub plus_on : w.code ≡ 21 → Onward text at w.end
  plus_on e = s.onward (not_end 20 e)

  module _ (e : w.code ≡ 21) (v : Said) (next : Stands text w.end v) where
    plus-is : (b : Bool) → is_number (peek (from text w.end)).token ≡ b → plus_end here ≡ (need b 32 (place (from text w.end)) >>= λ _. good (behind (from text w.end)))
    plus-is b f = ap (λ (x : Bool). plus_by x (behind here)) (is_yes text at w s plus e) ∙ ap (plus_by true) (plus_on e).rest ∙ ap (λ (x : Bool). need x 32 (place (from text w.end)) >>= λ _. good (behind (from text w.end))) f

    pub plus-good : v.code ≡ 23 → Ends text (length here + 1) (plus_end here) (Ok v.end)
    plus-good f = ends-word text w.end (length here + 1) v (plus_end here) next (λ z. omega arith) (omega (arith, (plus_on e).fewer)) (plus-is true (number_yes (peek (from text w.end)).token (sym next.code ∙ f)))

    pub plus-bad : ¬ (v.code ≡ 23) → (why : Why) → DueAt why v → Ends text (length here + 1) (plus_end here) (Err why)
    plus-bad f r d = ends-due text w.end (length here + 1) v (plus_end here) r next d (plus-is false (number_no (peek (from text w.end)).token (λ q. f (next.code ∙ q))))

  -- ---- k, n or n + k

  pub number_good : w.code ≡ 23 → Ends text (length here) (number_end here) (Ok w.end)
  number_good e = ends-word text at (length here) w (number_end here) s (not_end 22 e) (omega arith) (number_by_number (peek here).token here (code_is 23 e))

  pub name_on : w.code ≡ 24 → Onward text at w.end
  name_on e = s.onward (not_end 23 e)

  pub number-name : (e : w.code ≡ 24) (r : End) → Ends text (length (from text w.end) + 1) (plus_end (from text w.end)) r → Ends text (length here) (number_end here) r
  number-name e r t = ends_as text _ (length here) _ (number_end here) r (omega (arith, (name_on e).fewer)) (number_by_name (peek here).token here (code_is 24 e) ∙ ap plus_end (name_on e).rest) t

  pub number_bad : ¬ (w.code ≡ 23) → ¬ (w.code ≡ 24) → (why : Why) → DueAt why w → Ends text (length here) (number_end here) (Err why)
  number_bad e f r d = ends-due text at (length here) w (number_end here) r s d (number_by_none (peek here).token here (code_not 23 e) (code_not 24 f))

  -- ---- behind a 1

  abbrev ones_by : Bool → List Word → Answer (List Word)
  ones_by b us = cond b (number_end us) (good here)

  pub power_on : w.code ≡ 25 → Onward text at w.end
  power_on e = s.onward (not_end 24 e)

  pub ones_on : (e : w.code ≡ 25) (r : End) → Ends text (length (from text w.end)) (number_end (from text w.end)) r → Ends text (length here + 1) (ones_end here) r
  ones_on e r t = ends_as text _ (length here + 1) _ (ones_end here) r (omega (arith, (power_on e).fewer)) (ap (λ (b : Bool). ones_by b (behind here)) (is_yes text at w s power e) ∙ ap number_end (power_on e).rest) t

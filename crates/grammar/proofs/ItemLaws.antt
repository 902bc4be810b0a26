-- Items step by step; and what Grammar's readers of items leave. Assumes nothing.
use Prim.Native.Nat.{ℕ, suc, ◌+◌, ◌-◌, ◌<◌}
use mathlib.Core.Path.{◌≡◌, refl, sym, ap, ◌∙◌}
use mathlib.Core.Bool.{Bool, true, false, ◌||◌, cond}
use mathlib.Core.List.{List, []}
use native.Mathlib.Omega.{arith}
use lib.Dec.{eqb}
use lib.ListN.{length}
use borrow.Author.Tests.{eq-eqb, ne_eqb}
use Rattle.calculus.specs.Answer.{Answer, good, refused, ◌>>=◌, need}
use Rattle.calculus.specs.Terms as Terms
use Rattle.notation_calculus.specs.Words.{type, edition, table, equals, square, endSquare, Token, sign, part, number, name, Word}
use Rattle.notation_calculus.specs.Trees.{Body, of_type, of_term}
use Rattle.notation_calculus.specs.Grammar.{Got, got, peek, behind, place, is, expect, name_at, value_of, parameters_at, numbers_at, type_at, term_at, clause_at, type_body, term_body, edition_at}
use Rattle.words.specs.Tables.{token_code, token_value}
use Rattle.words.specs.Next.{Said}
use Rattle.words.specs.Lexed.{from, Onward, Stands}
use Rattle.std.proofs.Common.{Ok, Err}
use Rattle.answers.specs.declared.Refusal.{Refusal as Why}
use Rattle.grammar.specs.Ends.{End, Ends, EndsIn, rest_of, type_step, term_step}
use Rattle.grammar.specs.Skips.{Step, expect_code, name_end, list_more, list_end, group_end, numbers_end, names_list, clause_end, item_end, is_edition, edition_end}
use Rattle.grammar.proofs.EndLaws.{sign_not, expect-code, is_yes, is_no, ends-word, ends-due, ends_as, step_is}
use Rattle.grammar.proofs.StepLaws.{DueAt}
use Rattle.grammar.proofs.LoopLaws.{both_steps, Loops, list_by}
use Rattle.grammar.proofs.NameLaws.{loop_from}
use Rattle.grammar.proofs.SkipLaws.{through, across, made, either, name-rest, group_rest, numbers-rest}
use Rattle.grammar.proofs.TermLaws.{Along}

-- ---- the rests of Grammar's readers

-- what is made of a value and of what it leaves
made_at : {A B : Type 0} (m : Answer (Got A)) (f : A → List Word → B) → rest_of (m >>= λ x. got (f x.value x.rest) x.rest) ≡ rest_of m
made_at (good x) f = refl
made_at (refused why) f = refl

pub parameters-rest : (ws : List Word) → rest_of (parameters_at ws) ≡ group_end square endSquare name_end ws
parameters-rest ws = group_rest name_at name_end name-rest square endSquare (λ ns. ns) [] ws

then_two : (m : Answer (List Word)) (g h k : Step) → (m >>= λ v. g v >>= λ x. h x >>= k) ≡ ((m >>= λ v. g v >>= h) >>= k)
then_two (good v) g h k = sym (both_steps (g v) h k)
then_two (refused why) g h k = refl

then_three : (m : Answer (List Word)) (f g h k : Step) → (m >>= λ u. f u >>= λ v. g v >>= λ x. h x >>= k) ≡ ((m >>= λ u. f u >>= λ v. g v >>= h) >>= k)
then_three (good u) f g h k = then_two (f u) g h k
then_three (refused why) f g h k = refl

pub clause_rest : (read : List Word → Answer (Got Body)) (read' : Step) → ((us : List Word) → rest_of (read us) ≡ read' us) → (ws : List Word) → rest_of (clause_at read ws) ≡ clause_end read' ws
clause_rest read read' same ws =
    through (name_at ws) _ _ (λ us. group_end square endSquare name_end us >>= λ vs. numbers_end vs >>= λ xs. expect equals xs >>= read') (name-rest ws)
    (λ x. through (parameters_at x.rest) _ _ (λ vs. numbers_end vs >>= λ xs. expect equals xs >>= read') (parameters-rest x.rest)
    (λ ts. through (numbers_at ts.rest) _ _ (λ xs. expect equals xs >>= read') (numbers-rest ts.rest)
    (λ ks. across (expect equals ks.rest) _ read'
    (λ ys. made_at (read ys) (λ b rest. record { head = x.value; types = ts.value; numbers = ks.value; body = b; end = place rest }) ∙ same ys))))
    ∙ then_three (name_end ws) (λ us. group_end square endSquare name_end us) (λ vs. numbers_end vs) (λ xs. expect equals xs) read'

-- what the definitions of types and of terms leave
pub type_clause_rest : (ws : List Word) → rest_of (clause_at type_body ws) ≡ clause_end (type_step 80 false) ws
type_clause_rest ws = clause_rest type_body (type_step 80 false) (λ us. made (type_at 80 false us) (λ t. of_type t)) ws

pub term_clause_rest : (ws : List Word) → rest_of (clause_at term_body ws) ≡ clause_end (term_step 80) ws
term_clause_rest ws = clause_rest term_body (term_step 80) (λ us. made (term_at 80 us) (λ e. of_term e)) ws

edition_by_lem : (t : Token) (at : ℕ) (ws : List Word) → rest_of (value_of t at >>= λ k. need (eqb k 1 || eqb k 2) 32 at >>= λ _. got (cond (eqb k 1) Terms.first Terms.second) ws) ≡ (need (is_edition t) 32 at >>= λ _. good ws)
edition_by_lem (sign t) at ws = refl
edition_by_lem (part p) at ws = refl
edition_by_lem (number n) at ws = across (need (eqb n 1 || eqb n 2) 32 at) _ (λ _. good ws) (λ _. refl)
edition_by_lem (name n) at ws = refl

pub edition_rest : (ws : List Word) → rest_of (edition_at ws) ≡ edition_end ws
edition_rest ws = either (is edition ws) _ _ _ _ (edition_by_lem (peek (behind ws)).token (place (behind ws)) (behind (behind ws))) refl

-- ---- steps that may read nothing

pub along_maybe : (text : List ℕ) (most : ℕ) (total : Answer (List Word)) (f g : Step) (p : ℕ) (t' : End) → Along text most total (λ us. f us >>= g) (Ok p) → Ends text (length (from text p) + 1) (f (from text p)) t' → Along text most total g t'
along_maybe text most total f g p t' l d = record { step = f (from text p); bound = length (from text p) + 1; total_is = step_is text _ _ _ (λ us. f us >>= g) p l.total_is l.ends; ends = d; within = omega (arith, l.ends.fewer, l.within) }

-- ---- parameters, lines and items by the first word

closed_by_lem : (m : Answer (List Word)) → (m >>= λ us. expect endSquare us) ≡ (m >>= λ us. expect_code 18 us)
closed_by_lem (good us) = expect-code endSquare us
closed_by_lem (refused why) = refl

module _ (text : List ℕ) (at : ℕ) (w : Said) (s : Stands text at w) where
  abbrev here : List Word
  here = from text at

  on : (n : ℕ) → w.code ≡ suc n → Onward text at w.end
  on n e = s.onward (λ z. omega arith)

  pub parameters_on : w.code ≡ 17 → (r : End) → EndsIn text w.end (names_list 18) r → Ends text (length here + 1) (group_end square endSquare name_end here) r
  parameters_on e r d = ends_as text _ _ _ _ r (omega (arith, (on 16 e).fewer)) (ap (λ (b : Bool). cond b (list_end name_end (length here) (behind here) >>= λ us. expect endSquare us) (good here)) (is_yes text at w s square e) ∙ closed_by_lem (list_end name_end (length here) (behind here)) ∙ ap (λ (us : List Word). names_list 18 (length here) us) (on 16 e).rest) (d (length here) (on 16 e).fewer)

  module _ (readType read : Step) where
    abbrev item_by : Bool → Bool → Answer (List Word)
    item_by a b = cond a (list_end readType (length here) (behind here)) (cond b (clause_end readType (behind here)) (clause_end read here))

    item-is : (a b : Bool) → is table here ≡ a → is type here ≡ b → item_end readType read here ≡ item_by a b
    item-is a b e f = ap (λ (x : Bool). item_by x (is type here)) e ∙ ap (item_by a) f

    pub item_line : w.code ≡ 7 → (r : End) → EndsIn text w.end (list_end readType) r → Ends text (length here) (item_end readType read here) r
    item_line e r d = ends_as text _ _ _ _ r (omega (arith, (on 6 e).fewer)) (item-is true (is type here) (is_yes text at w s table e) refl ∙ ap (λ (us : List Word). list_end readType (length here) us) (on 6 e).rest) (d (length here) (on 6 e).fewer)

    pub item_type : ¬ (w.code ≡ 7) → w.code ≡ 5 → (r : End) → Ends text (length (from text w.end)) (clause_end readType (from text w.end)) r → Ends text (length here) (item_end readType read here) r
    item_type a e r d = ends_as text _ _ _ _ r (omega (arith, (on 4 e).fewer)) (item-is false true (is_no text at w s table a) (is_yes text at w s type e) ∙ ap (clause_end readType) (on 4 e).rest) d

    pub item_term : ¬ (w.code ≡ 7) → ¬ (w.code ≡ 5) → item_end readType read here ≡ clause_end read here
    item_term a e = item-is false false (is_no text at w s table a) (is_no text at w s type e)

  -- ---- the edition

  abbrev edition_on : Bool → List Word → Answer (List Word)
  edition_on b us = cond b (need (is_edition (peek us).token) 32 (place us) >>= λ _. good (behind us)) (good here)

  pub edition_none : ¬ (w.code ≡ 6) → edition_end here ≡ good here
  edition_none e = ap (λ (b : Bool). edition_on b (behind here)) (is_no text at w s edition e)

  module _ (e : w.code ≡ 6) (v : Said) (next : Stands text w.end v) where
    edition-is : (b : Bool) → is_edition (peek (from text w.end)).token ≡ b → edition_end here ≡ (need b 32 (place (from text w.end)) >>= λ _. good (behind (from text w.end)))
    edition-is b f = ap (λ (x : Bool). edition_on x (behind here)) (is_yes text at w s edition e) ∙ ap (edition_on true) (on 5 e).rest ∙ ap (λ (x : Bool). need x 32 (place (from text w.end)) >>= λ _. good (behind (from text w.end))) f

    by_code : (t : Token) → ¬ (token_code t ≡ 23) → is_edition t ≡ false
    by_code (sign t) f = refl
    by_code (part p) f = refl
    by_code (number n) f = absurd (f refl)
    by_code (name n) f = refl

    by_value : (t : Token) → token_code t ≡ 23 → is_edition t ≡ (eqb (token_value t) 1 || eqb (token_value t) 2)
    by_value (sign t) f = absurd (sign_not t 23 tt f)
    by_value (part p) f = absurd (omega arith)
    by_value (number n) f = refl
    by_value (name n) f = absurd (omega arith)

    pub edition-other : ¬ (v.code ≡ 23) → (why : Why) → DueAt why v → Ends text (length here + 1) (edition_end here) (Err why)
    edition-other f r d = ends-due text w.end (length here + 1) v (edition_end here) r next d (edition-is false (by_code (peek (from text w.end)).token (λ q. f (next.code ∙ q))))

    module _ (f : v.code ≡ 23) where
      valued : (b : Bool) → (eqb v.value 1 || eqb v.value 2) ≡ b → is_edition (peek (from text w.end)).token ≡ b
      valued b g = by_value (peek (from text w.end)).token (sym next.code ∙ f) ∙ ap (λ (n : ℕ). eqb n 1 || eqb n 2) (sym next.value) ∙ g

      good-edition : (eqb v.value 1 || eqb v.value 2) ≡ true → Ends text (length here + 1) (edition_end here) (Ok v.end)
      good-edition g = ends-word text w.end (length here + 1) v (edition_end here) next (λ z. omega arith) (omega (arith, (on 5 e).fewer)) (edition-is true (valued true g))

      pub edition_first : v.value ≡ 1 → Ends text (length here + 1) (edition_end here) (Ok v.end)
      edition_first g = good-edition (ap (λ (x : Bool). x || eqb v.value 2) (eq-eqb v.value 1 g))

      module _ (a : ¬ (v.value ≡ 1)) where
        second_by : (b : Bool) → eqb v.value 2 ≡ b → (eqb v.value 1 || eqb v.value 2) ≡ b
        second_by b g = ap (λ (x : Bool). x || eqb v.value 2) (ne_eqb v.value 1 a) ∙ g

        pub edition_second : v.value ≡ 2 → Ends text (length here + 1) (edition_end here) (Ok v.end)
        edition_second g = good-edition (second_by true (eq-eqb v.value 2 g))

        pub edition-bad : ¬ (v.value ≡ 2) → (why : Why) → DueAt why v → Ends text (length here + 1) (edition_end here) (Err why)
        edition-bad g r d = ends-due text w.end (length here + 1) v (edition_end here) r next d (edition-is false (valued false (second_by false (ne_eqb v.value 2 g))))

-- ---- a line of types

pub line_first : (text : List ℕ) (at n : ℕ) (read : Step) (t : End) → length (from text at) < n → Ends text (length (from text at)) (read (from text at)) t → Loops text (list_more read) (λ us. good us) (list_end read n (from text at)) (length (from text at)) t
line_first text at n read t h d = loop_from text at (n - 1) (length (from text at)) (list_more read) (read (from text at)) _ t (list_by read n (from text at) (omega arith)) d (omega arith)

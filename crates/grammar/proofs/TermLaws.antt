-- Terms by the code of the first word, and steps one behind the other. Assumes nothing.
use Prim.Native.Nat.{ℕ, suc, ◌+◌, ◌-◌, ◌≤◌, ◌<◌}
use mathlib.Core.Path.{◌≡◌, refl, sym, ap, ◌∙◌}
use mathlib.Core.Bool.{Bool, true, false, cond}
use mathlib.Core.List.{List}
use native.Mathlib.Omega.{arith}
use lib.ListN.{length}
use borrow.Author.Tests.{eq-eqb, ne_eqb}
use Rattle.calculus.specs.Answer.{Answer, good, ◌>>=◌, refuse, need}
use Rattle.notation_calculus.specs.Words.{Sign, sign_code, fun, fix, lets, within, endRound, equals, colon, dot, Token, sign, part, number, name, Word}
use Rattle.notation_calculus.specs.Grammar.{peek, behind, place, is, expect}
use Rattle.words.specs.Tables.{token_code}
use Rattle.words.specs.Next.{Said}
use Rattle.words.specs.Lexed.{from, Lexed, Onward, Stands}
use Rattle.std.proofs.Common.{Ok, Err}
use Rattle.answers.specs.declared.Refusal.{Refusal as Why}
use Rattle.answers.specs.declared.Reason.TheVariants.{TextLimit}
use Rattle.answers.specs.Refusals.{refusal_at}
use Rattle.grammar.specs.Ends.{End, Ends, EndsIn, type_step, term_step}
use Rattle.grammar.specs.Skips.{Step, expect_code, name_end, use_end, trees_end, tuple_end, atom_by, atom_end, atoms_end, spine_end, one_end, lists_end, binds_end, bound_end, let_body_end, bound_type_end, let_value_end}
use Rattle.grammar.proofs.EndLaws.{sign_not, expect-code, is_yes, is_no, ends-word, ends_bad, ends-due, ends_as, ends-stop, step_is}
use Rattle.grammar.proofs.StepLaws.{DueAt, code_is, code_not}
use Rattle.grammar.proofs.LoopLaws.{three_steps, Loops, Inner}
use Rattle.grammar.proofs.NameLaws.{loop_from}
use Rattle.grammar.proofs.SkipLaws.{term_by_lem, term_none}

-- ---- steps one behind the other

-- a step that ended at t, and what is still to go
pub record Along (text : List ℕ) (most : ℕ) (total : Answer (List Word)) (go : Step) (t : End) : Type 0 where
  pub step : Answer (List Word)
  pub bound : ℕ
  pub total_is : total ≡ (step >>= go)
  pub ends : Ends text bound step t
  pub within : bound ≤ most

pub along_first : (text : List ℕ) (b : ℕ) (m total : Answer (List Word)) (go : Step) (t : End) → total ≡ (m >>= go) → Ends text b m t → Along text b total go t
along_first text b m total go t e d = record { step = m; bound = b; total_is = e; ends = d; within = omega arith }

-- .. which is a sign
pub along_sign : (text : List ℕ) (at : ℕ) (s : Sign) (total : Answer (List Word)) (go : Step) (t : End) → total ≡ (expect s (from text at) >>= go) → Ends text (length (from text at)) (expect_code (sign_code s) (from text at)) t → Along text (length (from text at)) total go t
along_sign text at s total go t e d = along_first text (length (from text at)) (expect s (from text at)) total go t e (ends_as text _ _ _ _ t (omega arith) (expect-code s (from text at)) d)

module _ (text : List ℕ) (most : ℕ) (total : Answer (List Word)) where
  pub along_stop : (go : Step) (why : Why) → Along text most total go (Err why) → Ends text most total (Err why)
  along_stop go why l = ends-stop text _ _ go why l.total_is l.ends

  pub along_next : (f g : Step) (p : ℕ) (t' : End) → Along text most total (λ us. f us >>= g) (Ok p) → Ends text (length (from text p)) (f (from text p)) t' → Along text most total g t'
  along_next f g p t' l d = record { step = f (from text p); bound = length (from text p); total_is = step_is text _ _ _ (λ us. f us >>= g) p l.total_is l.ends; ends = d; within = omega (arith, l.ends.fewer, l.within) }

  pub along_expect : (s : Sign) (g : Step) (p : ℕ) (t' : End) → Along text most total (λ us. expect s us >>= g) (Ok p) → Ends text (length (from text p)) (expect_code (sign_code s) (from text p)) t' → Along text most total g t'
  along_expect s g p t' l d = along_next (λ us. expect s us) g p t' l (ends_as text _ _ _ _ t' (omega arith) (expect-code s (from text p)) d)

  -- .. which is two: up to a body, and the body
  pub along_front : (h f g : Step) (p : ℕ) (t' : End) → h (from text p) ≡ (f (from text p) >>= g) → Along text most total h (Ok p) → Ends text (length (from text p)) (f (from text p)) t' → Along text most total g t'
  along_front h f g p t' e l d = record { step = f (from text p); bound = length (from text p); total_is = step_is text _ _ _ h p l.total_is l.ends ∙ e; ends = d; within = omega (arith, l.ends.fewer, l.within) }

  pub along_last : (f : Step) (p : ℕ) (r : End) → Along text most total f (Ok p) → Ends text (length (from text p)) (f (from text p)) r → Ends text most total r
  along_last f p r l d = ends_as text _ _ _ _ r (omega (arith, l.ends.fewer, l.within)) (step_is text _ _ _ f p l.total_is l.ends) d

  pub along_lexed : (go : Step) (p : ℕ) → Along text most total go (Ok p) → Lexed text p
  along_lexed go p l = l.ends.lexed

-- a loop's round that is over: the next one reads the rest
pub inner_next : (text : List ℕ) (most bound : ℕ) (whole total : Answer (List Word)) (go : Step) (p : ℕ) → Inner text most whole bound total → Along text bound total go (Ok p) → Inner text most whole (length (from text p)) (go (from text p))
inner_next text most bound whole total go p i l t d = i t (along_last text bound total go p t l d)

-- what stands before a body, and the body
pub bound_apart : (read readType : Step) (ws : List Word) → bound_end read readType ws ≡ (bound_type_end readType ws >>= read)
bound_apart read readType ws = sym (three_steps (expect colon ws) readType (λ vs. expect dot vs) read)

pub let_apart : (read : Step) (ws : List Word) → let_body_end read ws ≡ (let_value_end read ws >>= read)
let_apart read ws = sym (three_steps (expect equals ws) read (λ vs. expect within vs) read)

-- ---- atoms by the token

module _ (read readType : Step) (ws : List Word) where
  by_name : (t : Token) → token_code t ≡ 24 → atom_by read readType t ws ≡ use_end readType (behind ws)
  by_name (sign t) e = absurd (sign_not t 24 tt e)
  by_name (part p) e = absurd (omega arith)
  by_name (number n) e = absurd (omega arith)
  by_name (name n) e = refl

  by-round : (t : Token) → token_code t ≡ 11 → atom_by read readType t ws ≡ tuple_end read (length ws) (behind ws)
  by-round (sign t) e = ap (λ (b : Bool). need b 32 (place ws) >>= λ _. tuple_end read (length ws) (behind ws)) (eq-eqb 11 (sign_code t) (sym e))
  by-round (part p) e = absurd (omega arith)
  by-round (number n) e = absurd (omega arith)
  by-round (name n) e = absurd (omega arith)

  by_part : (t : Token) → token_code t ≡ 22 → atom_by read readType t ws ≡ good (behind ws)
  by_part (sign t) e = absurd (sign_not t 22 tt e)
  by_part (part p) e = refl
  by_part (number n) e = absurd (omega arith)
  by_part (name n) e = absurd (omega arith)

  by-none : (t : Token) → ¬ (token_code t ≡ 24) → ¬ (token_code t ≡ 11) → ¬ (token_code t ≡ 22) → atom_by read readType t ws ≡ refuse 32 (place ws)
  by-none (sign t) e f g = ap (λ (b : Bool). need b 32 (place ws) >>= λ _. tuple_end read (length ws) (behind ws)) (ne_eqb 11 (sign_code t) (λ q. f (sym q)))
  by-none (part p) e f g = absurd (g refl)
  by-none (number n) e f g = refl
  by-none (name n) e f g = absurd (e refl)

module _ (text : List ℕ) (at : ℕ) (w : Said) (s : Stands text at w) (read readType : Step) where
  abbrev here : List Word
  here = from text at

  on : (n : ℕ) → w.code ≡ suc n → Onward text at w.end
  on n e = s.onward (λ z. omega arith)

  pub atom_name : w.code ≡ 24 → (r : End) → Ends text (length (from text w.end) + 1) (use_end readType (from text w.end)) r → Ends text (length here) (atom_end read readType here) r
  atom_name e r t = ends_as text _ (length here) _ (atom_end read readType here) r (omega (arith, (on 23 e).fewer)) (by_name read readType here (peek here).token (code_is text at w s 24 e) ∙ ap (use_end readType) (on 23 e).rest) t

  pub atom_round : w.code ≡ 11 → (r : End) → EndsIn text w.end (tuple_end read) r → Ends text (length here) (atom_end read readType here) r
  atom_round e r t = ends_as text _ (length here) _ (atom_end read readType here) r (omega (arith, (on 10 e).fewer)) (by-round read readType here (peek here).token (code_is text at w s 11 e) ∙ ap (λ (us : List Word). tuple_end read (length here) us) (on 10 e).rest) (t (length here) (on 10 e).fewer)

  pub atom_part : w.code ≡ 22 → Ends text (length here) (atom_end read readType here) (Ok w.end)
  atom_part e = ends-word text at (length here) w (atom_end read readType here) s (λ z. omega arith) (omega arith) (by_part read readType here (peek here).token (code_is text at w s 22 e))

  pub atom_none : ¬ (w.code ≡ 24) → ¬ (w.code ≡ 11) → ¬ (w.code ≡ 22) → (why : Why) → DueAt why w → Ends text (length here) (atom_end read readType here) (Err why)
  atom_none e f g r d = ends-due text at (length here) w (atom_end read readType here) r s d (by-none read readType here (peek here).token (code_not text at w s 24 e) (code_not text at w s 11 f) (code_not text at w s 22 g))

-- ---- loops

module _ (text : List ℕ) (at : ℕ) (read readType : Step) (t : End) where
  pub tuple-first : (n : ℕ) → length (from text at) < n → Ends text (length (from text at)) (read (from text at)) t → Loops text (trees_end read) (λ us. expect endRound us) (tuple_end read n (from text at)) (length (from text at)) t
  tuple-first n h d = record { step = read (from text at); rounds = n; bound = length (from text at); total_is = refl; ends = d; enough = omega arith; within = omega arith }

  pub spine_first : Ends text (length (from text at)) (atom_end read readType (from text at)) t → Loops text (atoms_end read readType) (λ us. good us) (spine_end read readType (from text at)) (length (from text at)) t
  spine_first d = loop_from text at (length (from text at)) (length (from text at)) (atoms_end read readType) (atom_end read readType (from text at)) _ t refl d (omega arith)

-- ---- one level of a term

module _ (text : List ℕ) (at more : ℕ) (w : Said) (s : Stands text at w) where
  abbrev words : List Word
  words = from text at

  pub term_deep : more ≡ 0 → (why : Why) → why ≡ refusal_at TextLimit w.place → Ends text (length words) (term_step more words) (Err why)
  term_deep e why d = ends_bad text at w _ TextLimit why s d (term_none more words e)

  module _ (some : ¬ (more ≡ 0)) where
    abbrev bound : Step
    bound us = bound_end (term_step (more - 1)) (type_step (more - 1) false) us

    abbrev body : Step
    body us = let_body_end (term_step (more - 1)) us

    abbrev spine : Answer (List Word)
    spine = spine_end (term_step (more - 1)) (type_step (more - 1) false) words

    abbrev level : Bool → Bool → Bool → Answer (List Word)
    level f x l = cond f (binds_end (lists_end more) (length words) (behind words) >>= λ us. bound us) (cond x (name_end (behind words) >>= λ us. bound us) (cond l (one_end (lists_end more) (behind words) >>= λ us. body us) spine))

    level-is : (f x l : Bool) → is fun words ≡ f → is fix words ≡ x → is lets words ≡ l → term_step more words ≡ level f x l
    level-is f x l a b c = term_by_lem more words some ∙ ap (λ (z : Bool). level z (is fix words) (is lets words)) a ∙ ap (λ (z : Bool). level f z (is lets words)) b ∙ ap (level f x) c

    next : (n : ℕ) → w.code ≡ suc n → Onward text at w.end
    next n e = s.onward (λ z. omega arith)

    pub term-fun : w.code ≡ 1 → (t : End) → EndsIn text w.end (binds_end (lists_end more)) t → Along text (length words) (term_step more words) bound t
    term-fun e t d = record {
      step = binds_end (lists_end more) (length words) (from text w.end);
      bound = length (from text w.end);
      total_is = level-is true (is fix words) (is lets words) (is_yes text at w s fun e) refl refl ∙ ap (λ (us : List Word). binds_end (lists_end more) (length words) us >>= λ vs. bound vs) (next 0 e).rest;
      ends = d (length words) (next 0 e).fewer;
      within = omega (arith, (next 0 e).fewer);
    }

    -- .. up to the body
    pub fun-front : w.code ≡ 1 → (x : ℕ) → EndsIn text w.end (binds_end (lists_end more)) (Ok x) → (t : End) → Ends text (length (from text x)) (bound_type_end (type_step (more - 1) false) (from text x)) t → Along text (length words) (term_step more words) (term_step (more - 1)) t
    fun-front e x d t u = along_front text (length words) (term_step more words) bound (bound_type_end (type_step (more - 1) false)) (term_step (more - 1)) x t (bound_apart (term_step (more - 1)) (type_step (more - 1) false) (from text x)) (term-fun e (Ok x) d) u

    module _ (a : ¬ (w.code ≡ 1)) where
      pub term-fix : w.code ≡ 2 → (t : End) → Ends text (length (from text w.end)) (name_end (from text w.end)) t → Along text (length words) (term_step more words) bound t
      term-fix e t d = record {
        step = name_end (from text w.end);
        bound = length (from text w.end);
        total_is = level-is false true (is lets words) (is_no text at w s fun a) (is_yes text at w s fix e) refl ∙ ap (λ (us : List Word). name_end us >>= λ vs. bound vs) (next 1 e).rest;
        ends = d;
        within = omega (arith, (next 1 e).fewer);
      }

      pub fix-front : w.code ≡ 2 → (x : ℕ) → Ends text (length (from text w.end)) (name_end (from text w.end)) (Ok x) → (t : End) → Ends text (length (from text x)) (bound_type_end (type_step (more - 1) false) (from text x)) t → Along text (length words) (term_step more words) (term_step (more - 1)) t
      fix-front e x d t u = along_front text (length words) (term_step more words) bound (bound_type_end (type_step (more - 1) false)) (term_step (more - 1)) x t (bound_apart (term_step (more - 1)) (type_step (more - 1) false) (from text x)) (term-fix e (Ok x) d) u

      module _ (b : ¬ (w.code ≡ 2)) where
        pub term-let : w.code ≡ 3 → (t : End) → Ends text (length (from text w.end)) (one_end (lists_end more) (from text w.end)) t → Along text (length words) (term_step more words) body t
        term-let e t d = record {
          step = one_end (lists_end more) (from text w.end);
          bound = length (from text w.end);
          total_is = level-is false false true (is_no text at w s fun a) (is_no text at w s fix b) (is_yes text at w s lets e) ∙ ap (λ (us : List Word). one_end (lists_end more) us >>= λ vs. body vs) (next 2 e).rest;
          ends = d;
          within = omega (arith, (next 2 e).fewer);
        }

        pub let-front : w.code ≡ 3 → (x : ℕ) → Ends text (length (from text w.end)) (one_end (lists_end more) (from text w.end)) (Ok x) → (t : End) → Ends text (length (from text x)) (let_value_end (term_step (more - 1)) (from text x)) t → Along text (length words) (term_step more words) (term_step (more - 1)) t
        let-front e x d t u = along_front text (length words) (term_step more words) body (let_value_end (term_step (more - 1))) (term_step (more - 1)) x t (let_apart (term_step (more - 1)) (from text x)) (term-let e (Ok x) d) u

        pub term-spine : ¬ (w.code ≡ 3) → (r : End) → Ends text (length words) spine r → Ends text (length words) (term_step more words) r
        term-spine e r d = ends_as text _ _ _ _ r (omega arith) (level-is false false false (is_no text at w s fun a) (is_no text at w s fix b) (is_no text at w s lets e)) d

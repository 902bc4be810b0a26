-- Lists in parentheses by the code of the first word, and round by round. Assumes nothing.
use Prim.Native.Nat.{ℕ, zero, suc, ◌-◌, ◌<◌}
use mathlib.Core.Path.{◌≡◌, refl, sym, ap, ◌∙◌}
use mathlib.Core.Bool.{Bool, cond}
use mathlib.Core.List.{List}
use native.Mathlib.Omega.{arith}
use lib.ListN.{length}
use Rattle.calculus.specs.Answer.{Answer, ◌>>=◌, refuse}
use Rattle.notation_calculus.specs.Words.{endRound, comma, round, Word}
use Rattle.notation_calculus.specs.Grammar.{behind, place, expect}
use Rattle.words.specs.Next.{Said}
use Rattle.words.specs.Lexed.{from, Stands}
use Rattle.std.proofs.Common.{Ok, Err}
use Rattle.answers.specs.declared.Refusal.{Refusal as Why}
use Rattle.answers.specs.declared.Reason.TheVariants.{TextLimit}
use Rattle.answers.specs.Refusals.{refusal_at}
use Rattle.grammar.specs.Ends.{End, Ends, EndsIn}
use Rattle.grammar.specs.Skips.{Step, name_end, list_more, list_end, names_end, apart_end, one_end, lists_end, binds_end}
use Rattle.grammar.proofs.EndLaws.{is_yes, is_no, ends_bad, ends_as, step_is}
use Rattle.grammar.proofs.StepLaws.{DueAt, name_good, name_bad}
use Rattle.grammar.proofs.LoopLaws.{both_steps, Loops, list_by}
use Rattle.grammar.proofs.TermLaws.{Along, along_first}

lists_by : (more : ℕ) (ws : List Word) → ¬ (more ≡ 0) → lists_end more ws ≡ apart_end (one_end (lists_end (more - 1))) (length ws) (behind ws)
lists_by zero ws h = absurd (h refl)
lists_by (suc more) ws h = let e : suc more - 1 ≡ more = omega arith in ap (λ (k : ℕ). apart_end (one_end (lists_end k)) (length ws) (behind ws)) (sym e)

lists_none : (more : ℕ) (ws : List Word) → more ≡ 0 → lists_end more ws ≡ refuse 34 (place ws)
lists_none zero ws h = refl
lists_none (suc more) ws h = absurd (omega arith)

-- ---- one of a list, and what `fun` binds

module _ (text : List ℕ) (at more : ℕ) (w : Said) (s : Stands text at w) where
  abbrev here : List Word
  here = from text at

  one_list : w.code ≡ 11 → one_end (lists_end more) here ≡ lists_end more here
  one_list e = ap (λ (b : Bool). cond b (lists_end more here) (name_end here)) (is_yes text at w s round e)

  one-else : ¬ (w.code ≡ 11) → one_end (lists_end more) here ≡ name_end here
  one-else e = ap (λ (b : Bool). cond b (lists_end more here) (name_end here)) (is_no text at w s round e)

  pub one_name : w.code ≡ 24 → Ends text (length here) (one_end (lists_end more) here) (Ok w.end)
  one_name e = ends_as text (length here) _ _ _ (Ok w.end) (omega arith) (one-else (λ q. omega arith)) (name_good text at w s e)

  pub one_bad : ¬ (w.code ≡ 24) → ¬ (w.code ≡ 11) → (why : Why) → DueAt why w → Ends text (length here) (one_end (lists_end more) here) (Err why)
  one_bad e f why d = one-else f ∙ name_bad text at w s e why d

  module _ (e : w.code ≡ 11) where
    pub one-deep : more ≡ 0 → (why : Why) → why ≡ refusal_at TextLimit w.place → Ends text (length here) (one_end (lists_end more) here) (Err why)
    one-deep z why d = ends_bad text at w _ TextLimit why s d (one_list e ∙ lists_none more here z)

    pub one_apart : ¬ (more ≡ 0) → (r : End) → EndsIn text w.end (apart_end (one_end (lists_end (more - 1)))) r → Ends text (length here) (one_end (lists_end more) here) r
    one_apart z r u =
        let o = s.onward (λ q. omega arith) in
        ends_as text _ _ _ _ r (omega (arith, o.fewer)) (one_list e ∙ lists_by more here z ∙ ap (λ (us : List Word). apart_end (one_end (lists_end (more - 1))) (length here) us) o.rest) (u (length here) o.fewer)

    pub binds-list : (r : End) → Ends text (length here) (one_end (lists_end more) here) r → EndsIn text at (binds_end (lists_end more)) r
    binds-list r u n h = ends_as text _ _ _ _ r (omega arith) (ap (λ (b : Bool). cond b (lists_end more here) (names_end n here)) (is_yes text at w s round e) ∙ sym (one_list e)) u

  pub binds_names : ¬ (w.code ≡ 11) → (r : End) → EndsIn text at names_end r → EndsIn text at (binds_end (lists_end more)) r
  binds_names e r u n h = ends_as text _ _ _ _ r (omega arith) (ap (λ (b : Bool). cond b (lists_end more here) (names_end n here)) (is_no text at w s round e)) (u n h)

-- ---- two or more

module _ (text : List ℕ) (at : ℕ) (read : Step) (n : ℕ) (enough : length (from text at) < n) where
  -- behind the first comma
  abbrev pub others : Step
  others vs = list_end read (n - 1) vs >>= λ xs. expect endRound xs

  apart_by : (k : ℕ) → 0 < k → apart_end read k (from text at) ≡ (read (from text at) >>= λ us. expect comma us >>= λ vs. list_end read (k - 1) vs >>= λ xs. expect endRound xs)
  apart_by zero h = absurd (omega arith)
  apart_by (suc k) h = let e : suc k - 1 ≡ k = omega arith in ap (λ (j : ℕ). read (from text at) >>= λ us. expect comma us >>= λ vs. list_end read j vs >>= λ xs. expect endRound xs) (sym e)

  pub apart-first : (t : End) → Ends text (length (from text at)) (read (from text at)) t → Along text (length (from text at)) (apart_end read n (from text at)) (λ us. expect comma us >>= others) t
  apart-first t d = along_first text (length (from text at)) (read (from text at)) (apart_end read n (from text at)) (λ us. expect comma us >>= others) t (apart_by n (omega arith)) d

  pub apart-second : (p : ℕ) (x : End) → Along text (length (from text at)) (apart_end read n (from text at)) others (Ok p) → Ends text (length (from text p)) (read (from text p)) x → Loops text (list_more read) (λ us. expect endRound us) (apart_end read n (from text at)) (length (from text at)) x
  apart-second p x l d =
      let fewer : length (from text p) < length (from text at) = omega (arith, l.ends.fewer, l.within) in
      record {
        step = read (from text p);
        rounds = n - 1 - 1;
        bound = length (from text p);
        total_is = step_is text _ _ _ others p l.total_is l.ends ∙ ap (λ (m : Answer (List Word)). m >>= λ us. expect endRound us) (list_by read (n - 1) (from text p) (omega arith)) ∙ both_steps (read (from text p)) (λ vs. list_more read (n - 1 - 1) vs) (λ us. expect endRound us);
        ends = d;
        enough = omega arith;
        within = omega arith;
      }

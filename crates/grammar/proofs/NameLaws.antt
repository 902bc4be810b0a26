-- Names up to a colon, and lists of names, round by round. Assumes nothing.
use Prim.Native.Nat.{ℕ, zero, suc, ◌-◌, ◌≤◌, ◌<◌}
use mathlib.Core.Path.{◌≡◌, refl, sym, ap, ◌∙◌}
use mathlib.Core.List.{List}
use native.Mathlib.Omega.{arith}
use lib.ListN.{length}
use Rattle.calculus.specs.Answer.{Answer, good, refused, ◌>>=◌}
use Rattle.notation_calculus.specs.Words.{Word}
use Rattle.words.specs.Lexed.{from}
use Rattle.std.proofs.Common.{Ok}
use Rattle.grammar.specs.Ends.{End, Ends}
use Rattle.grammar.specs.Skips.{Step, expect_code, name_end, list_more, names_more_lem, names_end, names_list}
use Rattle.grammar.proofs.LoopLaws.{both_steps, Loops, list_by}

pub plain : (m : Answer (List Word)) → (m >>= λ us. good us) ≡ m
plain (good ws) = refl
plain (refused why) = refl

plain_on : (m : Answer (List Word)) (go : Step) → (m >>= go) ≡ (m >>= λ us. go us >>= λ vs. good vs)
plain_on (good ws) go = sym (plain (go ws))
plain_on (refused why) go = refl

-- a loop that ends where it stands
pub loop_done : (text : List ℕ) (go : ℕ → Step) (fin : Step) (total : Answer (List Word)) (most p : ℕ) → Loops text go fin total most (Ok p) → total ≡ good (from text p) → Ends text most total (Ok p)
loop_done text go fin total most p l e = record { is = e; fewer = omega (arith, l.ends.fewer, l.within); lexed = l.ends.lexed }

-- a loop of plain steps that begins with a step
pub loop_from : (text : List ℕ) (at n b : ℕ) (go : ℕ → Step) (m total : Answer (List Word)) (t : End) → total ≡ (m >>= λ us. go n us) → Ends text b m t → b ≤ n → Loops text go (λ us. good us) total b t
loop_from text at n b go m total t e d h = record { step = m; rounds = n; bound = b; total_is = e ∙ plain_on m (λ us. go n us); ends = d; enough = h; within = omega arith }

module _ (text : List ℕ) (at : ℕ) (n : ℕ) (enough : length (from text at) < n) (t : End) (first : Ends text (length (from text at)) (name_end (from text at)) t) where
  names-by : (k : ℕ) → 0 < k → names_end k (from text at) ≡ (name_end (from text at) >>= λ us. names_more_lem (k - 1) us)
  names-by zero h = absurd (omega arith)
  names-by (suc k) h = let e : suc k - 1 ≡ k = omega arith in ap (λ (j : ℕ). name_end (from text at) >>= λ us. names_more_lem j us) (sym e)

  pub names-first : Loops text names_more_lem (λ us. good us) (names_end n (from text at)) (length (from text at)) t
  names-first = loop_from text at (n - 1) (length (from text at)) names_more_lem (name_end (from text at)) _ t (names-by n (omega arith)) first (omega arith)

  pub list_first : (closes : ℕ) → Loops text (list_more name_end) (λ us. expect_code closes us) (names_list closes n (from text at)) (length (from text at)) t
  list_first closes = record {
    step = name_end (from text at);
    rounds = n - 1;
    bound = length (from text at);
    total_is = ap (λ (m : Answer (List Word)). m >>= λ us. expect_code closes us) (list_by name_end n (from text at) (omega arith)) ∙ both_steps (name_end (from text at)) (λ vs. list_more name_end (n - 1) vs) (λ us. expect_code closes us);
    ends = first;
    enough = omega arith;
    within = omega arith;
  }

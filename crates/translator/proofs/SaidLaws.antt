-- What is answered where bytes fit the output, and where they do not; and that an answer with what it leaves is told by the definitions'
-- own. Assumes nothing.
use Prim.Native.Nat.{ℕ, ◌≤◌, ◌<◌}
use mathlib.Core.Path.{◌≡◌, sym, ap, subst, ◌∙◌}
use mathlib.Core.List.{List}
use native.Mathlib.Omega.{arith}
use lib.ListN.{length, length-append}
use lib.Seq.{sets}
use borrow.Author.Tests.{lt-leb, le-leb}
use Rattle.calculus.specs.Answer.{Answer, good, refused, refuse}
use Rattle.calculus.proofs.Answers.{refused≢good, good-inj, refused-inj}
use Rattle.calculus.specs.Translate.{said_of, out_of, Call}
use Rattle.laws.proofs.Regions.{sets-front}
use Rattle.translator.specs.Said.{said_answer, in_room, AnswerSays, called}
use Rattle.std.specs.declared.result.Result.{Result}
use Rattle.std.specs.declared.result.Result.TheVariants.{Ok, Err}
use Rattle.answers.specs.declared.Reason.{Reason}
use Rattle.answers.specs.declared.Refusal.{Refusal}
use Rattle.answers.specs.Refusals.{refusal_at}
use Rattle.answers.proofs.Reasons.{same_why}

module _ (bytes out : List ℕ) where
  in-short : length out < length bytes → in_room bytes (length out) ≡ refuse 17 (length bytes)
  unfolding in_room
  in-short h = rw (lt-leb (length bytes) (length out) h)

  in-fits : length bytes ≤ length out → in_room bytes (length out) ≡ good bytes
  unfolding in_room
  in-fits h = rw (le-leb (length bytes) (length out) h)

  pub says_short : (n : ℕ) → n ≡ length bytes → length out < n → AnswerSays (Err (refusal_at Reason.ShortOutput n)) out out (in_room bytes (length out))
  says_short n e h =
      let f = in-short (subst (λ (x : ℕ). length out < x) e h) in
      record { said = ap (λ (x : ℕ). refuse 17 x) e ∙ sym (ap said_of f); wrote = sym (ap (λ (a : Answer (List ℕ)). out_of a out) f) }

  pub says_fits : (n : ℕ) (after : List ℕ) → length bytes ≤ length out → n ≡ length bytes → after ≡ sets out 0 bytes
      → AnswerSays (Ok n) out after (in_room bytes (length out))
  says_fits n after h e w =
      let f = in-fits h in
      record { said = ap (λ (x : ℕ). good x) e ∙ sym (ap said_of f); wrote = w ∙ sets-front bytes out h ∙ sym (ap (λ (a : Answer (List ℕ)). out_of a out) f) }

-- what is written lies within the output
pub written_in : (a : Answer (List ℕ)) (n : ℕ) (before after : List ℕ) → good n ≡ said_of a → after ≡ out_of a before → n ≤ length after
written_in (good bytes) n before after e f = let l : n ≡ length bytes = cc in rw (f, length-append) (omega arith)
written_in (refused why) n before after e f = let z : ◌≡◌ {A = ℕ} 0 1 = cc in omega arith

-- ---- an answer says what it is

-- an answer, what is left of the output, and what is left of the working memory
pub record SameResult {A : Type 0} (r q : A) (o o' w w' : List ℕ) : Type 0 where
  pub answer : r ≡ q
  pub out : o ≡ o'
  pub work : w ≡ w'

-- an answer says what it is
same_answer : (r q : Result ℕ Refusal) → said_answer r ≡ said_answer q → r ≡ q
same_answer (Ok m) (Ok n) e = ap {B = Result ℕ Refusal} (λ (x : ℕ). Ok x) (good-inj e)
same_answer (Ok m) (Err p) e = absurd (refused≢good (sym e))
same_answer (Err p) (Ok n) e = absurd (refused≢good e)
same_answer (Err p) (Err q) e = ap {B = Result ℕ Refusal} (λ (x : Refusal). Err x) (same_why p q (refused-inj e))

pub same-call : (r q : Result ℕ Refusal) (o o' w w' : List ℕ) → called r o w ≡ called q o' w' → SameResult r q o o' w w'
same-call r q o o' w w' e = record {
  answer = same_answer r q (ap (λ (c : Call). c.said) e);
  out = ap (λ (c : Call). c.out) e;
  work = ap (λ (c : Call). c.work) e;
}

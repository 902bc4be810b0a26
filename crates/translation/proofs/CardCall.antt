-- The call with the card's profile: it refuses by the profile exactly when one of the three rules is broken, at the lowest place, and
-- otherwise it is the call without. Assumes nothing.
use Prim.Native.Nat.{ℕ, ◌≤◌}
use mathlib.Core.Path.{◌≡◌, refl, sym, ap, ◌∙◌}
use mathlib.Core.Logic.{◌↔◌}
use mathlib.Core.Bool.{Bool, true, false}
use mathlib.Core.List.{List}
use native.Mathlib.Omega.{arith}
use lib.Dec.{leb}
use lib.ListN.{length}
use borrow.Author.Tests.{le-leb}
use Rattle.calculus.specs.Answer.{Refusal, Answer, good, refused, ◌>>=◌, need}
use Rattle.calculus.proofs.Answers.{refused≢good, refused-inj}
use Rattle.calculus.specs.Net.{Net}
use Rattle.calculus.specs.Lean.{lean}
use Rattle.calculus.specs.Makers.{makers_of}
use Rattle.calculus.specs.Translate.{full, Wish, asked_bytes, answer, said_of, out_of, work_of, call}
use Rattle.export_calculus.specs.Card.{on_card}
use Rattle.export_calculus.specs.CardCall.{card_answer, card_call}
use Rattle.export_theorems.specs.Broken.{Breaks, Broken, root_type_lem, ring, unread}
use Rattle.export_theorems.proofs.Card.{root_of_lem, card_refused, card_exact}

-- without the check it is the call as it was
pub card_unasked : (w : Wish) (s out work : List ℕ) → card_call false w s out work ≡ call w s out work
unfolding card_call card_answer call answer
card_unasked w s out work = refl

-- .. and a call that is accepted with it is the call as it was, too
passes : (a : Answer (Unit {0})) (r : Answer (List ℕ)) (n : ℕ) → said_of (a >>= λ _. r) ≡ good n → (a >>= λ _. r) ≡ r
passes (good tt) r n h = refl
passes (refused why) r n h = absurd (refused≢good h)

no_check : (t : Bool) (f : Answer Net) (check : Net → Answer (Unit {0})) (r : Net → Answer (List ℕ)) (n : ℕ)
    → said_of (need t 1 0 >>= λ _. f >>= λ m. check m >>= λ _. r m) ≡ good n → (need t 1 0 >>= λ _. f >>= λ m. check m >>= λ _. r m) ≡ (need t 1 0 >>= λ _. f >>= r)
no_check false f check r n h = absurd (refused≢good h)
no_check true (refused why) check r n h = absurd (refused≢good h)
no_check true (good m) check r n h = passes (check m) (r m) n h

pub card_accepted : (card : Bool) (w : Wish) (s out work : List ℕ) (n : ℕ) → (card_call card w s out work).said ≡ good n → card_call card w s out work ≡ call w s out work
unfolding card_call card_answer call answer
card_accepted card w s out work n h =
    ap (λ (a : Answer (List ℕ)). record { said = said_of a; out = out_of a out; work = work_of work })
    (no_check (leb 32768 (length work)) (full s) (on_card card s) (λ m. need (leb (length (asked_bytes w m (makers_of s))) (length out)) 17 (length (asked_bytes w m (makers_of s))) >>= λ _. good (asked_bytes w m (makers_of s))) n h)

-- 1 to 16 come first: where one of them refuses, the profile is not looked at
no_net_lem : (t : Bool) (f : Answer Net) (check : Net → Answer (Unit {0})) (r : Net → Answer (List ℕ)) (why : Refusal)
    → (need t 1 0 >>= λ _. f) ≡ refused why → (need t 1 0 >>= λ _. f >>= λ m. check m >>= λ _. r m) ≡ refused why
no_net_lem false f check r why h = ap refused (refused-inj h)
no_net_lem true (refused x) check r why h = ap refused (refused-inj h)
no_net_lem true (good m) check r why h = absurd (refused≢good (sym h))

early_answer : (card : Bool) (w : Wish) (s out work : List ℕ) (why : Refusal) → (need (leb 32768 (length work)) 1 0 >>= λ _. full s) ≡ refused why → card_answer card (length work) w s (length out) ≡ refused why
unfolding card_answer
early_answer card w s out work why h =
    no_net_lem (leb 32768 (length work)) (full s) (on_card card s) (λ m. need (leb (length (asked_bytes w m (makers_of s))) (length out)) 17 (length (asked_bytes w m (makers_of s))) >>= λ _. good (asked_bytes w m (makers_of s))) why h

pub card_early : (card : Bool) (w : Wish) (s out work : List ℕ) (why : Refusal) → (need (leb 32768 (length work)) 1 0 >>= λ _. full s) ≡ refused why
    → (card_call card w s out work ≡ call w s out work) × ((card_call card w s out work).said ≡ refused why)
unfolding card_call
card_early card w s out work why h =
    let a = early_answer card w s out work why h in (
      ap (λ (a : Answer (List ℕ)). record { said = said_of a; out = out_of a out; work = work_of work }) (a ∙ sym (early_answer false w s out work why h)) ∙ card_unasked w s out work,
      ap said_of a,
    )

-- a rule's number is 27 or more
rule_number_lem : {m : Net} {why : Refusal} (τ : _) → Broken τ m why → 27 ≤ why.number
rule_number_lem τ (root_type_lem f) = omega arith
rule_number_lem τ (ring c l h) = omega arith
rule_number_lem τ (unread c n u h) = omega arith

module _ (w : Wish) (s out work : List ℕ) (m : Net) (memory : 32768 ≤ length work) (e : full s ≡ good m) where
  abbrev bytes : List ℕ
  bytes = asked_bytes w m (makers_of s)

  abbrev fitted : Answer (List ℕ)
  fitted = need (leb (length bytes) (length out)) 17 (length bytes) >>= λ _. good bytes

  with-check : (a : Answer (Unit {0})) → on_card true s m ≡ a → card_answer true (length work) w s (length out) ≡ (a >>= λ _. fitted)
  unfolding card_answer
  with-check a q = rw (le-leb 32768 (length work) memory, e, q)

  without : answer (length work) w s (length out) ≡ fitted
  unfolding answer
  without = rw (le-leb 32768 (length work) memory, e)

  passed : on_card true s m ≡ good tt → card_call true w s out work ≡ call w s out work
  unfolding card_call call
  passed q = ap (λ (a : Answer (List ℕ)). record { said = said_of a; out = out_of a out; work = work_of work }) (with-check (good tt) q ∙ sym without)

  stopped : (why : Refusal) → on_card true s m ≡ refused why → ((card_call true w s out work).said ≡ refused why) × ((card_call true w s out work).out ≡ out)
  unfolding card_call
  stopped why q = (ap said_of (with-check (refused why) q), ap (λ (a : Answer (List ℕ)). out_of a out) (with-check (refused why) q))

  -- 17 is the only refusal that is left once the profile has passed
  fitted-number : (t : Bool) (why : Refusal) → said_of (need t 17 (length bytes) >>= λ _. good bytes) ≡ refused why → why.number ≡ 17
  fitted-number true why h = absurd (refused≢good (sym h))
  fitted-number false why h = ap (λ (x : Refusal). x.number) (sym (refused-inj h))

  after-pass : (why : Refusal) → on_card true s m ≡ good tt → (card_call true w s out work).said ≡ refused why → why.number ≡ 17
  unfolding card_call
  after-pass why q h = fitted-number (leb (length bytes) (length out)) why (sym (ap said_of (with-check (good tt) q)) ∙ h)

  -- refused by the profile exactly when one of its three rules is broken
  pub card_call_exact : ((why : Refusal) × (27 ≤ why.number) × ((card_call true w s out work).said ≡ refused why)) ↔ Breaks (root_of_lem s m e).type (lean m)
  card_call_exact = (
    (λ r. there (on_card true s m) refl r.0 r.1 r.2),
    (λ b. let x = (card_exact s m e).1 b in (x.0, rule_number_lem (root_of_lem s m e).type (card_refused s m e x.0 x.1), (stopped x.0 x.1).0)),
  )
    where
      there : (a : Answer (Unit {0})) → on_card true s m ≡ a → (why : Refusal) → 27 ≤ why.number → (card_call true w s out work).said ≡ refused why → Breaks (root_of_lem s m e).type (lean m)
      there (refused x) q why l h = (card_exact s m e).0 (x, q)
      there (good tt) q why l h = let z = after-pass why q h in absurd (omega arith)

  -- .. the refusal tells which, at the lowest place, and the output stays
  pub card_call_refused : (why : Refusal) → 27 ≤ why.number → (card_call true w s out work).said ≡ refused why
      → Broken (root_of_lem s m e).type (lean m) why × ((card_call true w s out work).out ≡ out)
  card_call_refused why l h = by (on_card true s m) refl
    where
      by : (a : Answer (Unit {0})) → on_card true s m ≡ a → Broken (root_of_lem s m e).type (lean m) why × ((card_call true w s out work).out ≡ out)
      by (good tt) q = let z = after-pass why q h in absurd (omega arith)
      by (refused x) q =
          let y : x ≡ why = refused-inj (sym (stopped x q).0 ∙ h) in
          (card_refused s m e why (q ∙ ap refused y), (stopped x q).1)

  -- a sheet that breaks none is written exactly as without the profile
  pub card_passes : (Breaks (root_of_lem s m e).type (lean m) → ⊥) → card_call true w s out work ≡ call w s out work
  card_passes f = by (on_card true s m) refl
    where
      by : (a : Answer (Unit {0})) → on_card true s m ≡ a → card_call true w s out work ≡ call w s out work
      by (good tt) q = passed q
      by (refused x) q = absurd (f ((card_exact s m e).0 (x, q)))

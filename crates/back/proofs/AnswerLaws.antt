-- What a call answers, by what its stages found. Assumes nothing.
use Prim.Native.Nat.{ℕ, ◌*◌, ◌<◌, ◌≤◌}
use mathlib.Core.Path.{◌≡◌, refl, sym, ap, subst, ◌∙◌}
use mathlib.Core.Bool.{Bool, true, false}
use mathlib.Core.List.{List}
use native.Mathlib.Omega.{arith}
use lib.Dec.{leb}
use lib.ListN.{length}
use borrow.Author.Tests.{le-leb, lt-leb}
use Rattle.std.specs.Prelude.{Result, Ok, Err}
use Rattle.answers.specs.Refusals.{said_why, refusal_at}
use Rattle.answers.specs.declared.Reason.{Reason}
use Rattle.answers.specs.declared.Refusal.{Refusal as Why}
use Rattle.calculus.specs.Answer.{Refusal, Answer, good, refused, ◌>>=◌, need}
use Rattle.calculus.specs.Net.{Element, Net}
use Rattle.calculus.specs.NetRead.{Known, read_net}
use Rattle.calculus.specs.Record.{All}
use Rattle.calculus.specs.Translate.{work_of}
use Rattle.calculus.proofs.Answers.{refused≢good, good-inj, refused-inj}
use Rattle.foreign_calculus.specs.Foreign.{Bytes, check, Checked, check_call}
use Rattle.foreign_theorems.proofs.Exact.{check-exact}
use Rattle.foreign.specs.Walk.{said_check, called_check}
use Rattle.back_calculus.specs.Back.{gates, open_ins, back_sheet}
use Rattle.back_calculus.specs.Returned.{no_point, within, returned, back_answer, back_call}
use Rattle.back_theorems.proofs.Main.{accepts-read, parts_of_lem}
use Rattle.back.specs.Gates.{net_here, AcceptedNet, OfParts, PartsTo, parts_or25}
use Rattle.translator.specs.Said.{in_room, AnswerSays, called}
use Rattle.back.specs.Said.{said_parts}
use Rattle.back.specs.Answered.{limit_answer, net_answer}
use Rattle.back.specs.declared.gates.Parts.{Parts}
use Rattle.back.proofs.GateLaws.{parts_to, here-is}

-- ---- 26

module _ (m : Net) where
  within_none : length m.elements ≡ 0 → within m ≡ false
  within_none e = rw (lt-leb 1 (length m.elements) (omega arith))

  within-many : 1 ≤ length m.elements → 16 < length m.elements → within m ≡ false
  within-many a h = rw (le-leb 1 (length m.elements) a, lt-leb (length m.elements) 16 h)

  within-open : 1 ≤ length m.elements → length m.elements ≤ 16 → 24 < open_ins (gates m) → within m ≡ false
  within-open a b h = rw (le-leb 1 (length m.elements) a, le-leb (length m.elements) 16 b, lt-leb (open_ins (gates m)) 24 h)

  within_all : 1 ≤ length m.elements → length m.elements ≤ 16 → open_ins (gates m) ≤ 24 → within m ≡ true
  within_all a b h = rw (le-leb 1 (length m.elements) a, le-leb (length m.elements) 16 b, le-leb (open_ins (gates m)) 24 h)

  module _ (out : List ℕ) where
    says-26 : within m ≡ false → AnswerSays (Err (refusal_at Reason.WrongPartCount 0)) out out (limit_answer m (length out))
    unfolding limit_answer
    says-26 e = rw e (record { said = refl; wrote = refl })

    pub says_none : length m.elements ≡ 0 → AnswerSays (Err (refusal_at Reason.WrongPartCount 0)) out out (limit_answer m (length out))
    says_none e = says-26 (within_none e)

    pub says-many : 16 < length m.elements → AnswerSays (Err (refusal_at Reason.WrongPartCount 0)) out out (limit_answer m (length out))
    says-many h = says-26 (within-many (omega arith) h)

    pub says-open : 1 ≤ length m.elements → length m.elements ≤ 16 → 24 < open_ins (gates m) → AnswerSays (Err (refusal_at Reason.WrongPartCount 0)) out out (limit_answer m (length out))
    says-open a b h = says-26 (within-open a b h)

    pub says-within : (r : Result ℕ Why) (after : List ℕ) → 1 ≤ length m.elements → length m.elements ≤ 16 → open_ins (gates m) ≤ 24 → AnswerSays r out after (in_room (back_sheet m) (length out)) → AnswerSays r out after (limit_answer m (length out))
    unfolding limit_answer
    says-within r after a b h w = rw (within_all a b h) w

-- ---- 25

module _ (s : List ℕ) (a : AcceptedNet s) (p : Result Parts Why) (e : said_parts p ≡ parts_or25 (net_here s).elements) where
  abbrev es : List Element
  es = (net_here s).elements

  pub says_25 : (out : List ℕ) (why : Why) → p ≡ Err why → AnswerSays (Err why) out out (net_answer (net_here s) (length out))
  unfolding net_answer
  says_25 out why q = by (no_point (net_here s).elements 0) (sym (ap said_parts q) ∙ e)
    where
      by : (x : Answer (Unit {0})) → refused (said_why why) ≡ (x >>= λ _. good (parts_to (length (net_here s).elements))) → AnswerSays (Err why) out out (x >>= λ _. limit_answer (net_here s) (length out))
      by (good u) z = absurd (refused≢good z)
      by (refused w) z = rw (← refused-inj z) (record { said = refl; wrote = refl })

  no-point-here : (v : Parts) → p ≡ Ok v → (no_point (net_here s).elements 0 ≡ good tt) × (v.count ≡ length (net_here s).elements) × (v.wires ≡ 4 * v.count)
  no-point-here v q = by (no_point (net_here s).elements 0) (sym (ap said_parts q) ∙ e)
    where
      by : (x : Answer (Unit {0})) → good (record { parts = v.count; wires = v.wires }) ≡ (x >>= λ _. good (parts_to (length (net_here s).elements))) → (x ≡ good tt) × (v.count ≡ length (net_here s).elements) × (v.wires ≡ 4 * v.count)
      by (good u) z =
          let k = good-inj z in
          let m : v.count ≡ length (net_here s).elements = ap (λ (y : PartsTo). y.parts) k in
          (refl, m, ap (λ (y : PartsTo). y.wires) k ∙ ap (λ (y : ℕ). 4 * y) (sym m))
      by (refused why) z = absurd (refused≢good (sym z))

  pub parts-here : (v : Parts) → p ≡ Ok v → OfParts s v.count × (v.wires ≡ 4 * v.count)
  parts-here v q =
      let k : All Known (net_here s).elements = subst (λ (m : Net). All Known m.elements) (sym (here-is s a)) a.accepts.known in
      let z = no-point-here v q in
      (record { accepted = a; parts = parts_of_lem (net_here s).elements 0 k z.0; count = z.1 }, z.2)

  pub says_parts : (v : Parts) → p ≡ Ok v → (r : Result ℕ Why) (out after : List ℕ) → AnswerSays r out after (limit_answer (net_here s) (length out)) → AnswerSays r out after (net_answer (net_here s) (length out))
  unfolding net_answer
  says_parts v q r out after z = rw (no-point-here v q).0 z

-- ---- the call

passed : (t : Bool) (a : Answer (Unit {0})) → good tt ≡ (need t 1 0 >>= λ _. a) → (t ≡ true) × (a ≡ good tt)
passed true a e = (refl, sym e)
passed false a e = absurd (refused≢good (sym e))

off : (t : Bool) (a : Answer (Unit {0})) (f : Unit {0} → Answer (List ℕ)) (g : List ℕ → Answer (List ℕ)) (why : Refusal) → refused why ≡ (need t 1 0 >>= λ _. a) → (need t 1 0 >>= λ _. (a >>= f) >>= g) ≡ refused why
off true (good u) f g why e = absurd (refused≢good e)
off true (refused w) f g why e = ap refused (sym (refused-inj e))
off false a f g why e = ap refused (sym (refused-inj e))

answer-net : (a : Answer (Unit {0})) (t : Bool) (room : ℕ) (b : List ℕ)
    → ((a >>= λ _. need t 26 0 >>= λ _. good b) >>= λ sheet. need (leb (length sheet) room) 17 (length sheet) >>= λ _. good sheet)
    ≡ (a >>= λ _. need t 26 0 >>= λ _. need (leb (length b) room) 17 (length b) >>= λ _. good b)
answer-net (good u) true room b = refl
answer-net (good u) false room b = refl
answer-net (refused why) t room b = refl

module _ (lean : Bool) (s w w' : List ℕ) (v : Result (Unit {0}) Why) (e : called_check v w' ≡ check_call lean s w) where
  said-is : said_check v ≡ (need (leb 32768 (length w)) 1 0 >>= λ _. check lean s)
  unfolding check_call
  said-is = ap (λ (c : Checked). c.said) e

  work-is : w' ≡ work_of w
  unfolding check_call
  work-is = ap (λ (c : Checked). c.work) e

  pub call_refused : (why : Why) → v ≡ Err why → (out : List ℕ) → called (Err why) out w' ≡ back_call lean s out w
  unfolding back_call back_answer returned
  call_refused why q out =
      let z : back_answer (length w) lean s (length out) ≡ refused (said_why why) = off (leb 32768 (length w)) (check lean s) _ _ (said_why why) (sym (ap said_check q) ∙ said-is) in
      rw (z, work-is)

  module _ (u : Unit {0}) (q : v ≡ Ok u) (b : Bytes s) where
    checked : (leb 32768 (length w) ≡ true) × (check lean s ≡ good tt)
    checked = passed (leb 32768 (length w)) (check lean s) (sym (ap said_check q) ∙ said-is)

    pub call-accepted : AcceptedNet s
    call-accepted = record { told = lean; accepts = (check-exact lean s b).0 checked.1 }

    read_is : read_net s ≡ good (net_here s)
    read_is = accepts-read call-accepted.told s call-accepted.accepts ∙ ap good (sym (here-is s call-accepted))

    answer-is : (room : ℕ) → back_answer (length w) lean s room ≡ net_answer (net_here s) room
    unfolding back_answer returned net_answer limit_answer in_room
    answer-is room = rw (checked.0, checked.1, read_is) (answer-net (no_point (net_here s).elements 0) (within (net_here s)) room (back_sheet (net_here s)))

    pub call-good : (r : Result ℕ Why) (out after : List ℕ) → AnswerSays r out after (net_answer (net_here s) (length out)) → called r after w' ≡ back_call lean s out w
    unfolding back_call
    call-good r out after y = rw (answer-is (length out), work-is, y.said, y.wrote)

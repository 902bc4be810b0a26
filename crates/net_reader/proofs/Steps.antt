-- What a step tells of the bytes. Assumes nothing.
use Prim.Native.Nat.{ℕ, ◌+◌}
use mathlib.Core.Path.{◌≡◌, refl, sym, ap, ◌∙◌}
use native.Mathlib.Omega.{arith}
use mathlib.Core.List.{List}
use Rattle.std.specs.Prelude.{Option, Some, None, Result, Ok, Err}
use Rattle.calculus.specs.Answer.{Refusal, Answer, good, refused, numbered}
use Rattle.calculus.specs.Net.{point, part, Item, element, wire, pin}
use Rattle.calculus.specs.NetRead.{item_size, Front, item, ended, broken, item_at}
use Rattle.answers.specs.declared.Refusal.{Refusal as Why}
use Rattle.answers.proofs.Reasons.{why_of, why_told}
use Rattle.net_reader.specs.Said.{said_record, said_step, stepped}
use Rattle.net_reader.specs.declared.Record.{Record}
use Rattle.net_reader.specs.declared.Record.TheVariants as rec
use Rattle.net_reader.specs.declared.Step.{Step}

-- a record, the end, or a refusal
kind : Answer (Option (Item × ℕ)) → ℕ
kind (good (Some p)) = 0
kind (good None) = 1
kind (refused why) = 2

handed : Item × ℕ → Answer (Option (Item × ℕ)) → Item × ℕ
handed d (good (Some p)) = p
handed d (good None) = d
handed d (refused why) = d

why_of_step : Refusal → Answer (Option (Item × ℕ)) → Refusal
why_of_step d (good x) = d
why_of_step d (refused why) = why

pub step_some : (x : Front) (at : ℕ) {r : Item} {past : ℕ} → good (Some (r, past)) ≡ stepped x at → (x ≡ item r) × (past ≡ at + item_size r)
unfolding handed kind
step_some (item q) at {r} {past} e =
    let h : q ≡ r = sym (ap (λ a. (handed (r, past) a).0) e) in
    (ap item h, ap (λ a. (handed (r, past) a).1) e ∙ ap (λ (z : Item). at + item_size z) h)
step_some ended at e = absurd (omega (arith, ap kind e))
step_some broken at e = absurd (omega (arith, ap kind e))

pub step_none : (x : Front) (at : ℕ) → good None ≡ stepped x at → x ≡ ended
unfolding kind
step_none (item q) at e = absurd (omega (arith, ap kind e))
step_none ended at e = refl
step_none broken at e = absurd (omega (arith, ap kind e))

pub step_off : (x : Front) (at : ℕ) {why : Refusal} → refused why ≡ stepped x at → (x ≡ broken) × (why ≡ numbered 21 at)
unfolding why_of_step kind
step_off (item q) at e = absurd (omega (arith, ap kind e))
step_off ended at e = absurd (omega (arith, ap kind e))
step_off broken at {why} e = (refl, ap (why_of_step why) e)

-- ---- the other way round

abbrev pub record_of : Item → Record
record_of (element (point i)) = rec.Point i
record_of (element (part p i)) = rec.Part p i
record_of (wire w) = rec.Wire w.from w.to
record_of (pin t) = rec.Pin t

told : (r : Record) → record_of (said_record r) ≡ r
told (rec.Point i) = refl
told (rec.Part p i) = refl
told (rec.Wire from to) = refl
told (rec.Pin t) = refl

abbrev pub step_of : Answer (Option (Item × ℕ)) → Result (Option Step) Why
step_of (good (Some (i, n))) = Ok (Some (record { found = record_of i; past = n }))
step_of (good None) = Ok None
step_of (refused why) = Err (why_of why)

pub step_told : (x : Result (Option Step) Why) → step_of (said_step x) ≡ x
step_told (Ok (Some x)) = ap (λ (r : Record). Ok (Some (record { found = r; past = x.past }))) (told x.found)
step_told (Ok None) = refl
step_told (Err e) = ap Err (why_told e)

-- the step at a record
pub read_is : (s : List ℕ) (at : ℕ) (x : Result (Option Step) Why) → said_step x ≡ stepped (item_at s at) at → (r : Item) → item_at s at ≡ item r → x ≡ Ok (Some (record { found = record_of r; past = at + item_size r }))
read_is s at x e r q = sym (step_told x) ∙ ap step_of (e ∙ ap (λ (f : Front). stepped f at) q)

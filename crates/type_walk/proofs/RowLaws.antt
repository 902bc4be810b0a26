-- Bits in a row: behind a 1, behind the sign, and behind the number. One law for each way out. Assumes nothing.
use Prim.Native.Nat.{ℕ, suc, ◌-◌, ◌≤◌}
use mathlib.Core.Path.{◌≡◌, refl, sym, ap, subst, ◌∙◌}
use mathlib.Core.Bool.{Bool, true, cond}
use mathlib.Core.List.{List}
use native.Mathlib.Omega.{arith}
use lib.ListN.{length, get_or}
use Rattle.std.proofs.Common.{Result, Ok, Err}
use Rattle.answers.specs.declared.Refusal.{Refusal}
use Rattle.answers.specs.declared.Reason.{Reason}
use Rattle.answers.specs.Refusals.{refusal_at, said_why}
use Rattle.calculus.specs.Answer.{Answer, good, refused, ◌>>=◌, refuse}
use Rattle.calculus.proofs.Answers.{refused≢good, refused-inj}
use Rattle.notation_calculus.specs.Words.{plus, power, Token, sign, part, number, name, Word}
use Rattle.notation_calculus.specs.Trees.{Number, Text}
use Rattle.notation_calculus.specs.Grammar.{Got, got, peek, behind, place, is, value_of, read_number, number_at}
use Rattle.notation_calculus.specs.Making.{State, Found, Entry, Scope, number_of, more_bits, ones_of}
use Rattle.notation_theorems.proofs.Answering.{On, on_any, on_either, on_good}
use Rattle.notation_machine.specs.TypeMachine.{TypeLevel, Typing, TypeHere, side_from}
use Rattle.words.specs.Next.{Said}
use Rattle.words.specs.Lexed.{from, Stands}
use Rattle.words.specs.Marks.{Marks}
use Rattle.grammar.specs.Ends.{rest_of, Ends}
use Rattle.grammar.specs.Skips.{number_end}
use Rattle.grammar.proofs.EndLaws.{is_yes, mark-stands, mark_no}
use Rattle.grammar.proofs.SkipLaws.{number-rest}
use Rattle.making_memory.specs.Map.{type_count_at, making_size}
use Rattle.made_types.specs.Listing.{RowSays}
use Rattle.clauses.specs.Groups.{value_in, rest_in_lem}
use Rattle.clauses.specs.Numbers.{no_number, NumberThere}
use Rattle.scopes.specs.declared.frames.Frame.{Frame}
use Rattle.scopes.specs.declared.arguments.Value.{Value}
use Rattle.scopes.specs.Frames.{frame_in, HoldsScope}
use Rattle.scopes.specs.Arguments.{numbers_known, NumbersKnown, ValueIs, ValueRead}
use Rattle.type_walk.specs.declared.levels.Here.{Here}
use Rattle.type_walk.specs.declared.levels.Walking as code
use Rattle.type_walk.specs.Holding.{here_with, AtLevel}
use Rattle.type_walk.specs.Moves.{CanMove, Moving, Moved, Known, found_in_lem, Anything, side_after, ones_after, power_after, row_after}
use Rattle.type_walk.proofs.MoveLaws.{onward, moved_by, moved_as, refused_moved}
use Rattle.type_walk.proofs.TableLaws.{table_refused, table-can, table-found}

-- anything known is enough for **1**
pub can_one : (text w : List ℕ) (h : Here) → CanMove text w h Anything → CanMove text w h (Known 0)
can_one text w h C = record { X = C.X; m₀ = C.m₀; base = C.base; σ = C.σ; S = C.S; K = C.K; held = C.held; known = C.held.walkable.state.types.some }

-- ---- behind a 1

module _ (text : List ℕ) (at : ℕ) (v : Said) (m : Marks text at v) where
  abbrev ws : List Word
  ws = from text at

  abbrev ones_if : Bool → ℕ → List Word → TypeHere → State → Answer Typing
  ones_if b p us t σ = cond b (number_at us >>= λ k. number_of t.scope.numbers k.value >>= λ n. ones_of p k.value.place n σ >>= λ x. good (side_from t x k.rest)) (good (side_from t (found_in_lem 0 σ) ws))

  module _ (w w' : List ℕ) (h : Here) (r : Result code.Walking Refusal) where
    pub ones_power : v.code ≡ 25 → Moved text w h Anything (power_after text v.place v.end) r w' → Moved text w h Anything (ones_after text at) r w'
    ones_power e M = let s = mark-stands text at v m 25 e (λ z. omega arith) in moved_as Anything (power_after text v.place v.end) (ones_after text at) (λ X bodies σ S K.
        ap (λ (b : Bool). ones_if b (place ws) (behind ws) (here_with h S K) σ) (is_yes text at v s power e)
        ∙ ap (λ (p : ℕ). ones_if true p (behind ws) (here_with h S K) σ) (sym s.place)
        ∙ ap (λ (us : List Word). ones_if true v.place us (here_with h S K) σ) (onward text at v s 24 e).rest) M

    pub ones_none : ¬ (v.code ≡ 25) → Moved text w h (Known 0) (side_after text 0 at) r w' → Moved text w h Anything (ones_after text at) r w'
    ones_none n M = moved_by (Known 0) Anything (side_after text 0 at) (ones_after text at) (λ X m₀ base σ S K A _. (A.walkable.state.types.some, λ bodies. ap (λ (b : Bool). ones_if b (place ws) (behind ws) (here_with h S K) σ) (mark_no text at v power m.power n))) M

-- ---- behind the sign

not_read : {B : Type 0} (q : Refusal) (f : Got Number → Answer B) (m : Answer (Got Number)) → rest_of m ≡ refused (said_why q) → (m >>= f) ≡ refused (said_why q)
not_read q f (good g) e = absurd (refused≢good (sym e))
not_read q f (refused why) e = ap refused (refused-inj e)

there_by : (us : List Word) (m : Answer (Got Number)) → rest_of m ≡ good us → m ≡ got (value_in no_number m) (rest_in_lem m)
there_by us (good g) e = refl
there_by us (refused why) e = absurd (refused≢good e)

-- the place of a number is that of its first word
abbrev PlacedAt : ℕ → Got Number → Type 0
PlacedAt at g = g.value.place ≡ at

placed_by : (t : Token) (us : List Word) → On (PlacedAt (place us)) (read_number t us)
placed_by (sign t) us = tt
placed_by (part p) us = tt
placed_by (number n) us = refl
placed_by (name n) us = on_either (PlacedAt (place us)) (is plus (behind us)) _ _ (on_any (PlacedAt (place us)) (value_of (peek (behind (behind us))).token (place (behind (behind us)))) _ λ k. refl) refl

number-place : (us vs : List Word) (k : Number) → number_at us ≡ got k vs → k.place ≡ place us
number-place us vs k e = on_good (PlacedAt (place us)) (number_at us) (record { value = k; rest = vs }) (placed_by (peek us).token us) e

module _ (text : List ℕ) (at : ℕ) where
  abbrev us : List Word
  us = from text at

  pub power_due : (w : List ℕ) (h : Here) (p : ℕ) (q : Refusal) → Ends text (length us) (number_end us) (Err q) → Moved text w h Anything (power_after text p at) (Err q) w
  power_due w h p q E = refused_moved Anything (power_after text p at) q (λ X m₀ base σ S K A _ bodies. not_read q _ (number_at us) (number-rest us ∙ E))

  pub number_there : (end : ℕ) → Ends text (length us) (number_end us) (Ok end) → NumberThere us
  number_there end E = there_by (from text end) (number_at us) (number-rest us ∙ E.is)

module _ (text w : List ℕ) (h : Here) (f : Frame) (F : f ≡ frame_in w h.frame) where
  pub numbers-known : CanMove text w h Anything → NumbersKnown text w f
  numbers-known C =
      let held = C.held.walkable.scope in
      let low : f.variables ≤ h.top = omega (arith, ap (λ (x : Frame). x.variables) F, held.under, held.entries) in
      record {
        places = record { room = held.places.room; most = omega (arith, low, held.places.most); inside = λ j a c. held.places.inside j (omega arith) (omega (arith, low)) };
        ordered = subst (λ (x : Frame). x.numbers ≤ x.variables) (sym F) held.parameters.numbers_next;
      }

  module _ (sign at : ℕ) (r : Value) (N : ValueRead text w f (from text at) r) where
    numbers_of : (S : Scope) → HoldsScope text w h.frame h.top S → S.numbers ≡ numbers_known text w f
    numbers_of S H = sym H.parameters.numbers ∙ ap (numbers_known text w) (sym F)

    abbrev counted : ℕ → TypeHere → State → Answer ℕ → Answer Typing
    counted end t σ m = m >>= λ n. ones_of sign N.read.place n σ >>= λ x. good (side_from t x (from text end))

    -- what is answered, where the number's value is known
    power-is : (X : Text) (m₀ base : ℕ) (σ : State) (S : Scope) (K : List TypeLevel) → AtLevel text w X m₀ base σ h S K → (bodies : List (List Word)) (m : Answer ℕ) → number_of (numbers_known text w f) N.read ≡ m → power_after text sign at X bodies (here_with h S K) σ ≡ counted r.end (here_with h S K) σ m
    power-is X m₀ base σ S K A bodies m g =
        ap (λ (a : Answer (Got Number)). a >>= λ k. number_of S.numbers k.value >>= λ n. ones_of sign k.value.place n σ >>= λ x. good (side_from (here_with h S K) x k.rest)) N.is
        ∙ ap (λ (Γ : List Entry). counted r.end (here_with h S K) σ (number_of Γ N.read)) (numbers_of S A.walkable.scope)
        ∙ ap (counted r.end (here_with h S K) σ) g

    -- what was read, by what the code has of it
    says : (x : Result ℕ Refusal) → r.value ≡ x → ValueIs text w f N.read x
    says x e = subst (ValueIs text w f N.read) e N.says

    pub power-bad : (q : Refusal) → r.value ≡ Err q → Moved text w h Anything (power_after text sign at) (Err q) w
    power-bad q e = refused_moved Anything (power_after text sign at) q (λ X m₀ base σ S K A _ bodies. power-is X m₀ base σ S K A bodies (refused (said_why q)) (says (Err q) e))

    module _ (n : ℕ) (e : r.value ≡ Ok n) where
      pub power_zero : n ≡ 0 → (u : Said) → Stands text at u → Moved text w h Anything (power_after text sign at) (Err (refusal_at Reason.UnknownName u.place)) w
      power_zero z u s = refused_moved Anything (power_after text sign at) (refusal_at Reason.UnknownName u.place) (λ X m₀ base σ S K A _ bodies.
          power-is X m₀ base σ S K A bodies (good n) (says (Ok n) e).0
          ∙ ap (λ (k : ℕ). counted r.end (here_with h S K) σ (good k)) z
          ∙ ap (λ (p : ℕ). refuse 33 p) (number-place (from text at) (from text r.end) N.read N.is ∙ sym s.place))

      pub power-some : ¬ (n ≡ 0) → (w' : List ℕ) (t : Result code.Walking Refusal) → Moved text w h Anything (row_after text (n - 1) sign r.end) t w' → Moved text w h Anything (power_after text sign at) t w'
      power-some z w' t M =
          let m : n ≡ suc (n - 1) = omega arith in
          moved_by Anything Anything (row_after text (n - 1) sign r.end) (power_after text sign at) (λ X m₀ base σ S K A _. (
            tt,
            λ bodies.
                power-is X m₀ base σ S K A bodies (good n) (says (Ok n) e).0
                ∙ ap (λ (k : ℕ). counted r.end (here_with h S K) σ (good k)) m,
          )) M

-- ---- behind the number

pub can_row : (text w : List ℕ) (h : Here) → CanMove text w h Anything → (making_size ≤ length w) × (get_or w type_count_at 0 ≤ 256)
can_row text w h C =
    let H = C.held.walkable.state.types in
    (H.room, omega (arith, H.count, H.ok.few))

module _ (text w w₁ : List ℕ) (h : Here) (more sign end : ℕ) where
  abbrev answer : State → Answer Found
  answer σ = more_bits sign more (found_in_lem 0 σ)

  abbrev go_on_lem : TypeHere → Found → Answer Typing
  go_on_lem t y = good (side_from t y (from text end))

  abbrev go : Moving
  go = row_after text more sign end

  module _ (C : CanMove text w h Anything) (x : Result ℕ Refusal) (L : RowSays w more sign x w₁) where
    pub row-refused : (q : Refusal) → x ≡ Err q → Moved text w h Anything go (Err q) w₁
    row-refused q e = table_refused text w w₁ h Anything answer go_on_lem go (λ X bodies t σ. refl) C L.only x (λ σ H _. L.says σ H) q e

    module _ (t : ℕ) (e : x ≡ Ok t) where
      pub row-can : CanMove text w₁ h (Known t)
      row-can = table-can text w w₁ h Anything answer go_on_lem go (λ X bodies t σ. refl) C L.only x (λ σ H _. L.says σ H) t e

      pub row-found : (w₂ : List ℕ) (r : Result code.Walking Refusal) → Moved text w₁ h (Known t) (side_after text t end) r w₂ → Moved text w h Anything go r w₂
      row-found w₂ r M = table-found text w w₁ h Anything answer go_on_lem go (λ X bodies t σ. refl) C L.only x (λ σ H _. L.says σ H) t e (side_after text t end) (λ X bodies u σ. refl) w₂ r M

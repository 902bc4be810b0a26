-- What the table of types answers at a level, and what the walk does then. Assumes nothing.
use Prim.Native.Nat.{ℕ, ◌+◌}
use mathlib.Core.Path.{◌≡◌, sym, ap, subst, ◌∙◌}
use mathlib.Core.List.{List}
use native.Mathlib.Omega.{arith}
use lib.ListN.{length}
use Rattle.std.proofs.Common.{Result, Ok, Err}
use Rattle.answers.specs.declared.Refusal.{Refusal}
use Rattle.answers.specs.Refusals.{said_why}
use Rattle.calculus.specs.Answer.{Answer, good, refused, ◌>>=◌}
use Rattle.notation_calculus.specs.Words.{Word}
use Rattle.notation_calculus.specs.Trees.{Text}
use Rattle.notation_calculus.specs.Making.{State, Found, Scope}
use Rattle.notation_machine.specs.TypeMachine.{TypeLevel, Typing, TypeHere}
use Rattle.made_types.specs.Held.{HoldsState, TypesOnly}
use Rattle.made_types.specs.Listing.{FoundIn}
use Rattle.walks.specs.Walkable.{row_bodies}
use Rattle.walks.specs.Walked.{TypesWalked}
use Rattle.walks.proofs.Kept.{types_walked_then, types_of_listed}
use Rattle.type_walk.specs.declared.levels.Here.{Here}
use Rattle.type_walk.specs.declared.levels.Walking as code
use Rattle.type_walk.specs.Holding.{here_with, AtLevel, Answers}
use Rattle.type_walk.specs.Moves.{CanMove, Moving, Moved, Known, found_in_lem}
use Rattle.type_walk.proofs.HoldLaws.{at_on}
use Rattle.type_walk.proofs.MoveLaws.{answered_as}

-- the machine asks the table, and goes on with what it answers
module _ (text w w₁ : List ℕ) (h : Here) (P : State → Type 0) (answer : State → Answer Found) (go_on_lem : TypeHere → Found → Answer Typing) (go : Moving) (asks : (X : Text) (bodies : List (List Word)) (t : TypeHere) (σ : State) → go X bodies t σ ≡ (answer σ >>= go_on_lem t)) (C : CanMove text w h P) (only : TypesOnly w w₁) (x : Result ℕ Refusal) (says : (σ : State) → HoldsState w σ → P σ → FoundIn w₁ x (answer σ)) where
  abbrev walked₁ : TypesWalked (h.more + 1) h.top w w₁
  walked₁ = types_of_listed (h.more + 1) h.top w w₁ C.held.walkable.scope.places.most only

  said : (y : Result ℕ Refusal) → x ≡ y → (σ : State) → HoldsState w σ → P σ → FoundIn w₁ y (answer σ)
  said y e σ H p = subst (λ (z : Result ℕ Refusal). FoundIn w₁ z (answer σ)) e (says σ H p)

  none_by : (t : TypeHere) (q : Refusal) (a : Answer Found) → FoundIn w₁ (Err q) a → (a >>= go_on_lem t) ≡ refused (said_why q)
  none_by t q (good y) e = absurd e
  none_by t q (refused why) e = ap refused e

  pub table_refused : (q : Refusal) → x ≡ Err q → Moved text w h P go (Err q) w₁
  table_refused q e = record {
    walked = walked₁;
    says = λ X m₀ base σ S K A k. asks X (row_bodies text w 0 (length X.clauses)) (here_with h S K) σ ∙ none_by (here_with h S K) q (answer σ) (said (Err q) e σ A.walkable.state k);
  }

  module _ (t : ℕ) (e : x ≡ Ok t) where
    can-by : (X : Text) (m₀ base : ℕ) (σ : State) (S : Scope) (K : List TypeLevel) → AtLevel text w X m₀ base σ h S K → (a : Answer Found) → FoundIn w₁ (Ok t) a → CanMove text w₁ h (Known t)
    can-by X m₀ base σ S K A (good y) (d, (k, H)) = record { X = X; m₀ = m₀; base = base; σ = y.state; S = S; K = K; held = at_on text w w₁ X σ y.state H m₀ base h S K walked₁ A; known = k }
    can-by X m₀ base σ S K A (refused why) d = absurd d

    pub table-can : CanMove text w₁ h (Known t)
    table-can = can-by C.X C.m₀ C.base C.σ C.S C.K C.held (answer C.σ) (said (Ok t) e C.σ C.held.walkable.state C.known)

    module _ (next : Moving) (goes : (X : Text) (bodies : List (List Word)) (u : TypeHere) (σ : State) → go_on_lem u (found_in_lem t σ) ≡ next X bodies u σ) (w₂ : List ℕ) (r : Result code.Walking Refusal) (M : Moved text w₁ h (Known t) next r w₂) where
      found-by : (X : Text) (m₀ base : ℕ) (σ : State) (S : Scope) (K : List TypeLevel) → AtLevel text w X m₀ base σ h S K → (a : Answer Found) → FoundIn w₁ (Ok t) a → Answers text w₂ X m₀ base r (a >>= go_on_lem (here_with h S K))
      found-by X m₀ base σ S K A (good y) (d, (k, H)) = answered_as text w₂ X m₀ base r (ap (λ (u : ℕ). go_on_lem (here_with h S K) (record { type = u; state = y.state })) (sym d) ∙ goes X (row_bodies text w₁ 0 (length X.clauses)) (here_with h S K) y.state) (M.says X m₀ base y.state S K (at_on text w w₁ X σ y.state H m₀ base h S K walked₁ A) k)
      found-by X m₀ base σ S K A (refused why) d = absurd d

      pub table-found : Moved text w h P go r w₂
      table-found = record {
        walked = types_walked_then (h.more + 1) (h.more + 1) (h.more + 1) h.top h.top h.top w w₁ w₂ (omega arith) (omega arith) (omega arith) (omega arith) walked₁ M.walked;
        says = λ X m₀ base σ S K A k. answered_as text w₂ X m₀ base r (asks X (row_bodies text w 0 (length X.clauses)) (here_with h S K) σ) (found-by X m₀ base σ S K A (answer σ) (said (Ok t) e σ A.walkable.state k));
      }

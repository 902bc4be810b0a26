-- A type at an offset of the walk, where words may have ended. Assumes nothing.
use Prim.Native.Nat.{ℕ, ◌<◌}
use mathlib.Core.Path.{◌≡◌, refl, sym, subst}
use mathlib.Core.List.{List, []}
use lib.ListN.{length}
use Rattle.std.specs.Prelude.{Result, Err}
use Rattle.answers.specs.declared.Refusal.{Refusal}
use Rattle.answers.specs.declared.Reason.{Reason}
use Rattle.answers.specs.Refusals.{refusal_at}
use Rattle.calculus.specs.Answer.{refuse}
use Rattle.notation_calculus.specs.Words.{Word}
use Rattle.notation_calculus.specs.Trees.{Text}
use Rattle.notation_calculus.specs.Making.{State, Scope}
use Rattle.notation_machine.specs.TypeFrom.{type_from}
use Rattle.words.specs.Lexed.{Lexed}
use Rattle.walks.specs.Says.{TypeAnswers, TypeSays}
use Rattle.walks.specs.declared.TypeEnd.{TypeEnd}
use Rattle.walks.proofs.Kept.{types_walked_none}
use Rattle.term_walk.specs.Steps.{BehindType}
use Rattle.term_walk.proofs.LookLaws.{words-past, words-lexed}

type_none : (X : Text) (more : ℕ) (S : Scope) (σ : State) → type_from X more S σ [] ≡ refuse 32 0
unfolding type_from
type_none X more S σ = refl

module _ (text w : List ℕ) (at more frame top : ℕ) where
  pub type_past : length text < at → BehindType text w at more frame top (Err (refusal_at Reason.OtherWordDue 0)) w
  type_past h = record { walked = types_walked_none more top w; says = λ X S σ W. subst (λ (us : List Word). TypeAnswers text w (Err (refusal_at Reason.OtherWordDue 0)) (type_from X more S σ us)) (sym (words-past text at h)) (subst (TypeAnswers text w (Err (refusal_at Reason.OtherWordDue 0))) (sym (type_none X more S σ)) refl) }

  pub type_inside : Lexed text at → (r : Result TypeEnd Refusal) (w' : List ℕ) → TypeSays text w at more frame top r w' → BehindType text w at more frame top r w'
  type_inside l r w' T = record { walked = T.walked; says = λ X S σ W. subst (λ (us : List Word). TypeAnswers text w' r (type_from X more S σ us)) (sym (words-lexed text at l)) (T.says X S σ W) }

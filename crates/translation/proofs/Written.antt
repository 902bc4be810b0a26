-- What a call writes lies within the output. Assumes nothing.
use mathlib.Core.Path.{◌≡◌, ap}
use mathlib.Core.List.{List}
use Prim.Native.Nat.{ℕ, ◌≤◌}
use lib.ListN.{length}
use mathlib.Core.Bool.{Bool}
use Rattle.calculus.specs.Translate.{Wish, Call}
use Rattle.export_calculus.specs.CardCall.{card_answer, card_call}
use Rattle.translator.specs.Said.{called}
use Rattle.std.specs.declared.result.Result.{Result}
use Rattle.std.specs.declared.result.Result.TheVariants.{Ok}
use Rattle.answers.specs.declared.Refusal.{Refusal}
use Rattle.translator.proofs.SaidLaws.{written_in}

pub written-within : (r : Result ℕ Refusal) (n : ℕ) (card : Bool) (w : Wish) (s before after work work' : List ℕ)
    → called r after work' ≡ card_call card w s before work → r ≡ Ok n → n ≤ length after
unfolding card_call
written-within r n card w s before after work work' h e =
    written_in (card_answer card (length work) w s (length before)) n before after (rw e at (ap (λ (x : Call). x.said) h)) (ap (λ (x : Call). x.out) h)

-- Two results that the contract of `make` allows for one call are equal: the answer, the output, the places and the working memory.
-- Assumes nothing.
use Prim.Native.Nat.{ℕ}
use mathlib.Core.Path.{◌≡◌, sym, ap, ◌∙◌}
use mathlib.Core.List.{List}
use Rattle.std.proofs.Common.{Result}
use Rattle.answers.specs.declared.Refusal.{Refusal}
use contract.Lifetimes.{Lfts}
use denote.Triple.Clauses.{AtExit}
use borrow.Fn.Kinds.{Dens, res_t, ended_of}
use Rattle.translator.proofs.SaidLaws.{SameResult, same-call}
use Rattle.notation_calculus.specs.Make.{MakeCall}
use Rattle.maker.specs.Made.{called_make}
use Rattle.maker.proofs.make.Kinds as make
use Rattle.maker.proofs.make.Reads as make-reads

same-called : (r q : Result ℕ Refusal) (o o' p p' w w' : List ℕ) → called_make r o p w ≡ called_make q o' p' w' → SameResult r q o o' w w' × (p ≡ p')
same-called r q o o' p p' w w' e =
    (same-call r q o o' w w' (ap (λ (c : MakeCall). record { said = c.said; out = c.out; work = c.work }) e), ap (λ (c : MakeCall). c.places) e)

pub determined-make : (κs : Lfts 4) (a : Dens κs make.ps) (x y : (res_t make.r κs).Denot) (s t : AtExit (ended_of 4 make.ps make.r) κs)
    → make-reads.Post κs a x s → make-reads.Post κs a y t
    → SameResult x y s.1.0.now t.1.0.now s.1.1.1.0.now t.1.1.1.0.now × (s.1.1.0.now ≡ t.1.1.0.now)
determined-make κs a x y s t f g = same-called x y _ _ _ _ _ _ (f ∙ sym g)

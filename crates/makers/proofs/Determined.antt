-- The contract of `name` determines the memory that it leaves, for a call that it asks for: two that it allows are equal. Assumes nothing.
use mathlib.Core.Path.{◌≡◌, sym, ◌∙◌}
use contract.Lifetimes.{Lfts}
use denote.Triple.Clauses.{AtExit}
use borrow.Fn.Kinds.{Dens, res_t, ended_of}
use Rattle.makers.proofs.name.Kinds as name
use Rattle.makers.proofs.name.Reads as name-reads

pub name-determined : (κs : Lfts 3) (a : Dens κs name.ps) (x y : (res_t name.r κs).Denot) (s t : AtExit (ended_of 3 name.ps name.r) κs)
    → name-reads.Pre κs a → name-reads.Post κs a x s → name-reads.Post κs a y t → s.1.1.0.now ≡ t.1.1.0.now
name-determined κs a x y s t p f g = f p ∙ sym (g p)

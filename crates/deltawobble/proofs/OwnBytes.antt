-- What a call writes in plain kinds, the check accepts: the full netlist as one without gaps, the lean one as a lean one (document 02, L8).
-- Assumes nothing.
use Prim.Native.Nat.{ℕ, ◌≤◌}
use mathlib.Core.Path.{◌≡◌, ap, ◌∙◌}
use mathlib.Core.Bool.{Bool}
use mathlib.Core.List.{List}
use lib.ListN.{length, take, drop}
use lib.Seq.{take_at}
use borrow.Author.Tests.{le-leb}
use Rattle.calculus.specs.Answer.{good}
use Rattle.calculus.specs.Makers.{makers_of}
use Rattle.calculus.specs.Translate.{asked_bytes, work_of, call}
use Rattle.foreign_calculus.specs.Foreign.{check, check_call}
use Rattle.foreign_theorems.proofs.Own.{own-accepted}
use Rattle.translation.proofs.Demands.{demand_3}
use Rattle.translation.proofs.Nodes.{in_plain}

module _ (lean : Bool) (s out work : List ℕ) (n : ℕ) (said : (call (in_plain lean) s out work).said ≡ good n) where
  pub own-checked : check lean (take n (call (in_plain lean) s out work).out) ≡ good tt
  own-checked =
      let c = (demand_3 (in_plain lean) s out work).circuit n said in
      ap (λ (bytes : List ℕ). check lean (take n bytes)) c.wrote
      ∙ ap (check lean) (take_at (asked_bytes (in_plain lean) c.net (makers_of s)) (drop n out) n c.needs) ∙ own-accepted s c.net c.of_sheet lean

  -- the call for a check, with enough working memory
  pub own_accepted-call : (memory : List ℕ) → 32768 ≤ length memory
      → check_call lean (take n (call (in_plain lean) s out work).out) memory ≡ record { said = good tt; work = work_of memory }
  unfolding check_call
  own_accepted-call memory h = rw (le-leb 32768 (length memory) h, own-checked)

-- The first 8,192 numbers are filled with 0, and the others stay. Assumes nothing.
use mathlib.Core.Path.{ap, ◌∙◌}
use mathlib.Core.List.{List, ◌++◌}
use Prim.Native.Nat.{ℕ}
use lib.ListN.{drop, replicate}
use lib.Seq.{length-take-le}
use Rattle.calculus.specs.Translate.{zeroed}
use Rattle.foreign.proofs.table.blank.Goals as goal

pub returns : goal.returns
unfolding zeroed
returns c =
    let w = c.args.work.now in
    ap (λ (x : List ℕ). x ++ drop 8192 w) (c.fill.ensures.after (λ y h. h) ∙ ap (λ (n : ℕ). replicate n 0) (length-take-le 8192 w c.requires))

-- The first numbers are filled, and the others stay.
use mathlib.Core.Path.{ap, ◌∙◌}
use mathlib.Core.List.{List, ◌++◌}
use Prim.Native.Nat.{ℕ}
use lib.ListN.{drop, replicate}
use lib.Seq.{length-take-le}
use Rattle.calculus.specs.Translate.{zeroed}
use Rattle.memory.specs.Map.{memory_size}
use Rattle.memory.proofs.clear.Goals as goal

pub returns : goal.returns
unfolding zeroed
returns c =
    let w = c.args.work.now in
    ap (λ (x : List ℕ). x ++ drop memory_size w) (c.fill.ensures.after (λ y h. h) ∙ ap (λ (n : ℕ). replicate n 0) (length-take-le memory_size w c.requires))

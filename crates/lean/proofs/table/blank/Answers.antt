-- The table is filled at once. Assumes nothing.
use native.Mathlib.Omega.{arith}
use Prim.Native.Nat.{ℕ, ◌+◌, ◌≤◌}
use mathlib.Core.Path.{refl, sym, ap, ◌∙◌, subst}
use mathlib.Core.List.{List, ◌++◌}
use lib.ListN.{length, take, drop, replicate}
use Rattle.laws.proofs.Regions.{region-length}
use Rattle.memory.specs.Map.{roots_at}
use Rattle.lean.specs.Table.{Blank}
use Rattle.lean.proofs.TableLaws.{filled, blanked}
use Rattle.lean.proofs.table.blank.Goals as goal

pub returns : goal.returns
returns c =
    let w = c.args.work.now in
    let h : roots_at + 8192 ≤ length w = omega arith in
    let e = c.fill.ensures.after (λ y z. z) ∙ ap (λ (n : ℕ). replicate n 0) (region-length w roots_at 8192 h) in
    subst (Blank w) (sym (ap (λ (x : List ℕ). take roots_at w ++ (x ++ drop 8192 (drop roots_at w))) e ∙ filled w roots_at 8192 h)) (blanked w 8192 refl c.requires)

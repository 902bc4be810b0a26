-- The applications, and the constant after them. Assumes nothing.
use Rattle.std.proofs.Common.{rules}
use native.Mathlib.Omega.{arith}
use mathlib.Core.Path.{◌≡◌, refl, ap, ◌∙◌}
use mathlib.Core.List.{List, [], ◌∷◌}
use Prim.Native.Nat.{ℕ, ◌+◌, ◌-◌}
use lib.ListN.{replicate}
use lib.Seq.{sets}
use Rattle.back.specs.Rows.{rows_up_to, application_row}
use Rattle.laws.proofs.Regions.{written-more}
use Rattle.back.proofs.RowLaws.{rows-length, applied}
use Rattle.back.proofs.write.put_head.Goals as goal

pub returns : goal.returns
returns c =
    let a = c.args in
    let o = a.out.now in
    let n : a.at + a.inputs - a.at ≡ a.inputs = omega arith in
    let f : c.fill.new.self ≡ replicate a.inputs 0x14 = search rules in (
      refl,
      c.put.ensures ∙ rw (n, f) (ap (λ (x : List ℕ). sets x (a.at + a.inputs) (0x1A ∷ a.part ∷ a.inputs ∷ [])) (applied o a.at a.inputs (omega arith))
          ∙ written-more o (rows_up_to application_row a.inputs) (0x1A ∷ a.part ∷ a.inputs ∷ []) a.at (a.at + a.inputs) (omega (arith, rows-length application_row 1 (λ j. refl) a.inputs))),
    )

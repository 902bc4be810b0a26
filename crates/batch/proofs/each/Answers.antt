-- `batch::each` meets its contract. The invariant: the first k sheets are done, and what is left of the row makes the whole (`RowsGoing`).
-- Assumes nothing.
use Prim.Native.Nat.{◌-◌}
use mathlib.Core.Path.{refl, ◌∙◌}
use native.Mathlib.Omega.{arith}
use lib.ListN.{length}
use borrow.Rule.Slice.PartMut.{same_len_mid}
use Rattle.batch.proofs.RowLaws.{used-fits, going-part}
use Rattle.batch.proofs.each.Goals as goal

pub overflow_add-used : goal.overflow_add-used
overflow_add-used c =
    let l = c.loop-k in
    omega (arith, used-fits l.invariant.0 c.loop-k-test.true _ c.one-used.result _ _ _ refl c.one-used.ensures, l.invariant.1, c.well_formed.1.1.0.0)

pub loop-k-preserved : goal.loop-k-preserved
loop-k-preserved c =
    let l = c.loop-k in (
      going-part l.invariant.0 c.loop-k-test.true _ c.one-used.result c.one-used.new.out _ _ refl c.one-used.ensures,
      same_len_mid l.used (length l.out - l.used) l.out c.one-used.new.out c.one-used.auto.out ∙ l.invariant.1,
      c.one-used.auto.results ∙ l.invariant.2,
      c.one-used.auto.work ∙ l.invariant.3,
    )

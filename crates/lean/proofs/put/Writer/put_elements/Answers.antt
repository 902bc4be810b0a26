-- The invariant: what is written and the records that are still to come make the whole. Assumes nothing.
use native.Mathlib.Omega.{arith}
use mathlib.Core.Path.{sym, subst}
use Prim.Native.Nat.{◌-◌, ◌+◌}
use lib.ListN.{length, drop}
use Rattle.calculus.specs.Makers.{maker}
use Rattle.memory.specs.Map.{makers_at}
use Rattle.lean.specs.Table.{entry}
use Rattle.lean.specs.Layout.{left_after}
use Rattle.lean.specs.Rows.{record_bytes_at, records_in}
use Rattle.lean.proofs.Writing.{Writing, writing_start, writing_fits, writing_step, writing_end}
use Rattle.lean.proofs.PutLaws.{maker-left, records-start, records-first, records-end}
use Rattle.lean.proofs.put.Writer.put_elements.Goals as goal

pub loop-here-init : goal.loop-here-init
loop-here-init c =
    let a = c.args in
    let w = a.self.work.now in
    (omega arith, (omega arith, subst (Writing a.out.now a.from _ a.out.now a.from) (sym (records-start a.self.plain w a.self.end (drop makers_at w))) (writing_start a.out.now a.from _)))

pub put_at-here-requires : goal.put_at-here-requires
put_at-here-requires c =
    let a = c.args in
    let w = a.self.work.now in
    let l = c.loop-here in
    let h = c.loop-here-test.true in (
      c.requires.0,
      (
        h,
        (
          l.invariant.1.0,
          rw (l.invariant.1.1.size, maker-left w l.here.i)
              (writing_fits a.out.now a.from _ l.out l.here.at _ (record_bytes_at a.self.plain (maker (drop l.here.i (drop makers_at w))) (entry w l.here.x) l.here.x) (records_in a.self.plain w (a.self.end - (l.here.x + 1)) (l.here.x + 1) (left_after (entry w l.here.x) (drop l.here.i (drop makers_at w)))) l.invariant.1.1 (records-first a.self.plain w a.self.end (drop makers_at w) l.here.x l.here.i h) (length a.out.now) c.requires.1),
        ),
      ),
    )

pub loop-here-preserved : goal.loop-here-preserved
loop-here-preserved c =
    let l = c.loop-here in
    let a = c.args in
    let w = a.self.work.now in
    let e = rw (maker-left w l.here.i) at c.put_at-here.ensures.0 in
    let b = c.put_at-here.ensures.1 in
    (b.low, (b.few, subst (Writing a.out.now a.from _ _ _) (b.records a.self.plain) (writing_step a.out.now a.from _ l.out l.here.at _ (record_bytes_at a.self.plain (maker (drop l.here.i (drop makers_at w))) (entry w l.here.x) l.here.x) (records_in a.self.plain w (a.self.end - (l.here.x + 1)) (l.here.x + 1) (left_after (entry w l.here.x) (drop l.here.i (drop makers_at w)))) l.invariant.1.1 (records-first a.self.plain w a.self.end (drop makers_at w) l.here.x l.here.i c.loop-here-test.true) _ _ e.0 e.1)))

pub returns : goal.returns
returns c =
    let a = c.args in
    let l = c.loop-here in
    writing_end a.out.now a.from _ l.out l.here.at _ l.invariant.1.1 (records-end a.self.plain a.self.work.now a.self.end (drop makers_at a.self.work.now) l.here.x l.here.i c.loop-here-test.false)

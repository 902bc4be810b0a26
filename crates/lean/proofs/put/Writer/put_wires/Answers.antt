-- The invariant: what is written and what is still to come make the whole. Assumes nothing.
use native.Mathlib.Omega.{arith}
use mathlib.Core.Path.{sym, subst}
use Prim.Native.Nat.{◌-◌, ◌+◌}
use lib.ListN.{length, get_or}
use Rattle.memory.specs.Map.{roots_at}
use Rattle.lean.specs.Layout.{row_in}
use Rattle.lean.specs.Rows.{wire_bytes_at}
use Rattle.lean.proofs.Writing.{Writing, writing_start, writing_fits, writing_step, writing_end}
use Rattle.lean.proofs.Rows.{rest-start, rest-first, rest_end}
use Rattle.lean.proofs.PutLaws.{wires_behind}
use Rattle.lean.proofs.put.Writer.put_wires.Goals as goal

pub loop-x-init : goal.loop-x-init
loop-x-init c =
    let a = c.args in
    (omega arith, subst (Writing a.out.now a.from _ a.out.now a.from) (sym (rest-start wire_bytes_at roots_at a.self.work.now a.self.end)) (writing_start a.out.now a.from _))

pub put_wire-at-requires : goal.put_wire-at-requires
put_wire-at-requires c =
    let a = c.args in
    let l = c.loop-x in
    let h = c.loop-x-test.true in (
      c.requires.0,
      (
        h,
        rw l.invariant.1.size
            (writing_fits a.out.now a.from _ l.out l.at _ (wire_bytes_at (get_or a.self.work.now (roots_at + l.x) 0) l.x) (row_in wire_bytes_at roots_at a.self.work.now (a.self.end - (l.x + 1)) (l.x + 1)) l.invariant.1 (rest-first wire_bytes_at roots_at a.self.work.now a.self.end l.x h) (length a.out.now) c.requires.1),
      ),
    )

pub loop-x-preserved : goal.loop-x-preserved
loop-x-preserved c =
    let l = c.loop-x in
    let a = c.args in
    let e = c.put_wire-at.ensures in
    let b = c.behind-x.ensures in
    let h = c.loop-x-test.true in
    ((let f = b.few in omega arith), subst (Writing a.out.now a.from _ _ _) (wires_behind a.self.work.now a.self.end l.x c.behind-x.result h b) (writing_step a.out.now a.from _ l.out l.at _ (wire_bytes_at (get_or a.self.work.now (roots_at + l.x) 0) l.x) (row_in wire_bytes_at roots_at a.self.work.now (a.self.end - (l.x + 1)) (l.x + 1)) l.invariant.1 (rest-first wire_bytes_at roots_at a.self.work.now a.self.end l.x h) _ _ e.0 e.1))

pub returns : goal.returns
returns c =
    let a = c.args in
    let l = c.loop-x in
    writing_end a.out.now a.from _ l.out l.at _ l.invariant.1 (rest_end wire_bytes_at roots_at a.self.work.now a.self.end l.x c.loop-x-test.false)

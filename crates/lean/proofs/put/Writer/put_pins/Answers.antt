-- The invariant: what is written and what is still to come make the whole. Assumes nothing.
use mathlib.Core.Path.{sym, subst}
use Prim.Native.Nat.{◌-◌, ◌+◌}
use lib.ListN.{length, get_or}
use Rattle.lean.specs.Layout.{lean_pins_at}
use Rattle.lean.specs.Layout.{row_in}
use Rattle.lean.specs.Rows.{pin_bytes_at}
use Rattle.lean.proofs.Writing.{Writing, writing_start, writing_fits, writing_step, writing_end}
use Rattle.lean.proofs.Rows.{rest-start, rest-first, rest_end}
use Rattle.lean.proofs.put.Writer.put_pins.Goals as goal

pub loop-x-init : goal.loop-x-init
loop-x-init c =
    let a = c.args in
    subst (Writing a.out.now a.from _ a.out.now a.from) (sym (rest-start pin_bytes_at lean_pins_at a.self.work.now a.self.pins)) (writing_start a.out.now a.from _)

pub put_pin-at-requires : goal.put_pin-at-requires
put_pin-at-requires c =
    let a = c.args in
    let l = c.loop-x in
    let h = c.loop-x-test.true in
    rw l.invariant.size
    (writing_fits a.out.now a.from _ l.out l.at _ (pin_bytes_at (get_or a.self.work.now (lean_pins_at + l.x) 0) l.x) (row_in pin_bytes_at lean_pins_at a.self.work.now (a.self.pins - (l.x + 1)) (l.x + 1)) l.invariant (rest-first pin_bytes_at lean_pins_at a.self.work.now a.self.pins l.x h) (length a.out.now) c.requires.1)

pub loop-x-preserved : goal.loop-x-preserved
loop-x-preserved c =
    let a = c.args in
    let l = c.loop-x in
    let p = rw c.terminal_of.ensures at c.put_pin-at.ensures in
    writing_step a.out.now a.from _ l.out l.at _ (pin_bytes_at (get_or a.self.work.now (lean_pins_at + l.x) 0) l.x) (row_in pin_bytes_at lean_pins_at a.self.work.now (a.self.pins - (l.x + 1)) (l.x + 1)) l.invariant (rest-first pin_bytes_at lean_pins_at a.self.work.now a.self.pins l.x c.loop-x-test.true) _ _ p.0 p.1

pub returns : goal.returns
returns c =
    let a = c.args in
    let l = c.loop-x in
    writing_end a.out.now a.from _ l.out l.at _ l.invariant (rest_end pin_bytes_at lean_pins_at a.self.work.now a.self.pins l.x c.loop-x-test.false)

-- The invariant: the lines of the first x terminals or pins are written. Assumes nothing.
use native.Mathlib.Omega.{arith}
use mathlib.Core.Path.{subst}
use Prim.Native.Nat.{ℕ, ◌<◌}
use Rattle.verilog.specs.Groups.{count_of, table_at, group_line_at}
use Rattle.verilog.proofs.TextRows.{row_step, row_low}
use Rattle.verilog.proofs.ModuleLaws.{lines-few, count_low}
use Rattle.verilog.proofs.walk.LeanNet.put_group.Goals as goal

pub put_line-at-requires : goal.put_line-at-requires
put_line-at-requires c =
    let l = c.loop-x in
    let a = c.args in
    let h : l.x < count_of a.group a.self.end a.self.pins = subst (λ (n : ℕ). l.x < n) c.count-n.ensures c.loop-x-test.true in
    let m = count_low a.self.work.now a.self.end a.self.pins c.requires.0 a.group in
    (c.requires.0, (h, omega (arith, row_low (group_line_at a.group) (table_at a.group) a.self.work.now l.x (lines-few a.group) l.invariant)))

pub loop-x-preserved : goal.loop-x-preserved
loop-x-preserved c =
    let a = c.args in
    row_step (group_line_at a.group) (table_at a.group) a.self.work.now c.loop-x.x c.loop-x.invariant c.put_line-at.ensures

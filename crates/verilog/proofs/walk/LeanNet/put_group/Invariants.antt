-- The invariant: the lines of the first x terminals or pins are written. Assumes nothing.
use Rattle.lean.specs.Layout.{row_in}
use Rattle.lines.specs.Wrote.{WroteText}
use Rattle.verilog.specs.Groups.{table_at, group_line_at}
use Rattle.verilog.proofs.walk.LeanNet.put_group.Given as goal

abbrev pub invariant-loop-x : goal.invariant-loop-x
invariant-loop-x l = WroteText l.initial.out l.from (row_in (group_line_at l.group) (table_at l.group) l.self.work.now l.x 0) l.out l.at

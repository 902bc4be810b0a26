-- The invariant: the form's first i characters are written. Assumes nothing.
use Prim.Native.Nat.{◌≤◌, ◌+◌, ◌*◌}
use lib.ListN.{take}
use Rattle.export_calculus.specs.Verilog.{filled}
use Rattle.lines.specs.Wrote.{WroteText}
use Rattle.verilog.proofs.form.put_form.Given as goal

abbrev pub invariant-loop-c : goal.invariant-loop-c
invariant-loop-c l = (l.at ≤ l.from + 4 * l.c-index) × WroteText l.initial.out l.from (filled (take l.c-index l.form) l.x l.y l.z) l.out l.at

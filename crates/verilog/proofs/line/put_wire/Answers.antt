-- By its form. Assumes nothing.
use Rattle.export_calculus.specs.Verilog.{line_text, assign_forms}
use Rattle.verilog.proofs.line.put_wire.Goals as goal

pub returns : goal.returns
unfolding line_text assign_forms
returns c = c.put_form.ensures

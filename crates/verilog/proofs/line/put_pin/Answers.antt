-- By its form. Assumes nothing.
use Rattle.export_calculus.specs.Verilog.{line_text, assign_forms}
use Rattle.verilog.proofs.line.put_pin.Goals as goal

pub returns-in-Input : goal.returns-in-Input
unfolding line_text assign_forms
returns-in-Input c = rw c.in-Input.is c.put_form.ensures

pub returns-in-Output : goal.returns-in-Output
unfolding line_text assign_forms
returns-in-Output c = rw c.in-Output.is c.put_form-in-Output.ensures

-- By the forms. Assumes nothing.
use native.Mathlib.Omega.{arith}
use mathlib.Core.Path.{◌≡◌}
use Prim.Native.Nat.{◌≤◌}
use Rattle.laws.proofs.Runs.{past}
use Rattle.export_calculus.specs.Verilog.{line_text, element_forms}
use Rattle.verilog.proofs.line.put_element.Goals as goal

pub returns-in-0 : goal.returns-in-0
unfolding line_text element_forms
returns-in-0 c = rw c.in-0.is c.put_form.ensures

pub returns-in-1 : goal.returns-in-1
unfolding line_text element_forms
returns-in-1 c = rw c.in-1.is c.put_form-in-1.ensures

pub returns-in-2 : goal.returns-in-2
unfolding line_text element_forms
returns-in-2 c = rw c.in-2.is c.put_form-in-2.ensures

pub returns-in-3 : goal.returns-in-3
unfolding line_text element_forms
returns-in-3 c = rw c.in-3.is c.put_form-in-3.ensures

pub returns-in-4 : goal.returns-in-4
unfolding line_text element_forms
returns-in-4 c = rw c.in-4.is c.put_form-in-4.ensures

pub returns-in-5 : goal.returns-in-5
unfolding line_text element_forms
returns-in-5 c = rw c.in-5.is c.put_form-in-5.ensures

pub returns-in-6 : goal.returns-in-6
unfolding line_text element_forms
returns-in-6 c = rw c.in-6.is c.put_form-in-6.ensures

pub returns-in_default : goal.returns-in_default
unfolding line_text element_forms
returns-in_default c =
    let r = c.in_default.in_default-own.rest in
    let seven : 7 ≤ c.args.kind = past (past (past (past (past (past (past (omega arith) r.0.0.0.0.0.0.1) r.0.0.0.0.0.1) r.0.0.0.0.1) r.0.0.0.1) r.0.0.1) r.0.1) r.1 in
    let low = c.requires.0 in
    let e : c.args.kind ≡ 7 = omega arith in
    rw e c.put_form-in_default.ensures

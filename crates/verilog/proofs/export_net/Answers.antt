-- `verilog::export_net` meets its contract: the lean netlist is made, which changes nothing of the full one. Assumes nothing.
use mathlib.Core.Path.{◌∙◌, ap, subst}
use lib.ListN.{length}
use native.Mathlib.Omega.{arith}
use Rattle.calculus.specs.Net.{Net}
use Rattle.translator.specs.Said.{AnswerSays}
use Rattle.translator.proofs.Keeping.{above_keeps}
use Rattle.verilog.specs.InMemory.{lean_exported}
use Rattle.verilog.proofs.ExportLaws.{exported-lean}
use Rattle.verilog.proofs.export_net.Goals as goal

pub returns : goal.returns
returns c =
    let w = c.make_lean-end.ensures in
    let o = c.args.out.now in (
      subst (AnswerSays c.export_lean.result o c.export_lean.new.out) (ap (λ (m : Net). lean_exported m (length o)) w.net ∙ exported-lean _ (length o)) c.export_lean.ensures,
      above_keeps _ _ c.requires.0.size w.around.size (λ j h. w.around.above j (omega arith)),
    )

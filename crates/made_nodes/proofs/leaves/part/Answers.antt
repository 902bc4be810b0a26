-- The type first. Assumes nothing.
use mathlib.Core.Path.{ap}
use Rattle.answers.proofs.Passed.{passed}
use Rattle.parts.specs.Table.{PartEntry}
use Rattle.made_nodes.proofs.FormLaws.{part_refused, part-made}
use Rattle.made_nodes.proofs.leaves.part.Goals as goal

pub returns-in_err-t : goal.returns-in_err-t
returns-in_err-t c = rw (passed c.from_residual.result c.from_residual.ensures.1) (part_refused c.args.work.now _ c.args.number c.args.place _ _ _ (ap (λ (p : PartEntry). p.inputs) c.part_of-p.ensures) c.in_err-t.was c.part_type.ensures)

pub returns : goal.returns
returns c = part-made c.args.work.now _ c.args.number c.args.place _ _ _ _ _ (ap (λ (p : PartEntry). p.inputs) c.part_of-p.ensures) c.in_ok-t.was c.part_type.ensures c.add.ensures

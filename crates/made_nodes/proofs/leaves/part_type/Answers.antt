-- By the inputs, and by the edition. Assumes nothing.
use Rattle.made_nodes.proofs.TypeLaws.{part_none, part-unary, part-paired, part-gate}
use Rattle.made_nodes.proofs.leaves.part_type.Goals as goal

pub returns-then-inputs-eq0 : goal.returns-then-inputs-eq0
returns-then-inputs-eq0 c = part_none c.args.work.now c.args.inputs c.args.place c.if-inputs-eq0.true

pub returns-then-inputs-eq1 : goal.returns-then-inputs-eq1
returns-then-inputs-eq1 c = part-unary c.args.work.now c.args.inputs c.args.place _ _ c.if-inputs-eq1.true c.listed.ensures

pub returns-then-work-eq1 : goal.returns-then-work-eq1
returns-then-work-eq1 c = part-paired c.args.work.now c.args.inputs c.args.place _ _ c.if-inputs-eq0.false c.if-inputs-eq1.false c.if-work-eq1.true c.paired_type.ensures

pub returns : goal.returns
returns c = part-gate c.args.work.now c.args.inputs c.args.place _ _ c.if-inputs-eq0.false c.if-inputs-eq1.false c.if-work-eq1.false c.gate_type.ensures

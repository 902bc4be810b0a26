-- The second type is over the first. Assumes nothing.
use native.Mathlib.Omega.{arith}
use Rattle.answers.proofs.Passed.{passed}
use Rattle.made_types.specs.declared.Kind.{Kind}
use Rattle.made_nodes.proofs.TypeLaws.{listable, small_of, workable_types, gate_refused, gate-found}
use Rattle.made_nodes.proofs.leaves.gate_type.Goals as goal

pub returns-in_err-t : goal.returns-in_err-t
returns-in_err-t c = rw (passed c.from_residual.result c.from_residual.ensures.1) (gate_refused c.args.work.now c.args.place _ _ _ c.in_err-t.was c.listed.ensures)

pub listed-requires-2 : goal.listed-requires-2
listed-requires-2 c = listable _ Kind.Arrow _ _ (workable_types c.args.work.now _ c.requires c.listed.ensures.only) (omega arith) (omega arith) (small_of _ _ _ _ _ _ c.in_ok-t.was c.listed.ensures)

pub returns : goal.returns
returns c = gate-found c.args.work.now c.args.place _ _ _ _ _ c.in_ok-t.was c.listed.ensures c.listed-2.ensures

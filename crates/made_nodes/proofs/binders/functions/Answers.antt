-- The invariant: the functions of the names from `left` on are made. Assumes nothing.
use native.Mathlib.Omega.{arith}
use mathlib.Core.Path.{refl, ◌∙◌}
use Prim.Native.Nat.{◌-◌}
use Rattle.answers.proofs.Passed.{passed}
use Rattle.made_nodes.proofs.Terms.{workable_on}
use Rattle.made_nodes.proofs.FunctionLaws.{going_start, going_on, going_ends, going_done}
use Rattle.made_nodes.proofs.binders.functions.Goals as goal

pub loop-left-init : goal.loop-left-init
loop-left-init c = going_start c.args.work.now c.args.from c.args.count c.args.t c.args.e c.requires.1.1.0

pub overflow_add-entry : goal.overflow_add-entry
overflow_add-entry c = let p = c.requires.0.room in let q = c.requires.1.1.1 in let g = c.loop-left.invariant in let i = g.within in let l = g.only.same in omega arith

pub overflow_cast-place : goal.overflow_cast-place
overflow_cast-place c = let p = c.requires.0.room in let q = c.requires.1.1.1 in let g = c.loop-left.invariant in let i = g.within in let l = g.only.same in omega arith

pub overflow_mul-place : goal.overflow_mul-place
overflow_mul-place c = let p = c.requires.0.room in let q = c.requires.1.1.1 in let g = c.loop-left.invariant in let i = g.within in let l = g.only.same in omega arith

pub overflow_add-place : goal.overflow_add-place
overflow_add-place c = let p = c.requires.0.room in let q = c.requires.1.1.1 in let g = c.loop-left.invariant in let i = g.within in let l = g.only.same in omega arith

pub offset_bounds-work-entry : goal.offset_bounds-work-entry
offset_bounds-work-entry c = let p = c.requires.0.room in let q = c.requires.1.1.1 in let g = c.loop-left.invariant in let i = g.within in let l = g.only.same in omega arith

pub bounds-work-entry : goal.bounds-work-entry
bounds-work-entry c = let p = c.requires.0.room in let q = c.requires.1.1.1 in let g = c.loop-left.invariant in let i = g.within in let l = g.only.same in omega arith

pub function-requires : goal.function-requires
function-requires c = (workable_on c.args.work.now _ c.requires.0 c.loop-left.invariant.only, (c.requires.1.0, c.loop-left.invariant.small))

pub shape_of-work-in_err-f : goal.shape_of-work-in_err-f
shape_of-work-in_err-f c = c.function.auto.work ∙ c.loop-left.invariant.only.same

pub returns-in_err-f : goal.returns-in_err-f
returns-in_err-f c = rw (passed c.from_residual.result c.from_residual.ensures.1) (going_ends c.args.work.now c.args.from c.args.count c.args.t c.args.e _ _ c.loop-left.left (c.loop-left.left - 1) c.loop-left.invariant (omega arith) _ refl c.requires.1.1.1 _ _ _ c.in_err-f.was c.function.ensures)

pub loop-left-preserved : goal.loop-left-preserved
loop-left-preserved c = going_on c.args.work.now c.args.from c.args.count c.args.t c.args.e _ _ c.loop-left.left (c.loop-left.left - 1) c.loop-left.invariant (omega arith) _ refl c.requires.1.1.1 _ _ _ c.in_ok-f.was c.function.ensures

pub shape_of-work : goal.shape_of-work
shape_of-work c = c.loop-left.invariant.only.same

pub returns : goal.returns
returns c = going_done c.args.work.now c.args.from c.args.count c.args.t c.args.e _ _ c.loop-left.left c.loop-left.invariant (omega arith)

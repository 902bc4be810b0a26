-- The invariant: what waits from half `left` on is joined. Assumes nothing.
use Rattle.std.proofs.lemmas.Result.{err_from_is_err_and}
use borrow.Author.Rules.{rules}
use Rattle.term_parts.proofs.JoinLaws.{joining-none, joining-workable, joining-done, joining-type, joining-more, joining-ends, made_by, place_by, join_by, one_by, none_by, more_by, one_joined, joined_says}
use Prim.Native.Nat.{◌-◌}
use native.Mathlib.Omega.{arith}
use Rattle.term_parts.proofs.joined.join.Goals as goal

pub loop-left-init : goal.loop-left-init
loop-left-init c = joining-none (made_by c.args.by) (place_by c.args.by) (join_by c.args.by) (one_by c.args.by) (none_by c.args.by) (more_by c.args.by) c.args.work.now c.args.from c.args.count c.args.e c.requires

pub overflow_add-from : goal.overflow_add-from
overflow_add-from c = let a = c.requires.few in let b = c.loop-left.invariant.within in search rules

pub half_at-h-requires : goal.half_at-h-requires
half_at-h-requires c = ((joining-workable (made_by c.args.by) (place_by c.args.by) (join_by c.args.by) (one_by c.args.by) (none_by c.args.by) (more_by c.args.by) c.args.work.now c.args.from c.args.count c.args.e c.requires c.loop-left.work c.loop-left.f c.loop-left.left c.loop-left.invariant).room, omega (arith, c.requires.few, c.loop-left.invariant.within, c.loop-left-test.true))

pub join_one-requires : goal.join_one-requires
join_one-requires c = (joining-workable (made_by c.args.by) (place_by c.args.by) (join_by c.args.by) (one_by c.args.by) (none_by c.args.by) (more_by c.args.by) c.args.work.now c.args.from c.args.count c.args.e c.requires c.loop-left.work c.loop-left.f c.loop-left.left c.loop-left.invariant, (joining-type (made_by c.args.by) (place_by c.args.by) (join_by c.args.by) (one_by c.args.by) (none_by c.args.by) (more_by c.args.by) c.args.work.now c.args.from c.args.count c.args.e c.requires c.loop-left.work c.loop-left.f c.loop-left.left c.loop-left.invariant (c.loop-left.left - 1) (omega (arith, c.loop-left-test.true)) c.half_at-h.result c.half_at-h.ensures, c.loop-left.invariant.small))

pub returns-in_err-f : goal.returns-in_err-f
returns-in_err-f c = let p = err_from_is_err_and c.from_residual.result c.from_residual.ensures.1 in rw (p.1, p.2) (joined_says c.args.by _ _ _ _ _ _ (joining-ends (made_by c.args.by) (place_by c.args.by) (join_by c.args.by) (one_by c.args.by) (none_by c.args.by) (more_by c.args.by) c.args.work.now c.args.from c.args.count c.args.e c.requires c.loop-left.work c.loop-left.f c.loop-left.left c.loop-left.invariant (c.loop-left.left - 1) (omega (arith, c.loop-left-test.true)) c.half_at-h.result c.half_at-h.ensures _ _ (one_joined c.args.by c.loop-left.work c.half_at-h.result.place _ c.loop-left.f _ _ c.join_one.ensures) _ c.in_err-f.was))

pub loop-left-preserved : goal.loop-left-preserved
loop-left-preserved c = joining-more (made_by c.args.by) (place_by c.args.by) (join_by c.args.by) (one_by c.args.by) (none_by c.args.by) (more_by c.args.by) c.args.work.now c.args.from c.args.count c.args.e c.requires c.loop-left.work c.loop-left.f c.loop-left.left c.loop-left.invariant (c.loop-left.left - 1) (omega (arith, c.loop-left-test.true)) c.half_at-h.result c.half_at-h.ensures _ _ (one_joined c.args.by c.loop-left.work c.half_at-h.result.place _ c.loop-left.f _ _ c.join_one.ensures) _ c.in_ok-f.was

pub shape_of-work : goal.shape_of-work
shape_of-work c = c.loop-left.invariant.only.same

pub returns : goal.returns
returns c = joined_says c.args.by _ _ _ _ _ _ (joining-done (made_by c.args.by) (place_by c.args.by) (join_by c.args.by) (one_by c.args.by) (none_by c.args.by) (more_by c.args.by) c.args.work.now c.args.from c.args.count c.args.e c.requires c.loop-left.work c.loop-left.f c.loop-left.left c.loop-left.invariant (λ q. omega (arith, c.loop-left-test.false)))

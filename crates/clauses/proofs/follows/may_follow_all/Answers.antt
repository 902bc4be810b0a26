-- `clauses::may_follow_all` meets its contract. The invariant: the rows that are left decide. The measure is how many are left.
-- Assumes nothing.
use mathlib.Core.Path.{sym, ap, subst, ◌∙◌}
use native.Mathlib.Omega.{arith}
use Rattle.words.proofs.WordLaws.{not_yes, not_no}
use Rattle.clauses.specs.declared.rows.Row.{Row}
use Rattle.clauses.specs.Follows.{RowThere, row_follows}
use Rattle.clauses.proofs.FollowLaws.{following_none, following-no, following-more, following_key}
use Rattle.clauses.proofs.follows.may_follow_all.Goals as goal

pub loop-k-init : goal.loop-k-init
loop-k-init c =
    following_key c.args.text.now c.args.work.now c.args.d c.args.n 0 c.key_from-k.result c.requires.0 c.requires.1.0 c.requires.1.1 c.key_from-k.ensures (following_none c.args.text.now c.args.work.now c.args.d c.args.n)

pub may_follow-requires : goal.may_follow-requires
may_follow-requires c =
    (subst (RowThere c.args.text.now) (sym c.row_at-c.ensures) (c.requires.0.each c.loop-k.k (omega (arith, c.loop-k-test.true, c.requires.1.0))), c.requires.1.1)

pub returns-then-not-may_follow : goal.returns-then-not-may_follow
returns-then-not-may_follow c =
    let a = c.args in
    let l = c.loop-k in
    following-no a.text.now a.work.now a.d a.n l.k l.invariant c.loop-k-test.true (ap (λ (r : Row). row_follows a.text.now r a.d) (sym c.row_at-c.ensures) ∙ sym c.may_follow.ensures ∙ not_yes _ c.if-not-may_follow.true-raw)

pub loop-k-preserved : goal.loop-k-preserved
loop-k-preserved c =
    let l = c.loop-k in
    following_key c.args.text.now c.args.work.now c.args.d c.args.n _ c.key_from-k-in-loop-k.result c.requires.0 c.requires.1.0 c.requires.1.1 c.key_from-k-in-loop-k.ensures (following-more c.args.text.now c.args.work.now c.args.d c.args.n l.k l.invariant c.loop-k-test.true (ap (λ (r : Row). row_follows c.args.text.now r c.args.d) (sym c.row_at-c.ensures) ∙ sym c.may_follow.ensures ∙ not_no _ c.if-not-may_follow.false-raw))

-- `clauses::with_row` meets its contract. Assumes nothing.
use Prim.Native.Nat.{ℕ, ◌+◌, ◌≤◌}
use mathlib.Core.Path.{refl, sym, ap, ◌∙◌, subst}
use mathlib.Core.List.{List}
use lib.ListN.{length, length-set}
use lib.Seq.{length-sets}
use native.Mathlib.Omega.{arith}
use Rattle.words.proofs.WordLaws.{not_yes, not_no}
use Rattle.making_memory.specs.Map.{clause_count_at, making_size}
use Rattle.clauses.specs.Rows.{row_numbers}
use Rattle.clauses.specs.Cells.{CellsStored}
use Rattle.clauses.specs.Follows.{with_row}
use Rattle.clauses.proofs.FollowLaws.{refusal-full, refusal-covered, refusal-none, with_row_is}
use Rattle.clauses.proofs.follows.with_row.Goals as goal

pub returns-then-n-ge256 : goal.returns-then-n-ge256
returns-then-n-ge256 c = (refusal-full c.args.text.now c.args.work.now c.args.d c.row_count-n.result c.row_count-n.ensures c.if-n-ge256.true, omega arith, refl)

pub returns-then-not-may_follow_all : goal.returns-then-not-may_follow_all
returns-then-not-may_follow_all c = (refusal-covered c.args.text.now c.args.work.now c.args.d c.row_count-n.result c.row_count-n.ensures (omega (arith, c.if-n-ge256.false)) (sym c.may_follow_all.ensures ∙ not_yes _ c.if-not-may_follow_all.true-raw), omega arith, refl)

pub store-requires-2 : goal.store-requires-2
store-requires-2 c =
    let t = c.store in
    let l = length-set t.new.work clause_count_at (c.row_count-n.result + 1) ∙ ap length t.ensures ∙ length-sets c.args.work.now _ (row_numbers c.args.d) in
    (c.requires.1.0.numbers, (c.requires.1.1.1, (omega (arith, c.if-n-ge256.false), subst (λ (n : ℕ). making_size ≤ n) (sym l) c.requires.0.room)))

pub shape_of-work : goal.shape_of-work
shape_of-work c =
    let t = c.store in
    c.store-2.ensures.same ∙ length-set t.new.work clause_count_at (c.row_count-n.result + 1) ∙ ap length t.ensures ∙ length-sets c.args.work.now _ (row_numbers c.args.d)

pub returns : goal.returns
returns c =
    let n = c.row_count-n in
    let t = c.store in
    let u = c.store-2 in
    let d = c.args.d in
    (refusal-none c.args.text.now c.args.work.now d n.result n.ensures (omega (arith, c.if-n-ge256.false)) (sym c.may_follow_all.ensures ∙ not_no _ c.if-not-may_follow_all.false-raw), subst (λ (k : ℕ). CellsStored c.args.text.now (with_row c.args.work.now d) k d.numbered d.numbers u.new.work) n.ensures (subst (λ (w : List ℕ). CellsStored c.args.text.now w n.result d.numbered d.numbers u.new.work) (with_row_is c.args.text.now c.args.work.now d n.result n.ensures t.new.work t.ensures) u.ensures))

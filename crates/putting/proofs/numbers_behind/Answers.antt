-- `putting::numbers_behind` meets its contract: there are none, or the grammar reads the numbers, and each is worked out behind those that wait.
-- Assumes nothing.
use mathlib.Core.Path.{◌∙◌}
use Prim.Native.Nat.{◌+◌}
use lib.ListN.{length}
use Rattle.words.specs.Lexed.{from}
use Rattle.answers.proofs.Passed.{passed}
use Rattle.putting.proofs.NumberLaws.{numbers-none, numbers_refused, numbers-can, numbers-bad, numbers-good}
use Rattle.putting.proofs.numbers_behind.Goals as goal

pub returns-then-kind-ne-CURLY : goal.returns-then-kind-ne-CURLY
returns-then-kind-ne-CURLY c = numbers-none c.args.text.now c.args.work.now c.args.name c.args.at c.args.types c.args.frame c.args.top c.args.into c.requires c.mark_kind-kind.ensures.word c.mark_kind-kind.ensures.marks.curly (λ z. c.if-kind-ne-CURLY.true (c.mark_kind-kind.ensures.code ∙ z))

pub returns-in_err-end : goal.returns-in_err-end
returns-in_err-end c = rw (passed c.from_residual.result c.from_residual.ensures.1) (numbers_refused c.args.text.now c.args.work.now c.args.name c.args.at c.args.types c.args.frame c.args.top c.args.into c.requires (length (from c.args.text.now c.args.at) + 1) _ c.in_err-end.ensures)

pub numbers_given-requires : goal.numbers_given-requires
numbers_given-requires c = numbers-can c.args.text.now c.args.work.now c.args.name c.args.at c.args.types c.args.frame c.args.top c.args.into c.requires _ _ c.in_ok-end.ensures c.group_at-g.result c.group_at-g.ensures c.frame_at-f.result c.frame_at-f.ensures

pub returns-in_err-numbers_given : goal.returns-in_err-numbers_given
returns-in_err-numbers_given c = rw (passed c.from_residual-in_err-numbers_given.result c.from_residual-in_err-numbers_given.ensures.1) (numbers-bad c.args.text.now c.args.work.now c.args.name c.args.at c.args.types c.args.frame c.args.top c.args.into c.requires _ _ c.in_ok-end.ensures c.group_at-g.result c.group_at-g.ensures c.frame_at-f.result c.frame_at-f.ensures _ _ c.in_err-numbers_given.ensures)

pub returns : goal.returns
returns c = numbers-good c.args.text.now c.args.work.now c.args.name c.args.at c.args.types c.args.frame c.args.top c.args.into c.requires _ _ c.in_ok-end.ensures c.group_at-g.result c.group_at-g.ensures c.frame_at-f.result c.frame_at-f.ensures _ _ c.in_ok-numbers_given.ensures

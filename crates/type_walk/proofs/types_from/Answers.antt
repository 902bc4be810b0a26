-- `type_walk::types_from` meets its contract: there are none, the grammar refuses, or those that it reads are worked out. Assumes nothing.
use Prim.Native.Nat.{◌+◌}
use lib.ListN.{length}
use Rattle.answers.proofs.Passed.{passed}
use Rattle.words.specs.Next.{said_word}
use Rattle.words.specs.Lexed.{from}
use Rattle.type_walk.proofs.ManyLaws.{types_refused_there, types-none, types-can, types-some}
use native.Mathlib.Omega.{arith}
use Rattle.grammar.proofs.EndLaws.{mark-stands}
use Rattle.type_walk.proofs.types_from.Goals as goal

pub returns-then-w-ne-SQUARE : goal.returns-then-w-ne-SQUARE
returns-then-w-ne-SQUARE c = types-none c.args.text.now c.args.work.now c.args.at c.args.more c.args.frame c.args.top c.args.name (said_word c.mark_at-w.result) c.mark_at-w.ensures c.requires c.if-w-ne-SQUARE.true

pub returns-in_err-arguments_end : goal.returns-in_err-arguments_end
returns-in_err-arguments_end c = rw (passed c.from_residual.result c.from_residual.ensures.1) (types_refused_there c.args.text.now c.args.work.now c.args.at c.args.more c.args.frame c.args.top c.args.name (length (from c.args.text.now c.args.at) + 1) _ c.in_err-arguments_end.ensures)

pub arguments-requires : goal.arguments-requires
arguments-requires c = types-can c.args.text.now c.args.work.now c.args.at c.args.more c.args.frame c.args.top c.args.name (length (from c.args.text.now c.args.at) + 1) (said_word c.mark_at-w.result) (mark-stands _ _ _ c.mark_at-w.ensures 17 c.if-w-ne-SQUARE.false (λ z. omega arith)) c.requires _ c.in_ok-arguments_end.ensures c.if-w-ne-SQUARE.false

pub returns : goal.returns
returns c = types-some c.args.text.now c.args.work.now c.args.at c.args.more c.args.frame c.args.top c.args.name (length (from c.args.text.now c.args.at) + 1) (said_word c.mark_at-w.result) (mark-stands _ _ _ c.mark_at-w.ensures 17 c.if-w-ne-SQUARE.false (λ z. omega arith)) c.requires _ c.in_ok-arguments_end.ensures c.if-w-ne-SQUARE.false _ _ c.arguments.ensures

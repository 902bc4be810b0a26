-- `type_walk::rows::power_at` meets its contract: a number that the grammar reads, its value, and whether it is zero. Assumes nothing.
use Rattle.answers.proofs.Passed.{passed}
use Rattle.words.specs.Next.{said_word}
use Rattle.type_walk.proofs.RowLaws.{power_due, number_there, numbers-known, power-bad, power_zero, power-some}
use Rattle.type_walk.proofs.rows.power_at.Goals as goal

pub returns-in_err-number_end : goal.returns-in_err-number_end
returns-in_err-number_end c = rw (passed c.from_residual.result c.from_residual.ensures.1) (power_due c.args.text.now c.args.at c.args.work.now c.args.h c.args.sign _ c.in_err-number_end.ensures)

pub value_at-v-requires : goal.value_at-v-requires
value_at-v-requires c = (c.requires.1.0, (number_there c.args.text.now c.args.at _ c.in_ok-number_end.ensures, numbers-known _ _ _ _ c.frame_at-f.ensures c.requires.0))

pub returns-in_err-n : goal.returns-in_err-n
returns-in_err-n c = rw (passed c.from_residual-in_err-n.result c.from_residual-in_err-n.ensures.1) (power-bad c.args.text.now c.args.work.now c.args.h _ c.frame_at-f.ensures c.args.sign c.args.at _ c.value_at-v.ensures _ c.in_err-n.was)

pub returns-then-n-eq0 : goal.returns-then-n-eq0
returns-then-n-eq0 c = rw c.at.ensures (power_zero c.args.text.now c.args.work.now c.args.h _ c.frame_at-f.ensures c.args.sign c.args.at _ c.value_at-v.ensures _ c.in_ok-n.was c.if-n-eq0.true (said_word c.word_at-w.result) c.word_at-w.ensures)

pub returns : goal.returns
returns c = power-some c.args.text.now c.args.work.now c.args.h _ c.frame_at-f.ensures c.args.sign c.args.at _ c.value_at-v.ensures _ c.in_ok-n.was c.if-n-eq0.false _ _ c.row_from.ensures

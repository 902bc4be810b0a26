-- 1, then the sheet made and written. Assumes nothing.
use native.Mathlib.Omega.{arith}
use Rattle.answers.proofs.Passed.{passed}
use Rattle.maker.proofs.MadeLaws.{run_small, run-refused, run-stands, run-written}
use Rattle.maker.proofs.run.Goals as goal

pub returns-then-work-lt32768 : goal.returns-then-work-lt32768
returns-then-work-lt32768 c =
    rw c.at.ensures (run_small c.args.text.now c.args.out.now c.args.places.now c.args.work.now (omega arith))

pub returns-in_err-s : goal.returns-in_err-s
returns-in_err-s c =
    rw (passed c.from_residual.result c.from_residual.ensures.1) (run-refused c.args.text.now c.args.out.now c.args.places.now c.args.work.now (omega arith) _ _ c.in_err-s.ensures)

pub written-requires : goal.written-requires
written-requires c =
    run-stands c.args.text.now c.args.out.now c.args.places.now c.args.work.now (omega arith) _ _ c.in_ok-s.ensures c.from.result c.from.ensures

pub returns : goal.returns
returns c =
    run-written c.args.text.now c.args.out.now c.args.places.now c.args.work.now (omega arith) _ _ c.in_ok-s.ensures c.from.result c.from.ensures c.written.result _ _ c.written.ensures

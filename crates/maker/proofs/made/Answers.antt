-- 30, the words, the clauses, and then the term. Assumes nothing.
use native.Mathlib.Omega.{arith}
use Rattle.answers.proofs.Passed.{passed}
use Rattle.maker.proofs.MadeLaws.{made-long, made-words, made-clauses, made-can, made-text}
use Rattle.maker.proofs.made.Goals as goal

pub returns-then-text-gt65535 : goal.returns-then-text-gt65535
returns-then-text-gt65535 c =
    rw c.at.ensures (made-long c.args.text.now c.args.work.now (omega arith))

pub returns-in_err-check_words : goal.returns-in_err-check_words
returns-in_err-check_words c =
    rw (passed c.from_residual.result c.from_residual.ensures.1) (made-words c.args.text.now c.args.work.now (omega arith) _ c.in_err-check_words.ensures)

pub returns-in_err-r : goal.returns-in_err-r
returns-in_err-r c =
    rw (passed c.from_residual-in_err-r.result c.from_residual-in_err-r.ensures.1) (made-clauses c.args.text.now c.args.work.now (omega arith) c.in_ok-check_words.ensures _ _ c.in_err-r.ensures)

pub text_term-requires : goal.text_term-requires
text_term-requires c =
    made-can c.args.text.now c.args.work.now (omega arith) c.in_ok-check_words.ensures _ _ c.in_ok-r.ensures c.requires

pub returns : goal.returns
returns c =
    made-text c.args.text.now c.args.work.now (omega arith) c.in_ok-check_words.ensures _ _ c.in_ok-r.ensures c.requires c.text_term.result _ c.text_term.ensures

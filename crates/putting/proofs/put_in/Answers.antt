-- `putting::put_in` meets its contract: what is refused of the numbers is refused; or else they wait, and the clause that is meant is put in.
-- Assumes nothing.
use mathlib.Core.Path.{sym, ap}
use Rattle.answers.proofs.Passed.{passed}
use Rattle.putting.proofs.PutLaws.{ended_at, put_refused, put_can, put-there}
use Rattle.putting.proofs.put_in.Goals as goal

pub returns-in_err-n : goal.returns-in_err-n
returns-in_err-n c = rw (passed c.from_residual.result c.from_residual.ensures.1) (put_refused c.args.text.now c.args.work.now c.args.sort c.args.name c.args.at c.args.types c.args.frame c.args.top c.args.into c.requires c.numbers_behind.result c.numbers_behind.new.work c.numbers_behind.ensures _ c.in_err-n.was)

pub put_meant-requires : goal.put_meant-requires
put_meant-requires c = put_can c.args.text.now c.args.work.now c.args.sort c.args.name c.args.at c.args.types c.args.frame c.args.top c.args.into c.requires c.numbers_behind.result c.numbers_behind.new.work c.numbers_behind.ensures _ c.in_ok-n.was

pub returns-in_err-b : goal.returns-in_err-b
returns-in_err-b c = rw (passed c.from_residual-in_err-b.result c.from_residual-in_err-b.ensures.1) (put-there c.args.text.now c.args.work.now c.args.sort c.args.name c.args.at c.args.types c.args.frame c.args.top c.args.into c.requires c.numbers_behind.result c.numbers_behind.new.work c.numbers_behind.ensures _ c.in_ok-n.was c.put_meant.result c.put_meant.new.work c.put_meant.ensures _ (sym (ap (λ x. ended_at x c.in_ok-n.n.end) c.in_err-b.was)))

pub returns : goal.returns
returns c = put-there c.args.text.now c.args.work.now c.args.sort c.args.name c.args.at c.args.types c.args.frame c.args.top c.args.into c.requires c.numbers_behind.result c.numbers_behind.new.work c.numbers_behind.ensures _ c.in_ok-n.was c.put_meant.result c.put_meant.new.work c.put_meant.ensures _ (sym (ap (λ x. ended_at x c.in_ok-n.n.end) c.in_ok-b.was))

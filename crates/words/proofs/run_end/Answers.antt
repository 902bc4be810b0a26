-- `words::run_end` meets its contract: the bytes of a name are passed. Assumes nothing.
use Rattle.std.proofs.Common.{rules}
use Rattle.words.proofs.PassLaws.{run_passed}
use Rattle.words.proofs.run_end.Goals as goal

pub returns : goal.returns
returns c = run_passed _ c.args.text.now c.args.from _ (λ b r p. search rules) c.passed_end.ensures

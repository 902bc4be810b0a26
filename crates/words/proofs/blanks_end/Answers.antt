-- `words::blanks_end` meets its contract: the blanks are passed. Assumes nothing.
use Rattle.std.proofs.Common.{rules}
use Rattle.words.proofs.PassLaws.{gap_passed}
use Rattle.words.proofs.blanks_end.Goals as goal

pub returns : goal.returns
returns c =
    let p = c.passed_end.ensures in
    (p.behind, (p.inside, gap_passed _ c.args.text.now c.args.from _ (λ b r q. search rules) p))

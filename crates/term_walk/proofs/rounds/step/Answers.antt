-- By the phase. Assumes nothing.
use Rattle.term_walk.proofs.RoundLaws.{apply_says}
use Rattle.term_walk.proofs.rounds.step.Goals as goal

pub returns-in-Applying : goal.returns-in-Applying
returns-in-Applying c = apply_says c.args.text.now c.args.work.now c.args.n c.in-Applying.is _ _ c.application_from.ensures

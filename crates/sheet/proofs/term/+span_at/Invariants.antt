-- `sheet::span_at` meets its contract. The measure is the depth left. Assumes nothing.
use Rattle.sheet.proofs.term.+span_at.Given as goal

abbrev pub decreases-span_at : goal.decreases-span_at
decreases-span_at l = l.more

-- By the number of subterms, which have smaller numbers. Assumes nothing.
use Rattle.sheet_writer.proofs.+write_term.Given as goal

abbrev pub decreases-write_term : goal.decreases-write_term
decreases-write_term l = l.k

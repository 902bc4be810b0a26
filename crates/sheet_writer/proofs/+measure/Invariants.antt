-- By the number of subterms, which have smaller numbers. Assumes nothing.
use Rattle.sheet_writer.proofs.+measure.Given as goal

abbrev pub decreases-measure : goal.decreases-measure
decreases-measure l = l.k

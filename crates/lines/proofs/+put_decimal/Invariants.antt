-- Below 10 one digit; otherwise those of a tenth, then the last. The falling number is the number itself. Assumes nothing.
use Rattle.lines.proofs.+put_decimal.Given as goal

abbrev pub decreases-put_decimal : goal.decreases-put_decimal
decreases-put_decimal l = l.n

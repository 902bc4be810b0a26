-- `binders::with_digit` meets its contract: no shift loses a digit, and the old one's part is within the word. Assumes nothing.
use borrow.Author.Rules.{rules}
use Rattle.binders.proofs.Bits.{digit-part, digit-put, digit-fits, digit-below, shifted}
use Rattle.binders.proofs.with_digit.Goals as goal

pub overflow_sub-rest : goal.overflow_sub-rest
overflow_sub-rest c = rw (shifted c.args.j _ c.requires.0 (digit-below c.args.j c.args.word)) (digit-part c.args.j c.args.word)

pub overflow_add-result : goal.overflow_add-result
overflow_add-result c = record { fits = rw (shifted _ _ c.requires.0 (digit-below c.args.j c.args.word), shifted _ _ c.requires.0 c.requires.1, digit-put c.args.j c.args.word c.args.x) (digit-fits 64 _ _ _ c.requires.0 (search rules) c.requires.1) }

pub returns : goal.returns
returns c = rw (shifted _ _ c.requires.0 (digit-below c.args.j c.args.word), shifted _ _ c.requires.0 c.requires.1) (digit-put c.args.j c.args.word c.args.x)

-- `clauses::number_behind` meets its contract. Assumes nothing.
use mathlib.Core.Path.{sym, subst}
use mathlib.Core.List.{List}
use Rattle.notation_calculus.specs.Words.{Word}
use Rattle.words.specs.Next.{said_word}
use Rattle.clauses.specs.Numbers.{NumberThere, NumberRead}
use Rattle.clauses.proofs.NumberLaws.{behind_on}
use Rattle.clauses.proofs.numbers.number_behind.Goals as goal

pub number_at-requires : goal.number_at-requires
number_at-requires c = (((behind_on c.args.text.now c.args.at (said_word c.word_at-w.result) c.word_at-w.ensures c.requires.1)).lexed, subst NumberThere ((behind_on c.args.text.now c.args.at (said_word c.word_at-w.result) c.word_at-w.ensures c.requires.1)).rest c.requires.1)

pub returns : goal.returns
returns c = subst (λ (us : List Word). NumberRead c.args.text.now us c.number_at.result) (sym ((behind_on c.args.text.now c.args.at (said_word c.word_at-w.result) c.word_at-w.ensures c.requires.1)).rest) c.number_at.ensures

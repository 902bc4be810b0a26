-- `words::rare_class` meets its contract: a letter, a digit, a blank, or none of them. Assumes nothing.
use mathlib.Core.Path.{sym, ◌∙◌}
use Rattle.words.specs.Classes.{gapped, others}
use Rattle.words.proofs.ClassLaws.{class_letter, class_digit}
use Rattle.words.proofs.rare_class.Goals as goal

pub returns-then-letter : goal.returns-then-letter
returns-then-letter c = class_letter c.args.c c.requires (sym c.letter.ensures ∙ c.if-letter.true)

pub returns-then-digit : goal.returns-then-digit
returns-then-digit c = class_digit c.args.c (sym c.digit.ensures ∙ c.if-digit.true)

pub returns-then-blank : goal.returns-then-blank
returns-then-blank c = gapped (sym c.blank.ensures ∙ c.if-blank.true)

pub returns : goal.returns
returns c = others (sym c.blank.ensures ∙ c.if-blank.false) (sym c.digit.ensures ∙ c.if-digit.false) (sym c.letter.ensures ∙ c.if-letter.false) c.requires.single

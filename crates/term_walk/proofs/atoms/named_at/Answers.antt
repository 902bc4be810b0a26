-- By the word behind the name: arguments, or none. Assumes nothing.
use Rattle.term_walk.proofs.AtomLaws.{named_square, named_curly, named-plain}
use mathlib.Core.Path.{sym, ◌∙◌}
use Rattle.term_walk.proofs.atoms.named_at.Goals as goal

pub returns-then-kind-eq-SQUARE : goal.returns-then-kind-eq-SQUARE
returns-then-kind-eq-SQUARE c = named_square c.args.text.now c.args.work.now c.args.h c.args.s c.args.name c.args.at c.requires.1.0 c.mark_kind-kind.ensures.word c.mark_kind-kind.ensures.marks (sym c.mark_kind-kind.ensures.code ∙ c.if-kind-eq-SQUARE.true) _ _ c.put_term.ensures

pub returns-then-kind-eq-CURLY : goal.returns-then-kind-eq-CURLY
returns-then-kind-eq-CURLY c = named_curly c.args.text.now c.args.work.now c.args.h c.args.s c.args.name c.args.at c.requires.1.0 c.mark_kind-kind.ensures.word c.mark_kind-kind.ensures.marks (λ z. c.if-kind-eq-SQUARE.false (c.mark_kind-kind.ensures.code ∙ z)) (sym c.mark_kind-kind.ensures.code ∙ c.if-kind-eq-CURLY.true) _ _ c.put_term-then-kind-eq-CURLY.ensures

pub returns : goal.returns
returns c = named-plain c.args.text.now c.args.work.now c.args.h c.args.s c.args.name c.args.at c.requires.1.0 c.mark_kind-kind.ensures.word c.mark_kind-kind.ensures.marks (λ z. c.if-kind-eq-SQUARE.false (c.mark_kind-kind.ensures.code ∙ z)) (λ z. c.if-kind-eq-CURLY.false (c.mark_kind-kind.ensures.code ∙ z)) _ _ c.plain_at.ensures

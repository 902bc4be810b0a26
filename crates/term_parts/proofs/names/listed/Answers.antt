-- By the code of the word. Assumes nothing.
use Rattle.term_parts.proofs.ListLaws.{listed-name, listed_comma, listed-closing}
use Rattle.term_parts.proofs.names.listed.Goals as goal

pub returns-then-kind-eq-NAME : goal.returns-then-kind-eq-NAME
returns-then-kind-eq-NAME c = listed-name c.args.kind c.if-kind-eq-NAME.true

pub returns-then-kind-eq-COMMA : goal.returns-then-kind-eq-COMMA
returns-then-kind-eq-COMMA c = listed_comma c.args.kind c.if-kind-eq-NAME.false c.if-kind-eq-COMMA.true

pub returns : goal.returns
returns c = listed-closing c.args.kind c.if-kind-eq-NAME.false c.if-kind-eq-COMMA.false

-- `clauses::clause_end` meets its contract. Assumes nothing.
use Rattle.clauses.proofs.ItemLaws.{clause_type, clause_term}
use Rattle.clauses.proofs.texts.clause_end.Goals as goal

pub returns-then-sort : goal.returns-then-sort
returns-then-sort c = clause_type c.args.text.now c.args.at c.args.sort c.type_clause_end.result c.if-sort.true c.type_clause_end.ensures

pub returns : goal.returns
returns c = clause_term c.args.text.now c.args.at c.args.sort c.term_clause_end.result c.if-sort.false c.term_clause_end.ensures

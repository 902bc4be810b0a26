-- `clauses::cover_all` meets its contract. The invariant: what is left of the two lists decides.
-- Assumes nothing.
use mathlib.Core.Path.{sym, ◌∙◌}
use Rattle.words.proofs.WordLaws.{not_yes, not_no}
use Rattle.clauses.proofs.NumberLaws.{covering_no, covering_more}
use Rattle.clauses.proofs.numbers.cover_all.Goals as goal

pub returns-then-not-covers : goal.returns-then-not-covers
returns-then-not-covers c = covering_no c.args.text.now c.args.a c.args.b c.args.n c.loop.counter c.loop.p c.loop.q c.loop.invariant c.loop-test.true c.number_behind-x.result c.number_behind-y.result c.number_behind-x.ensures c.number_behind-y.ensures (sym c.covers.ensures ∙ not_yes _ c.if-not-covers.true-raw)

pub loop-preserved : goal.loop-preserved
loop-preserved c = covering_more c.args.text.now c.args.a c.args.b c.args.n c.loop.counter c.loop.p c.loop.q c.loop.invariant c.loop-test.true c.number_behind-x.result c.number_behind-y.result c.number_behind-x.ensures c.number_behind-y.ensures (sym c.covers.ensures ∙ not_no _ c.if-not-covers.false-raw)

-- `sheet::limits` meets its contract: its tests come in the order of `limits_of_lem`. Assumes nothing.
use mathlib.Core.Path.{sym, ◌∙◌}
use borrow.Author.Tests.{not-true, not-false}
use Rattle.sheet.proofs.HeadLaws.{limit_known, limit-count, limit-depth, limit-type, limit-none}
use Rattle.sheet.proofs.term.limits.Goals as goal

pub returns-then-not-here : goal.returns-then-not-here
returns-then-not-here c = rw c.at.ensures (limit_known _ _ _ _ _ _ (sym c.known-here.ensures ∙ not-true _ c.if-not-here.true-raw))

pub returns-then-count-ge-MOST_NODES : goal.returns-then-count-ge-MOST_NODES
returns-then-count-ge-MOST_NODES c = rw c.at-then-count-ge-MOST_NODES.ensures (limit-count _ _ _ _ _ _ (sym c.known-here.ensures ∙ not-false _ c.if-not-here.false-raw) c.if-count-ge-MOST_NODES.true)

pub returns-then-more-eq0 : goal.returns-then-more-eq0
returns-then-more-eq0 c = rw c.at-then-more-eq0.ensures (limit-depth _ _ _ _ _ _ (sym c.known-here.ensures ∙ not-false _ c.if-not-here.false-raw) c.if-count-ge-MOST_NODES.false c.if-more-eq0.true)

pub returns-then-unknown_type : goal.returns-then-unknown_type
returns-then-unknown_type c = rw c.at-then-unknown_type.ensures (limit-type _ _ _ _ _ _ (sym c.known-here.ensures ∙ not-false _ c.if-not-here.false-raw) c.if-count-ge-MOST_NODES.false c.if-more-eq0.false (sym c.unknown_type.ensures ∙ c.if-unknown_type.true))

pub returns : goal.returns
returns c = limit-none _ _ _ _ _ _ (sym c.known-here.ensures ∙ not-false _ c.if-not-here.false-raw) c.if-count-ge-MOST_NODES.false c.if-more-eq0.false (sym c.unknown_type.ensures ∙ c.if-unknown_type.false)

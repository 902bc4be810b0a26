-- By the kind of the function's type. Assumes nothing.
use mathlib.Core.Path.{sym, ◌∙◌}
use Rattle.made_nodes.proofs.FormLaws.{applied_arrow, applied_linear, applied-other}
use Rattle.made_nodes.proofs.pairs.applied.Goals as goal

pub returns-then-kind-eq3 : goal.returns-then-kind-eq3
returns-then-kind-eq3 c = applied_arrow c.args.work.now c.args.place c.args.f c.args.a _ _ _ (sym c.kind_of-kind.ensures ∙ c.if-kind-eq3.true) c.right_of-to.ensures c.over.ensures

pub returns-then-kind-eq4 : goal.returns-then-kind-eq4
returns-then-kind-eq4 c = applied_linear c.args.work.now c.args.place c.args.f c.args.a _ _ _ (sym c.kind_of-kind.ensures ∙ c.if-kind-eq4.true) c.right_of-to-then-kind-eq4.ensures c.over-then-kind-eq4.ensures

pub returns : goal.returns
returns c = applied-other c.args.work.now c.args.place c.args.f c.args.a _ _ _ (λ e. c.if-kind-eq3.false (c.kind_of-kind.ensures ∙ e)) (λ e. c.if-kind-eq4.false (c.kind_of-kind.ensures ∙ e)) c.by_sort-by.ensures c.over-2.ensures

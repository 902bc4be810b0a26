-- By the edition, and the sort of the value. Assumes nothing.
use mathlib.Core.Path.{sym, ◌∙◌}
use Rattle.made_nodes.proofs.FormLaws.{naming_short, naming_long, failed}
use Rattle.made_nodes.proofs.binders.naming.Goals as goal
use Rattle.made_nodes.proofs.binders.naming.Goals.{then-work-eq1+else-shares, else-work-eq1}

pub returns-then-shares : goal.returns-then-shares
returns-then-shares c = naming_short c.args.work.now c.args.place c.args.v c.args.e _ _ c.requires.1.1 c.if-work-eq1.true (sym c.shares.ensures ∙ c.if-shares.true) c.over.ensures

pub returns : goal.returns
returns c =
    elim c.if-work-eq1.branch [
      | then-work-eq1+else-shares w ↦ naming_long c.args.work.now c.args.place c.args.v c.args.e _ _ (λ s k. failed _ _ w.shares.ensures w.if-shares.false k) c.name_applied.ensures
      | else-work-eq1 w ↦ naming_long c.args.work.now c.args.place c.args.v c.args.e _ _ (λ s k. w.if-work-eq1.false s) c.name_applied.ensures
    ]

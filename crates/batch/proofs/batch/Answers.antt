-- `batch::batch` meets its contract: by its two tests; the row of calls is `each`'s. Assumes nothing.
use mathlib.Core.Path.{sym, ◌∙◌}
use Rattle.translation.specs.Wished.{all_wish}
use Rattle.batch.proofs.BatchLaws.{no_room, no_sum, fitting}
use Rattle.batch.proofs.batch.Goals as goal

pub returns-then-results-lengths : goal.returns-then-results-lengths
returns-then-results-lengths c =
    let a = c.args in
    rw c.at.ensures (sym (no_room (all_wish a.wish) a.sheets.now a.lengths.now a.out.now a.results.now a.work.now c.if-results-lengths.true))

pub returns-then-not-adds_up : goal.returns-then-not-adds_up
returns-then-not-adds_up c =
    let a = c.args in
    rw c.at-then-not-adds_up.ensures
    (sym (no_sum (all_wish a.wish) a.sheets.now a.lengths.now a.out.now a.results.now a.work.now c.if-results-lengths.false (sym c.adds_up.ensures ∙ c.if-not-adds_up.true)))

pub returns : goal.returns
returns c =
    let a = c.args in
    c.each.ensures
    ∙ sym (fitting (all_wish a.wish) a.sheets.now a.lengths.now a.out.now a.results.now a.work.now c.if-results-lengths.false (sym c.adds_up.ensures ∙ c.if-not-adds_up.false))

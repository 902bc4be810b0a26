-- `sheet::check_type` meets its contract: its tests come in the order of `size_of`. Assumes nothing.
use mathlib.Core.Path.{sym, ◌∙◌}
use borrow.Author.Tests.{not-true, not-false}
use native.Mathlib.Omega.{arith}
use Rattle.sheet.specs.Tables.{table_in}
use Rattle.sheet.proofs.CheckLaws.{check_many, check-unknown, check-misformed, check-again, check-large, check-sized}
use Rattle.records.proofs.ToldLaws.{sizes-length}
use Rattle.sheet.proofs.types.check_type.Goals as goal

pub returns-then-count-ge-MOST_TYPES : goal.returns-then-count-ge-MOST_TYPES
returns-then-count-ge-MOST_TYPES c =
    rw c.at.ensures (check_many c.requires.0 _ _ c.if-count-ge-MOST_TYPES.true)

pub returns-then-not-numbers : goal.returns-then-not-numbers
returns-then-not-numbers c =
    rw c.at-then-not-numbers.ensures (check-unknown c.requires.0 _ _ c.if-count-ge-MOST_TYPES.false (sym c.known-numbers.ensures ∙ not-true _ c.if-not-numbers.true-raw))

pub returns-then-not-form : goal.returns-then-not-form
returns-then-not-form c =
    rw c.at-then-not-form.ensures (check-misformed c.requires.0 _ _ c.if-count-ge-MOST_TYPES.false (sym c.known-numbers.ensures ∙ not-false _ c.if-not-numbers.false-raw) (sym c.formed-form.ensures ∙ not-true _ c.if-not-form.true-raw))

pub repeats_by-requires : goal.repeats_by-requires
repeats_by-requires c = (omega (arith, c.if-count-ge-MOST_TYPES.false), c.requires.1)

pub returns-then-repeats_by : goal.returns-then-repeats_by
returns-then-repeats_by c =
    rw c.at-then-repeats_by.ensures (check-again c.requires.0 _ _ c.if-count-ge-MOST_TYPES.false (sym c.known-numbers.ensures ∙ not-false _ c.if-not-numbers.false-raw) (sym c.formed-form.ensures ∙ not-false _ c.if-not-form.false-raw) (sym c.repeats_by.ensures ∙ c.if-repeats_by.true))

pub size_of-size-requires : goal.size_of-size-requires
size_of-size-requires c =
    rw c.requires.0.sizes_are (sizes-length (table_in c.args.s.now c.args.count) c.requires.0.ok.few)

pub returns-then-size-gt-LARGEST_SIZE : goal.returns-then-size-gt-LARGEST_SIZE
returns-then-size-gt-LARGEST_SIZE c =
    rw c.at-then-size-gt-LARGEST_SIZE.ensures (check-large c.requires.0 _ _ c.if-count-ge-MOST_TYPES.false (sym c.known-numbers.ensures ∙ not-false _ c.if-not-numbers.false-raw) (sym c.formed-form.ensures ∙ not-false _ c.if-not-form.false-raw) (sym c.repeats_by.ensures ∙ c.if-repeats_by.false)
    (rw c.size_of-size.ensures at c.if-size-gt-LARGEST_SIZE.true))

pub returns : goal.returns
returns c =
    rw c.size_of-size.ensures
    (check-sized c.requires.0 _ _ c.if-count-ge-MOST_TYPES.false (sym c.known-numbers.ensures ∙ not-false _ c.if-not-numbers.false-raw) (sym c.formed-form.ensures ∙ not-false _ c.if-not-form.false-raw) (sym c.repeats_by.ensures ∙ c.if-repeats_by.false)
    (rw c.size_of-size.ensures at c.if-size-gt-LARGEST_SIZE.false))

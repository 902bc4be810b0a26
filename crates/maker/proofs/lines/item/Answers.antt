-- By the item's first word: the end, a line, or a definition, which the grammar passes. Assumes nothing.
use native.Mathlib.Omega.{arith}
use Rattle.answers.proofs.Passed.{passed}
use Rattle.words.specs.Next.{said_word}
use Rattle.maker.proofs.ItemSteps.{item_few, item_ends, item_line, item-says, item_refused, item_good, item-clause}
use Rattle.maker.proofs.lines.item.Goals as goal

pub returns-then-w-eq0 : goal.returns-then-w-eq0
returns-then-w-eq0 c =
    let v = c.word_at-w in
    item_ends c.args.text.now c.args.work.now c.args.here.at c.args.here.seen c.requires (said_word v.result) v.ensures c.if-w-eq0.true

pub line-requires : goal.line-requires
line-requires c =
    let v = c.word_at-w in
    item_line c.args.text.now c.args.work.now c.args.here.at c.args.here.seen c.requires (said_word v.result) v.ensures c.if-w-eq0.false c.if-w-eq-TABLE.true

pub returns-in_err-past : goal.returns-in_err-past
returns-in_err-past c =
    let v = c.word_at-w in
    rw (passed c.from_residual.result c.from_residual.ensures.1) (item_refused c.args.text.now c.args.work.now c.args.here.at c.args.here.seen c.requires (said_word v.result) v.ensures c.if-w-eq0.false c.if-w-eq-TABLE.true _ _ c.in_err-past.ensures)

pub returns-then-w-eq-TABLE : goal.returns-then-w-eq-TABLE
returns-then-w-eq-TABLE c =
    let v = c.word_at-w in
    item-says c.args.text.now c.args.work.now c.args.here.at c.args.here.seen c.requires (said_word v.result) v.ensures c.if-w-eq0.false c.if-w-eq-TABLE.true _ _ c.in_ok-past.ensures

pub unwrap-at-requires : goal.unwrap-at-requires
unwrap-at-requires c =
    let v = c.word_at-w in
    item_good c.args.text.now c.args.work.now c.args.here.at c.args.here.seen c.requires (said_word v.result) v.ensures c.if-w-eq0.false c.if-w-eq-TABLE.false c.item_end.result c.item_end.ensures

pub overflow_add-result : goal.overflow_add-result
overflow_add-result c =
    let v = c.word_at-w in
    omega (arith, item_few c.args.text.now c.args.work.now c.args.here.at c.args.here.seen c.requires (said_word v.result) v.ensures)

pub returns : goal.returns
returns c =
    let v = c.word_at-w in
    item-clause c.args.text.now c.args.work.now c.args.here.at c.args.here.seen c.requires (said_word v.result) v.ensures c.if-w-eq0.false c.if-w-eq-TABLE.false c.item_end.result c.item_end.ensures _ c.unwrap-at.ensures

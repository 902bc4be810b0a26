-- `scopes::open` meets its contract: the names, then the frame. Assumes nothing.
use native.Mathlib.Omega.{arith}
use Rattle.scopes.proofs.OpenLaws.{open_rows, open-types, open-numbers, open-room, open-seen, opened}
use Rattle.scopes.proofs.opened.open.Goals as goal

pub seen_by-seen-requires : goal.seen_by-seen-requires
seen_by-seen-requires c = open_rows c.args.text.now c.args.work.now c.args.k c.args.frame c.args.top c.requires

pub overflow_add-numbers : goal.overflow_add-numbers
overflow_add-numbers c = omega (arith, ((open-types c.args.text.now c.args.work.now c.args.k c.args.frame c.args.top c.requires c.row_at-c.result (c.row_at-c.ensures))).1.few)

pub name_types-requires : goal.name_types-requires
name_types-requires c = (open-types c.args.text.now c.args.work.now c.args.k c.args.frame c.args.top c.requires c.row_at-c.result (c.row_at-c.ensures))

pub name_numbers-requires : goal.name_numbers-requires
name_numbers-requires c = (open-numbers c.args.text.now c.args.work.now c.args.k c.args.frame c.args.top c.requires c.row_at-c.result (c.row_at-c.ensures) _ c.name_types.ensures)

pub overflow_add-f : goal.overflow_add-f
overflow_add-f c = omega (arith, ((open-numbers c.args.text.now c.args.work.now c.args.k c.args.frame c.args.top c.requires c.row_at-c.result (c.row_at-c.ensures) _ c.name_types.ensures)).1.few)

pub set_frame-requires : goal.set_frame-requires
set_frame-requires c = (c.requires.level, (open-room c.args.text.now c.args.work.now c.args.k c.args.frame c.args.top c.requires c.row_at-c.result (c.row_at-c.ensures) _ c.name_types.ensures _ (c.name_numbers.ensures) c.seen_by-seen.result c.seen_by-seen.ensures, (open-seen c.args.text.now c.args.work.now c.args.k c.args.frame c.args.top c.requires c.row_at-c.result (c.row_at-c.ensures) _ c.name_types.ensures _ (c.name_numbers.ensures) c.seen_by-seen.result c.seen_by-seen.ensures, (omega (arith, ((open-numbers c.args.text.now c.args.work.now c.args.k c.args.frame c.args.top c.requires c.row_at-c.result (c.row_at-c.ensures) _ c.name_types.ensures)).1.few), (omega (arith, ((open-numbers c.args.text.now c.args.work.now c.args.k c.args.frame c.args.top c.requires c.row_at-c.result (c.row_at-c.ensures) _ c.name_types.ensures)).1.few), omega (arith, ((open-numbers c.args.text.now c.args.work.now c.args.k c.args.frame c.args.top c.requires c.row_at-c.result (c.row_at-c.ensures) _ c.name_types.ensures)).1.few))))))

pub returns : goal.returns
returns c = opened c.args.text.now c.args.work.now c.args.k c.args.frame c.args.top c.requires c.row_at-c.result (c.row_at-c.ensures) _ c.name_types.ensures _ (c.name_numbers.ensures) c.seen_by-seen.result c.seen_by-seen.ensures _ c.set_frame.ensures

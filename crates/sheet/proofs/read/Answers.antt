-- `sheet::read` meets its contract: length, then the records behind the opening; offsets count it. Assumes nothing.
use native.Mathlib.Omega.{arith}
use Rattle.sheet.proofs.ReadLaws.{read-long, read-good, read-bad, read-within, opening_small}
use Rattle.sheet.proofs.read.Goals as goal

pub returns-then-s-gt-LONGEST_SHEET : goal.returns-then-s-gt-LONGEST_SHEET
returns-then-s-gt-LONGEST_SHEET c = rw c.at.ensures (read-long _ c.if-s-gt-LONGEST_SHEET.true)

pub overflow_add-result : goal.overflow_add-result
overflow_add-result c =
    let w = read-within c.args.s.now c.if-s-gt-LONGEST_SHEET.false _ c.is_second.ensures c.records_of.ensures.bytes c.read_records.ensures c.in-Err.is in
    let o = opening_small c.args.s.now in
    record { fits = omega (arith, c.opening.ensures) }

pub returns-in-Ok : goal.returns-in-Ok
returns-in-Ok c =
    read-good c.args.s.now c.if-s-gt-LONGEST_SHEET.false _ c.is_second.ensures c.records_of.ensures.bytes c.read_records.ensures c.in-Ok.is

pub returns-in-Err : goal.returns-in-Err
returns-in-Err c =
    rw c.opening.ensures (read-bad c.args.s.now c.if-s-gt-LONGEST_SHEET.false _ c.is_second.ensures c.records_of.ensures.bytes c.read_records.ensures c.in-Err.is)

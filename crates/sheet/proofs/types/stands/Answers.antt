-- `sheet::stands` meets its contract. The invariant: none of the first t records is the same. Assumes nothing.
use mathlib.Core.Path.{refl, sym, ◌∙◌}
use native.Mathlib.Omega.{arith}
use Rattle.records.specs.Forms.{rec_of, rec_in}
use Rattle.sheet.proofs.TableLaws.{repeated-found, repeated-more}
use Rattle.sheet.proofs.RepeatLaws.{first-apart, repeated_fewer}
use Rattle.sheet.proofs.types.stands.Goals as goal

pub loop-t-init : goal.loop-t-init
loop-t-init c =
    first-apart c.args.s.now c.args.left c.args.right c.args.kind c.requires.1 c.requires.2

pub is_record-requires : goal.is_record-requires
is_record-requires c =
    (omega arith, omega (arith, c.loop-t-test.true, c.requires.0), c.requires.1, c.requires.2)

pub returns-then-is_record : goal.returns-then-is_record
returns-then-is_record c =
    let a = c.args in
    sym (repeated-found a.s.now a.count c.loop-t.t (rec_in a.s.now c.loop-t.t) (rec_of a.kind a.left a.right) c.loop-t-test.true refl (sym c.is_record.ensures ∙ c.if-is_record.true))

pub loop-t-preserved : goal.loop-t-preserved
loop-t-preserved c =
    let l = c.loop-t in
    let a = c.args in
    repeated-more a.s.now l.t (rec_in a.s.now l.t) (rec_of a.kind a.left a.right) l.invariant refl (sym c.is_record.ensures ∙ c.if-is_record.false)

pub returns : goal.returns
returns c =
    let l = c.loop-t in
    let a = c.args in
    sym (repeated_fewer a.s.now (rec_of a.kind a.left a.right) l.t a.count (omega (arith, c.loop-t-test.false)) l.invariant)

-- `clauses::store` meets its contract. The invariant: the cells of the numbers that were read stand there, and the others are left. Assumes nothing.
use native.Mathlib.Omega.{arith}
use Rattle.clauses.proofs.NumberLaws.{number_there}
use Rattle.clauses.proofs.CellLaws.{keeping-more, keeping_all}
use Rattle.clauses.proofs.cells.store.Goals as goal

pub number_behind-x-requires : goal.number_behind-x-requires
number_behind-x-requires c =
    let l = c.loop-i in
    (l.invariant.there.lexed, number_there c.args.text.now l.p _ l.invariant.there (omega (arith, c.loop-i-test.true, c.cells_in-c.ensures.most)))

pub bounds-work-row : goal.bounds-work-row
bounds-work-row c =
    let l = c.loop-i in
    omega (arith, c.requires.1.1.0, c.requires.1.1.1, l.invariant.same, c.loop-i-test.true, c.cells_in-c.ensures.few)

pub loop-i-preserved : goal.loop-i-preserved
loop-i-preserved c =
    let l = c.loop-i in
    let m = c.cells_in-c in
    let x = c.number_behind-x in
    keeping-more c.args.text.now c.args.work.now c.args.k c.args.at c.args.n c.requires.1.1.0 c.requires.1.1.1 l.work l.i l.p l.invariant m.result m.ensures c.loop-i-test.true x.result x.ensures c.cell_of.result c.cell_of.ensures

pub returns : goal.returns
returns c =
    let l = c.loop-i in
    let m = c.cells_in-c in
    keeping_all c.args.text.now c.args.work.now c.args.k c.args.at c.args.n c.requires.1.1.0 c.requires.1.1.1 l.work l.i l.p l.invariant m.result m.ensures c.loop-i-test.false

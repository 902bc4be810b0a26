-- `clauses::fit_all` meets its contract. The invariant: what is left of the numbers and the values decides.
-- Assumes nothing.
use mathlib.Core.Path.{sym, ◌∙◌}
use Rattle.words.proofs.WordLaws.{not_yes, not_no}
use Rattle.clauses.proofs.MeantLaws.{on_none, on-there, on-no, on-more, on_all}
use Rattle.clauses.proofs.meant.fit_all.Goals as goal

pub loop-i-init : goal.loop-i-init
loop-i-init c =
    on_none c.args.text.now c.args.work.now c.args.at c.args.n c.args.first c.first_at-p.result c.requires.0 c.first_at-p.ensures

pub number_past-k-requires : goal.number_past-k-requires
number_past-k-requires c =
    let l = c.loop-i in
    on-there c.args.text.now c.args.work.now c.args.at c.args.n c.args.first l.i l.p l.invariant c.loop-i-test.true

pub returns-then-not-fits : goal.returns-then-not-fits
returns-then-not-fits c =
    let l = c.loop-i in
    let k = c.number_past-k in
    let v = c.value_of-v in
    on-no c.args.text.now c.args.work.now c.args.at c.args.n c.args.first l.i l.p l.invariant c.loop-i-test.true k.result k.ensures v.result v.ensures (sym c.fits.ensures ∙ not_yes _ c.if-not-fits.true-raw)

pub loop-i-preserved : goal.loop-i-preserved
loop-i-preserved c =
    let l = c.loop-i in
    let k = c.number_past-k in
    let v = c.value_of-v in
    on-more c.args.text.now c.args.work.now c.args.at c.args.n c.args.first l.i l.p l.invariant c.loop-i-test.true k.result k.ensures v.result v.ensures (sym c.fits.ensures ∙ not_no _ c.if-not-fits.false-raw)

pub returns : goal.returns
returns c =
    let l = c.loop-i in
    on_all c.args.text.now c.args.work.now c.args.at c.args.n c.args.first l.i l.p l.invariant c.loop-i-test.false

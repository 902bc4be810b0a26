-- By its counts, its sort and its name. Assumes nothing.
use Rattle.maker.proofs.JudgedLaws.{judged_typed, judged-numbered, judged-sort, judged-name}
use Rattle.maker.proofs.judged.is_judged.Goals as goal

pub returns-then-r-ne0 : goal.returns-then-r-ne0
returns-then-r-ne0 c =
    judged_typed c.args.text.now c.args.r c.if-r-ne0.true

pub returns-then-r-ne0-2 : goal.returns-then-r-ne0-2
returns-then-r-ne0-2 c =
    judged-numbered c.args.text.now c.args.r c.if-r-ne0.false c.if-r-ne0-2.true

pub returns-then-r : goal.returns-then-r
returns-then-r c =
    judged-sort c.args.text.now c.args.r c.if-r-ne0.false c.if-r-ne0-2.false c.if-r.true

pub returns : goal.returns
returns c =
    judged-name c.args.text.now c.args.r c.if-r-ne0.false c.if-r-ne0-2.false c.if-r.false c.named_main.result c.named_main.ensures

-- `translation::translate` meets its contract: after the stages the working memory is cleared. Assumes nothing.
use mathlib.Core.Path.{◌∙◌, ap}
use Rattle.translator.specs.Said.{called}
use Rattle.export_calculus.specs.CardCall.{card_call}
use Rattle.translator.proofs.CallLaws.{call-run}
use Rattle.translation.proofs.translate.Goals as goal

pub returns : goal.returns
unfolding card_call
returns c =
    ap (called c.run-r.result c.run-r.new.out) c.clear.ensures
    ∙ call-run _ _ c.run-r.ensures.0 c.run-r.ensures.1

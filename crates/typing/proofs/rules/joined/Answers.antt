-- `typing::rules::joined` meets its contract: by the rule of the node. Assumes nothing.
use mathlib.Core.Path.{◌∙◌}
use Rattle.records.specs.Forms.{rec_in}
use Rattle.typing.proofs.StepLaws.{join_app, join_lapp, join_pair, join_last}
use borrow.Enum.Refused.{opened}
use Rattle.typing.proofs.rules.joined.Goals as goal

pub returns-in-Application : goal.returns-in-Application
returns-in-Application c = c.applied.ensures ∙ join_app (rec_in c.args.s.now) _ _ _ _ c.in-Application.is

pub returns-in-LinearApplication : goal.returns-in-LinearApplication
returns-in-LinearApplication c = c.applied-in-LinearApplication.ensures ∙ join_lapp (rec_in c.args.s.now) _ _ _ _ c.in-LinearApplication.is

pub returns-in-Pair : goal.returns-in-Pair
returns-in-Pair c = c.paired.ensures ∙ join_pair (rec_in c.args.s.now) _ _ _ _ c.in-Pair.is

pub returns-in_default : goal.returns-in_default
returns-in_default c = join_last (rec_in c.args.s.now) c.args.rule _ _ _ (opened c.in_default.in_default-own.keys4)

-- One entry. Assumes nothing.
use Rattle.term_parts.proofs.BindLaws.{name_bound}
use Rattle.scopes.specs.Entries.{with_entry}
use mathlib.Core.Path.{◌∙◌, ap}
use Rattle.term_parts.proofs.bound.bind_name.Goals as goal

pub returns : goal.returns
returns c = name_bound c.args.work.now c.args.top c.args.place c.args.ty c.requires.0 c.requires.1.0 _ (c.bind.ensures ∙ ap (with_entry c.args.work.now c.args.top c.args.place) c.from.ensures)

-- `scopes::bind` meets its contract: two stores. Assumes nothing.
use Rattle.scopes.proofs.KeepLaws.{entry-stored}
use Rattle.scopes.proofs.entries.bind.Goals as goal

pub returns : goal.returns
returns c = entry-stored c.args.work.now c.args.entry c.args.place c.args.value

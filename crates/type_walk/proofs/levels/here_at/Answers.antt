-- `type_walk::levels::here_at` meets its contract: the numbers of the level and of its scope are read. Assumes nothing.
use Rattle.type_walk.proofs.AskLaws.{here-read}
use Rattle.type_walk.proofs.levels.here_at.Goals as goal

pub returns : goal.returns
returns c = here-read c.args.work.now c.args.more c.level_at-l.result c.scope_at-s.result _ _ c.level_at-l.ensures c.scope_at-s.ensures c.from.ensures c.from-2.ensures

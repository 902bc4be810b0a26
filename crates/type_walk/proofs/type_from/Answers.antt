-- `type_walk::type_from` meets its contract: the grammar refuses, or what it reads is worked out. Assumes nothing.
use Rattle.answers.proofs.Passed.{passed}
use Rattle.type_walk.proofs.LoopLaws.{type_refused, type_read_there}
use lib.ListN.{length}
use Rattle.words.specs.Lexed.{from}
use Rattle.type_walk.proofs.type_from.Goals as goal

pub returns-in_err-type_end : goal.returns-in_err-type_end
returns-in_err-type_end c = rw (passed c.from_residual.result c.from_residual.ensures.1) (type_refused c.args.text.now c.args.work.now c.args.at c.args.more c.args.frame c.args.top (length (from c.args.text.now c.args.at)) _ c.in_err-type_end.ensures)

pub type_at-requires : goal.type_at-requires
type_at-requires c = type_read_there c.args.text.now c.args.work.now c.args.at c.args.more c.args.frame c.args.top (length (from c.args.text.now c.args.at)) c.requires _ c.in_ok-type_end.ensures

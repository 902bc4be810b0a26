-- `words::starts::start_of` meets its contract. Assumes nothing.
use Rattle.words.proofs.LexLaws.{start-found}
use Rattle.words.proofs.starts.start_of.Goals as goal

-- TODO the place Start is passed on
pub returns : goal.returns
returns c = let s = c in start-found s.args.text.now s.args.at s.requires c.gap_end.result c.gap_end.ensures.1

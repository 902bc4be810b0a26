-- `words::word_at` meets its contract: of good words, what stands next is the first. Assumes nothing.
use Rattle.words.proofs.LexLaws.{stands}
use Rattle.words.proofs.word_at.Goals as goal

pub returns : goal.returns
returns c = stands c.args.text.now c.args.at c.requires _ c.next.ensures

-- `words::plain_at` meets its contract: no reserved word begins so. Assumes nothing.
use Rattle.words.proofs.ClassLaws.{plain-name}
use Rattle.words.proofs.plain_at.Goals as goal

pub returns : goal.returns
returns c =
    plain-name c.args.text.now c.args.start c.run_end-end.result c.requires.0 c.requires.1 c.run_end-end.ensures

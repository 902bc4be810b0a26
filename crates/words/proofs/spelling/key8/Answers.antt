-- `words::key8` meets its contract: it has one byte more. Assumes nothing.
use Rattle.words.proofs.KeyLaws.{key_more}
use Rattle.words.proofs.spelling.key8.Goals as goal

pub returns : goal.returns
returns c =
    let a = c.args in
    let k = c.key7 in
    key_more a.text.now a.at 7 k.result c.from.result c.requires k.ensures.0 c.from.ensures

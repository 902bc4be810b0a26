-- `words::name_key` meets its contract. The invariant: the number so far, with the bytes that are left, gives the name's. Assumes nothing.
use Rattle.words.proofs.NameKeyLaws.{keying_none}
use Rattle.words.proofs.keys.name_key.Goals as goal

pub loop-at-init : goal.loop-at-init
loop-at-init c = keying_none _ _ c.requires

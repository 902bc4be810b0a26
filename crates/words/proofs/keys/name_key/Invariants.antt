-- `words::name_key` meets its contract. The invariant: the number so far, with the bytes that are left, gives the name's. Assumes nothing.
use Rattle.words.proofs.NameKeyLaws.{Keying}
use Rattle.words.proofs.keys.name_key.Given as goal

abbrev pub invariant-loop-at : goal.invariant-loop-at
invariant-loop-at l = Keying l.text l.from l.at l.h

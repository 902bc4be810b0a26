-- `words::bytes_same` meets its contract. The invariant: what is left of both stretches tells whether they are the same. Assumes nothing.
use Prim.Native.Nat.{◌*◌}
use Rattle.words.proofs.NameLaws.{Left}
use Rattle.words.proofs.same.bytes_same.Given as goal

abbrev pub invariant-loop-k : goal.invariant-loop-k
invariant-loop-k l = Left l.text l.a l.b l.n (8 * l.k)

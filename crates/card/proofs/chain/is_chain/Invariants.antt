-- The invariant: the type at hand is a chain within the steps left exactly when the root's is. Assumes nothing.
use mathlib.Core.Path.{◌≡◌}
use Prim.Native.Nat.{◌-◌}
use Rattle.card.specs.Chains.{chain_in}
use Rattle.card.proofs.chain.is_chain.Given as goal

abbrev pub invariant-loop : goal.invariant-loop
invariant-loop l = chain_in l.records (256 - l.counter) l.t ≡ chain_in l.records 256 l.root

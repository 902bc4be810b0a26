-- What the table says of a part. Assumes nothing.
use mathlib.Core.Path.{◌≡◌, ap}
use Prim.Native.Nat.{ℕ}
use Rattle.calculus.specs.Terms.{part_at}
use Rattle.parts.specs.declared.Part.{Part}
use Rattle.parts.specs.Table.{PartEntry, said_part, entry_of}

pub table-inputs : (q : Part) (p : ℕ) → said_part q ≡ entry_of p → q.inputs ≡ (part_at p).inputs
table-inputs q p e = ap (λ (x : PartEntry). x.inputs) e

pub table-outputs : (q : Part) (p : ℕ) → said_part q ≡ entry_of p → q.outputs ≡ 1
table-outputs q p e = ap (λ (x : PartEntry). x.outputs) e

-- `typing::rules::type_number` meets its contract. The invariant: none of the first k types is the part's. Assumes nothing.
use Prim.Native.Nat.{◌-◌}
use mathlib.Core.Path.{◌≡◌}
use Rattle.records.specs.Forms.{rec_in}
use Rattle.records.specs.Editions.{edition_by}
use Rattle.parts.specs.Table.{said_part}
use Rattle.typing.specs.Steps.{stands_for, ty_in, number_below}
use Rattle.typing.proofs.rules.type_number.Given as goal

abbrev pub invariant-loop-k : goal.invariant-loop-k
invariant-loop-k l = number_below (stands_for (rec_in l.s) (ty_in (said_part l.part) (edition_by l.second))) l.types 0 ≡ number_below (stands_for (rec_in l.s) (ty_in (said_part l.part) (edition_by l.second))) (l.types - l.k) l.k

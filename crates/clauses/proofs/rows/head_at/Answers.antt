-- `clauses::head_at` meets its contract. The invariant: rows are sought among those of the table. The measure is how many are left.
-- Assumes nothing.
use Prim.Native.Nat.{◌+◌, ◌/◌}
use mathlib.Core.Path.{sym, ◌∙◌}
use native.Mathlib.Omega.{arith}
use Rattle.clauses.proofs.rows.head_at.Goals as goal

pub returns-then-name-place : goal.returns-then-name-place
returns-then-name-place c =
    let l = c.loop-low in
    λ yes. record {
      row = (l.low + l.high) / 2;
      counted = omega (arith, c.loop-low-test.true, l.invariant);
      here = sym c.name_at-name.ensures ∙ c.if-name-place.true;
    }

-- By the entry. Assumes nothing.
use native.Mathlib.Omega.{arith}
use mathlib.Core.Path.{ap, ◌∙◌}
use mathlib.Core.List.{[]}
use Prim.Native.Nat.{ℕ, ◌+◌}
use Rattle.netlist.proofs.Elements.{node_small}
use Rattle.lean.proofs.PutLaws.{size_none, size-wire, size-left, size_point, size-part}
use Rattle.lean.proofs.put.size_of.Goals as goal

pub returns-then-v-eq0 : goal.returns-then-v-eq0
returns-then-v-eq0 c = (size_none c.args.plain [] _ c.if-v-lt-KIND.true c.if-v-eq0.true, omega arith)

pub returns-else-v-eq0 : goal.returns-else-v-eq0
returns-else-v-eq0 c = (size-wire c.args.plain [] _ c.if-v-lt-KIND.true c.if-v-eq0.false, omega arith)

pub returns-then-v-ge-LEFT_OUT : goal.returns-then-v-ge-LEFT_OUT
returns-then-v-ge-LEFT_OUT c = (size-left c.args.plain [] _ c.if-v-ge-LEFT_OUT.true, omega arith)

pub returns-then-v : goal.returns-then-v
returns-then-v c =
    let e = c.requires in
    (ap (λ (n : ℕ). 3 + n) e ∙ size_point c.args.plain [] _ c.if-v.true, omega (arith, node_small c.args.plain 1))

pub returns-else-v : goal.returns-else-v
returns-else-v c =
    let e = c.requires in
    (ap (λ (n : ℕ). 4 + n) e ∙ size-part c.args.plain [] _ c.if-v-lt-KIND.false c.if-v-ge-LEFT_OUT.false c.if-v.false, omega (arith, node_small c.args.plain 1))

-- One store; the next free terminal is one behind the output. Assumes nothing.
use native.Mathlib.Omega.{arith}
use mathlib.Core.Path.{◌∙◌, ap}
use Prim.Native.Nat.{ℕ, ◌<◌, ◌+◌}
use Rattle.lean.proofs.KindLaws.{first_low, after-output}
use Rattle.lean.proofs.table.start_one.Goals as goal

pub output_of-o-requires : goal.output_of-o-requires
output_of-o-requires c =
    let h : c.args.n < 8192 = first_low c.args.kind c.args.n _ c.requires.1 in
    omega arith

pub returns : goal.returns
returns c =
    let a = c.args in
    (ap (λ (x : ℕ). x + 1) c.output_of-o.ensures ∙ after-output a.kind a.n, rw (c.output_of-o.ensures, c.first_of-first.ensures))

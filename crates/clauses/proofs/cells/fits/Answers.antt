-- `clauses::fits` meets its contract. Assumes nothing.
use Prim.Native.Nat.{ℕ, ◌-◌}
use mathlib.Core.Path.{ap, ◌∙◌}
use native.Mathlib.Omega.{arith}
use lib.Dec.{eqb, leb}
use Rattle.clauses.proofs.CellLaws.{fits-high, fits_low}
use Rattle.clauses.proofs.cells.fits.Goals as goal

pub returns-then-c-ge256 : goal.returns-then-c-ge256
returns-then-c-ge256 c =
    let w = c.from-c in
    ap (λ (x : ℕ). leb (x - 256) c.args.n) w.ensures ∙ fits-high c.args.cell c.args.n (omega (arith, c.if-c-ge256.true, w.ensures))

pub returns : goal.returns
returns c =
    let w = c.from-c in
    ap (λ (x : ℕ). eqb x c.args.n) w.ensures ∙ fits_low c.args.cell c.args.n (omega (arith, c.if-c-ge256.false, w.ensures))

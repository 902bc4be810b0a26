-- The record is whole, or cut, or past the end. Assumes nothing.
use native.Mathlib.Omega.{arith}
use mathlib.Core.Path.{◌≡◌, ◌∙◌}
use lib.ListN.{get_or}
use Rattle.std.proofs.Common.{rules, tests}
use Rattle.lines.specs.InBytes.{record_size}
use Rattle.lines.proofs.Standing.{size-past, size-whole, size-cut}
use Rattle.lines.proofs.size_at.Goals.{in-33, in-34, in-35, in_default}
use Rattle.lines.proofs.size_at.Goals as goal

pub returns-then-net-at : goal.returns-then-net-at
returns-then-net-at c = let a = c.args in size-past a.net.now a.at (omega arith)

pub returns-then-size-net : goal.returns-then-size-net
returns-then-size-net c =
    let a = c.args in
    let e : c.match-net-at.size ≡ record_size (get_or a.net.now a.at 0) =
    elim c.match-net-at.branch [ in-33 w ↦ w.size-is ∙ search (rules, tests) | in-34 w ↦ w.size-is ∙ search (rules, tests) | in-35 w ↦ w.size-is ∙ search (rules, tests) | in_default w ↦ w.size-is ∙ search (rules, tests) ] in
    e ∙ size-whole a.net.now a.at (omega (arith, e))

pub returns-else-size-net : goal.returns-else-size-net
returns-else-size-net c =
    let a = c.args in
    let e : c.match-net-at.size ≡ record_size (get_or a.net.now a.at 0) =
    elim c.match-net-at.branch [ in-33 w ↦ w.size-is ∙ search (rules, tests) | in-34 w ↦ w.size-is ∙ search (rules, tests) | in-35 w ↦ w.size-is ∙ search (rules, tests) | in_default w ↦ w.size-is ∙ search (rules, tests) ] in
    size-cut a.net.now a.at (omega (arith, e))

-- `sheet::stretch_bounds` meets its contract: the node stands as many records on from the term as its number says, and is read by itself. Assumes nothing.
use mathlib.Core.Path.{sym, ap, ◌∙◌}
use native.Mathlib.Omega.{arith}
use Rattle.sheet_theorems.proofs.StretchHolds.{stretch_refused}
use Rattle.sheet.specs.Said.{said_span}
use Rattle.sheet.proofs.StretchLaws.{told_edition, told-starts, told-short, told-past, told-nodes, told-stretch, told-read}
use Rattle.sheet.proofs.ReadLaws.{opening_small}
use Rattle.sheet.proofs.Told.{told, untold}
use Rattle.sheet.proofs.stretch_bounds.Goals as goal

pub returns-in_default : goal.returns-in_default
returns-in_default c = c.nowhere.ensures ∙ sym (stretch_refused _ _ _ (untold _ _ c.read.ensures c.in_default.is))

pub returns-then-r-node : goal.returns-then-r-node
returns-then-r-node c =
    let a = c.args in
    let t = told a.s.now _ c.read.ensures c.in-Ok.is in
    c.nowhere-then-r-node.ensures ∙ told-past t a.node c.if-r-node.true

pub overflow_add-opening : goal.overflow_add-opening
overflow_add-opening c =
    let a = c.args in
    let t = told a.s.now _ c.read.ensures c.in-Ok.is in
    let o = opening_small a.s.now in
    record { fits = omega (arith, c.opening.ensures, told-short t) }

pub skip-at-requires : goal.skip-at-requires
skip-at-requires c =
    let a = c.args in
    let t = told a.s.now _ c.read.ensures c.in-Ok.is in
    told-nodes t a.node c.if-r-node.false (told_edition t c.is_second-second.ensures) (told-starts t c.opening.ensures)

pub returns-in_default-span_at : goal.returns-in_default-span_at
returns-in_default-span_at c =
    let a = c.args in
    let t = told a.s.now _ c.read.ensures c.in-Ok.is in
    absurd (told-read t a.node c.if-r-node.false (told_edition t c.is_second-second.ensures) (told-starts t c.opening.ensures) _ _ c.skip-at.ensures (ap said_span (sym c.in_default-span_at.is) ∙ c.span_at.ensures))

pub overflow_sub-size : goal.overflow_sub-size
overflow_sub-size c =
    let a = c.args in
    let t = told a.s.now _ c.read.ensures c.in-Ok.is in
    (told-stretch t a.node c.if-r-node.false (told_edition t c.is_second-second.ensures) (told-starts t c.opening.ensures) _ _ _ c.skip-at.ensures (ap said_span (sym c.in-Ok-span_at.is) ∙ c.span_at.ensures)).0

pub returns : goal.returns
returns c =
    let a = c.args in
    let t = told a.s.now _ c.read.ensures c.in-Ok.is in
    (told-stretch t a.node c.if-r-node.false (told_edition t c.is_second-second.ensures) (told-starts t c.opening.ensures) _ _ _ c.skip-at.ensures (ap said_span (sym c.in-Ok-span_at.is) ∙ c.span_at.ensures)).1

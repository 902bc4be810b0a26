-- The invariant: the first i pins are marked. Assumes nothing.
use native.Mathlib.Omega.{arith}
use mathlib.Core.Path.{◌≡◌, sym, subst}
use mathlib.Core.List.{map}
use mathlib.Core.Bool.{◌||◌}
use Prim.Native.Nat.{ℕ, ◌+◌}
use Rattle.export_calculus.specs.Card.{drives, is_out_pin}
use Rattle.memory.specs.Map.{roots_at, region, terminal_of}
use Rattle.lean.specs.Layout.{lean_pins_at, wire_at, row_in}
use Rattle.card.specs.Marks.{MarkedWhere, mark_pin}
use Rattle.card.proofs.MarkLaws.{pins_next}
use Rattle.card.proofs.mark.mark_pins.Goals as goal

pub loop-i-preserved : goal.loop-i-preserved
loop-i-preserved c =
    let a = c.args in
    let l = c.loop-i in
    let end = a.end in
    let i = l.i + 1 in
    λ o. subst (MarkedWhere o.before end (λ j. drives (row_in wire_at roots_at o.before end 0) j || is_out_pin (map terminal_of (region o.before lean_pins_at i)) j)) (sym c.mark_pin.ensures) (subst (λ (v : ℕ). MarkedWhere o.before end (λ j. drives (row_in wire_at roots_at o.before end 0) j || is_out_pin (map terminal_of (region o.before lean_pins_at i)) j) (mark_pin l.work v)) (sym ((l.invariant o).high (lean_pins_at + l.i) (omega arith))) (pins_next o.before end a.pins o.markable l.i c.loop-i-test.true (l.invariant o)))

pub returns : goal.returns
returns c =
    let a = c.args in
    let l = c.loop-i in
    let end = a.end in
    let e : l.i ≡ a.pins = omega arith in
    λ o. subst (λ (i : ℕ). MarkedWhere o.before end (λ j. drives (row_in wire_at roots_at o.before end 0) j || is_out_pin (map terminal_of (region o.before lean_pins_at i)) j) l.work) e (l.invariant o)

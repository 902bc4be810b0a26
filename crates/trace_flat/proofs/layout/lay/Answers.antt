-- Step by step. Assumes nothing.
use native.Mathlib.Omega.{arith}
use Rattle.lean.proofs.TableLaws.{within_then}
use Rattle.trace_steps.proofs.TickLaws.{ordered_within, registers-within, pins_within}
use Rattle.trace_flat.proofs.LayLaws.{registers-listed, ordered-listed, registers-laid, pins_laid, laid-is}
use Rattle.trace_flat.proofs.layout.lay.Goals as goal

pub place_listed-requires : goal.place_listed-requires
place_listed-requires c =
    let l = c.requires in
    let few = l.few_registers in
    (registers-listed l.few_registers (registers-within c.place.ensures.within l.registers), omega arith)

pub place_listed-requires-2 : goal.place_listed-requires-2
place_listed-requires-2 c =
    let l = c.requires in
    let few = l.few_gates in
    (ordered-listed l.few_gates (ordered_within (within_then c.place.ensures.within c.place_listed.ensures.within) l.order), omega arith)

pub lay_gates-requires : goal.lay_gates-requires
lay_gates-requires c =
    let l = c.requires in
    (ordered_within (within_then (within_then c.place.ensures.within c.place_listed.ensures.within) c.place_listed-2.ensures.within) l.order, l.few_gates)

pub lay_registers-requires : goal.lay_registers-requires
lay_registers-requires c =
    let l = c.requires in
    (registers-laid c.lay_gates.ensures.between (registers-within (within_then (within_then c.place.ensures.within c.place_listed.ensures.within) c.place_listed-2.ensures.within) l.registers), l.few_registers)

pub lay_pins-requires : goal.lay_pins-requires
lay_pins-requires c =
    let l = c.requires in
    pins_laid c.lay_gates.ensures.between c.lay_registers.ensures.between (pins_within (within_then (within_then c.place.ensures.within c.place_listed.ensures.within) c.place_listed-2.ensures.within) l.pins)

pub returns : goal.returns
returns c =
    let a = c.args in
    laid-is a.work.now a.end a.settled a.regs a.pins c.requires _ _ _ _ _ _ _ _ _ c.place.ensures c.place_listed.ensures c.place_listed-2.ensures c.lay_gates.ensures c.lay_registers.ensures c.lay_pins.ensures c.begin.ensures c.darken.ensures c.set_constants.ensures

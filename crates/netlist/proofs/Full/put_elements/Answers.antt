-- The invariant: the output holds the records of the first i elements, and n is the next free terminal. Assumes nothing.
use native.Mathlib.Omega.{arith}
use mathlib.Core.Path.{◌≡◌, sym, ◌∙◌}
use Prim.Native.Nat.{◌<◌, ◌+◌}
use lib.ListN.{length, drop}
use Rattle.memory.specs.Map.{elements_at, makers_at}
use Rattle.netlist.proofs.Records.{record_more}
use Rattle.netlist.proofs.Elements.{first_records, node-more, node-within}
use Rattle.netlist.proofs.InMemory.{record_next, records-before, element_length, element_after, element_fits, after-fits}
use Rattle.netlist.proofs.Full.put_elements.Goals as goal

pub put_element-at-requires : goal.put_element-at-requires
put_element-at-requires c =
    let a = c.args in
    let ok = c.requires in
    let l = c.loop-i in
    let w = a.self.work.now in
    let f = element_fits w elements_at l.i (omega arith) a.self.elements (omega arith) in
    let here = records-before a.self.plain w elements_at makers_at l.i (omega arith) in
    let all = records-before a.self.plain w elements_at makers_at a.self.elements (omega arith) in
    let more = node-more a.self.plain l.i in
    let within = node-within a.self.plain (l.i + 1) a.self.elements (omega arith) in
    (ok.known l.i (omega arith), omega arith)

pub next_after-n-requires : goal.next_after-n-requires
next_after-n-requires c =
    let a = c.args in
    let l = c.loop-i in
    let f = after-fits (drop elements_at a.self.work.now) l.i a.self.elements (omega arith) in
    omega arith

pub loop-i-preserved : goal.loop-i-preserved
loop-i-preserved c =
    let a = c.args in
    let l = c.loop-i in
    let put = c.put_element-at in
    let w = a.self.work.now in
    let lt : elements_at + l.i < length w = omega arith in
    let ml : makers_at + l.i < length w = omega arith in
    let e = element_length w elements_at l.i lt in
    let here = records-before a.self.plain w elements_at makers_at l.i (omega arith) in
    let next = records-before a.self.plain w elements_at makers_at (l.i + 1) (omega arith) in
    let one = node-more a.self.plain l.i in
    let more = record_more a.out.now (first_records a.self.plain (drop elements_at w) (drop makers_at w) l.i) _ _ a.from l.at l.invariant.0 (record_next a.self.plain w elements_at makers_at l.i lt ml) in (
      omega (arith, put.ensures.0),
      (
        c.next_after-n.ensures ∙ rw l.invariant.1.0 (sym (element_after w elements_at l.i lt)),
        (
          put.auto.out ∙ l.invariant.1.1.0,
          put.ensures.1 ∙ rw (l.invariant.1.1.1, l.invariant.1.0) more,
        ),
      ),
    )

pub returns : goal.returns
returns c =
    let l = c.loop-i in
    let n : l.i ≡ c.args.self.elements = omega arith in
    rw (← n) (l.invariant.0, l.invariant.1.1.1)

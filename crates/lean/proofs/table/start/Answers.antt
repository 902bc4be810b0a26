-- The invariant: what is written and the elements that are still to come make the table as it starts. Assumes nothing.
use native.Mathlib.Omega.{arith}
use mathlib.Core.Path.{refl, sym, subst}
use Prim.Native.Nat.{ℕ, ◌+◌}
use mathlib.Core.List.{List}
use lib.ListN.{get_or, set}
use Rattle.memory.specs.Map.{elements_at, roots_at}
use Rattle.netlist.specs.Elements.{output_of}
use Rattle.lean.specs.Table.{start_root}
use Rattle.lean.proofs.KindLaws.{region-end}
use Rattle.lean.proofs.TableLaws.{within_none, Starting, starting-low, starting-next}
use Rattle.lean.proofs.table.start.Goals as goal

pub loop-i-init : goal.loop-i-init
loop-i-init c = record { within = within_none _; end = refl; whole = refl }

pub start_one-n-requires : goal.start_one-n-requires
start_one-n-requires c =
    let l = c.loop-i in
    let z = l.invariant.within.size in
    (omega arith, starting-low c.args.work.now l.work c.args.elements l.n l.i c.requires.0 c.requires.1.0 c.requires.1.1 c.loop-i-test.true l.invariant)

pub loop-i-preserved : goal.loop-i-preserved
loop-i-preserved c =
    let l = c.loop-i in
    let k = get_or l.work (elements_at + l.i) 0 in
    let n = starting-next c.args.work.now l.work c.args.elements l.n l.i c.requires.0 c.requires.1.0 c.requires.1.1 c.loop-i-test.true l.invariant in
    subst (λ (x : List ℕ). Starting c.args.work.now c.args.elements x c.start_one-n.result (l.i + 1)) (sym c.start_one-n.ensures.1)
    (subst (λ (x : ℕ). Starting c.args.work.now c.args.elements (set l.work (roots_at + output_of k l.n) (start_root l.work k l.n)) x (l.i + 1)) (sym c.start_one-n.ensures.0) n)

pub returns : goal.returns
returns c =
    let l = c.loop-i in
    let e = region-end c.args.work.now elements_at c.args.elements l.i (omega arith) (omega arith) in
    (rw e at l.invariant.end, rw e at l.invariant.whole)

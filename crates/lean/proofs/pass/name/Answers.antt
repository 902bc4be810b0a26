-- The invariant: what is named and the elements that are still to come make the whole. Assumes nothing.
use native.Mathlib.Omega.{arith}
use mathlib.Core.Path.{refl, sym, subst}
use Prim.Native.Nat.{ℕ, ◌<◌, ◌+◌}
use mathlib.Core.List.{List, [], ◌∷◌}
use lib.ListN.{get_or}
use Rattle.memory.specs.Map.{elements_at, elements_from}
use Rattle.lean.specs.Layout.{named_all}
use Rattle.lean.proofs.KindLaws.{region-end}
use Rattle.lean.proofs.TableLaws.{within_none}
use Rattle.lean.proofs.PassLaws.{Naming, naming_low, naming_next}
use Rattle.lean.proofs.pass.name.Goals as goal

pub loop-i-init : goal.loop-i-init
loop-i-init c = record { within = within_none _; end = refl; whole = refl }

pub name_one-n-requires : goal.name_one-n-requires
name_one-n-requires c =
    let l = c.loop-i in
    let z = l.invariant.within.size in
    let h = c.loop-i-test.true in
    let k = l.invariant.within.below (elements_at + l.i) (omega arith) in
    (omega arith, (subst (λ (x : ℕ). x < 8) (sym k) (c.requires.1.1.1 l.i h), naming_low c.args.work.now l.work c.args.elements l.n l.i c.requires.0 c.requires.1.0 c.requires.1.1.0 h l.invariant))

pub loop-i-preserved : goal.loop-i-preserved
loop-i-preserved c =
    let l = c.loop-i in
    let k = get_or l.work (elements_at + l.i) 0 in
    let n = naming_next c.args.work.now l.work c.args.elements l.n l.i c.requires.0 c.requires.1.0 c.requires.1.1.0 c.loop-i-test.true l.invariant in
    subst (λ (x : List ℕ). Naming c.args.work.now c.args.elements x c.name_one-n.result (l.i + 1)) (sym c.name_one-n.ensures.1)
    (subst (λ (x : ℕ). Naming c.args.work.now c.args.elements (named_all l.work (elements_from (k ∷ []) l.n)) x (l.i + 1)) (sym c.name_one-n.ensures.0) n)

pub returns : goal.returns
returns c =
    let l = c.loop-i in
    let e = region-end c.args.work.now elements_at c.args.elements l.i (omega arith) (omega arith) in
    rw e at l.invariant.whole

-- The invariant: what is left to read says the same as the whole. Assumes nothing.
use borrow.Author.Rules.{rules}
use native.Mathlib.Omega.{arith}
use mathlib.Core.Path.{◌≡◌, ap, ◌∙◌}
use Rattle.std.specs.Prelude.{Option, Some, Ok}
use Rattle.answers.proofs.Passed.{passed}
use Rattle.answers.specs.Refusals.{refusal_at}
use Rattle.net_reader.proofs.Room.{bytes_of}
use Rattle.net_reader.specs.declared.Step.{Step}
use Rattle.foreign.proofs.WalkLaws.{going_first, going_done, walk_room, walk_on, walk-off, walk_broken, walk_ended, mapped_ok, mapped_err}
use Rattle.foreign.proofs.walk.Goals as goal

pub loop-step-init : goal.loop-step-init
loop-step-init c = let a = c.args in going_first a.lean a.net.now a.work.now c.requires

pub returns-in_err-step : goal.returns-in_err-step
returns-in_err-step c =
    let o = c.loop-step in
    let x = bytes_of c.args.net.now (λ i. omega (arith, c.type_inv.net i)) in
    let p = passed c.from_residual.result c.from_residual.ensures.1 in
    rw p (walk_broken x c.requires.size o.invariant c.read.result c.read.ensures c.in_err-step.was, o.invariant.keeps)

pub returns-in_err-st : goal.returns-in_err-st
returns-in_err-st c =
    let o = c.loop-step in
    let x = bytes_of c.args.net.now (λ i. omega (arith, c.type_inv.net i)) in
    let e : c.read.result ≡ Ok (Some c.in-Some.step) = c.in_ok-step.was ∙ ap (λ (y : Option Step). Ok y) c.in-Some.is in
    let p = passed c.from_residual-in_err-st.result c.from_residual-in_err-st.ensures.1 in
    let z = mapped_err _ c.take.result c.map_err.ensures.cases c.in_err-st.was in
    let h = z.2 in
    let y : c.in_err-st.field-0.0 ≡ refusal_at z.0 o.at = search rules in
    rw (p, y) (walk-off x c.requires.size o.invariant c.read.result c.read.ensures _ e c.take.result _ c.take.ensures z.1)

pub loop-step-smaller : goal.loop-step-smaller
loop-step-smaller c =
    let o = c.loop-step in
    let x = bytes_of c.args.net.now (λ i. omega (arith, c.type_inv.net i)) in
    let e : c.read.result ≡ Ok (Some c.in-Some.step) = c.in_ok-step.was ∙ ap (λ (y : Option Step). Ok y) c.in-Some.is in
    let z = mapped_ok _ c.take.result c.map_err.ensures.cases c.in_ok-st.was in
    omega (arith, (walk_on x c.requires.size o.invariant c.read.result c.read.ensures _ e c.take.result _ c.take.ensures z).1, walk_room x c.requires.size o.invariant c.read.result c.read.ensures _ e)

pub loop-step-preserved : goal.loop-step-preserved
loop-step-preserved c =
    let o = c.loop-step in
    let x = bytes_of c.args.net.now (λ i. omega (arith, c.type_inv.net i)) in
    let e : c.read.result ≡ Ok (Some c.in-Some.step) = c.in_ok-step.was ∙ ap (λ (y : Option Step). Ok y) c.in-Some.is in
    let z = mapped_ok _ c.take.result c.map_err.ensures.cases c.in_ok-st.was in
    (walk_on x c.requires.size o.invariant c.read.result c.read.ensures _ e c.take.result _ c.take.ensures z).0

pub returns : goal.returns
returns c =
    let o = c.loop-step in
    let x = bytes_of c.args.net.now (λ i. omega (arith, c.type_inv.net i)) in
    (going_done o.invariant (walk_ended x c.requires.size o.invariant c.read.result c.read.ensures (c.in_ok-step.was ∙ ap (λ (y : Option Step). Ok y) c.in_default.is)), o.invariant.keeps)

-- By the driver. Assumes nothing.
use native.Mathlib.Omega.{arith}
use Rattle.std.specs.Prelude.{Option, unwrap_or}
use Rattle.calculus.specs.Lean.{driver}
use mathlib.Core.Path.{◌≡◌, sym, ap, ◌∙◌}
use mathlib.Core.List.{[], ◌∷◌}
use Prim.Native.Nat.{ℕ, ◌-◌, ◌*◌}
use lib.Seq.{sets}
use Rattle.back.specs.Gates.{net_here}
use Rattle.back.proofs.SourceLaws.{before-few}
use Rattle.back_calculus.specs.Back.{part_before}
use Rattle.back.proofs.WriteLaws.{open_row, wired-row}
use Rattle.back.proofs.write.put_source.Goals as goal

pub driver-requires : goal.driver-requires
driver-requires c = record { n = c.args.layout.parts.count; of = c.requires.limited.of; there = c.requires.behind }

pub returns-in_default : goal.returns-in_default
returns-in_default c =
    let a = c.args in
    let d : driver (net_here a.layout.net.now).wires a.i 65535 ≡ 65535 = sym c.driver.ensures.driver ∙ ap (λ (o : Option ℕ). unwrap_or o 65535) c.in_default.is in
    let e = open_row a.layout.net.now c.requires.limited.of.accepted a.layout.undriven (a.layout.parts.count - 1) a.i a.before d in
    (e.0, c.put.ensures ∙ ap (sets a.out.now a.at) (ap (λ (b : ℕ). 0x11 ∷ b ∷ []) c.open_binder-binder.ensures ∙ e.1))

pub output_binder-requires : goal.output_binder-requires
output_binder-requires c =
    let l = c.requires.limited in
    let s = l.some in
    let m = l.most in
    let n = l.of.count in
    (omega arith, omega arith, omega (arith, c.part_before-r.ensures, before-few (net_here c.args.layout.net.now).elements c.in-Some.d))

pub returns : goal.returns
returns c =
    let a = c.args in
    let d = c.in-Some.ensures in
    let p = c.part_before-r in
    let e = wired-row a.layout.net.now c.requires.limited.of.accepted a.layout.undriven (a.layout.parts.count - 1) a.i a.before (λ h. omega (arith, d.driver, d.low)) in
    let r : p.result ≡ part_before (net_here a.layout.net.now).elements _ = p.ensures ∙ ap (part_before (net_here a.layout.net.now).elements) d.driver in
    (e.0, c.put-2.ensures ∙ ap (sets a.out.now a.at) (ap (λ (b : ℕ). 0x11 ∷ b ∷ []) (c.output_binder.ensures ∙ ap (λ (y : ℕ). 2 * (a.layout.parts.count - 1 - y) - 1) r) ∙ e.1))

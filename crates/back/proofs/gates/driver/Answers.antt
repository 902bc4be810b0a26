-- The invariant: the wires from the reader's place on say the same as all. Assumes nothing.
use Rattle.std.proofs.Common.{rules}
use native.Mathlib.Omega.{arith}
use mathlib.Core.Path.{◌≡◌, ap, subst, sym, ◌∙◌}
use Prim.Native.Nat.{ℕ}
use Rattle.std.specs.Prelude.{Some, Ok}
use Rattle.calculus.specs.NetRead.{item_at}
use Rattle.net_reader.specs.Said.{said_step}
use Rattle.net_reader.specs.declared.Record.TheVariants as rec
use Rattle.net_reader.proofs.Steps.{step_some, read_is}
use Rattle.back.proofs.GateLaws.{WiresLeft, wire_or, wires_first, wires_more, wires_done}
use Rattle.back.proofs.gates.driver.Goals as goal

pub loop-from-init : goal.loop-from-init
loop-from-init c =
    let p = c.requires in
    subst (λ (k : ℕ). WiresLeft c.args.net.now k c.args.i) (sym p.there) (wires_first c.args.net.now p.n c.args.i p.of)

pub returns-then-to-i : goal.returns-then-to-i
returns-then-to-i c =
    let l = c.loop-from in
    let s = c.args.net.now in
    let g = c.in-Ok-Some-Wire in
    let k : c.read.result ≡ Ok (Some (record { found = rec.Wire g.from g.to; past = g.past })) = search rules in
    let f = step_some (item_at s l.at) l.at (ap said_step (sym k) ∙ c.read.ensures) in
    let w = wires_more s c.requires.of.accepted l.at c.args.i l.invariant _ _ f.0 in
    record { driver = w.0.0 c.if-to-i.true; low = w.2 }

pub loop-from-smaller : goal.loop-from-smaller
loop-from-smaller c =
    let l = c.loop-from in
    let s = c.args.net.now in
    let g = c.in-Ok-Some-Wire in
    let k : c.read.result ≡ Ok (Some (record { found = rec.Wire g.from g.to; past = g.past })) = search rules in
    let f = step_some (item_at s l.at) l.at (ap said_step (sym k) ∙ c.read.ensures) in
    omega (arith, f.1, g.past-is, (wires_more s c.requires.of.accepted l.at c.args.i l.invariant _ _ f.0).1)

pub loop-from-preserved : goal.loop-from-preserved
loop-from-preserved c =
    let l = c.loop-from in
    let s = c.args.net.now in
    let g = c.in-Ok-Some-Wire in
    let k : c.read.result ≡ Ok (Some (record { found = rec.Wire g.from g.to; past = g.past })) = search rules in
    let f = step_some (item_at s l.at) l.at (ap said_step (sym k) ∙ c.read.ensures) in
    subst (λ (n : ℕ). WiresLeft s n c.args.i) (sym (g.past-is ∙ f.1)) ((wires_more s c.requires.of.accepted l.at c.args.i l.invariant _ _ f.0).0.1 c.if-to-i.false)

pub returns-in_default : goal.returns-in_default
returns-in_default c =
    let l = c.loop-from in
    let s = c.args.net.now in
    record {
      driver = wires_done s c.requires.of.accepted l.at c.args.i l.invariant (wire_or _ (λ from to q. let e = read_is s l.at c.read.result c.read.ensures _ q in search rules));
      low = tt;
    }

pub returns-in_default-2 : goal.returns-in_default-2
returns-in_default-2 c =
    let l = c.loop-from in
    let s = c.args.net.now in
    record {
      driver = wires_done s c.requires.of.accepted l.at c.args.i l.invariant (wire_or _ (λ from to q. let e = read_is s l.at c.read.result c.read.ensures _ q in search rules));
      low = tt;
    }

pub returns-in_default-3 : goal.returns-in_default-3
returns-in_default-3 c =
    let l = c.loop-from in
    let s = c.args.net.now in
    record {
      driver = wires_done s c.requires.of.accepted l.at c.args.i l.invariant (wire_or _ (λ from to q. let e = read_is s l.at c.read.result c.read.ensures _ q in search rules));
      low = tt;
    }

-- The invariant: so many parts stand first, the reader stands after them, and what is left says the same as the whole. Assumes nothing.
use Rattle.std.proofs.Common.{rules}
use native.Mathlib.Omega.{arith}
use mathlib.Core.Path.{◌≡◌, ap, sym, ◌∙◌}
use Prim.Native.Nat.{◌*◌}
use Rattle.std.specs.Prelude.{Option, Some, Ok}
use Rattle.calculus.specs.NetRead.{item, item_at, item_size}
use Rattle.net_reader.specs.Said.{said_record, said_step}
use Rattle.net_reader.specs.declared.Record.{Record}
use Rattle.net_reader.specs.declared.Record.TheVariants as rec
use Rattle.net_reader.specs.declared.Step.{Step}
use Rattle.net_reader.proofs.Steps.{step_some, step_off, read_is}
use Rattle.back.proofs.GateLaws.{parts_first, parts_more, parts-point, parts-over, parts_sound}
use Rattle.back.proofs.gates.count_parts.Goals as goal

pub loop-step-init : goal.loop-step-init
loop-step-init c = (parts_first c.args.net.now c.requires, omega arith)

pub returns-in_err-step : goal.returns-in_err-step
returns-in_err-step c =
    let l = c.loop-step in
    let s = c.args.net.now in
    let f = step_off (item_at s l.at) l.at (ap said_step (sym c.in_err-step.was) ∙ c.read.ensures) in
    absurd (parts_sound s c.requires l.count l.invariant.0 (ap (item_at s) (sym l.invariant.1) ∙ f.0))

pub returns-in-Point : goal.returns-in-Point
returns-in-Point c =
    let l = c.loop-step in
    let s = c.args.net.now in
    let e : c.read.result ≡ Ok (Some c.in-Some.step) = c.in_ok-step.was ∙ ap (λ (y : Option Step). Ok y) c.in-Some.is in
    let f = step_some (item_at s l.at) l.at (ap said_step (sym e) ∙ c.read.ensures) in
    let z = l.invariant.1 in
    rw (c.at.ensures, z) (parts-point s c.requires l.count l.invariant.0 _ (ap (item_at s) (sym z) ∙ f.0 ∙ ap (λ (r : Record). item (said_record r)) c.in-Point.is))

pub loop-step-smaller : goal.loop-step-smaller
loop-step-smaller c =
    let l = c.loop-step in
    let s = c.args.net.now in
    let e : c.read.result ≡ Ok (Some c.in-Some.step) = c.in_ok-step.was ∙ ap (λ (y : Option Step). Ok y) c.in-Some.is in
    let f = step_some (item_at s l.at) l.at (ap said_step (sym e) ∙ c.read.ensures) in
    let k : item_at s (4 * l.count) ≡ item (said_record (rec.Part c.in-Part.field-0 c.in-Part.field-1)) =
    ap (item_at s) (sym l.invariant.1) ∙ f.0 ∙ ap (λ (r : Record). item (said_record r)) c.in-Part.is in
    omega (arith, f.1, ap (λ (r : Record). item_size (said_record r)) c.in-Part.is, (parts_more s c.requires l.count l.invariant.0 _ _ k).low, l.invariant.1)

pub loop-step-preserved : goal.loop-step-preserved
loop-step-preserved c =
    let l = c.loop-step in
    let s = c.args.net.now in
    let e : c.read.result ≡ Ok (Some c.in-Some.step) = c.in_ok-step.was ∙ ap (λ (y : Option Step). Ok y) c.in-Some.is in
    let f = step_some (item_at s l.at) l.at (ap said_step (sym e) ∙ c.read.ensures) in
    let k : item_at s (4 * l.count) ≡ item (said_record (rec.Part c.in-Part.field-0 c.in-Part.field-1)) =
    ap (item_at s) (sym l.invariant.1) ∙ f.0 ∙ ap (λ (r : Record). item (said_record r)) c.in-Part.is in
    (parts_more s c.requires l.count l.invariant.0 _ _ k, omega (arith, f.1, ap (λ (r : Record). item_size (said_record r)) c.in-Part.is, l.invariant.1))

pub returns-in-Wire : goal.returns-in-Wire
returns-in-Wire c =
    let l = c.loop-step in
    let s = c.args.net.now in
    let z = l.invariant.1 in
    rw z (parts-over s c.requires l.count l.invariant.0
    (λ i q. let e = read_is s l.at c.read.result c.read.ensures _ (ap (item_at s) z ∙ q) in search rules)
    (λ p i q. let e = read_is s l.at c.read.result c.read.ensures _ (ap (item_at s) z ∙ q) in search rules))

pub returns-in_default : goal.returns-in_default
returns-in_default c =
    let l = c.loop-step in
    let s = c.args.net.now in
    let z = l.invariant.1 in
    rw z (parts-over s c.requires l.count l.invariant.0
    (λ i q. let e = read_is s l.at c.read.result c.read.ensures _ (ap (item_at s) z ∙ q) in search rules)
    (λ p i q. let e = read_is s l.at c.read.result c.read.ensures _ (ap (item_at s) z ∙ q) in search rules))

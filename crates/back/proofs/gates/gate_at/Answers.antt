-- A part stands at every place below their number. Assumes nothing.
use Rattle.std.proofs.Common.{rules}
use mathlib.Core.Path.{◌≡◌, sym, ap, ◌∙◌}
use Rattle.std.specs.Prelude.{Some, Ok}
use Rattle.calculus.specs.NetRead.{item_at}
use Rattle.net_reader.specs.Said.{said_step}
use Rattle.net_reader.specs.declared.Record.TheVariants as rec
use Rattle.net_reader.proofs.Steps.{read_is, step_some}
use Rattle.back.proofs.GateLaws.{part_stands}
use Rattle.back.proofs.gates.gate_at.Goals as goal

pub unreachable-requires : goal.unreachable-requires
unreachable-requires c =
    let a = c.args in
    let p = part_stands a.net.now a.at c.requires in
    let e = read_is a.net.now a.at c.read.result c.read.ensures _ p.2 in
    search rules

pub returns : goal.returns
returns c =
    let a = c.args in
    let g = c.in-Ok-Some-Part in
    let k : c.read.result ≡ Ok (Some (record { found = rec.Part g.part g.first; past = g.past })) = search rules in
    let f = step_some (item_at a.net.now a.at) a.at (ap said_step (sym k) ∙ c.read.ensures) in
    record { found_is = sym f.0; past_is = g.past-is ∙ f.1 }

-- `wiring::wires::link` meets its contract: by the two terminals. Assumes nothing.
use mathlib.Core.Path.{sym, ap, ◌∙◌}
use Rattle.calculus.specs.Net.{number}
use Rattle.netlist.specs.Said.{said_terminal}
use Rattle.wiring.specs.Links.{linked}
use Rattle.wiring.proofs.LinkLaws.{low-number}
use Rattle.wiring.proofs.wires.link.Goals as goal

pub wire-requires : goal.wire-requires
wire-requires c =
    let p = c.requires in
    let ef = sym c.terminal_of-2.ensures ∙ ap said_terminal c.in-Output-Input.is-1 in
    (p.0, rw (ap number ef) at (low-number c.args.f p.2), p.3)

pub wire-requires-in-Input-Output : goal.wire-requires-in-Input-Output
wire-requires-in-Input-Output c =
    let p = c.requires in
    let ea = sym c.terminal_of.ensures ∙ ap said_terminal c.in-Input-Output.is-0 in
    (p.0, rw (ap number ea) at (low-number c.args.a p.1), p.3)

pub returns-in-Output-Input : goal.returns-in-Output-Input
unfolding linked
returns-in-Output-Input c =
    let ea = sym c.terminal_of.ensures ∙ ap said_terminal c.in-Output-Input.is-0 in
    let ef = sym c.terminal_of-2.ensures ∙ ap said_terminal c.in-Output-Input.is-1 in
    rw (ea, ef) c.wire.ensures

pub returns-in-Output-Output : goal.returns-in-Output-Output
unfolding linked
returns-in-Output-Output c =
    let ea = sym c.terminal_of.ensures ∙ ap said_terminal c.in-Output-Output.is-0 in
    let ef = sym c.terminal_of-2.ensures ∙ ap said_terminal c.in-Output-Output.is-1 in
    rw (ea, ef)

pub returns-in-Input-Output : goal.returns-in-Input-Output
unfolding linked
returns-in-Input-Output c =
    let ea = sym c.terminal_of.ensures ∙ ap said_terminal c.in-Input-Output.is-0 in
    let ef = sym c.terminal_of-2.ensures ∙ ap said_terminal c.in-Input-Output.is-1 in
    rw (ea, ef) c.wire-in-Input-Output.ensures

pub returns-in-Input-Input : goal.returns-in-Input-Input
unfolding linked
returns-in-Input-Input c =
    let ea = sym c.terminal_of.ensures ∙ ap said_terminal c.in-Input-Input.is-0 in
    let ef = sym c.terminal_of-2.ensures ∙ ap said_terminal c.in-Input-Input.is-1 in
    rw (ea, ef)

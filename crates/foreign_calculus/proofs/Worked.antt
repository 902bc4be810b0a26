-- The check, run over the netlists that were worked out by hand. Assumes nothing.
use mathlib.Core.Path.{◌≡◌, refl}
use mathlib.Core.List.{map}
use Rattle.calculus.specs.NetRead.{item_at}
use Rattle.foreign_calculus.specs.Foreign.{check}
use Rattle.foreign_calculus.specs.Worked.{worked_nets, taken_edges, broken_edges, misnumbered_edges, undriven_edges, checks}

pub worked_nets_lem : map checks worked_nets ≡ worked_nets
unfolding worked_nets check item_at
worked_nets_lem = refl

pub worked_taken_edges : map checks taken_edges ≡ taken_edges
unfolding taken_edges check item_at
worked_taken_edges = refl

pub worked_broken_edges : map checks broken_edges ≡ broken_edges
unfolding broken_edges check item_at
worked_broken_edges = refl

pub worked_misnumbered_edges : map checks misnumbered_edges ≡ misnumbered_edges
unfolding misnumbered_edges check item_at
worked_misnumbered_edges = refl

pub worked_undriven_edges : map checks undriven_edges ≡ undriven_edges
unfolding undriven_edges check item_at
worked_undriven_edges = refl

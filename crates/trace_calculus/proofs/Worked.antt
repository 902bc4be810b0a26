-- The run, over the netlists that were worked out by hand. Assumes nothing.
use mathlib.Core.Path.{◌≡◌, refl}
use mathlib.Core.List.{map}
use Rattle.trace_calculus.specs.Trace.{ran, run, on_ring, source}
use Rattle.trace_calculus.specs.Lanes.{word, lanes_ran}
use Rattle.trace_calculus.specs.Worked.{runs, worked_runs, lanes_runs, lanes_worked}

pub worked_runs_lem : map (map runs) worked_runs ≡ worked_runs
unfolding ran run on_ring source
worked_runs_lem = refl

pub worked_lanes : lanes_runs ≡ lanes_worked
unfolding lanes_ran word run on_ring source
worked_lanes = refl

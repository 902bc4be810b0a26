-- The search, over the netlists that were worked out by hand. Assumes nothing.
use mathlib.Core.Path.{◌≡◌, refl}
use mathlib.Core.List.{map}
use Rattle.trace_calculus.specs.Trace.{run, on_ring, source}
use Rattle.never_calculus.specs.Search.{examined, explored}
use Rattle.never_calculus.specs.Worked.{asks, worked_nevers}

pub worked_nevers_lem : map (map asks) worked_nevers ≡ worked_nevers
unfolding examined explored run on_ring source
worked_nevers_lem = refl

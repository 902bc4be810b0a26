-- `sheet::records_of` meets its contract: the opening lies within the sheet. Assumes nothing.
use mathlib.Core.Path.{refl}
use native.Mathlib.Omega.{arith}
use Rattle.calculus.specs.Read.{records_of}
use Rattle.sheet.proofs.ReadLaws.{opening-within, take_rest}
use Rattle.sheet.proofs.records_of.Goals as goal

pub slice_bounds-result-count : goal.slice_bounds-result-count
slice_bounds-result-count c = rw c.opening-from.ensures (opening-within c.args.s.now)

pub slice_bounds-result-start : goal.slice_bounds-result-start
slice_bounds-result-start c = let w = rw (← c.opening-from.ensures) at (opening-within c.args.s.now) in omega arith

pub returns : goal.returns
unfolding records_of
returns c =
    let e = c.opening-from.ensures in
    record { bytes = rw e (take_rest _ c.args.s.now); block = refl; offset = omega (arith, e) }

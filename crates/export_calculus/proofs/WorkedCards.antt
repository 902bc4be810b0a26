-- The card's profile, run over the sheets that were worked out by hand. Assumes nothing.
use mathlib.Core.Path.{◌≡◌, refl}
use mathlib.Core.List.{map}
use Rattle.calculus.specs.Read.{edition_of, records_of, read_sheet, read_records, read_types, read_term, head_at}
use Rattle.calculus.specs.Translate.{full}
use Rattle.calculus.specs.Lean.{root, lean}
use Rattle.export_calculus.specs.Card.{profiled, root_type}
use Rattle.export_calculus.specs.WorkedCards.{profiled_row, meets_profile, other_roots, kept_rings, unread_outputs}

pub worked_meets_profile : map profiled_row meets_profile ≡ meets_profile
unfolding meets_profile profiled root_type full edition_of records_of read_sheet read_records read_types read_term head_at lean root
worked_meets_profile = refl

pub worked_other_roots : map profiled_row other_roots ≡ other_roots
unfolding other_roots profiled root_type full edition_of records_of read_sheet read_records read_types read_term head_at lean root
worked_other_roots = refl

pub worked_kept_rings : map profiled_row kept_rings ≡ kept_rings
unfolding kept_rings profiled root_type full edition_of records_of read_sheet read_records read_types read_term head_at lean root
worked_kept_rings = refl

pub worked_unread_outputs : map profiled_row unread_outputs ≡ unread_outputs
unfolding unread_outputs profiled root_type full edition_of records_of read_sheet read_records read_types read_term head_at lean root
worked_unread_outputs = refl

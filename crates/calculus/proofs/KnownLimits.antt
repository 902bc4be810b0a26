-- The definitions, run over the rows at the limits. Assumes nothing.
use mathlib.Core.Path.{◌≡◌, refl}
use mathlib.Core.List.{map}
use Rattle.calculus.specs.Read.{edition_of, records_of, read_sheet, read_records, read_types, read_term, head_at}
use Rattle.calculus.specs.Translate.{full}
use Rattle.calculus.specs.KnownRefusals.{refusal_of}
use Rattle.calculus.specs.KnownLimits.{at_limits, heads, head_read, last_types, last_types_read}

pub known-limits : map refusal_of at_limits ≡ at_limits
unfolding at_limits full edition_of records_of read_sheet read_records read_types read_term head_at
known-limits = refl

pub known-heads : map head_read heads ≡ heads
unfolding heads head_at
known-heads = refl

pub known_last_types : last_types ≡ last_types_read
unfolding read_types
known_last_types = refl

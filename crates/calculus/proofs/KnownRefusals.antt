-- The definitions, run over the known refusals; and no row's text is broken. Assumes nothing.
use mathlib.Core.Path.{◌≡◌, refl}
use mathlib.Core.List.{map}
use Rattle.calculus.specs.Read.{edition_of, records_of, read_sheet, read_records, read_types, read_term, head_at}
use Rattle.calculus.specs.Translate.{full}
use Rattle.calculus.specs.KnownRefusals.{refusal_of, ends_early, unknown_kinds, no_earlier_type, against_the_table, same_as_earlier, bytes_after_lem, not_in_scope, other_sort, do_not_fit, used_again, unused_linear, unknown_parts}

pub known_ends_early : map refusal_of ends_early ≡ ends_early
unfolding ends_early full edition_of records_of read_sheet read_records read_types read_term head_at
known_ends_early = refl

pub known_unknown_kinds : map refusal_of unknown_kinds ≡ unknown_kinds
unfolding unknown_kinds full edition_of records_of read_sheet read_records read_types read_term head_at
known_unknown_kinds = refl

pub known_no_earlier_type : map refusal_of no_earlier_type ≡ no_earlier_type
unfolding no_earlier_type full edition_of records_of read_sheet read_records read_types read_term head_at
known_no_earlier_type = refl

pub known_against_the_table : map refusal_of against_the_table ≡ against_the_table
unfolding against_the_table full edition_of records_of read_sheet read_records read_types read_term head_at
known_against_the_table = refl

pub known_same_as_earlier : map refusal_of same_as_earlier ≡ same_as_earlier
unfolding same_as_earlier full edition_of records_of read_sheet read_records read_types read_term head_at
known_same_as_earlier = refl

pub known_bytes_after : map refusal_of bytes_after_lem ≡ bytes_after_lem
unfolding bytes_after_lem full edition_of records_of read_sheet read_records read_types read_term head_at
known_bytes_after = refl

pub known_not_in_scope : map refusal_of not_in_scope ≡ not_in_scope
unfolding not_in_scope full edition_of records_of read_sheet read_records read_types read_term head_at
known_not_in_scope = refl

pub known_other_sort : map refusal_of other_sort ≡ other_sort
unfolding other_sort full edition_of records_of read_sheet read_records read_types read_term head_at
known_other_sort = refl

pub known_do_not_fit : map refusal_of do_not_fit ≡ do_not_fit
unfolding do_not_fit full edition_of records_of read_sheet read_records read_types read_term head_at
known_do_not_fit = refl

pub known_used_again : map refusal_of used_again ≡ used_again
unfolding used_again full edition_of records_of read_sheet read_records read_types read_term head_at
known_used_again = refl

pub known_unused_linear : map refusal_of unused_linear ≡ unused_linear
unfolding unused_linear full edition_of records_of read_sheet read_records read_types read_term head_at
known_unused_linear = refl

pub known_unknown_parts : map refusal_of unknown_parts ≡ unknown_parts
unfolding unknown_parts full edition_of records_of read_sheet read_records read_types read_term head_at
known_unknown_parts = refl

-- The definitions, run over the known sheets of both editions. Assumes nothing.
use mathlib.Core.Path.{◌≡◌, refl}
use mathlib.Core.List.{map}
use Rattle.calculus.specs.Read.{edition_of, records_of, read_sheet, read_records, read_types, read_term, head_at}
use Rattle.calculus.specs.Translate.{full}
use Rattle.calculus.specs.KnownEditions.{edition_answer, accepted_editions, refused_editions, clashing_types}

pub known_accepted_editions : map edition_answer accepted_editions ≡ accepted_editions
unfolding accepted_editions full edition_of records_of read_sheet read_records read_types read_term head_at
known_accepted_editions = refl

pub known_refused_editions : map edition_answer refused_editions ≡ refused_editions
unfolding refused_editions full edition_of records_of read_sheet read_records read_types read_term head_at
known_refused_editions = refl

pub known_clashing_types : map edition_answer clashing_types ≡ clashing_types
unfolding clashing_types full edition_of records_of read_sheet read_records read_types read_term head_at
known_clashing_types = refl

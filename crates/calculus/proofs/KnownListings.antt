-- The listing, run over the known sheets. Assumes nothing.
use mathlib.Core.Path.{◌≡◌, refl}
use mathlib.Core.List.{map}
use Rattle.calculus.specs.Read.{edition_of, records_of, read_sheet, read_records, read_types, read_term, head_at}
use Rattle.calculus.specs.Translate.{full}
use Rattle.calculus.specs.Lean.{root, lean}
use Rattle.calculus.specs.Listing.{listing, net_lines}
use Rattle.calculus.specs.KnownListings.{listing_row, known_listings, more_listings, larger_listings, last_listings}

pub known_listings_lem : map listing_row known_listings ≡ known_listings
unfolding known_listings listing net_lines full edition_of records_of read_sheet read_records read_types read_term head_at lean root
known_listings_lem = refl

pub more_listings_lem : map listing_row more_listings ≡ more_listings
unfolding more_listings listing net_lines full edition_of records_of read_sheet read_records read_types read_term head_at lean root
more_listings_lem = refl

pub larger_listings_lem : map listing_row larger_listings ≡ larger_listings
unfolding larger_listings listing net_lines full edition_of records_of read_sheet read_records read_types read_term head_at lean root
larger_listings_lem = refl

pub last_listings_lem : map listing_row last_listings ≡ last_listings
unfolding last_listings listing net_lines full edition_of records_of read_sheet read_records read_types read_term head_at lean root
last_listings_lem = refl

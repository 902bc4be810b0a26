-- The definitions, run over the sheets with known results. Assumes nothing.
use mathlib.Core.Path.{◌≡◌, refl}
use mathlib.Core.List.{map}
use Rattle.calculus.specs.Net.{net_bytes}
use Rattle.calculus.specs.Read.{edition_of, records_of, read_sheet, read_records, read_types, read_term, head_at}
use Rattle.calculus.specs.Lean.{root, lean}
use Rattle.calculus.specs.Makers.{makers_of, net_node_bytes, drop_nodes}
use Rattle.calculus.specs.Translate.{full, answer}
use Rattle.calculus.specs.NetRead.{item_at, items_from, read_net}
use Rattle.calculus.specs.Listing.{listing, net_lines}
use Rattle.calculus.specs.Known.{table, editions, clashes, netlists_of, lacking, lacks, answers, expected}

-- P1 to P11: both netlists and their bytes, plain and with nodes, or the refusal; refusals 1 and 17 where memory or room is lacking; the
-- netlists read again from their bytes; the node numbers dropped; and P3's listing
pub known_results : map answers table ≡ map expected table
unfolding table netlists_of lacking lacks full answer net_bytes makers_of net_node_bytes drop_nodes edition_of records_of read_sheet read_records read_types read_term head_at lean root listing net_lines read_net items_from item_at
known_results = refl

-- the same over both editions: 31, kind 1B, and gates that take a pair
pub known-editions : map answers editions ≡ map expected editions
unfolding editions netlists_of lacking lacks full answer net_bytes makers_of net_node_bytes drop_nodes edition_of records_of read_sheet read_records read_types read_term head_at lean root listing net_lines read_net items_from item_at
known-editions = refl

-- .. and over the causes of refusal 12, with the two types that each names
pub known-clashes : map answers clashes ≡ map expected clashes
unfolding clashes netlists_of lacking lacks full answer net_bytes makers_of net_node_bytes drop_nodes edition_of records_of read_sheet read_records read_types read_term head_at lean root listing net_lines read_net items_from item_at
known-clashes = refl

-- The batch, run over rows that were worked out by hand. Assumes nothing.
use mathlib.Core.Path.{◌≡◌, refl}
use mathlib.Core.List.{map}
use Rattle.calculus.specs.Read.{edition_of, records_of, read_sheet, read_records, read_types, read_term, head_at}
use Rattle.calculus.specs.Net.{net_bytes}
use Rattle.calculus.specs.Lean.{root, lean}
use Rattle.calculus.specs.Makers.{makers_of, net_node_bytes}
use Rattle.calculus.specs.Translate.{full, work_of, zeroed}
use Rattle.export_calculus.specs.Card.{profiled, root_type}
use Rattle.export_calculus.specs.CardCall.{card_answer, card_call}
use Rattle.batch_calculus.specs.Batch.{batch_call}
use Rattle.batch_calculus.specs.Worked.{worked_batches, batched}

pub worked_batches_lem : map batched worked_batches ≡ worked_batches
unfolding worked_batches batch_call card_call card_answer work_of zeroed profiled root_type full net_bytes makers_of net_node_bytes edition_of records_of read_sheet read_records read_types read_term head_at lean root
worked_batches_lem = refl

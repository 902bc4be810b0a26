-- A record that is no part. Assumes nothing.
use mathlib.Core.List.{[], ◌∷◌}
use denote.Enum.Declared.{tag_of}
use types.Run.{OneOf, miss}
use Rattle.calculus.specs.NetRead.{item, ended, broken}
use Rattle.net_reader.specs.Said.{said_record}
use Rattle.net_reader.specs.declared.Record.{Record}
use Rattle.net_reader.specs.declared.Record.TheVariants as rec
use Rattle.net_reader.specs.contracts.Record.{the_type}
use Rattle.back.proofs.GateLaws.{NotPart}

-- the end, and what is no record, are no part either
pub no_part : ((r : Record) → OneOf (0 ∷ 2 ∷ 3 ∷ []) (tag_of the_type r) → NotPart (item (said_record r))) × NotPart ended × NotPart broken
no_part = (by, tt, tt)
  where
    by : (r : Record) → OneOf (0 ∷ 2 ∷ 3 ∷ []) (tag_of the_type r) → NotPart (item (said_record r))
    by (rec.Point i) o = tt
    by (rec.Part p i) o = absurd (miss (0 ∷ 2 ∷ 3 ∷ []) 1 tt o)
    by (rec.Wire from to) o = tt
    by (rec.Pin t) o = tt

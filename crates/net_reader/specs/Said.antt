-- The records of the code as those of the definitions (document 02, L8). Assumes nothing.
use Rattle.std.specs.Prelude.{ℕ, ◌+◌, Option, Some, None, Result, Ok, Err}
use Rattle.calculus.specs.Answer.{Answer, good, refused, refuse}
use Rattle.calculus.specs.Net.{point, part, wire_of, Item, element, wire, pin}
use Rattle.calculus.specs.NetRead.{item_size, Front, item, ended, broken}
use Rattle.answers.specs.Refusals.{said_why}
use Rattle.answers.specs.declared.Refusal.{Refusal}
use Rattle.net_reader.specs.declared.Record.{Record}
use Rattle.net_reader.specs.declared.Record.TheVariants as rec
use Rattle.net_reader.specs.declared.Step.{Step}

abbrev pub said_record : Record → Item
said_record (rec.Point i) = element (point i)
said_record (rec.Part p first) = element (part p first)
said_record (rec.Wire from to) = wire (wire_of from to)
said_record (rec.Pin t) = pin t

-- a record, or no record
abbrev pub said_front : Option Record → Front
said_front (Some r) = item (said_record r)
said_front None = broken

-- a step as the definitions have it: what stands at an offset and the offset past it, nothing at the end, or refusal 21 at the offset
abbrev pub stepped : Front → ℕ → Answer (Option (Item × ℕ))
stepped (item r) at = good (Some (r, at + item_size r))
stepped ended at = good None
stepped broken at = refuse 21 at

-- .. and as the code has it
abbrev pub said_step : Result (Option Step) Refusal → Answer (Option (Item × ℕ))
said_step (Ok (Some x)) = good (Some (said_record x.found, x.past))
said_step (Ok None) = good None
said_step (Err e) = refused (said_why e)

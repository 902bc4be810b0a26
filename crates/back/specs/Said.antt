-- The answers of the code as those of the definitions (document 02, L11). Assumes nothing.
use Rattle.std.specs.Prelude.{ℕ, ◌+◌, ◌≡◌, List, Result, Ok, Err}
use Rattle.calculus.specs.Answer.{Answer, good, refused}
use Rattle.calculus.specs.Net.{part, element}
use Rattle.calculus.specs.NetRead.{item, item_at}
use Rattle.answers.specs.Refusals.{said_why}
use Rattle.answers.specs.declared.Refusal.{Refusal}
use Rattle.back.specs.Gates.{PartsTo}
use Rattle.back.specs.declared.gates.Parts.{Parts}
use Rattle.back.specs.declared.gates.Gate.{Gate}

abbrev pub said_parts : Result Parts Refusal → Answer PartsTo
said_parts (Ok p) = good (record { parts = p.count; wires = p.wires })
said_parts (Err why) = refused (said_why why)

-- the part that stands at an offset, and the offset past its four bytes
pub record SaidGate (g : Gate) (s : List ℕ) (at : ℕ) : Type 0 where
  pub found_is : item (element (part g.part g.first)) ≡ item_at s at
  pub past_is : g.past ≡ at + 4

-- A caller's wish, in the terms of the definitions. Assumes nothing.
use Rattle.std.specs.Prelude.{Bool, true, false, List, ℕ}
use Rattle.calculus.specs.Answer.{Answer, good, ◌>>=◌}
use Rattle.calculus.specs.Net.{Net}
use Rattle.calculus.specs.Lean.{lean}
use Rattle.calculus.specs.Translate.{Wish}
use Rattle.export_calculus.specs.Card.{profiled}
use Rattle.export_calculus.specs.CardCall.{Wished}
use Rattle.translation.specs.declared.Wish as wishes

abbrev pub said_wish : wishes.Wish → Wish
said_wish w = record { lean = w.lean; plain = w.plain }

abbrev pub all_wish : wishes.Wish → Wished
all_wish w = record { card = w.card; wish = said_wish w }

-- the card's check where it is wished, of a sheet with full netlist m whose root's type is a chain or not
abbrev pub card_by : Bool → Bool → Net → Answer (Unit {0})
card_by false chained m = good tt
card_by true chained m = profiled chained (lean m)

-- where it passes
abbrev pub on_pass : Answer (Unit {0}) → Answer (List ℕ) → Answer (List ℕ)
on_pass check bytes = check >>= λ _. bytes

-- The call from a netlist back to a sheet (document 02, L11): "Refusals: those of L8; then 25 for a point, place the first one's offset; 26
-- for a count beyond the limits, place 0; then 17". Assumes nothing.
use Rattle.std.specs.Prelude.{ℕ, ◌+◌, Bool, ◌&&◌, List, [], ◌∷◌, leb, length}
use Rattle.calculus.specs.Answer.{Answer, good, refuse, need, ◌>>=◌}
use Rattle.calculus.specs.Net.{Element, point, part, Net, element}
use Rattle.calculus.specs.NetRead.{item_size, read_net}
use Rattle.calculus.specs.Translate.{said_of, out_of, work_of, Call}
use Rattle.foreign_calculus.specs.Foreign.{check}
use Rattle.back_calculus.specs.Back.{gates, open_ins, back_sheet}

-- elements stand first in the bytes, one behind the other
abbrev pub no_point : List Element → ℕ → Answer (Unit {0})
no_point [] at = good tt
no_point (point i ∷ es) at = refuse 25 at
no_point (part p i ∷ es) at = no_point es (at + item_size (element (part p i)))

-- "1 to 16 parts .. and at most 24 undriven inputs"
abbrev pub within : Net → Bool
within m = leb 1 (length m.elements) && (leb (length m.elements) 16 && leb (open_ins (gates m)) 24)

-- the sheet of a netlist; what the check accepts, the reader reads
unfoldable pub returned : Bool → List ℕ → Answer (List ℕ)
returned lean s = do
  _ ← check lean s
  m ← read_net s
  _ ← no_point m.elements 0
  _ ← need (within m) 26 0
  good (back_sheet m)

-- the bytes that a call writes, or its refusal
unfoldable pub back_answer : ℕ → Bool → List ℕ → ℕ → Answer (List ℕ)
back_answer memory lean s room = do
  _ ← need (leb 32768 memory) 1 0
  sheet ← returned lean s
  _ ← need (leb (length sheet) room) 17 (length sheet)
  good sheet

unfoldable pub back_call : Bool → List ℕ → List ℕ → List ℕ → Call
back_call lean s out work =
    let a = back_answer (length work) lean s (length out) in
    record { said = said_of a; out = out_of a out; work = work_of work }

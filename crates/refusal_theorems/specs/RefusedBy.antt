-- A call's refusal, 1 to 17, in document 01's order ("Numbers of the refusals"), with no reader and no walk; and what is written where none
-- applies. Assumes nothing.
use Rattle.std.specs.Prelude.{ℕ, ◌<◌, ◌≤◌, ◌≡◌, List, [], length}
use Rattle.calculus.specs.Answer.{Refusal, numbered}
use Rattle.calculus.specs.Types.{Ty}
use Rattle.calculus.specs.Read.{Sheet}
use Rattle.calculus.specs.Write.{sheet_bytes}
use Rattle.calculus.specs.Rules.{Typed}
use Rattle.calculus.specs.Net.{Net, make, net_of}
use Rattle.calculus.specs.Makers.{makers}
use Rattle.calculus.specs.Translate.{Wish, asked_bytes}
use Rattle.refusal_theorems.specs.Refuses.{Refuses}
use Rattle.refusal_theorems.specs.Unreadable.{Unreadable}

-- ---- 2 to 16, which every call on a sheet has in common

-- the bytes s are those of the sheet σ, and no sentence of 2 to 9 refuses them. (No two sheets have the same bytes: theorem `one_sheet`)
pub record WrittenAs (s : List ℕ) (σ : Sheet) : Type 0 where
  pub bytes : s ≡ sheet_bytes σ.edition σ.table σ.term
  pub readable : (why : Refusal) → ¬ Unreadable s why

-- the number of terminals of its full netlist
abbrev pub terminals_of : Sheet → ℕ
terminals_of σ = (make σ.table σ.term [] 0).next

-- .. and that netlist
abbrev pub full_of : Sheet → Net
full_of σ = net_of (make σ.table σ.term [] 0)

-- none of 2 to 16 applies: the bytes are those of σ, Figure 2 has a derivation, and the terminals are few enough
pub record HasNetlist (s : List ℕ) (σ : Sheet) : Type 0 where
  pub written : WrittenAs s σ
  pub type : Ty
  pub typed : Typed σ.edition σ.table [] σ.term type
  pub few : terminals_of σ ≤ 8192

pub data NoNetlist (s : List ℕ) : Refusal → Type 0 where
  -- "2; then records in byte order ..; then 9"
  unreadable :
      {why : Refusal}
      → Unreadable s why
      → NoNetlist s why
  -- "then the typing walk"
  untyped :
      {σ : Sheet} {why : Refusal}
      → WrittenAs s σ
      → Refuses σ.edition σ.table [] σ.term 0 why
      → NoNetlist s why
  -- "then 16": "over 8,192 terminals", at 0
  many_terminals :
      {σ : Sheet} {τ : Ty}
      → WrittenAs s σ
      → Typed σ.edition σ.table [] σ.term τ
      → 8192 < terminals_of σ
      → NoNetlist s (numbered 16 0)

-- ---- a call with so much working memory, a wish, the sheet s and so much room

-- the bytes of the netlist that is wished
abbrev pub wished_bytes : Wish → Sheet → List ℕ
wished_bytes w σ = asked_bytes w (full_of σ) (makers σ.table σ.term 0)

pub data RefusedBy (memory : ℕ) (w : Wish) (s : List ℕ) (room : ℕ) : Refusal → Type 0 where
  -- "Order: 1": "working memory under 32,768 numbers", at 0
  little_memory :
      memory < 32768
      → RefusedBy memory w s room (numbered 1 0)
  -- then 2 to 16
  no_netlist :
      {why : Refusal}
      → 32768 ≤ memory
      → NoNetlist s why
      → RefusedBy memory w s room why
  -- "then 17": "output shorter than the netlist", and the "length needed"
  little_room :
      {σ : Sheet}
      → 32768 ≤ memory
      → HasNetlist s σ
      → room < length (wished_bytes w σ)
      → RefusedBy memory w s room (numbered 17 (length (wished_bytes w σ)))

-- "Success gives the number of bytes written"
pub record WritesBytes (memory : ℕ) (w : Wish) (s : List ℕ) (room n : ℕ) : Type 0 where
  pub sheet : Sheet
  pub has : HasNetlist s sheet
  pub enough : 32768 ≤ memory
  pub fits : length (wished_bytes w sheet) ≤ room
  pub number : n ≡ length (wished_bytes w sheet)

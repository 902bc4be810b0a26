-- The bytes that the lean netlist by terminal gives, terminal after terminal. Assumes nothing.
use Rattle.std.specs.Prelude.{ℕ, zero, suc, ◌+◌, ◌-◌, ◌≤◌, ◌<◌, ◌≡◌, Bool, cond, List, [], ◌∷◌, ◌++◌, eqb, ltb, drop}
use Rattle.calculus.specs.Net.{wire_bytes, pin_bytes}
use Rattle.calculus.specs.Makers.{maker}
use Rattle.memory.specs.Map.{makers_at, terminal_of}
use Rattle.netlist.specs.Elements.{element_size, node_size, element_records}
use Rattle.lean.specs.Table.{entry}
use Rattle.lean.specs.Layout.{kinds_from, left_out, element_at, wire_at, left_after}

-- of entry v of terminal x: its element's record, plain or with the node that made it; its wire's
abbrev pub record_bytes_at : Bool → ℕ → ℕ → ℕ → List ℕ
record_bytes_at plain node v x = element_records plain (element_at v x) (node ∷ [])

abbrev pub wire_bytes_at : ℕ → ℕ → List ℕ
wire_bytes_at v x = wire_bytes (wire_at v x)

-- of the pin of code v
abbrev pub pin_bytes_at : ℕ → ℕ → List ℕ
pin_bytes_at v x = pin_bytes (terminal_of v ∷ [])

-- the elements' records, of c terminals from x on
abbrev pub records_in : Bool → List ℕ → ℕ → ℕ → List ℕ → List ℕ
records_in plain w zero x js = []
records_in plain w (suc c) x js = record_bytes_at plain (maker js) (entry w x) x ++ records_in plain w c (x + 1) (left_after (entry w x) js)

-- the writer goes on at y with the j-th maker, behind terminal x, whose maker is the i-th
pub record WritesOn (w : List ℕ) (end x i y j : ℕ) : Type 0 where
  pub rises : x < y
  pub low : y ≤ end + 1
  pub few : j ≤ y
  pub records : (plain : Bool) → records_in plain w (end - (x + 1)) (x + 1) (left_after (entry w x) (drop i (drop makers_at w)))
      ≡ records_in plain w (end - y) y (drop j (drop makers_at w))

-- the bytes of both
abbrev pub entry_size : Bool → ℕ → ℕ
entry_size plain v = cond (ltb v kinds_from) (cond (eqb v 0) 0 5) (cond (ltb v left_out) (element_size (v - kinds_from) + node_size plain 1) 0)

abbrev pub sizes_in : Bool → List ℕ → ℕ → ℕ → ℕ
sizes_in plain w zero x = 0
sizes_in plain w (suc c) x = entry_size plain (entry w x) + sizes_in plain w c (x + 1)

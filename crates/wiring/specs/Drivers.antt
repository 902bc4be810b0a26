-- Drivers by input terminal and the list of wires, as both stand in the working memory (document 02, L9). Assumes nothing.
use Rattle.std.specs.Prelude.{ℕ, ◌<◌, ◌≡◌, ◌↔◌, get_or}
use mathlib.Core.List.{List, map, Memᴰ}
use Rattle.calculus.specs.Net.{Net}
use Rattle.calculus.specs.Lean.{driver}
use Rattle.calculus.specs.Inputs.{targets}
use Rattle.memory.specs.Map.{targets_at, region, wires_from}
use Rattle.wiring.specs.declared.Counts.{Counts}
use Rattle.wiring.specs.Store.{target}

-- "this table and the list say the same": the list is that of m, the table is what stands in the memory
pub record DriversByInput (m : Net) (r : Counts) (w : List ℕ) : Type 0 where
  -- one driver number for each input terminal, 65,535 for none: what a search of the list finds
  pub found : (i : ℕ) → i < 8192 → get_or w i 0 ≡ driver m.wires i 65535
  -- it is an output exactly where the list has a wire from that output to the input
  pub wire : (o i : ℕ) → o < 8192 → i < 8192 → (get_or w i 0 ≡ o) ↔ Memᴰ (record { from = o; to = i }) m.wires
  -- .. and 65,535 exactly where no wire of the list goes to it
  pub none : (i : ℕ) → i < 8192 → (get_or w i 0 ≡ 65535) ↔ (targets m.wires i ≡ 0)
  -- "wire order too": beside the table stand the targets in making order, and both together are the list
  pub order : region w targets_at r.wires ≡ map target m.wires
  pub list : wires_from w (region w targets_at r.wires) ≡ m.wires

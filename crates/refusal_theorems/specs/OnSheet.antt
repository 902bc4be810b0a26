-- The refusals that every call on a sheet begins with, 1 to 16 (document 01, "Order: 1; 2; .. then 16"), whatever it does with the netlist
-- afterwards. Assumes nothing.
use Rattle.std.specs.Prelude.{ℕ, ◌<◌, ◌≤◌, List}
use Rattle.calculus.specs.Answer.{Refusal, numbered}
use Rattle.refusal_theorems.specs.RefusedBy.{NoNetlist}

pub data OnSheet (memory : ℕ) (s : List ℕ) : Refusal → Type 0 where
  -- "Order: 1": "working memory under 32,768 numbers", at 0
  of_little_memory :
      memory < 32768
      → OnSheet memory s (numbered 1 0)
  -- then 2 to 16
  of_no_netlist :
      {why : Refusal}
      → 32768 ≤ memory
      → NoNetlist s why
      → OnSheet memory s why

-- A call's refusal where the card's profile may be asked for (document 02, L12): 1 to 16, 27 to 29, 17. Not asked for, it is `RefusedBy`.
-- Assumes nothing.
use Rattle.std.specs.Prelude.{ℕ, ◌<◌, ◌≤◌, Bool, List, T, length}
use Rattle.calculus.specs.Answer.{Refusal, numbered}
use Rattle.calculus.specs.Read.{Sheet}
use Rattle.calculus.specs.Lean.{lean}
use Rattle.calculus.specs.Translate.{Wish}
use Rattle.export_theorems.specs.Broken.{Breaks, Broken}
use Rattle.refusal_theorems.specs.RefusedBy.{full_of, HasNetlist, NoNetlist, wished_bytes}

pub data CardRefusedBy (card : Bool) (memory : ℕ) (w : Wish) (s : List ℕ) (room : ℕ) : Refusal → Type 0 where
  -- "Order: 1": "working memory under 32,768 numbers", at 0
  on_little_memory :
      memory < 32768
      → CardRefusedBy card memory w s room (numbered 1 0)
  -- then 2 to 16
  on_no_netlist :
      {why : Refusal}
      → 32768 ≤ memory
      → NoNetlist s why
      → CardRefusedBy card memory w s room why
  -- "Refusals, after 16 and before 17: 27 root type, place 0; 28 ring, place the lowest such input; 29 unread output, place the lowest such
  -- terminal". "The check is asked for by name"
  breaks_profile :
      {σ : Sheet} {why : Refusal}
      → 32768 ≤ memory
      → (h : HasNetlist s σ)
      → T card
      → Broken h.type (lean (full_of σ)) why
      → CardRefusedBy card memory w s room why
  -- "then 17": "output shorter than the netlist", and the "length needed"
  on_little_room :
      {σ : Sheet}
      → 32768 ≤ memory
      → (h : HasNetlist s σ)
      → (T card → ¬ Breaks h.type (lean (full_of σ)))
      → room < length (wished_bytes w σ)
      → CardRefusedBy card memory w s room (numbered 17 (length (wished_bytes w σ)))

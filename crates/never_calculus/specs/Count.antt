-- The states that the registers can have. Relations only. Assumes nothing.
use Rattle.std.specs.Prelude.{ℕ, ◌<◌, ◌≡◌, ◌↔◌, List, [], ◌∷◌, length}
use Rattle.calculus.specs.Net.{Net}
use Rattle.calculus.specs.Record.{Bits, Among}
use Rattle.trace_calculus.specs.Trace.{row}
use Rattle.trace_calculus.specs.Promise.{register_outputs}
use Rattle.never_calculus.specs.Never.{RecordFrom}

-- some record with such starts has these bits at the registers' outputs, by rising terminal, at some tick
pub record Reached (m : Net) (starts bits : List ℕ) : Type 0 where
  pub ticks : ℕ
  pub tick : ℕ
  pub record_of : Bits
  pub starting : RecordFrom m starts ticks record_of
  pub within : tick < ticks
  pub held : row record_of tick (register_outputs m) ≡ bits

-- no two are the same
abbrev pub Unlike : List (List ℕ) → Type 0
Unlike [] = Unit {0}
Unlike (x ∷ xs) = (Among x xs → ⊥) × Unlike xs

-- there are k such states
pub record States (m : Net) (starts : List ℕ) (k : ℕ) : Type 0 where
  pub states : List (List ℕ)
  pub count : length states ≡ k
  pub unlike : Unlike states
  pub reached : (bits : List ℕ) → Among bits states ↔ Reached m starts bits

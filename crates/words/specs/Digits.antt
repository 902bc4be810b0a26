-- The digits of a run, read up to an offset. Assumes nothing.
use Rattle.std.specs.Prelude.{ℕ, ◌+◌, ◌-◌, ◌≤◌, ◌≡◌, List, length, take, drop}
use Rattle.notation_calculus.specs.Words.{run, all_digits, value_from}
use Rattle.words.specs.Next.{run_at}

-- the digits from `start` to `end`, read up to `at`
pub record DigitsAt (text : List ℕ) (start end value at : ℕ) : Type 0 where
  pub all : all_digits (run_at text start) ≡ all_digits (take (end - at) (drop at text))
  pub sum : value_from 0 (run_at text start) ≡ value_from value (take (end - at) (drop at text))
  pub small : value ≤ 256
  pub within : at ≤ end
  pub inside : end ≤ length text
  pub ends : end ≡ start + run (drop start text)

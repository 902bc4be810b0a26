-- The outputs that look at something within the tick, by falling number, over the table by terminal. Assumes nothing.
use Rattle.std.specs.Prelude.{ℕ, ◌+◌, ◌≤◌, ◌<◌, ◌≡◌, Bool, true, cond, ◌&&◌, List, length, get_or, eqb, ltb}
use Rattle.memory.specs.Map.{memory_size}
use Rattle.trace_steps.specs.Map.{rest_at, order_at, register_entry, one_entry, point_entry}
use Rattle.trace_steps.specs.Steps.{Looks}

-- an entry of a gate's output, or of a point's
abbrev pub looks_at : ℕ → Bool
looks_at v = cond (eqb v point_entry) true (ltb register_entry v && ltb v one_entry)

abbrev pub looks_in : List ℕ → ℕ → Bool
looks_in w x = looks_at (get_or w x 0)

pub record Choosable (w : List ℕ) (end : ℕ) : Type 0 where
  pub size : memory_size ≤ length w
  pub few : end ≤ 8192
  pub looks : (x : ℕ) → x < end → looks_in w x ≡ true → Looks w x

-- they stand as the rest, all of them and no others, by falling number; nothing else has changed
pub record Chosen (u : List ℕ) (end : ℕ) (w : List ℕ) (n : ℕ) : Type 0 where
  pub size : length w ≡ length u
  pub table : (x : ℕ) → x < 8192 → get_or w x 0 ≡ get_or u x 0
  pub above : (j : ℕ) → order_at ≤ j → get_or w j 0 ≡ get_or u j 0
  pub few : n ≤ 4096
  pub each : (k : ℕ) → k < n → (get_or w (rest_at + k) 0 < end) × (looks_in u (get_or w (rest_at + k) 0) ≡ true)
  pub falling : (i k : ℕ) → i < k → k < n → get_or w (rest_at + k) 0 < get_or w (rest_at + i) 0
  pub all : (x : ℕ) → x < end → looks_in u x ≡ true → (k : ℕ) × (k < n) × (get_or w (rest_at + k) 0 ≡ x)

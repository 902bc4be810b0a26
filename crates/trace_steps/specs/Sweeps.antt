-- Sweeps over the outputs that are not settled, over the working memory (specs/Map says what stands where). Assumes nothing.
use Rattle.std.specs.Prelude.{ℕ, zero, suc, ◌+◌, ◌-◌, ◌≤◌, ◌<◌, ◌≡◌, cond, List, length, get_or, set, eqb}
use Rattle.memory.specs.Map.{memory_size}
use Rattle.trace_steps.specs.Map.{rest_at, order_at, bits_at}
use Rattle.trace_steps.specs.Turns.{take_turns}
use Rattle.trace_steps.specs.Steps.{Looks, ready_in}

-- output o is settled, the next of the order
abbrev pub settle_at : List ℕ → ℕ → ℕ → List ℕ
settle_at w done o = set (set w (order_at + done) o) (bits_at + o) 1

pub record Sweep : Type 0 where
  pub mem : List ℕ
  pub kept : ℕ
  pub done : ℕ

abbrev pub sweeping : List ℕ → ℕ → ℕ → Sweep
sweeping w k d = record { mem = w; kept = k; done = d }

-- the j-th of those left: it is settled where it is ready, and stays where not
abbrev pub sweep_at : ℕ → Sweep → Sweep
sweep_at o s = cond (ready_in s.mem o) (sweeping (settle_at s.mem s.done o) s.kept (s.done + 1)) (sweeping (set s.mem (rest_at + s.kept) o) (s.kept + 1) s.done)

abbrev pub sweep_one : ℕ → Sweep → Sweep
sweep_one j s = sweep_at (get_or s.mem (rest_at + j) 0) s

pub record Sweepable (w : List ℕ) (total left : ℕ) : Type 0 where
  pub size : memory_size ≤ length w
  pub few : total ≤ 5120
  pub some : left ≤ total
  pub looks : (j : ℕ) → j < left → Looks w (get_or w (rest_at + j) 0)

-- j of those left are looked at
pub record Sweeping (u : List ℕ) (total left j : ℕ) (w : List ℕ) (kept done : ℕ) : Type 0 where
  pub size : length w ≡ length u
  pub table : (x : ℕ) → x < 8192 → get_or w x 0 ≡ get_or u x 0
  pub rest : (i : ℕ) → j ≤ i → i < left → get_or w (rest_at + i) 0 ≡ get_or u (rest_at + i) 0
  pub looks : (i : ℕ) → i < kept → Looks u (get_or w (rest_at + i) 0)
  pub sum : kept + done + left ≡ total + j
  pub few : kept ≤ j
  pub whole : sweeping w kept done ≡ take_turns sweep_one j 0 (sweeping u 0 (total - left))

-- all of them
pub record Swept (u : List ℕ) (total left : ℕ) (w : List ℕ) (kept : ℕ) : Type 0 where
  pub size : length w ≡ length u
  pub next : Sweepable w total kept
  pub less : kept ≤ left
  pub table : (x : ℕ) → x < 8192 → get_or w x 0 ≡ get_or u x 0
  pub whole : sweeping w kept (total - kept) ≡ take_turns sweep_one left 0 (sweeping u 0 (total - left))

-- ---- sweeps, until one settles none

abbrev pub sweep_all : ℕ → List ℕ → ℕ → Sweep
sweep_all total w left = take_turns sweep_one left 0 (sweeping w 0 (total - left))

abbrev pub sweeps : ℕ → ℕ → List ℕ → ℕ → Sweep
sweeps zero total w left = sweeping w left (total - left)
sweeps (suc k) total w left = let r = sweep_all total w left in cond (eqb r.kept left) r (sweeps k total r.mem r.kept)

-- so many are left to be settled
pub record Settling (u : List ℕ) (total : ℕ) (w : List ℕ) (left : ℕ) : Type 0 where
  pub rounds : ℕ
  pub enough : left ≤ rounds
  pub size : length w ≡ length u
  pub next : Sweepable w total left
  pub table : (x : ℕ) → x < 8192 → get_or w x 0 ≡ get_or u x 0
  pub whole : sweeps (suc rounds) total w left ≡ sweeps (suc total) total u total

-- no more can be
pub record AllSwept (u : List ℕ) (total : ℕ) (w : List ℕ) (left : ℕ) : Type 0 where
  pub size : length w ≡ length u
  pub next : Sweepable w total left
  pub table : (x : ℕ) → x < 8192 → get_or w x 0 ≡ get_or u x 0
  pub whole : sweeping w left (total - left) ≡ sweeps (suc total) total u total

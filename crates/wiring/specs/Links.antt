-- Wires in the working memory: the driver of each target, and the targets in making order. Assumes nothing.
use Rattle.std.specs.Prelude.{ℕ, suc, ◌+◌, ◌≤◌, ◌<◌, List, [], ◌∷◌, length, get_or, set}
use Rattle.calculus.specs.Net.{Terminal, inp, out}
use Rattle.memory.specs.Map.{targets_at, elements_at, memory_size, terminal_of}

-- the wire number k, from output o to input i
abbrev pub wired : List ℕ → ℕ → ℕ → ℕ → List ℕ
wired w k o i = set (set w i o) (targets_at + k) i

-- the wire number k, between two terminals of one bit: from the output to the input
abbrev pub between : List ℕ → ℕ → Terminal → Terminal → List ℕ
between w k (out o) (inp i) = wired w k o i
between w k (inp i) (out o) = wired w k o i
between w k (out o) (out p) = w
between w k (inp i) (inp j) = w

-- .. of the argument's terminal of code a and the function's of code f
unfoldable pub linked : List ℕ → ℕ → ℕ → ℕ → List ℕ
linked w k a f = between w k (terminal_of a) (terminal_of f)

-- one wire for each bit, left to right
abbrev pub links : List ℕ → ℕ → List ℕ → List ℕ → List ℕ
links w k [] fs = w
links w k (a ∷ l) [] = w
links w k (a ∷ l) (f ∷ fs) = links (linked w k a f) (suc k) l fs

-- two interfaces of n codes that wires leave alone, and room for n wires
pub record Apart (w : List ℕ) (a f n k : ℕ) : Type 0 where
  pub size : memory_size ≤ length w
  pub high_a : elements_at ≤ a
  pub high_f : elements_at ≤ f
  pub in_a : a + n ≤ length w
  pub in_f : f + n ≤ length w
  pub low_a : (j : ℕ) → j < n → get_or w (a + j) 0 < 16384
  pub low_f : (j : ℕ) → j < n → get_or w (f + j) 0 < 16384
  pub few : k + n ≤ 5632

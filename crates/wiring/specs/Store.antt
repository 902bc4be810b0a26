-- What the working memory holds while a netlist is made: lists, each at its place, with anything behind them. Assumes nothing.
use Rattle.std.specs.Prelude.{ℕ, ◌+◌, ◌≤◌, ◌<◌, ◌≡◌, List, ◌++◌, map, length, get_or, drop}
use Rattle.calculus.specs.Net.{Wire, Made}
use Rattle.calculus.specs.Record.{All}
use Rattle.memory.specs.Map.{targets_at, elements_at, stack_at, binders_at, memory_size, kind_number, code}
use Rattle.circuit_theorems.specs.Drive.{drive_all}

pub record Store : Type 0 where
  pub drivers : List ℕ
  pub targets : List ℕ
  pub kinds : List ℕ
  pub stack : List ℕ
  pub binders : List ℕ
  pub rest : List ℕ

-- a list lies from an offset on, in room for so many
pub record Lies (w : List ℕ) (from room : ℕ) (xs : List ℕ) : Type 0 where
  pub fits : length xs ≤ room
  pub here : (j : ℕ) → j < length xs → get_or w (from + j) 0 ≡ get_or xs j 0

-- a code of a terminal below 8,192
abbrev pub Low : ℕ → Type 0
Low c = c < 16384

pub record Holds (w : List ℕ) (m : Store) : Type 0 where
  pub size : memory_size ≤ length w
  pub drivers : Lies w 0 8192 m.drivers
  pub all : length m.drivers ≡ 8192
  pub targets : Lies w targets_at 5632 m.targets
  pub kinds : Lies w elements_at 5120 m.kinds
  pub stack : Lies w stack_at 8448 m.stack
  pub low : All Low m.stack
  pub binders : Lies w binders_at 256 m.binders
  pub rest : drop memory_size w ≡ m.rest

-- ---- changes

abbrev pub more_kinds : Store → List ℕ → Store
more_kinds m xs = record {
  drivers = m.drivers;
  targets = m.targets;
  kinds = m.kinds ++ xs;
  stack = m.stack;
  binders = m.binders;
  rest = m.rest;
}

abbrev pub at_stack : Store → List ℕ → Store
at_stack m xs = record {
  drivers = m.drivers;
  targets = m.targets;
  kinds = m.kinds;
  stack = xs;
  binders = m.binders;
  rest = m.rest;
}

abbrev pub at_binders : Store → List ℕ → Store
at_binders m xs = record {
  drivers = m.drivers;
  targets = m.targets;
  kinds = m.kinds;
  stack = m.stack;
  binders = xs;
  rest = m.rest;
}

abbrev pub target : Wire → ℕ
target w = w.to

-- wires made
abbrev pub more_wires : Store → List Wire → Store
more_wires m ws = record {
  drivers = drive_all ws m.drivers;
  targets = m.targets ++ map target ws;
  kinds = m.kinds;
  stack = m.stack;
  binders = m.binders;
  rest = m.rest;
}

-- a term made, its interface on the stack
abbrev pub with_made : Store → Made → Store
with_made m x = record {
  drivers = drive_all x.wires m.drivers;
  targets = m.targets ++ map target x.wires;
  kinds = m.kinds ++ map kind_number x.elements;
  stack = m.stack ++ map code x.side;
  binders = m.binders;
  rest = m.rest;
}

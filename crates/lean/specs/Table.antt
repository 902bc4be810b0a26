-- The table of roots in the working memory, by output terminal: how it starts, and what holds of it until it is whole. Assumes nothing.
use Rattle.std.specs.Prelude.{ℕ, ◌+◌, ◌-◌, ◌≤◌, ◌<◌, ◌≡◌, false, cond, List, [], ◌∷◌, length, get_or, set, T, eqb}
use Rattle.calculus.specs.Terms.{part_at}
use Rattle.calculus.specs.Net.{Net}
use Rattle.calculus.specs.Lean.{back, backs, root}
use Rattle.calculus.specs.Inputs.{is_out}
use Rattle.calculus.specs.NetRead.{Known}
use Rattle.calculus.specs.Record.{All}
use Rattle.memory.specs.Map.{roots_at, roots_end, net_in, Ready}
use Rattle.netlist.specs.Elements.{output_of, after}

-- the entry of terminal x
abbrev pub entry : List ℕ → ℕ → ℕ
entry w x = get_or w (roots_at + x) 0

-- nothing changes outside the table
pub record Within (w w' : List ℕ) : Type 0 where
  pub size : length w' ≡ length w
  pub below : (j : ℕ) → j < roots_at → get_or w' j 0 ≡ get_or w j 0
  pub above : (j : ℕ) → roots_end ≤ j → get_or w' j 0 ≡ get_or w j 0

pub record Blank (w w' : List ℕ) : Type 0 where
  pub within : Within w w'
  pub none : (x : ℕ) → x < 8192 → entry w' x ≡ 0

-- ---- how it starts: an output that stays is its own root; that of a point whose input has a driver is not settled, 65,535

abbrev pub start_root : List ℕ → ℕ → ℕ → ℕ
start_root w k n = cond (eqb k 7) (cond (eqb (get_or w n 0) 65535) (n + 1) 65535) (n + (part_at k).inputs)

abbrev pub started : List ℕ → List ℕ → ℕ → List ℕ
started w [] n = w
started w (k ∷ ks) n = started (set w (roots_at + output_of k n) (start_root w k n)) ks (after k n)

-- ---- until it is whole: each entry is right or not settled

pub record Partly (w : List ℕ) (elements wires pins : ℕ) : Type 0 where
  pub ready : Ready w elements wires pins
  pub other : (x : ℕ) → x < 8192 → is_out (net_in w elements wires pins).elements x ≡ false → entry w x ≡ 0
  pub right : (o : ℕ) → T (is_out (net_in w elements wires pins).elements o) → (entry w o ≡ 65535 → ⊥)
      → entry w o ≡ root (net_in w elements wires pins) o
  pub loose : (o : ℕ) → T (is_out (net_in w elements wires pins).elements o) → entry w o ≡ 65535
      → (1 ≤ o) × (back (net_in w elements wires pins) o ≡ get_or w (o - 1) 0)

-- o is an output
abbrev pub Output : List ℕ → ℕ → ℕ → ℕ → ℕ → Type 0
Output w elements wires pins o = T (is_out (net_in w elements wires pins).elements o)

-- o comes round
pub record Comes (m : Net) (o : ℕ) : Type 0 where
  pub steps : ℕ
  pub some : 1 ≤ steps
  pub few : steps ≤ 8192
  pub same : backs steps m o ≡ o

-- r is reached from the mark, at most so many steps back: it is settled, or the mark again, or all steps are made
pub record WalkedBack (w : List ℕ) (elements wires pins mark steps r : ℕ) : Type 0 where
  pub taken : ℕ
  pub few : taken ≤ steps
  pub output : Output w elements wires pins r
  pub near : backs taken (net_in w elements wires pins) mark ≡ r
  pub some : r ≡ mark → entry w r ≡ 65535 → 1 ≤ taken
  pub whole : (r ≡ mark → ⊥) → entry w r ≡ 65535 → taken ≡ steps

-- going back from o, r is met: settled, or on a ring
pub record Met (w : List ℕ) (elements wires pins o r : ℕ) : Type 0 where
  pub output : Output w elements wires pins r
  pub same : root (net_in w elements wires pins) r ≡ root (net_in w elements wires pins) o
  pub ring : entry w r ≡ 65535 → Comes (net_in w elements wires pins) r

-- one more output is settled, and those that were stay so
pub record Settled (w w' : List ℕ) (elements wires pins o : ℕ) : Type 0 where
  pub within : Within w w'
  pub partly : Partly w' elements wires pins
  pub done : entry w' o ≡ 65535 → ⊥
  pub still : (x : ℕ) → (entry w x ≡ 65535 → ⊥) → entry w' x ≡ 65535 → ⊥

-- the whole table: each output's root, 0 at the inputs and past the end
pub record Whole (w : List ℕ) (elements wires pins : ℕ) : Type 0 where
  pub ready : Ready w elements wires pins
  pub table : (x : ℕ) → x < 8192
      → entry w x ≡ cond (is_out (net_in w elements wires pins).elements x) (root (net_in w elements wires pins) x) 0

-- .. of a netlist of known parts
pub record Leaned (w : List ℕ) (elements wires pins : ℕ) : Type 0 where
  pub whole : Whole w elements wires pins
  pub known : All Known (net_in w elements wires pins).elements

pub record Rooted (w w' : List ℕ) (elements wires pins : ℕ) : Type 0 where
  pub within : Within w w'
  pub net : net_in w' elements wires pins ≡ net_in w elements wires pins
  pub whole : Whole w' elements wires pins

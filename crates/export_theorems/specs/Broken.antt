-- What refusals 18 and 27 to 29 say, without the tests that find it (document 02, L1 and L12). Assumes nothing.
use Rattle.std.specs.Prelude.{ℕ, ◌+◌, ◌≤◌, ◌≡◌, false, ◌⊎◌, T}
use Rattle.calculus.specs.Answer.{Refusal, numbered}
use Rattle.calculus.specs.Types.{Ty, arrow, sharable}
use Rattle.calculus.specs.Terms.{part_at}
use Rattle.calculus.specs.Net.{out, point, part, Wire, Net}
use Rattle.calculus.specs.Lean.{is_pin}
use Rattle.calculus.specs.Record.{Among}

-- a chain of zero or more sharable arrows, ending in a sharable type
pub data Chain : Ty → Type 0 where
  ends : {θ : Ty} → T (sharable θ) → Chain θ
  goes : {θ τ : Ty} → Chain τ → Chain (arrow θ τ)

-- a kept ring point: its input is no pin
pub record KeptRing (m : Net) (i : ℕ) : Type 0 where
  pub kept : Among (point i) m.elements
  pub inner : is_pin m.pins i ≡ false

-- the lowest input of one
pub record LowestRing (m : Net) (i : ℕ) : Type 0 where
  pub ring : KeptRing m i
  pub lowest : (j : ℕ) → KeptRing m j → i ≤ j

-- a part's output that drives no wire and is no pin
pub record Unread (m : Net) (o : ℕ) : Type 0 where
  pub part_number : ℕ
  pub first : ℕ
  pub made : Among (part part_number first) m.elements
  pub output : first + (part_at part_number).inputs ≡ o
  pub no_wire : (w : Wire) → Among w m.wires → w.from ≡ o → ⊥
  pub no_pin : Among (out o) m.pins → ⊥

-- one of the card's three rules is broken
abbrev pub Breaks : Ty → Net → Type 0
Breaks τ m = (Chain τ → ⊥) ⊎ (((i : ℕ) × KeptRing m i) ⊎ ((o : ℕ) × Unread m o))

-- the refusal that tells which, and where: the lowest place
pub data Broken (τ : Ty) (m : Net) : Refusal → Type 0 where
  root_type_lem : (Chain τ → ⊥) → Broken τ m (numbered 27 0)
  ring : {i : ℕ} → Chain τ → KeptRing m i → ((j : ℕ) → KeptRing m j → i ≤ j) → Broken τ m (numbered 28 i)
  unread : {o : ℕ} → Chain τ → ((j : ℕ) → KeptRing m j → ⊥) → Unread m o → ((x : ℕ) → Unread m x → o ≤ x) → Broken τ m (numbered 29 o)

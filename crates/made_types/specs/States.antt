-- The state at the beginning, and a state that is gone back to. Assumes nothing.
use Rattle.std.specs.Prelude.{ℕ, ◌≤◌, ◌<◌, ◌≡◌, List, ◌++◌, length, get_or}
use Rattle.calculus.specs.Types.{rec01, Table, rec_at}
use Rattle.sheet_theorems.specs.Laid.{TableOk}
use Rattle.notation_calculus.specs.Making.{State}
use Rattle.notation_calculus.specs.Make.{start}
use Rattle.making_memory.specs.Map.{type_count_at, node_count_at, put_count_at}
use Rattle.made_types.specs.Held.{HoldsState}

pub record Begun (w w' : List ℕ) : Type 0 where
  pub same : length w' ≡ length w
  pub holds : HoldsState w' start
  pub above : (i : ℕ) → 11264 ≤ i → (i ≡ type_count_at → ⊥) → (i ≡ node_count_at → ⊥) → (i ≡ put_count_at → ⊥) → get_or w' i 0 ≡ get_or w i 0

-- a table that the reader accepts is the beginning of a longer one
pub record Beginning (Θ Φ : Table) : Type 0 where
  pub more : Table
  pub joined : Φ ≡ Θ ++ more
  pub ok : TableOk Θ
  pub one : rec_at Θ 0 ≡ rec01
  pub some : 0 < length Θ

-- of a state that the memory held, the earlier types and nodes are held, and what was put in
pub record Forgot (w : List ℕ) (types nodes : ℕ) (w' : List ℕ) : Type 0 where
  pub same : length w' ≡ length w
  pub other : (i : ℕ) → (i ≡ type_count_at → ⊥) → (i ≡ node_count_at → ⊥) → get_or w' i 0 ≡ get_or w i 0
  pub holds : (σ : State) (Θ : Table) → HoldsState w σ → Beginning Θ σ.table → types ≡ length Θ → nodes ≤ σ.nodes → HoldsState w' (record { table = Θ; nodes = nodes; puts = σ.puts })

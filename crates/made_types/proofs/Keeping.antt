-- The memory still holds a table, and a state, where their numbers are as they were. Assumes nothing.
use Prim.Native.Nat.{ℕ, ◌+◌, ◌*◌, ◌<◌, ◌≤◌}
use mathlib.Core.Path.{◌≡◌, ◌∙◌}
use mathlib.Core.List.{List}
use native.Mathlib.Omega.{arith}
use lib.ListN.{length, get_or}
use Rattle.calculus.specs.Types.{Table}
use Rattle.notation_calculus.specs.Making.{State}
use Rattle.making_memory.specs.Map.{types_at, type_count_at, node_count_at, put_count_at}
use Rattle.made_types.specs.Held.{HoldsTypes, HoldsState}

pub types-kept :
    (w w' : List ℕ) (Θ : Table) → HoldsTypes w Θ → length w' ≡ length w → ((i : ℕ) → types_at ≤ i → i < 11264 → get_or w' i 0 ≡ get_or w i 0)
    → get_or w' type_count_at 0 ≡ get_or w type_count_at 0 → HoldsTypes w' Θ
types-kept w w' Θ H l same c =
    let few = H.ok.few in
    let room = H.room in
    record {
      room = omega arith;
      count = c ∙ H.count;
      kinds = λ t h. same (types_at + 4 * t) (omega arith) (omega arith) ∙ H.kinds t h;
      lefts = λ t h. same (types_at + 4 * t + 1) (omega arith) (omega arith) ∙ H.lefts t h;
      rights = λ t h. same (types_at + 4 * t + 2) (omega arith) (omega arith) ∙ H.rights t h;
      sizes = λ t h. same (types_at + 4 * t + 3) (omega arith) (omega arith) ∙ H.sizes t h;
      ok = H.ok;
      one = H.one;
      some = H.some;
    }

-- types and the three counts are as they were
pub state_kept :
    (w w' : List ℕ) (σ : State) → HoldsState w σ → length w' ≡ length w → ((i : ℕ) → types_at ≤ i → i < 11264 → get_or w' i 0 ≡ get_or w i 0)
    → get_or w' type_count_at 0 ≡ get_or w type_count_at 0 → get_or w' node_count_at 0 ≡ get_or w node_count_at 0 → get_or w' put_count_at 0 ≡ get_or w put_count_at 0 → HoldsState w' σ
state_kept w w' σ H l same ct cn cp = record { types = types-kept w w' σ.table H.types l same ct; nodes = cn ∙ H.nodes; few = H.few; puts = cp ∙ H.puts }

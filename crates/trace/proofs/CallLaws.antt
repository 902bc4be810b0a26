-- What a call answers, by what its stages found. Assumes nothing.
use Prim.Native.Nat.{ℕ}
use mathlib.Core.Path.{◌≡◌, refl}
use mathlib.Core.List.{List}
use lib.Dec.{leb}
use lib.ListN.{length}
use Rattle.calculus.specs.Answer.{good, refused, ◌>>=◌}
use Rattle.calculus.specs.Net.{Net}
use Rattle.calculus.specs.Lean.{lean}
use Rattle.calculus.specs.Translate.{full, work_of}
use Rattle.memory.specs.Map.{memory_size}
use Rattle.answers.specs.declared.Refusal.{Refusal}
use Rattle.answers.specs.Refusals.{said_why}
use Rattle.translator.specs.Made.{lent, Keeps}
use Rattle.trace_calculus.specs.Trace.{ran, trace}
use Rattle.trace_calculus.specs.Lanes.{lanes_ran, lanes_trace, lanes_call}
use Rattle.trace.specs.Said.{LanesSay, lanes_called}
use Rattle.translator.proofs.Lent.{need-first}
use Rattle.std.specs.Prelude.{Result, Err}
use Rattle.answers.specs.declared.Refusal.{Refusal}

-- the answer is that of the netlist, once there is a full one
pub trace-lent : (s bits starts : List ℕ) (n room memory : ℕ) → trace memory s n bits starts room ≡ (lent memory s >>= λ m. ran (lean m) n bits starts room)
unfolding trace lent
trace-lent s bits starts n room memory = need-first (leb memory_size memory) (full s) (λ m. ran (lean m) n bits starts room)

-- ---- the same for sixteen traces at once, which leave a state too

module _ (s bits state out : List ℕ) (n memory : ℕ) where
  lanes-lent : lanes_trace memory s n bits state (length out) ≡ (lent memory s >>= λ m. lanes_ran (lean m) n bits state (length out))
  unfolding lanes_trace lent
  lanes-lent = need-first (leb memory_size memory) (full s) (λ m. lanes_ran (lean m) n bits state (length out))

  pub refused_lanes : (why : Refusal) → refused (said_why why) ≡ lent memory s → LanesSay (Err why) out out state state (lanes_trace memory s n bits state (length out))
  refused_lanes why e = rw (lanes-lent, ← e) (record { answer = record { said = refl; wrote = refl }; left = refl })

  pub net_lanes : (r : Result ℕ Refusal) (after left : List ℕ) (m : Net) → good m ≡ lent memory s → LanesSay r out after state left (lanes_ran (lean m) n bits state (length out))
      → LanesSay r out after state left (lanes_trace memory s n bits state (length out))
  net_lanes r after left m e h = rw (lanes-lent, ← e) h

pub call_lanes : (s bits state out work : List ℕ) (n : ℕ) (r : Result ℕ Refusal) (after left mid : List ℕ)
    → LanesSay r out after state left (lanes_trace (length work) s n bits state (length out)) → Keeps work mid → lanes_called r after left (work_of mid) ≡ lanes_call s bits state n out work
unfolding lanes_call
call_lanes s bits state out work n r after left mid a k = rw (a.answer.said, a.answer.wrote, a.left, k)

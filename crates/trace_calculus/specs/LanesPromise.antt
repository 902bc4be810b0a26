-- What sixteen traces at once promise, as statements about what a run of a netlist and a call leave. Assumes nothing.
use Rattle.std.specs.Prelude.{ℕ, zero, suc, ◌+◌, ◌≤◌, ◌<◌, ◌≡◌, true, List, ◌++◌, length, drop, take}
use Rattle.calculus.specs.Answer.{Refusal, Answer, good, refused, ◌>>=◌}
use Rattle.calculus.specs.Net.{Net}
use Rattle.calculus.specs.Lean.{lean}
use Rattle.calculus.specs.Translate.{full, Call}
use Rattle.trace_calculus.specs.Trace.{run, registers, given_bits, start_bits, row, all_bits, trace, run_call}
use Rattle.trace_calculus.specs.Lanes.{lane, LanesEnd, lanes_trace, LanesCall, lanes_call}

-- what lane k's registers hold at tick n of its own run, one byte a bit
abbrev pub held_bits : Net → List ℕ → List ℕ → ℕ → List ℕ
held_bits m bits starts zero = starts
held_bits m bits starts (suc t) = row (run m (given_bits m.pins bits) (start_bits m.elements starts)) t (registers m.elements)

abbrev pub lane_out : ℕ → Answer LanesEnd → Answer (List ℕ)
lane_out k a = a >>= λ w. good (lane k w.out)

-- lanes-exact: each of the 16 lanes has what `run` answers and writes for the lane's bits, refusals too; and each register the bit that it
-- shows at tick n of the lane's record
pub record LanesExact (memory : ℕ) (s : List ℕ) (n : ℕ) (bits state : List ℕ) (room : ℕ) : Type 0 where
  pub written : (k : ℕ) → k < 16 → lane_out k (lanes_trace memory s n bits state room) ≡ trace memory s n (lane k bits) (lane k state) room
  pub held : (w : LanesEnd) → lanes_trace memory s n bits state room ≡ good w → (m : Net) → full s ≡ good m → (k : ℕ) → k < 16 → lane k w.state ≡ held_bits (lean m) (lane k bits) (lane k state) n

-- lanes-run: of bits, lane 0 is `run`
abbrev pub LanesRun : ℕ → List ℕ → ℕ → List ℕ → List ℕ → ℕ → Type 0
LanesRun memory s n bits starts room = all_bits bits ≡ true → all_bits starts ≡ true → lane_out 0 (lanes_trace memory s n bits starts room) ≡ trace memory s n bits starts room

-- lanes-join: n ticks, and then k ticks with the state that was left, are n + k ticks of the inputs one behind the other; whatever room and memory
-- each is lent, as long as they do
abbrev pub LanesJoin : List ℕ → ℕ → ℕ → List ℕ → List ℕ → List ℕ → Type 0
LanesJoin s n k bits more state =
    (memory memory' memory'' room room' room'' : ℕ) (a b : LanesEnd) → lanes_trace memory s n bits state room ≡ good a → lanes_trace memory' s k more a.state room' ≡ good b
    → 32768 ≤ memory'' → length a.out + length b.out ≤ room''
    → lanes_trace memory'' s (n + k) (bits ++ more) state room'' ≡ good (record { out = a.out ++ b.out; state = b.state })

-- ---- the same of what calls leave

-- what a call leaves to lane k
abbrev pub lane_call : ℕ → LanesCall → Call
lane_call k c = record { said = c.said; out = lane k c.out; work = c.work }

-- each lane is left what a call of `run` leaves, of the lane's bits
pub record LanesAreRuns (s bits state : List ℕ) (n : ℕ) (output work : List ℕ) (k : ℕ) : Type 0 where
  pub said : (lanes_call s bits state n output work).said ≡ (run_call s (lane k bits) (lane k state) n (lane k output) work).said
  pub out : lane k (lanes_call s bits state n output work).out ≡ (run_call s (lane k bits) (lane k state) n (lane k output) work).out
  pub cleared : (lanes_call s bits state n output work).work ≡ (run_call s (lane k bits) (lane k state) n (lane k output) work).work

-- lanes-refused: a call that is refused changes neither the state nor the output
pub record LanesRefused (s bits state : List ℕ) (n : ℕ) (output work : List ℕ) : Type 0 where
  pub state_stays : (why : Refusal) → (lanes_call s bits state n output work).said ≡ refused why → (lanes_call s bits state n output work).state ≡ state
  pub out_stays_lem : (why : Refusal) → (lanes_call s bits state n output work).said ≡ refused why → (lanes_call s bits state n output work).out ≡ output

-- what the call `c` of n + k ticks leaves, where calls of n ticks, `a`, and of k ticks, `b`, wrote i and j numbers
pub record JoinedCall (i j : ℕ) (a b c : LanesCall) (output : List ℕ) : Type 0 where
  pub said : c.said ≡ good (i + j)
  pub out : c.out ≡ (take i a.out ++ take j b.out) ++ drop (i + j) output
  pub state : c.state ≡ b.state

abbrev pub LanesCallsJoin : List ℕ → ℕ → ℕ → List ℕ → List ℕ → List ℕ → Type 0
LanesCallsJoin s n k bits more state =
    (output output' output'' work work' work'' : List ℕ) (i j : ℕ) (a b : LanesCall) → lanes_call s bits state n output work ≡ a → lanes_call s more a.state k output' work' ≡ b
    → a.said ≡ good i → b.said ≡ good j → 32768 ≤ length work'' → i + j ≤ length output''
    → JoinedCall i j a b (lanes_call s (bits ++ more) state (n + k) output'' work'') output''

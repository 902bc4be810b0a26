-- Sixteen traces at once, one in each bit of a number: lane k is the bits k, for k from 0 to 15. Each lane is a run of Trace. Assumes nothing.
use Rattle.std.specs.Prelude.{ℕ, zero, suc, ◌+◌, ◌*◌, ◌/◌, ◌%◌, ◌^◌, Bool, ◌&&◌, List, [], ◌∷◌, ◌++◌, eqb, leb, length}
use Rattle.calculus.specs.Answer.{Answer, good, refused, ◌>>=◌, need}
use Rattle.calculus.specs.Net.{Net}
use Rattle.calculus.specs.Lean.{lean}
use Rattle.calculus.specs.Record.{Bits}
use Rattle.calculus.specs.Translate.{full, said_of, out_of, work_of}
use Rattle.trace_calculus.specs.Trace.{none_on_ring, inputs, run, in_pins, out_pins, registers, given_bits, start_bits, bit_byte_lem}

-- ---- the bits of a number

abbrev pub lane_bit : ℕ → ℕ → ℕ
lane_bit k x = x / 2 ^ k % 2

-- what a lane has of a list of numbers, one byte a bit
abbrev pub lane : ℕ → List ℕ → List ℕ
lane k [] = []
lane k (x ∷ xs) = lane_bit k x ∷ lane k xs

-- the number of n bits f 0, f 1, .., the lowest first
abbrev pub word_of : ℕ → (ℕ → Bool) → ℕ
word_of zero f = 0
word_of (suc n) f = bit_byte_lem (f 0) + 2 * word_of n (λ k. f (suc k))

unfoldable pub word : (ℕ → Bool) → ℕ
word f = word_of 16 f

-- ---- the run

-- the record of each lane
abbrev pub lane_run : Net → List ℕ → List ℕ → ℕ → Bits
lane_run m bits state k = run m (given_bits m.pins (lane k bits)) (start_bits m.elements (lane k state))

-- the bits that the lanes have at terminals, a number for each
abbrev pub lane_row : (ℕ → Bits) → ℕ → List ℕ → List ℕ
lane_row β t [] = []
lane_row β t (x ∷ xs) = word (λ k. β k x t) ∷ lane_row β t xs

abbrev pub lane_rows : (ℕ → Bits) → List ℕ → ℕ → ℕ → List ℕ
lane_rows β xs t zero = []
lane_rows β xs t (suc n) = lane_row β t xs ++ lane_rows β xs (t + 1) n

-- what the registers hold at a tick: at tick 0 what was lent, and later what their inputs were at the tick before. A register's input is its
-- first terminal
abbrev pub lane_held : (ℕ → Bits) → List ℕ → List ℕ → ℕ → List ℕ
lane_held β rs state zero = state
lane_held β rs state (suc t) = lane_row β t rs

-- what n ticks leave: the numbers of the output pins, tick after tick, and what the registers hold then
pub record LanesEnd : Type 0 where
  pub out : List ℕ
  pub state : List ℕ

abbrev pub went : Net → ℕ → List ℕ → List ℕ → LanesEnd
went m n bits state = record {
  out = lane_rows (lane_run m bits state) (out_pins m.pins) 0 n;
  state = lane_held (lane_run m bits state) (registers m.elements) state n;
}

-- a lean netlist run for n ticks: 19, then 20, then 17
unfoldable pub lanes_ran : Net → ℕ → List ℕ → List ℕ → ℕ → Answer LanesEnd
lanes_ran m n bits state room = do
  _ ← none_on_ring m (inputs m.elements)
  _ ← need (eqb (length bits) (n * length (in_pins m.pins)) && eqb (length state) (length (registers m.elements))) 20 0
  _ ← need (leb (n * length (out_pins m.pins)) room) 17 (n * length (out_pins m.pins))
  good (went m n bits state)

-- a sheet's lean netlist run for n ticks: 1, then 2 to 16, then as above
unfoldable pub lanes_trace : ℕ → List ℕ → ℕ → List ℕ → List ℕ → ℕ → Answer LanesEnd
lanes_trace memory s n bits state room = do
  _ ← need (leb 32768 memory) 1 0
  m ← full s
  lanes_ran (lean m) n bits state room

-- ---- the call

abbrev pub outs : Answer LanesEnd → Answer (List ℕ)
outs a = a >>= λ w. good w.out

-- on a refusal the state stays
abbrev pub state_of : Answer LanesEnd → List ℕ → List ℕ
state_of (good w) state = w.state
state_of (refused why) state = state

pub record LanesCall : Type 0 where
  pub said : Answer ℕ
  pub out : List ℕ
  pub state : List ℕ
  pub work : List ℕ

-- what the call leaves
unfoldable pub lanes_call : List ℕ → List ℕ → List ℕ → ℕ → List ℕ → List ℕ → LanesCall
lanes_call s bits state n output work =
    let a = lanes_trace (length work) s n bits state (length output) in
    record { said = said_of (outs a); out = out_of (outs a) output; state = state_of a state; work = work_of work }

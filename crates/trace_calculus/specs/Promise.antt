-- What a run promises (document 02, L4), as statements about what a call leaves. Assumes nothing.
use Rattle.std.specs.Prelude.{ℕ, ◌+◌, ◌*◌, ◌≤◌, ◌<◌, ◌≡◌, ◌↔◌, List, ◌++◌, map, leb, length, drop}
use Rattle.calculus.specs.Answer.{Refusal, good, refused, ◌>>=◌, refuse, need}
use Rattle.calculus.specs.Net.{Net}
use Rattle.calculus.specs.Lean.{lean}
use Rattle.calculus.specs.Record.{Bits, All, Possible, part_law, Among}
use Rattle.calculus.specs.Translate.{full, work_of, Call}
use Rattle.trace_calculus.specs.Trace.{OnRing, terminals, inputs, in_pins, out_pins, registers, row, rows}

-- ---- the record

-- the registers' outputs, by rising terminal
abbrev pub register_outputs : Net → List ℕ
register_outputs m = map (λ i. i + 1) (registers m.elements)

-- a possible record of n ticks with these bits at the input pins, in pin order, tick after tick, and at tick 0 these at the registers'
-- outputs, by rising terminal
pub record Recorded (m : Net) (n : ℕ) (bits starts : List ℕ) (β : Bits) : Type 0 where
  pub possible : Possible part_law m n β
  pub given : rows β (in_pins m.pins) 0 n ≡ bits
  pub woken : 0 < n → row β 0 (register_outputs m) ≡ starts

-- there is one, there is no other, and the bits of its output pins, in pin order, tick after tick, were written; the rest of the output
-- stays
pub record Traced (m : Net) (n : ℕ) (bits starts output after : List ℕ) : Type 0 where
  pub record_of : Bits
  pub recorded : Recorded m n bits starts record_of
  pub only : (β : Bits) → Recorded m n bits starts β → (x : ℕ) → Among x (terminals m.elements) → (t : ℕ) → t < n → β x t ≡ record_of x t
  pub wrote : after ≡ rows record_of (out_pins m.pins) 0 n ++ drop (n * length (out_pins m.pins)) output

-- ---- what a run asks of the lean netlist m

-- each ring of wires, points and gates passes through a register
abbrev pub Ringless : Net → Type 0
Ringless m = (x : ℕ) → OnRing m x → ⊥

-- x is the lowest input terminal on any that does not
pub record LowestOnRing (m : Net) (x : ℕ) : Type 0 where
  pub input : Among x (inputs m.elements)
  pub ring : OnRing m x
  pub lowest : (i : ℕ) → Among i (inputs m.elements) → OnRing m i → x ≤ i

-- input and start bits of the exact number, no byte above 1
pub record ExactBits (m : Net) (n : ℕ) (bits starts : List ℕ) : Type 0 where
  pub input_count_lem : length bits ≡ n * length (in_pins m.pins)
  pub start_count : length starts ≡ length (registers m.elements)
  pub input_bits : All (λ b. b ≤ 1) bits
  pub start_bits_lem : All (λ b. b ≤ 1) starts

-- k bytes are to be written
pub record Needs (m : Net) (n : ℕ) (bits starts : List ℕ) (k : ℕ) : Type 0 where
  pub ringless : Ringless m
  pub exact : ExactBits m n bits starts
  pub count : n * length (out_pins m.pins) ≡ k

-- ---- the call

-- there is working memory enough, the sheet is accepted, and its lean netlist has P
pub record OfSheet (s work : List ℕ) (P : Net → Type 0) : Type 0 where
  pub memory : 32768 ≤ length work
  pub net : Net
  pub of_sheet : full s ≡ good net
  pub has : P (lean net)

pub record RunPromise (s bits starts : List ℕ) (n : ℕ) (output work : List ℕ) (c : Call) : Type 0 where
  pub accepted : (k : ℕ) → (c.said ≡ good k) ↔ OfSheet s work (λ m. Needs m n bits starts k × (k ≤ length output))
  pub traced : (k : ℕ) → c.said ≡ good k → OfSheet s work (λ m. Traced m n bits starts output c.out)
  -- 1 to 16 are those of the sheet; then 19, 20, 17
  pub early : (why : Refusal) → why.number ≤ 16 → (c.said ≡ refused why) ↔ ((need (leb 32768 (length work)) 1 0 >>= λ _. full s) ≡ refused why)
  pub ring : (x : ℕ) → (c.said ≡ refuse 19 x) ↔ OfSheet s work (λ m. LowestOnRing m x)
  pub inexact : (x : ℕ) → (c.said ≡ refuse 20 x) ↔ ((x ≡ 0) × OfSheet s work (λ m. Ringless m × (ExactBits m n bits starts → ⊥)))
  pub short : (k : ℕ) → (c.said ≡ refuse 17 k) ↔ OfSheet s work (λ m. Needs m n bits starts k × (length output < k))
  -- on a refusal the output stays, and the working memory is as after every call
  pub stays : (why : Refusal) → c.said ≡ refused why → c.out ≡ output
  pub cleared : c.work ≡ work_of work

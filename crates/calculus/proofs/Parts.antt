-- The parts' law, held against truth tables; and what records of P6 and P2 are possible. Assumes nothing.
use Prim.Native.Nat.{ℕ, zero, suc, ◌<◌}
use mathlib.Core.Path.{◌≡◌, refl, sym, ap, ◌∙◌}
use mathlib.Core.Logic.{◌↔◌}
use mathlib.Core.Bool.{Bool, true, false, ◌&&◌, xor, false≢true}
use mathlib.Core.List.{List, [], ◌∷◌}
use native.Mathlib.Omega.{arith}
use lib.ListN.{get_or, take}
use Rattle.calculus.specs.Answer.{good}
use Rattle.calculus.specs.Terms.{part_at}
use Rattle.calculus.specs.Read.{edition_of, records_of, read_sheet, read_records, read_types, read_term, head_at}
use Rattle.calculus.specs.Net.{Net, inp, out, part}
use Rattle.calculus.specs.Translate.{full}
use Rattle.calculus.specs.Record.{Stream, Bits, Law, Follows, Delayed, Delays, part_law, Outside}
use Rattle.calculus.specs.Known.{net_p2, full_p6}

-- ---- a register by itself

-- its sheet, and the netlist of that: an input pin and an output pin
abbrev register_sheet : List ℕ
register_sheet = 0x01 ∷ 0x03 ∷ 0x00 ∷ 0x00 ∷ 0x1A ∷ 0x01 ∷ 0x01 ∷ []

abbrev register : Net
register = record { elements = part 1 0 ∷ []; wires = []; pins = inp 0 ∷ out 1 ∷ [] }

pub register_alone : full register_sheet ≡ good register
unfolding full edition_of records_of read_sheet read_records read_types read_term head_at
register_alone = refl

-- terminal 0 has the bits x; terminal 1 starts with bit b, and then shows them one tick later
abbrev shows : Bool → Stream → Bits
shows b x zero t = x t
shows b x (suc i) zero = b
shows b x (suc i) (suc t) = x t

-- whatever comes in, both bits are possible at tick 0 (document 02, L2)
pub either-start : (b : Bool) (x : Stream) (n : ℕ) → Outside part_law register n (shows b x) (shows b x)
either-start b x n = record {
  bits = shows b x;
  possible = record { elements = (λ t h. delayed t, tt); wires = tt };
  pins = (λ t h. refl, (λ t h. refl, tt));
  parts = (λ y i j t h. refl, tt);
}
  where
    delayed : (t : ℕ) → Delayed x (shows b x 1) t
    delayed zero = tt
    delayed (suc t) = refl

-- ---- what each part does

abbrev stream : List Bool → Stream
stream bits t = get_or bits t false

-- two inputs that go through the rows of a truth table, one a tick: 00, 01, 10, 11
abbrev rows : List Stream
rows = stream (false ∷ false ∷ true ∷ true ∷ []) ∷ stream (false ∷ true ∷ false ∷ true ∷ []) ∷ []

abbrev inputs : ℕ → List Stream
inputs p = take (part_at p).inputs rows

abbrev four : Stream → List Bool
four y = y 0 ∷ y 1 ∷ y 2 ∷ y 3 ∷ []

-- on these rows a law of the parts allows part p the outputs with these bits, and no other
abbrev pub Gives : Law → ℕ → List Bool → Type 0
Gives law p bits = (y : Stream) → law p 4 (inputs p) y ↔ (four y ≡ bits)

-- .. and these bits from tick 1 on, with either bit at tick 0
abbrev later : Stream → List Bool
later y = y 1 ∷ y 2 ∷ y 3 ∷ []

abbrev pub GivesLater : Law → ℕ → List Bool → Type 0
GivesLater law p bits = (y : Stream) → law p 4 (inputs p) y ↔ (later y ≡ bits)

pub record PartsWork (law : Law) : Type 0 where
  pub zero_works : Gives law 0 (false ∷ false ∷ false ∷ false ∷ [])
  -- either bit at tick 0, and then its input at the tick before
  pub reg_works : GivesLater law 1 (false ∷ false ∷ true ∷ [])
  pub and_works : Gives law 2 (false ∷ false ∷ false ∷ true ∷ [])
  pub or_works : Gives law 3 (false ∷ true ∷ true ∷ true ∷ [])
  pub xor_works : Gives law 4 (false ∷ true ∷ true ∷ false ∷ [])
  pub inv_works : Gives law 5 (true ∷ true ∷ false ∷ false ∷ [])
  pub one_works : Gives law 6 (true ∷ true ∷ true ∷ true ∷ [])

-- the law allows what it computes
to_bits : (x y : Stream) → ((t : ℕ) → t < 4 → y t ≡ x t) → four y ≡ four x
to_bits x y h = rw (h 0 (omega arith), h 1 (omega arith), h 2 (omega arith), h 3 (omega arith))

from_bits : (x y : Stream) → four y ≡ four x → (t : ℕ) → t < 4 → y t ≡ x t
from_bits x y e zero h = cc
from_bits x y e (suc zero) h = cc
from_bits x y e (suc (suc zero)) h = cc
from_bits x y e (suc (suc (suc zero))) h = cc
from_bits x y e (suc (suc (suc (suc t)))) h = absurd (omega arith)

to_later : (x y : Stream) → Delays 4 x y → later y ≡ x 0 ∷ x 1 ∷ x 2 ∷ []
to_later x y h = rw (h 1 (omega arith), h 2 (omega arith), h 3 (omega arith))

from-later : (x y : Stream) → later y ≡ x 0 ∷ x 1 ∷ x 2 ∷ [] → Delays 4 x y
from-later x y e zero h = tt
from-later x y e (suc zero) h = cc
from-later x y e (suc (suc zero)) h = cc
from-later x y e (suc (suc (suc zero))) h = cc
from-later x y e (suc (suc (suc (suc t)))) h = absurd (omega arith)

gives : (x y : Stream) → Follows 4 x y ↔ (four y ≡ four x)
gives x y = (to_bits x y, from_bits x y)

-- the law has the seven parts' tables
pub parts_work : PartsWork part_law
unfolding xor
parts_work = record {
  zero_works = λ y. gives _ y;
  reg_works = λ y. (to_later _ y, from-later _ y);
  and_works = λ y. gives _ y;
  or_works = λ y. gives _ y;
  xor_works = λ y. gives _ y;
  inv_works = λ y. gives _ y;
  one_works = λ y. gives _ y;
}

-- ---- records

still : (t : ℕ) → Delayed (λ _. false) (λ _. false) t
still zero = tt
still (suc t) = refl

-- P6: 0 everywhere is possible for any number of ticks
pub possible_P6 : (n : ℕ) → Outside part_law full_p6 n (λ k t. false) (λ x t. false)
possible_P6 n = record {
  bits = λ x t. false;
  possible = record {
    elements = (λ t h. refl, (λ t h. refl, (λ t h. refl, (λ t h. still t, tt))));
    wires = (λ t h. refl, (λ t h. refl, (λ t h. refl, (λ t h. refl, tt))));
  };
  pins = (λ t h. refl, tt);
  parts = (tt, (λ x i j t h. refl, (λ x i j t h. refl, (λ x i j t h. refl, tt))));
}

-- .. and a record with 1 at its pin is not: `and` has `zero` at its first input
pub impossible_P6 : (n : ℕ) (γ π : Bits) → Outside part_law full_p6 n γ π → (t : ℕ) → t < n → γ 0 t ≡ true → ⊥
impossible_P6 n γ π o t h e =
    let β = o.bits in
    let zero-out : β 5 t ≡ false = o.possible.elements.1.1.0 t h in
    let first : β 2 t ≡ false = sym (o.possible.wires.0 t h) ∙ zero-out in
    let and-out : β 4 t ≡ (β 2 t && β 3 t) = o.possible.elements.1.0 t h in
    let pin : γ 0 t ≡ β 4 t = o.pins.0 t h in
    false≢true (sym (pin ∙ and-out ∙ ap (λ (b : Bool). b && β 3 t) first) ∙ e)

-- .. and the terminals of its parts are seen: the output of `zero` and the first input of `and`, which it drives, have 0
pub seen_P6 : (n : ℕ) (γ π : Bits) → Outside part_law full_p6 n γ π → (t : ℕ) → t < n → (π 5 t ≡ false) × (π 2 t ≡ false)
seen_P6 n γ π o t h =
    let zero-out = o.possible.elements.1.1.0 t h in (
      o.parts.1.1.0 5 (omega arith) (omega arith) t h ∙ zero-out,
      o.parts.1.0 2 (omega arith) (omega arith) t h ∙ sym (o.possible.wires.0 t h) ∙ zero-out,
    )

-- P2: both ends of its point are equal, so in every possible record its two pins are
pub passes-P2 : (n : ℕ) (γ π : Bits) → Outside part_law net_p2 n γ π → (t : ℕ) → t < n → γ 0 t ≡ γ 1 t
passes-P2 n γ π o t h = o.pins.0 t h ∙ o.possible.elements.0 t h ∙ sym (o.pins.1.0 t h)

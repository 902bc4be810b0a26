-- The flat layout of a run, over the working memory: for each gate, register and pin in order the places of the bits that it reads, found once
-- before the first tick. Assumes nothing.
--   from         numbers  what
--   registers_at  1,280    the registers' outputs (specs/Map)
--   sources_at    1,280    for each register the place of the bits that it stores
--   next_at       1,280    what each shows next
--   shown_at      1,280    what each shows
--   first_at      1,280    for each gate of the order three places, a, b and c, of the bits that it reads: it shows (a and not b) xor c
--   second_at_lem     1,280    ..
--   third_at      1,280    ..
--   gates_at      1,280    what each shows
--   ins_at        128      for each input pin its place
--   outs_at       128      for each output pin its place
--   zero_at       1        0
--   one_at        1        1 in each lane
-- The bits of all other terminals stay where they are by terminal (specs/Map).
use Rattle.std.specs.Prelude.{ℕ, ◌+◌, ◌-◌, ◌/◌, ◌≤◌, ◌<◌, ◌≡◌, true, false, cond, List, eqb, length, get_or, set}
use Rattle.std.specs.Int.Bits.{bit_and, bit_xor}
use Rattle.memory.specs.Map.{memory_size}
use Rattle.trace_steps.specs.Map.{registers_at, order_at, pins_at, bits_at, inverter_entry}
use Rattle.trace_steps.specs.Turns.{take_turns}
use Rattle.trace_steps.specs.Steps.{first_in}
use Rattle.trace_steps.specs.Words.{word_at, input_word}
use Rattle.trace_steps.specs.Pins.{pin_is_in, in_pin_count, out_pin_count}

-- so many gates, and so many registers, have room
abbrev pub flat_most : ℕ
flat_most = 1280

abbrev pub sources_at : ℕ
sources_at = 9472

abbrev pub next_at : ℕ
next_at = 10752

abbrev pub shown_at : ℕ
shown_at = 12032

abbrev pub first_at : ℕ
first_at = 27264

abbrev pub second_at_lem : ℕ
second_at_lem = 28544

abbrev pub third_at : ℕ
third_at = 29824

abbrev pub gates_at : ℕ
gates_at = 31104

abbrev pub ins_at : ℕ
ins_at = 32384

abbrev pub outs_at : ℕ
outs_at = 32512

abbrev pub zero_at : ℕ
zero_at = 32640

abbrev pub one_at : ℕ
one_at = 32641

abbrev pub or_entry : ℕ
or_entry = 65523

abbrev pub xor_entry : ℕ
xor_entry = 65524

-- nothing changes outside of a stretch
pub record OnlyBetween (lo hi : ℕ) (u w : List ℕ) : Type 0 where
  pub size : length w ≡ length u
  pub below : (j : ℕ) → j < lo → get_or w j 0 ≡ get_or u j 0
  pub above : (j : ℕ) → hi ≤ j → get_or w j 0 ≡ get_or u j 0

-- n turns over a memory, which change only this stretch
pub record Stretched (lo hi : ℕ) (f : ℕ → List ℕ → List ℕ) (n : ℕ) (u w : List ℕ) : Type 0 where
  pub between : OnlyBetween lo hi u w
  pub whole : w ≡ take_turns f n 0 u

-- ---- where each terminal's bits stand, while the layout is made: by terminal, in the bits' own room

abbrev pub place_one : ℕ → List ℕ → List ℕ
place_one x w = set w (bits_at + x) (bits_at + x)

-- the terminals of a list, with their bits from `first` on
abbrev pub place_next : ℕ → ℕ → ℕ → List ℕ → List ℕ
place_next list first j w = set w (bits_at + get_or w (list + j) 0) (first + j)

abbrev pub place_register : ℕ → List ℕ → List ℕ
place_register = place_next registers_at shown_at

abbrev pub place_gate : ℕ → List ℕ → List ℕ
place_gate = place_next order_at gates_at

-- n terminals stand in a list before the bits
pub record Listed (w : List ℕ) (list n : ℕ) : Type 0 where
  pub size : memory_size ≤ length w
  pub before : list + n ≤ bits_at
  pub low : (j : ℕ) → j < n → get_or w (list + j) 0 < 8192

-- ---- one form for all gates

abbrev pub form_word : ℕ → ℕ → ℕ → ℕ
form_word a b c = bit_xor (bit_and a (bit_xor b 65535)) c

-- what a gate with entry e reads second and third, with a and b where its inputs stand
abbrev pub second_for : ℕ → ℕ → ℕ
second_for e b = cond (eqb e xor_entry) zero_at (cond (eqb e inverter_entry) zero_at b)

abbrev pub third_for : ℕ → ℕ → ℕ → ℕ
third_for e a b = cond (eqb e inverter_entry) one_at (cond (eqb e or_entry) b (cond (eqb e xor_entry) b a))

-- ---- the lists, made of the places in u

abbrev pub first_place : List ℕ → ℕ → ℕ
first_place u o = input_word u (first_in u o)

abbrev pub last_place : List ℕ → ℕ → ℕ
last_place u o = input_word u (o - 1)

abbrev pub lay_at : List ℕ → ℕ → ℕ → List ℕ
lay_at w j o = set (set (set w (first_at + j) (first_place w o)) (second_at_lem + j) (second_for (get_or w o 0) (last_place w o))) (third_at + j) (third_for (get_or w o 0) (first_place w o) (last_place w o))

-- the first n gates of the order are laid out
pub record GatesLaid (u : List ℕ) (n : ℕ) (w : List ℕ) : Type 0 where
  pub between : OnlyBetween first_at gates_at u w
  pub first : (j : ℕ) → j < n → get_or w (first_at + j) 0 ≡ first_place u (get_or u (order_at + j) 0)
  pub second : (j : ℕ) → j < n → get_or w (second_at_lem + j) 0 ≡ second_for (get_or u (get_or u (order_at + j) 0) 0) (last_place u (get_or u (order_at + j) 0))
  pub third : (j : ℕ) → j < n → get_or w (third_at + j) 0 ≡ third_for (get_or u (get_or u (order_at + j) 0) 0) (first_place u (get_or u (order_at + j) 0)) (last_place u (get_or u (order_at + j) 0))

-- .. and so many registers
pub record SourcesLaid (u : List ℕ) (n : ℕ) (w : List ℕ) : Type 0 where
  pub between : OnlyBetween sources_at next_at u w
  pub source : (j : ℕ) → j < n → get_or w (sources_at + j) 0 ≡ last_place u (get_or u (registers_at + j) 0)

-- .. and so many pins
pub record PinsLaid (u : List ℕ) (n : ℕ) (w : List ℕ) : Type 0 where
  pub between : OnlyBetween ins_at zero_at u w
  pub ins : (k : ℕ) → k < n → pin_is_in u k ≡ true → get_or w (ins_at + in_pin_count u k) 0 ≡ word_at u (get_or u (pins_at + k) 0 / 2)
  pub outs : (k : ℕ) → k < n → pin_is_in u k ≡ false → get_or w (outs_at + out_pin_count u k) 0 ≡ word_at u (get_or u (pins_at + k) 0 / 2)

-- so many gates show 0
abbrev pub dark_one : ℕ → List ℕ → List ℕ
dark_one j w = set w (gates_at + j) 0

-- ---- a tick

-- what stands at the place that stands at i
abbrev pub there_at : List ℕ → ℕ → ℕ
there_at w i = get_or w (get_or w i 0) 0

-- the j-th gate's three places are in the memory
pub record FlatGate (w : List ℕ) (j : ℕ) : Type 0 where
  pub size : memory_size ≤ length w
  pub few : j < flat_most
  pub first : get_or w (first_at + j) 0 < memory_size
  pub second : get_or w (second_at_lem + j) 0 < memory_size
  pub third : get_or w (third_at + j) 0 < memory_size

pub record Gates (w : List ℕ) (n : ℕ) : Type 0 where
  pub size : memory_size ≤ length w
  pub few : n ≤ flat_most
  pub each : (j : ℕ) → j < n → FlatGate w j

abbrev pub flat_step : ℕ → List ℕ → List ℕ
flat_step j w = set w (gates_at + j) (form_word (there_at w (first_at + j)) (there_at w (second_at_lem + j)) (there_at w (third_at + j)))

-- so many registers' places are
pub record Sources (w : List ℕ) (n : ℕ) : Type 0 where
  pub size : memory_size ≤ length w
  pub few : n ≤ flat_most
  pub each : (j : ℕ) → j < n → get_or w (sources_at + j) 0 < memory_size

abbrev pub flat_hold : ℕ → List ℕ → List ℕ
flat_hold j w = set w (next_at + j) (there_at w (sources_at + j))

abbrev pub flat_turn : ℕ → List ℕ → List ℕ
flat_turn j w = set w (shown_at + j) (get_or w (next_at + j) 0)

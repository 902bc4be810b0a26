-- When a record of bits is possible (document 01; document 02, L2, for the registers' start). Assumes nothing.
use Rattle.std.specs.Prelude.{ℕ, zero, suc, ◌+◌, ◌<◌, ◌≤◌, ◌≡◌, Bool, true, false, not, ◌&&◌, ◌||◌, List, [], ◌∷◌, get_or}
use Rattle.std.specs.Bool.{xor}
use Rattle.calculus.specs.Terms.{part_at}
use Rattle.calculus.specs.Net.{Interface, number, Element, point, part, Wire, Net}

-- the bits of one terminal, tick after tick
abbrev pub Stream : Type 0
Stream = ℕ → Bool

-- a bit for each terminal at each tick; a record of n ticks is looked at below n only
abbrev pub Bits : Type 0
Bits = ℕ → Stream

abbrev pub All {ℓ} : {A : Type ℓ} → (A → Type 0) → List A → Type 0
All P [] = Unit {0}
All P (x ∷ xs) = P x × All P xs

-- x stands in a list
pub data Among {A : Type 0} (x : A) : List A → Type 0 where
  here : {xs : List A} → Among x (x ∷ xs)
  there : {y : A} {xs : List A} → Among x xs → Among x (y ∷ xs)

-- terminals i and o are equal at each of n ticks
abbrev pub Same : ℕ → Bits → ℕ → ℕ → Type 0
Same n β i o = (t : ℕ) → t < n → β i t ≡ β o t

-- ---- the parts

-- a law of the parts: what part p allows in n ticks on its inputs and on its output. It sees no other terminal
abbrev pub Law : Type 1
Law = ℕ → ℕ → List Stream → Stream → Type 0

-- input k of a part, which has it, so that the default is never reached
abbrev pub input : List Stream → ℕ → Stream
input xs k = get_or xs k (λ t. false)

-- output y has at each of n ticks what the inputs give at this tick
abbrev pub Follows : ℕ → Stream → Stream → Type 0
Follows n x y = (t : ℕ) → t < n → y t ≡ x t

-- a register with input x and output y: at tick 0 its output may be either bit, later it is its input at the tick before (document 02, L2)
abbrev pub Delayed : Stream → Stream → ℕ → Type 0
Delayed x y zero = Unit {0}
Delayed x y (suc t) = y (suc t) ≡ x t

abbrev pub Delays : ℕ → Stream → Stream → Type 0
Delays n x y = (t : ℕ) → t < n → Delayed x y t

-- the law of 0 zero, 1 reg, 2 and, 3 or, 4 xor, 5 inv, 6 one
abbrev pub part_law : Law
part_law zero n xs y = Follows n (λ t. false) y
part_law (suc zero) n xs y = Delays n (input xs 0) y
part_law (suc (suc zero)) n xs y = Follows n (λ t. input xs 0 t && input xs 1 t) y
part_law (suc (suc (suc zero))) n xs y = Follows n (λ t. input xs 0 t || input xs 1 t) y
part_law (suc (suc (suc (suc zero)))) n xs y = Follows n (λ t. xor (input xs 0 t) (input xs 1 t)) y
part_law (suc (suc (suc (suc (suc zero))))) n xs y = Follows n (λ t. not (input xs 0 t)) y
part_law (suc (suc (suc (suc (suc (suc p)))))) n xs y = Follows n (λ t. true) y

-- ---- possible records, over any law of the parts

-- the streams of k terminals from i on
abbrev pub streams : ℕ → ℕ → Bits → List Stream
streams zero i β = []
streams (suc k) i β = β i ∷ streams k (i + 1) β

abbrev pub Works : Law → ℕ → Bits → Element → Type 0
Works law n β (point i) = Same n β i (i + 1)
Works law n β (part p i) = law p n (streams (part_at p).inputs i β) (β (i + (part_at p).inputs))

abbrev pub Joined : ℕ → Bits → Wire → Type 0
Joined n β w = Same n β w.from w.to

pub record Possible (law : Law) (m : Net) (n : ℕ) (β : Bits) : Type 0 where
  pub elements : All (Works law n β) m.elements
  pub wires : All (Joined n β) m.wires

-- ---- what is seen from outside at n ticks: the bits at the pin positions, counted from k, and at the parts' terminals

-- a pin position has its terminal's bit
abbrev pub PinsShow : ℕ → Bits → Bits → ℕ → Interface → Type 0
PinsShow n γ β k [] = Unit {0}
PinsShow n γ β k (p ∷ ps) = ((t : ℕ) → t < n → γ k t ≡ β (number p) t) × PinsShow n γ β (suc k) ps

abbrev pub PartShows : ℕ → Bits → Bits → Element → Type 0
PartShows n π β (point i) = Unit {0}
PartShows n π β (part p i) = (x : ℕ) → i ≤ x → x ≤ i + (part_at p).inputs → (t : ℕ) → t < n → π x t ≡ β x t

-- a record over pin positions γ and part terminals π is possible if some bits on the points make the whole possible
pub record Outside (law : Law) (m : Net) (n : ℕ) (γ π : Bits) : Type 0 where
  pub bits : Bits
  pub possible : Possible law m n bits
  pub pins : PinsShow n γ bits 0 m.pins
  pub parts : All (PartShows n π bits) m.elements

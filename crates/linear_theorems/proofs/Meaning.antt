-- What a term says about the bits at its interface, without terminals (document 000, section 3: a circuit is a relation). The netlists
-- of a term and of the term with an argument put in are compared by it. Assumes nothing.
use Prim.Native.Nat.{ℕ}
use mathlib.Core.Path.{◌≡◌}
use mathlib.Core.Bool.{false, cond}
use mathlib.Core.List.{List, [], ◌∷◌, map}
use lib.Dec.{ltb}
use lib.ListN.{get_or, take, drop}
use Rattle.calculus.specs.Types.{Ty, bit, prod, arrow, lolli, size, Table, tree}
use Rattle.calculus.specs.Terms.{first, part_at}
use Rattle.calculus.specs.Net.{number, Interface, part, part_side, left_of}
use Rattle.calculus.specs.Record.{Stream, Bits, Law, Works}
use Rattle.linear_theorems.specs.Marked.{Marked, mvar, mlvar, mfun, mapp, mlfun, mlapp, mpair, mproj, mfix, mcon, Seen, PartSeen}

-- what is seen of a stream in n ticks
abbrev pub cut_stream : ℕ → Stream → Stream
cut_stream n w t = cond (ltb t n) (w t) false

-- nothing more than that is there
abbrev pub Cut : ℕ → Stream → Type 0
Cut n w = cut_stream n w ≡ w

-- what is seen at an interface, terminal by terminal
abbrev pub lines : ℕ → Bits → Interface → List Stream
lines n β s = map (λ x. cut_stream n (β (number x))) s

-- .. and in the form of its type
pub data Val : Type 0 where
  leaf : Stream → Val
  node : Val → Val → Val

abbrev pub dark : Val
dark = leaf (λ t. false)

abbrev pub Shaped : ℕ → Ty → Val → Type 0
Shaped n bit (leaf w) = Cut n w
Shaped n bit (node u v) = ⊥
Shaped n (prod a b) (leaf w) = ⊥
Shaped n (prod a b) (node u v) = Shaped n a u × Shaped n b v
Shaped n (arrow a b) (leaf w) = ⊥
Shaped n (arrow a b) (node u v) = Shaped n a u × Shaped n b v
Shaped n (lolli a b) (leaf w) = ⊥
Shaped n (lolli a b) (node u v) = Shaped n a u × Shaped n b v

abbrev pub build : Ty → List Stream → Val
build bit [] = dark
build bit (w ∷ ws) = leaf w
build (prod a b) ws = node (build a (take (size a) ws)) (build b (drop (size a) ws))
build (arrow a b) ws = node (build a (take (size a) ws)) (build b (drop (size a) ws))
build (lolli a b) ws = node (build a (take (size a) ws)) (build b (drop (size a) ws))

-- in n ticks, with the record ρ at the parts and over the binders' values ε, the term can have the value v
abbrev pub Means : Law → Table → ℕ → Seen → Marked → List Val → Val → Type 0
Means law Θ n ρ (mvar i) ε v = v ≡ get_or ε i dark
Means law Θ n ρ (mlvar i) ε v = v ≡ get_or ε i dark
Means law Θ n ρ (mfun t e) ε (leaf w) = ⊥
Means law Θ n ρ (mfun t e) ε (node u v) = Shaped n (left_of (tree Θ t)) u × Means law Θ n ρ e (u ∷ ε) v
Means law Θ n ρ (mapp f a) ε v = (u : Val) × Means law Θ n ρ f ε (node u v) × Means law Θ n ρ a ε u
Means law Θ n ρ (mlfun t e) ε (leaf w) = ⊥
Means law Θ n ρ (mlfun t e) ε (node u v) = Shaped n (left_of (tree Θ t)) u × Means law Θ n ρ e (u ∷ ε) v
Means law Θ n ρ (mlapp f a) ε v = (u : Val) × Means law Θ n ρ f ε (node u v) × Means law Θ n ρ a ε u
Means law Θ n ρ (mpair t a b) ε (leaf w) = ⊥
Means law Θ n ρ (mpair t a b) ε (node u v) = Means law Θ n ρ a ε u × Means law Θ n ρ b ε v
Means law Θ n ρ (mproj a e) ε v = (u w : Val) × Means law Θ n ρ a ε (node u w) × Means law Θ n ρ e (w ∷ u ∷ ε) v
Means law Θ n ρ (mfix t e) ε v = Shaped n (tree Θ t) v × Means law Θ n ρ e (v ∷ ε) v
-- the part, wherever it stands, works and shows its record. A law may look past n ticks, so the part's own bits are kept whole
Means law Θ n ρ (mcon p t k) ε v =
    (β : Bits) × (i : ℕ) × Works law n β (part p i) × PartSeen n (ρ k) β p i × (v ≡ build ((part_at p).type first) (lines n β (part_side (part_at p).inputs i)))

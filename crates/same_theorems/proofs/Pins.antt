-- Input and output pins of a netlist whose type takes bits and gives bits, full and lean; and what a record of the lean netlist has in the
-- full one. Assumes nothing.
use Prim.Native.Nat.{ℕ, ◌+◌, ◌*◌, ◌<◌}
use mathlib.Core.Path.{◌≡◌, refl, sym, ap, ap₂, ◌∙◌, subst}
use mathlib.Core.Bool.{Bool, true, false, cond, true≢false, false≢true}
use mathlib.Core.List.{List, [], ◌∷◌, ◌++◌, map, map-append, append-nil}
use lib.Dec.{T, eqb}
use lib.ListN.{length, take, drop, length-append, take-append-drop}
use Rattle.laws.proofs.Tests.{and_both}
use Rattle.calculus.specs.Types.{Ty, bit, prod, arrow, lolli, size, sharable}
use Rattle.calculus.specs.Net.{inp, out, number, Interface, turns, Element, point, part, in_side, Net}
use Rattle.calculus.specs.Lean.{root, kept, keep, lean_pin}
use Rattle.calculus.specs.Record.{Bits, All, Possible, part_law}
use Rattle.circuit_theorems.specs.Scope.{dirs}
use Rattle.circuit_theorems.proofs.Lists.{all_append}
use Rattle.circuit_theorems.proofs.Roots.{root-like}
use Rattle.linear_theorems.proofs.Lines.{side_length}
use Rattle.linear_theorems.proofs.Heard.{in_length}
use Rattle.trace_calculus.specs.Trace.{in_pins, out_pins, registers, bit_byte_lem, row}
use Rattle.same_theorems.specs.Joint.{takes_bits, taken_types, arrows_to}
use Rattle.same_theorems.proofs.Applying.{in_sides, inputs_of, behind_inputs, dirs-take, dirs-drop}

-- ---- input and output pins of interfaces

in_append : (s t : Interface) → in_pins (s ++ t) ≡ in_pins s ++ in_pins t
in_append [] t = refl
in_append (inp i ∷ s) t = ap (λ (r : List ℕ). i ∷ r) (in_append s t)
in_append (out o ∷ s) t = in_append s t

out_append : (s t : Interface) → out_pins (s ++ t) ≡ out_pins s ++ out_pins t
out_append [] t = refl
out_append (inp i ∷ s) t = out_append s t
out_append (out o ∷ s) t = ap (λ (r : List ℕ). o ∷ r) (out_append s t)

-- all terminals are inputs, or all are outputs
record PinsOf (s : Interface) (ins outs : List ℕ) : Type 0 where
  are_ins : in_pins s ≡ ins
  are_outs : out_pins s ≡ outs

all-ins : (s : Interface) → All (λ b. b ≡ true) (dirs s) → PinsOf s (map number s) []
all-ins [] a = record { are_ins = refl; are_outs = refl }
all-ins (inp i ∷ s) a = let r = all-ins s a.1 in record { are_ins = ap (λ (r : List ℕ). i ∷ r) r.are_ins; are_outs = r.are_outs }
all-ins (out o ∷ s) a = absurd (false≢true a.0)

all-outs : (s : Interface) → All (λ b. b ≡ false) (dirs s) → PinsOf s [] (map number s)
all-outs [] a = record { are_ins = refl; are_outs = refl }
all-outs (inp i ∷ s) a = absurd (true≢false a.0)
all-outs (out o ∷ s) a = let r = all-outs s a.1 in record { are_ins = r.are_ins; are_outs = ap (λ (r : List ℕ). o ∷ r) r.are_outs }

-- a sharable type has no bit turned against the others
same-turns : (o : Bool) (θ : Ty) → T (sharable θ) → All (λ b. b ≡ o) (turns o θ)
same-turns o bit h = (refl, tt)
same-turns o (prod a b) h =
    let hs = and_both (sharable a) (sharable b) h in
    all_append (λ b. b ≡ o) (turns o a) (turns o b) (same-turns o a hs.0) (same-turns o b hs.1)
same-turns o (arrow a b) h = absurd h
same-turns o (lolli a b) h = absurd h

abbrev pub AllSharable : List Ty → Type 0
AllSharable θs = All (λ θ. T (sharable θ)) θs

pub taken-sharable : (τ : Ty) → T (takes_bits τ) → AllSharable (taken_types τ)
taken-sharable bit h = tt
taken-sharable (prod a b) h = tt
taken-sharable (arrow a b) h = let hs = and_both (sharable a) (takes_bits b) h in (hs.0, taken-sharable b hs.1)
taken-sharable (lolli a b) h = tt

-- ---- an interface of the type θs → θ

module _ (θ : Ty) (h : T (sharable θ)) where
  typed-pins : (θs : List Ty) → AllSharable θs → (s : Interface) → dirs s ≡ turns false (arrows_to θs θ) → PinsOf s (map number (inputs_of θs s)) (map number (behind_inputs θs s))
  typed-pins [] hs s e = all-outs s (subst (All (λ b. b ≡ false)) (sym e) (same-turns false θ h))
  typed-pins (α ∷ θs) hs s e =
      let f = take (size α) s in
      let r = drop (size α) s in
      let p = all-ins f (subst (All (λ b. b ≡ true)) (sym (dirs-take α (turns false (arrows_to θs θ)) s e)) (same-turns true α hs.0)) in
      let q = typed-pins θs hs.1 r (dirs-drop α (turns false (arrows_to θs θ)) s e) in
      record {
        are_ins = ap in_pins (sym (take-append-drop (size α) s)) ∙ in_append f r ∙ ap₂ ◌++◌ p.are_ins q.are_ins ∙ sym (map-append number f (inputs_of θs r));
        are_outs = ap out_pins (sym (take-append-drop (size α) s)) ∙ out_append f r ∙ ap₂ ◌++◌ p.are_outs q.are_outs;
      }

  pub typed_ins : (θs : List Ty) → AllSharable θs → (s : Interface) → dirs s ≡ turns false (arrows_to θs θ) → in_pins s ≡ map number (inputs_of θs s)
  typed_ins θs hs s e = (typed-pins θs hs s e).are_ins

  pub typed_outs : (θs : List Ty) → AllSharable θs → (s : Interface) → dirs s ≡ turns false (arrows_to θs θ) → out_pins s ≡ map number (behind_inputs θs s)
  typed_outs θs hs s e = (typed-pins θs hs s e).are_outs

  -- as many inputs as the types have bits
  abbrev sizes : List Ty → ℕ
  sizes [] = 0
  sizes (α ∷ θs) = size α + sizes θs

  inputs-count : (θs : List Ty) (s : Interface) → dirs s ≡ turns false (arrows_to θs θ) → length (inputs_of θs s) ≡ sizes θs
  inputs-count [] s e = refl
  inputs-count (α ∷ θs) s e =
      length-append (take (size α) s) (inputs_of θs (drop (size α) s))
      ∙ ap₂ ◌+◌ (side_length α true (take (size α) s) (dirs-take α (turns false (arrows_to θs θ)) s e)) (inputs-count θs (drop (size α) s) (dirs-drop α (turns false (arrows_to θs θ)) s e))

  sides-count : (θs : List Ty) (i : ℕ) → length (in_sides θs i) ≡ sizes θs
  sides-count [] i = refl
  sides-count (α ∷ θs) i = length-append (in_side (turns false α) i) (in_sides θs (i + 2 * size α)) ∙ ap₂ ◌+◌ (in_length α i) (sides-count θs (i + 2 * size α))

  pub as_many_inputs : (θs : List Ty) (s : Interface) (i : ℕ) → dirs s ≡ turns false (arrows_to θs θ) → length (inputs_of θs s) ≡ length (in_sides θs i)
  as_many_inputs θs s i e = inputs-count θs s e ∙ sym (sides-count θs i)

-- ---- the inputs of a function's points are inputs

in_side_ins : (ts : List Bool) (i : ℕ) → All (λ b. b ≡ false) ts → All (λ b. b ≡ true) (dirs (in_side ts i))
in_side_ins [] i a = tt
in_side_ins (false ∷ ts) i a = (refl, in_side_ins ts (i + 2) a.1)
in_side_ins (true ∷ ts) i a = absurd (true≢false a.0)

sides_pins : (θs : List Ty) (i : ℕ) → AllSharable θs → PinsOf (in_sides θs i) (map number (in_sides θs i)) []
sides_pins [] i hs = record { are_ins = refl; are_outs = refl }
sides_pins (θ ∷ θs) i hs =
    let s = in_side (turns false θ) i in
    let r = in_sides θs (i + 2 * size θ) in
    let p = all-ins s (in_side_ins (turns false θ) i (same-turns false θ hs.0)) in
    let q = sides_pins θs (i + 2 * size θ) hs.1 in
    record {
      are_ins = in_append s r ∙ ap₂ ◌++◌ p.are_ins q.are_ins ∙ sym (map-append number s r);
      are_outs = out_append s r ∙ ap₂ ◌++◌ p.are_outs q.are_outs;
    }

-- .. and one output stands behind them
pub joint-ins : (θs : List Ty) (o : ℕ) → AllSharable θs → in_pins (in_sides θs 0 ++ out o ∷ []) ≡ map number (in_sides θs 0)
joint-ins θs o hs = in_append (in_sides θs 0) (out o ∷ []) ∙ append-nil (in_pins (in_sides θs 0)) ∙ (sides_pins θs 0 hs).are_ins

pub joint-outs : (θs : List Ty) (o : ℕ) → AllSharable θs → out_pins (in_sides θs 0 ++ out o ∷ []) ≡ o ∷ []
joint-outs θs o hs = out_append (in_sides θs 0) (out o ∷ []) ∙ ap (λ (r : List ℕ). r ++ (o ∷ [])) (sides_pins θs 0 hs).are_outs

-- ---- the lean netlist

pub lean-ins : (m : Net) (s : Interface) → in_pins (map (lean_pin m) s) ≡ in_pins s
lean-ins m [] = refl
lean-ins m (inp i ∷ s) = ap (λ (r : List ℕ). i ∷ r) (lean-ins m s)
lean-ins m (out o ∷ s) = lean-ins m s

pub lean-outs : (m : Net) (s : Interface) → out_pins (map (lean_pin m) s) ≡ map (root m) (out_pins s)
lean-outs m [] = refl
lean-outs m (inp i ∷ s) = lean-outs m s
lean-outs m (out o ∷ s) = ap (λ (r : List ℕ). root m o ∷ r) (lean-outs m s)

pub lean-registers : (m : Net) (es : List Element) → registers (keep m es) ≡ registers es
lean-registers m [] = refl
lean-registers m (point i ∷ es) = by (kept m (point i)) (lean-registers m es)
  where
    by : (b : Bool) → registers (keep m es) ≡ registers es → registers (cond b (point i ∷ keep m es) (keep m es)) ≡ registers es
    by true e = e
    by false e = e
lean-registers m (part p i ∷ es) = ap (λ (r : List ℕ). cond (eqb p 1) (i ∷ r) r) (lean-registers m es)

-- outputs have the bits of their roots
pub roots_row : (n : ℕ) (β : Bits) (m : Net) → Possible part_law m n β → (t : ℕ) → t < n → (os : List ℕ) → row β t (map (root m) os) ≡ row β t os
roots_row n β m p t l [] = refl
roots_row n β m p t l (o ∷ os) = ap₂ (λ (b : Bool) (r : List ℕ). bit_byte_lem b ∷ r) (root-like n β part_law m p o t l) (roots_row n β m p t l os)

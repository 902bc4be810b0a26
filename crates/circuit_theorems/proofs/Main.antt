-- For every accepted sheet: its term has a derivation, both netlists are formed, each input has one driver, and the two netlists have the
-- same possible records. Assumes nothing.
use Prim.Native.Nat.{ℕ, ◌+◌, ◌≤◌}
use mathlib.Core.Path.{◌≡◌, subst}
use mathlib.Core.Logic.{◌↔◌}
use mathlib.Core.List.{List, []}
use lib.Dec.{T, leb, leb→le}
use borrow.Author.Tests.{le-leb}
use Rattle.calculus.specs.Answer.{good}
use Rattle.calculus.proofs.Answers.{good-inj, on-bind, on-need}
use Rattle.calculus.specs.Types.{Ty, tree}
use Rattle.calculus.specs.Read.{Sheet, read_sheet}
use Rattle.calculus.specs.Walk.{walk}
use Rattle.calculus.specs.Rules.{Typed}
use Rattle.calculus.specs.Net.{Net, make, net_of}
use Rattle.calculus.specs.Lean.{lean}
use Rattle.calculus.specs.Record.{Bits, Law, All, part_law, Outside}
use Rattle.calculus.specs.Inputs.{ins, made_at_lem, targets, is_out}
use Rattle.circuit_theorems.specs.Formed.{Formed}
use Rattle.calculus.specs.Translate.{full}
use Rattle.sheet_theorems.proofs.Sound.{sound}
use Rattle.sheet_theorems.proofs.Laying.{laid}
use Rattle.sheet_theorems.proofs.Exact.{exact}
use Rattle.circuit_theorems.proofs.Same.{same-records}
use Rattle.circuit_theorems.proofs.Forming.{Gapless, gapless_net, lean-formed}
use Rattle.circuit_theorems.proofs.Wiring.{input-once, one_driver, no_driver, wires_run}

-- an accepted sheet: what was read, its derivation, and its netlist
pub record AcceptedAs (s : List ℕ) (m : Net) : Type 0 where
  pub sheet : Sheet
  pub reads : read_sheet s ≡ good sheet
  pub type : ℕ
  pub typed : Typed sheet.edition sheet.table [] sheet.term (tree sheet.table type)
  pub few : (make sheet.table sheet.term [] 0).next ≤ 8192
  pub is : net_of (make sheet.table sheet.term [] 0) ≡ m

pub accepts : (s : List ℕ) (m : Net) → full s ≡ good m → AcceptedAs s m
unfolding full
accepts s m e =
    on-bind (read_sheet s) _ m e λ σ h₁ e₁.
    on-bind (walk σ.edition σ.table σ.term 0 []) _ m e₁ λ r h₂ e₂.
    on-need (leb (make σ.table σ.term [] 0).next 8192) 16 0 _ m e₂ λ h₃ e₃.
    let l = laid s σ h₁ in
    record {
      sheet = σ;
      reads = h₁;
      type = r.type;
      typed = sound σ.edition σ.table l.table σ.term l.ranged r h₂;
      few = leb→le _ 8192 h₃;
      is = good-inj e₃;
    }

-- a sheet that is read, has a derivation and makes few enough terminals is accepted
pub accepted_by : (s : List ℕ) (σ : Sheet) (τ : Ty) → read_sheet s ≡ good σ → Typed σ.edition σ.table [] σ.term τ → (make σ.table σ.term [] 0).next ≤ 8192 → full s ≡ good (net_of (make σ.table σ.term [] 0))
unfolding full
accepted_by s σ τ h d l = rw (h, ((exact s σ h).1 (τ, d)).1, le-leb (make σ.table σ.term [] 0).next 8192 l)

-- ---- formed

-- the full netlist is formed, and its elements take all the terminals from 0 on
pub formed : (s : List ℕ) (m : Net) → full s ≡ good m → Gapless m
formed s m e = let a = accepts s m e in subst Gapless a.is (gapless_net a.typed a.few)

pub formed-lean : (s : List ℕ) (m : Net) → full s ≡ good m → Formed (lean m)
formed-lean s m e = lean-formed m (formed s m e).net

-- ---- demand 3, first half

-- each input of the full netlist is the target of one wire or shown by one pin, never both
pub driven : (s : List ℕ) (m : Net) → full s ≡ good m → (i : ℕ) → made_at_lem m.elements i ≡ 1 → targets m.wires i + ins m.pins i ≡ 1
driven s m e = one_driver m (formed s m e).net

-- what is no input is neither; and no input is made twice
pub undriven : (s : List ℕ) (m : Net) → full s ≡ good m → (i : ℕ) → made_at_lem m.elements i ≡ 0 → (targets m.wires i ≡ 0) × (ins m.pins i ≡ 0)
undriven s m e = no_driver m (formed s m e).net

pub made_once : (s : List ℕ) (m : Net) → full s ≡ good m → (i : ℕ) → made_at_lem m.elements i ≤ 1
made_once s m e = input-once m (formed s m e).net

-- wires run from outputs to inputs, and both are made
pub wired : (s : List ℕ) (m : Net) → full s ≡ good m → All (λ w. T (is_out m.elements w.from) × (made_at_lem m.elements w.to ≡ 1)) m.wires
wired s m e = wires_run m (formed s m e).net

-- ---- demand 3, second half

-- over any law of the parts, the two netlists have the same possible records of pins and part terminals
pub same_circuit : (law : Law) (s : List ℕ) (m : Net) → full s ≡ good m → (n : ℕ) (γ π : Bits) → Outside law m n γ π ↔ Outside law (lean m) n γ π
same_circuit law s m e = same-records law m (formed s m e).net

-- .. and so over document 01's
pub same_circuit-parts : (s : List ℕ) (m : Net) → full s ≡ good m → (n : ℕ) (γ π : Bits) → Outside part_law m n γ π ↔ Outside part_law (lean m) n γ π
same_circuit-parts = same_circuit part_law

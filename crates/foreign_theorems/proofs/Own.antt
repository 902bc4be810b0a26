-- Our own netlists are accepted, and a netlist that is accepted is told by its bytes. Assumes nothing.
use Prim.Native.Nat.{ℕ}
use mathlib.Core.Path.{◌≡◌, refl, sym, ◌∙◌}
use mathlib.Core.Bool.{Bool, true, false}
use mathlib.Core.List.{List}
use native.Mathlib.Omega.{arith}
use Rattle.calculus.specs.Answer.{good}
use Rattle.calculus.specs.Net.{Net, net_bytes}
use Rattle.calculus.specs.Lean.{lean}
use Rattle.calculus.specs.Translate.{full, asked}
use Rattle.circuit_theorems.proofs.Forming.{lean-formed, lean-end}
use Rattle.circuit_theorems.proofs.NetRead.{net_bytes_only}
use Rattle.circuit_theorems.proofs.Told.{items_fit, full-known, lean-known}
use Rattle.circuit_theorems.proofs.Main.{formed}
use Rattle.foreign_calculus.specs.Foreign.{Accepts, check}
use Rattle.foreign_theorems.proofs.Complete.{accepts-check}

module _ (s : List ℕ) (m : Net) (ok : full s ≡ good m) where
  -- the full netlist of every accepted sheet is one without gaps, and the lean one a lean one
  own : (b : Bool) → Accepts b (net_bytes (asked b m))
  own false = let f = formed s m ok in record { net = m; bytes = refl; known = full-known s m ok; formed = f.net; numbering = f.tiled; few = f.few }
  own true =
      let f = formed s m ok in
      let g = lean-formed m f.net in
      record { net = lean m; bytes = refl; known = lean-known s m ok; formed = g; numbering = g.rising; few = omega (arith, lean-end m f.net, f.few) }

  pub own-accepted : (b : Bool) → check b (net_bytes (asked b m)) ≡ good tt
  own-accepted b = accepts-check b (net_bytes (asked b m)) (own b)

-- the same bytes, the same netlist: also a pin's direction, which the elements tell
pub accepted_only : (lean lean' : Bool) (s : List ℕ) (a : Accepts lean s) (b : Accepts lean' s) → a.net ≡ b.net
accepted_only lean lean' s a b =
    net_bytes_only a.net b.net a.formed b.formed (items_fit a.net a.formed (omega (arith, a.few)) a.known)
    (items_fit b.net b.formed (omega (arith, b.few)) b.known) (sym a.bytes ∙ b.bytes)

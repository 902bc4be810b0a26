-- The bytes of both netlists of an accepted sheet tell them: the reader gives them back. Assumes nothing.
use Prim.Native.Nat.{ℕ, ◌+◌, ◌≤◌, ◌<◌}
use mathlib.Core.Path.{◌≡◌, subst}
use mathlib.Core.Bool.{Bool, true, false, cond}
use mathlib.Core.List.{List, [], ◌∷◌, map}
use native.Mathlib.Omega.{arith}
use native.Mathlib.Decide.{dec_le}
use lib.Dec.{T}
use Rattle.calculus.specs.Answer.{good}
use Rattle.calculus.specs.Terms.{part_at}
use Rattle.calculus.specs.Net.{inp, out, Interface, number, Element, point, part, Wire, Net, element, wire, pin, net_bytes}
use Rattle.calculus.specs.Lean.{kept, keep, lean}
use Rattle.calculus.specs.Record.{All}
use Rattle.calculus.specs.Inputs.{made_at_lem, is_out}
use Rattle.circuit_theorems.specs.Formed.{Rising, Formed}
use Rattle.calculus.specs.NetRead.{Known, Fits, read_net}
use Rattle.calculus.specs.Translate.{full, asked}
use Rattle.circuit_theorems.proofs.Lists.{all_append}
use Rattle.circuit_theorems.proofs.Outputs.{EndHolds}
use Rattle.circuit_theorems.proofs.Terminals.{rising-end, out_high, made-high}
use Rattle.circuit_theorems.proofs.Wiring.{wires_run, pins_show}
use Rattle.circuit_theorems.proofs.Forming.{lean-formed, lean-end}
use Rattle.circuit_theorems.proofs.KnownParts.{made-known}
use Rattle.circuit_theorems.proofs.NetRead.{items_of, read_back}
use Rattle.circuit_theorems.proofs.Main.{accepts, formed}

-- ---- the numbers of a formed netlist are below its end

low_elements : (es : List Element) (n e : ℕ) → Rising es n e → e ≤ 65536 → All Known es → All Fits (map element es)
low_elements [] n e a h k = tt
low_elements (point i ∷ es) n e a h k = (omega (arith, rising-end es (i + 2) e a.1), low_elements es (i + 2) e a.1 h k.1)
low_elements (part p i ∷ es) n e a h k = ((k.0, omega (arith, rising-end es (i + (part_at p).inputs + 1) e a.1)), low_elements es (i + (part_at p).inputs + 1) e a.1 h k.1)

made-below : (es : List Element) (e x : ℕ) → Rising es 0 e → made_at_lem es x ≡ 1 → x < e
made-below es e x up m = elim (dec_le e x) [ yes q ↦ absurd (omega (arith, made-high es 0 e x up q)) | no q ↦ omega arith ]

low_wires : (es : List Element) (e : ℕ) (ws : List Wire) → Rising es 0 e → e ≤ 65536 → All (λ w. T (is_out es w.from) × (made_at_lem es w.to ≡ 1)) ws → All Fits (map wire ws)
low_wires es e [] up h a = tt
low_wires es e (w ∷ ws) up h a =
    ((omega (arith, out_high es 0 e w.from up a.0.0), omega (arith, made-below es e w.to up a.0.1)), low_wires es e ws up h a.1)

low_pins : (es : List Element) (e : ℕ) (ts : Interface) → Rising es 0 e → e ≤ 65536 → All (EndHolds (λ i. made_at_lem es i ≡ 1) (λ o. T (is_out es o))) ts → All Fits (map (λ t. pin (number t)) ts)
low_pins es e [] up h a = tt
low_pins es e (inp i ∷ ts) up h a = (omega (arith, made-below es e i up a.0), low_pins es e ts up h a.1)
low_pins es e (out o ∷ ts) up h a = (omega (arith, out_high es 0 e o up a.0), low_pins es e ts up h a.1)

pub items_fit : (m : Net) (ok : Formed m) → ok.end ≤ 65536 → All Known m.elements → All Fits (items_of m)
items_fit m ok h k =
    let es = m.elements in
    let e = ok.end in
    all_append Fits (map element es) _ (low_elements es 0 e ok.rising h k)
    (all_append Fits (map wire m.wires) _ (low_wires es e m.wires ok.rising h (wires_run m ok)) (low_pins es e m.pins ok.rising h (pins_show m ok)))

-- ---- both netlists of an accepted sheet

keep_known : (m : Net) (es : List Element) → All Known es → All Known (keep m es)
keep_known m [] a = tt
keep_known m (x ∷ es) a = by (kept m x) (keep_known m es a.1)
  where
    by : (b : Bool) → All Known (keep m es) → All Known (cond b (x ∷ keep m es) (keep m es))
    by true r = (a.0, r)
    by false r = r

module _ (s : List ℕ) (m : Net) (ok : full s ≡ good m) where
  pub full-known : All Known m.elements
  full-known = let a = accepts s m ok in subst (λ (x : Net). All Known x.elements) a.is (made-known a.typed [] 0)

  pub lean-known : All Known (lean m).elements
  unfolding lean
  lean-known = keep_known m m.elements full-known

  -- whichever netlist is asked for, its bytes tell it
  pub bytes_tell : (b : Bool) → read_net (net_bytes (asked b m)) ≡ good (asked b m)
  bytes_tell false =
      let f = formed s m ok in
      read_back m f.net (items_fit m f.net (omega (arith, f.few)) full-known)
  bytes_tell true =
      let f = formed s m ok in
      let g = lean-formed m f.net in
      read_back (lean m) g (items_fit (lean m) g (omega (arith, lean-end m f.net, f.few)) lean-known)

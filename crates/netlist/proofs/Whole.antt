-- A netlist of the working memory, written in three rows: elements, wires, pins. Assumes nothing.
use mathlib.Core.Path.{◌≡◌, refl, sym, ap, ◌∙◌}
use mathlib.Core.Bool.{Bool, true, false}
use mathlib.Core.List.{List, ◌++◌, map, append_assoc}
use Prim.Native.Nat.{ℕ, ◌+◌, ◌*◌}
use native.Mathlib.Omega.{arith}
use lib.ListN.{length, length-append}
use lib.Seq.{sets}
use Rattle.calculus.specs.Net.{wire_bytes, pin_bytes, net_bytes}
use Rattle.calculus.specs.Makers.{net_node_bytes, written}
use Rattle.memory.specs.Map.{targets_at, elements_at, stack_at, makers_at, region, elements_from, wires_from, terminal_of, net_in}
use Rattle.netlist.specs.Elements.{element_records}
use Rattle.netlist.specs.Fitting.{ElementsFit, WiresFit, PinsFit, Writable}
use Rattle.netlist.proofs.Records.{record_more}
use Rattle.netlist.proofs.Elements.{records_are}
use Rattle.netlist.proofs.InMemory.{wires_first, records-before, written-here, after-here, target-here, kind-here}

-- the three rows
abbrev pub element_row : Bool → List ℕ → ℕ → List ℕ
element_row plain w e = element_records plain (elements_from (region w elements_at e) 0) (region w makers_at e)

abbrev pub full_wire_row : List ℕ → ℕ → List ℕ
full_wire_row w k = wire_bytes (wires_from w (region w targets_at k))

abbrev pub full_pin_row : List ℕ → ℕ → List ℕ
full_pin_row w p = pin_bytes (map terminal_of (region w stack_at p))

-- the three rows are the netlist's bytes
written_is : (plain : Bool) (w : List ℕ) (e k p : ℕ) → written plain (net_in w e k p) (region w makers_at e) ≡ element_row plain w e ++ (full_wire_row w k ++ full_pin_row w p)
unfolding net_bytes net_node_bytes net_in
written_is true w e k p = ap (λ (x : List ℕ). x ++ (full_wire_row w k ++ full_pin_row w p)) (sym (records_are true (elements_from (region w elements_at e) 0) (region w makers_at e)))
written_is false w e k p = ap (λ (x : List ℕ). x ++ (full_wire_row w k ++ full_pin_row w p)) (sym (records_are false (elements_from (region w elements_at e) 0) (region w makers_at e)))

module _ (plain : Bool) (w : List ℕ) (e k p room : ℕ) (ok : Writable plain w e k p room) where
  -- the length of all three
  whole_here : length (written plain (net_in w e k p) (region w makers_at e)) ≡ 5 * k + 3 * p + length (element_row plain w e)
  whole_here =
      let r = ok.ready in
      omega (arith, written-here w e k p r plain, records-before plain w elements_at makers_at e (omega arith))

  pub elements_fit : ElementsFit plain w e room 0
  elements_fit =
      let r = ok.ready in
      record {
        source = omega arith;
        target = omega (arith, whole_here);
        known = kind-here w e k p r ok.known;
        low = after-here w e k p r;
      }

  pub wires_fit : (from : ℕ) → from ≡ 0 + length (element_row plain w e) → WiresFit w k room from
  wires_fit from f =
      let r = ok.ready in
      record { source = omega arith; target = omega (arith, whole_here); low = target-here w e k p r }

  pub pins_fit : (from : ℕ) → from ≡ 0 + length (element_row plain w e) + 5 * k → PinsFit w p room from
  pins_fit from f =
      let r = ok.ready in
      record { source = omega arith; target = omega (arith, whole_here) }

  pub rows : (out o₁ o₂ o₃ : List ℕ) (f s t : ℕ)
      → f ≡ 0 + length (element_row plain w e) → o₁ ≡ sets out 0 (element_row plain w e)
      → s ≡ f + 5 * k → o₂ ≡ sets o₁ f (full_wire_row w k)
      → t ≡ s + 3 * p → o₃ ≡ sets o₂ s (full_pin_row w p)
      → (t ≡ length (written plain (net_in w e k p) (region w makers_at e))) × (o₃ ≡ sets out 0 (written plain (net_in w e k p) (region w makers_at e)))
  unfolding net_in
  rows out o₁ o₂ o₃ f s t hf h₁ hs h₂ ht h₃ =
      let r = ok.ready in
      let l = wires_first w targets_at k (omega arith) in
      let n = length-append (element_row plain w e) (full_wire_row w k) in
      let b : s ≡ 0 + length (element_row plain w e ++ full_wire_row w k) = omega arith in
      let two = record_more out (element_row plain w e) (full_wire_row w k) _ 0 f hf refl in (
        omega (arith, whole_here),
        h₃ ∙ rw (h₂, h₁, two) (record_more out (element_row plain w e ++ full_wire_row w k) (full_pin_row w p) _ 0 s b (written_is plain w e k p ∙ sym (append_assoc (element_row plain w e) (full_wire_row w k) (full_pin_row w p)))),
      )

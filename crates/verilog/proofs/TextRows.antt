-- Lines written one after the other. Assumes nothing.
use Prim.Native.Nat.{ℕ, ◌+◌, ◌-◌, ◌*◌, ◌≤◌, ◌<◌}
use mathlib.Core.Path.{◌≡◌, refl, sym, ap, ◌∙◌}
use mathlib.Core.Bool.{cond}
use mathlib.Core.List.{List, [], ◌∷◌, ◌++◌, map, append_assoc, append-nil}
use native.Mathlib.Omega.{arith}
use lib.ListN.{length, get_or}
use Rattle.laws.proofs.Tests.{by_eqb}
use Rattle.calculus.specs.Net.{Element, point, part, Wire, wire_of}
use Rattle.export_calculus.specs.Verilog.{element_forms, assign_forms, kind_line, line_text, lines_text, line_of_element, line_of_wire}
use Rattle.memory.specs.Map.{elements_from}
use Rattle.lines.specs.Wrote.{WroteText}
use Rattle.lines.proofs.Stores.{wrote-two}
use Rattle.lean.specs.Layout.{kinds_from, left_out, first_terminal, row_in}
use Rattle.lean.proofs.Rows.{row_more, row-few}
use Rattle.lean.proofs.MakeLaws.{element_input, element_left, element_here, wire-none, wire-output, wire-here}
use Rattle.verilog.specs.InMemory.{element_text, wire_text, element_line_at, wire_line_at}

pub elements_append : (xs ys : List Element) → element_text (xs ++ ys) ≡ element_text xs ++ element_text ys
unfolding element_text
elements_append [] ys = refl
elements_append (x ∷ xs) ys =
    ap (λ (t : List ℕ). line_text element_forms (line_of_element x) ++ t) (elements_append xs ys)
    ∙ sym (append_assoc (line_text element_forms (line_of_element x)) (lines_text element_forms (map line_of_element xs)) (lines_text element_forms (map line_of_element ys)))

pub wires_append : (xs ys : List Wire) → wire_text (xs ++ ys) ≡ wire_text xs ++ wire_text ys
unfolding wire_text
wires_append [] ys = refl
wires_append (x ∷ xs) ys =
    ap (λ (t : List ℕ). line_text assign_forms (line_of_wire x) ++ t) (wires_append xs ys)
    ∙ sym (append_assoc (line_text assign_forms (line_of_wire x)) (lines_text assign_forms (map line_of_wire xs)) (lines_text assign_forms (map line_of_wire ys)))

-- ---- one entry

pub no_element : (v x : ℕ) → v < kinds_from → element_line_at v x ≡ []
unfolding element_text
no_element v x h = ap element_text (element_input v x h)

pub left_element : (v x : ℕ) → left_out ≤ v → element_line_at v x ≡ []
unfolding element_text
left_element v x h = ap element_text (element_left v x h)

kind-lines : (k n : ℕ) → element_text (elements_from (k ∷ []) n) ≡ line_text element_forms (kind_line k n)
unfolding element_text
kind-lines k n = by_eqb (λ b. lines_text element_forms (map line_of_element (cond b (point n ∷ []) (part k n ∷ []))) ≡ line_text element_forms (kind_line k n)) k 7
    (λ e. append-nil (line_text element_forms (kind_line 7 n)) ∙ ap (λ (j : ℕ). line_text element_forms (kind_line j n)) (sym e)) (λ d. append-nil (line_text element_forms (kind_line k n)))

pub one_element : (v x : ℕ) → kinds_from ≤ v → v < left_out → element_line_at v x ≡ line_text element_forms (kind_line (v - kinds_from) (first_terminal (v - kinds_from) x))
one_element v x h g = ap element_text (element_here v x h g) ∙ kind-lines (v - kinds_from) (first_terminal (v - kinds_from) x)

pub no_wire : (v x : ℕ) → v ≡ 0 → wire_line_at v x ≡ []
unfolding wire_text
no_wire v x e = ap wire_text (wire-none v x e)

pub output-wire : (v x : ℕ) → kinds_from ≤ v → wire_line_at v x ≡ []
unfolding wire_text
output-wire v x h = ap wire_text (wire-output v x h)

pub one_wire : (v x : ℕ) → (v ≡ 0 → ⊥) → v < kinds_from → wire_line_at v x ≡ line_text assign_forms (line_of_wire (wire_of (v - 1) x))
unfolding wire_text
one_wire v x d h = ap wire_text (wire-here v x d h) ∙ append-nil (line_text assign_forms (line_of_wire (wire_of (v - 1) x)))

pub wrote_none : (o t : List ℕ) (at : ℕ) → t ≡ [] → WroteText o at t o at
wrote_none o t at e = rw e record { offset = omega arith; bytes = refl }

-- ---- a row of them

module _ (f : ℕ → ℕ → List ℕ) (base : ℕ) (w : List ℕ) where
  pub row-start : (o : List ℕ) (from : ℕ) → WroteText o from (row_in f base w 0 0) o from
  row-start o from = record { offset = omega arith; bytes = refl }

  pub row_step : {o o₁ o₂ : List ℕ} {from a b : ℕ} (x : ℕ) → WroteText o from (row_in f base w x 0) o₁ a → WroteText o₁ a (f (get_or w (base + x) 0) x) o₂ b → WroteText o from (row_in f base w (x + 1) 0) o₂ b
  row_step x p q = rw (row_more f base w x) (wrote-two p q)

  pub row_low : {o o₁ : List ℕ} {from a : ℕ} (x : ℕ) → ((v y : ℕ) → length (f v y) ≤ 256) → WroteText o from (row_in f base w x 0) o₁ a → a ≤ from + 256 * x
  row_low x h p = omega (arith, p.offset, row-few f base w 256 h x 0)

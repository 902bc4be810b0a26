-- The table by terminal and the pins, copied from the lean netlist, say the same as it. Assumes nothing.
use Prim.Native.Nat.{ℕ, ◌+◌, ◌-◌, ◌≤◌, ◌<◌}
use mathlib.Core.Path.{◌≡◌, sym, ap, ◌∙◌, subst}
use mathlib.Core.Logic.{◌⊎◌, inl, inr}
use mathlib.Core.Bool.{false}
use mathlib.Core.List.{List, map}
use native.Mathlib.Omega.{arith}
use native.Mathlib.Decide.{ℕ_discrete, dec_le}
use lib.ListN.{length, get_or}
use lib.Seq.{ext_get_or}
use lib.Dec.{T}
use Rattle.laws.proofs.Regions.{region-length, region-at}
use Rattle.calculus.specs.Net.{Element, point, part, Wire, Net}
use Rattle.calculus.specs.Lean.{is_pin, kept, lean}
use Rattle.calculus.specs.Record.{Among}
use Rattle.calculus.specs.Inputs.{targets, made_at_lem, is_out}
use Rattle.circuit_theorems.specs.Terminals.{has}
use Rattle.circuit_theorems.specs.Formed.{Formed}
use Rattle.circuit_theorems.proofs.Terminals.{each_target, pin_ins}
use Rattle.circuit_theorems.proofs.Wiring.{input-once}
use Rattle.memory.specs.Map.{roots_at, region, terminal_of, net_in, Ready}
use Rattle.lean.specs.Table.{entry}
use Rattle.lean.specs.Layout.{lean_pins_at, left_out, lean_in, Leant, kinds_from}
use Rattle.lean.proofs.DriverLaws.{rising}
use Rattle.lean.proofs.EntryLaws.{EntryTells, element_entry, wire-entry, entry-wire, entry_element, lean-ok}
use Rattle.trace_calculus.specs.Trace.{Source, from, source, terminals}
use Rattle.circuit_theorems.proofs.NetRead.{out_not_made}
use Rattle.trace_theorems.proofs.Sources.{in_all, Decided, is-pin, is-wire, is-point, is-part, decided, at-wire, out_terminal, not_out}
use Rattle.trace_theorems.proofs.Owners.{start, last, keep_in}
use Rattle.trace_steps.specs.Map.{pins_at}
use Rattle.trace_steps.specs.Copied.{TableCopied, PinsCopied}
use Rattle.trace_steps.proofs.CopyLaws.{copied_none, copied-wire, copied-kind}
use Rattle.trace.specs.Tables.{TableEntry, of_pin, of_wire, of_point, of_part, Tabled}
use Rattle.trace.specs.Said.{TablesMade}
use Rattle.trace.proofs.ElementLaws.{in_out_lem, made-within, within-made, in_terminal, terminal_in, input-not_out}

-- what the lean netlist has, the full one has
pub lean_in_lem : (m : Net) {a : Element} → Among a (lean m).elements → Among a m.elements × T (kept m a)
unfolding lean
lean_in_lem m h = keep_in m m.elements h

lean-made : (m : Net) (x : ℕ) → 1 ≤ made_at_lem (lean m).elements x → 1 ≤ made_at_lem m.elements x
lean-made m x h = let g = made-within (lean m).elements x h in within-made g.0 x (lean_in_lem m g.1).0 g.2 g.3

tells_last : (a : Element) (v x : ℕ) → EntryTells a v x → last a ≡ x
tells_last (point i) v x t = t.0
tells_last (part p i) v x t = t.0

start-last : (a : Element) → start a ≤ last a
start-last (point i) = omega arith
start-last (part p i) = omega arith

module _ (u : List ℕ) (e k p : ℕ) (r : Ready u e k p) (v : List ℕ) (end : ℕ) (l : Leant u e k p v end) where
  abbrev M : Net
  M = lean_in v end p

  abbrev es : List Element
  es = (lean_in v end p).elements

  ok : Formed M
  ok = lean-ok u e k p r v end l

  element-low : (a : Element) → Among a es → last a < end
  element-low a h = let y = element_entry v end p l.ready h in omega (arith, y.1, tells_last a (entry v y.0) y.0 y.2)

  terminal-low : (x : ℕ) → T (has (terminals es) x) → x < end
  terminal-low x t = let g = terminal_in es x t in omega (arith, element-low g.0 g.1, g.3)

  made-low : (x : ℕ) → 1 ≤ made_at_lem es x → x < end
  made-low x h = let g = made-within es x h in omega (arith, element-low g.0 g.1, g.3)

  -- an entry that is a kind's is that of an output; one that is left out is no terminal
  kind-out : (x : ℕ) → x < end → kinds_from ≤ entry v x → entry v x < left_out → (a : Element) × Among a es × (last a ≡ x)
  kind-out x h a b = let g = entry_element v end p l.ready x h a b in (g.0, g.1, tells_last g.0 (entry v x) x g.2)

  left-not-made : (x : ℕ) → x < end → left_out ≤ entry v x → 1 ≤ made_at_lem es x → ⊥
  left-not-made x h a b =
      let m : 1 ≤ made_at_lem (net_in u e k p).elements x = lean-made (net_in u e k p) x (subst (λ (m : Net). 1 ≤ made_at_lem m.elements x) l.net b) in
      omega (arith, out_not_made (net_in u e k p).elements 0 r.end x (rising u e k p r) (l.left x h a))

  -- a pin has no wire
  pin_none : (x : ℕ) → T (is_pin M.pins x) → (1 ≤ made_at_lem es x) × (entry v x ≡ 0)
  pin_none x t =
      let i = pin_ins M.pins x t in
      let m : 1 ≤ made_at_lem es x = omega (arith, ok.reached x) in
      let h = made-low x m in (
        m,
        elim (ℕ_discrete (entry v x) 0) [
          | yes z ↦ z
          | no z ↦ absurd (elim (dec_le kinds_from (entry v x)) [
            | no a ↦ omega (arith, in_all (λ y. 1 ≤ targets M.wires y.to) (entry-wire v end p l.ready x h z (omega arith)) (each_target M.wires), ok.reached x, input-once M ok x)
            | yes a ↦ elim (dec_le left_out (entry v x)) [
              | yes b ↦ left-not-made x h b m
              | no b ↦ (let g = kind-out x h a (omega arith) in not_out M ok x m (subst (λ (y : ℕ). T (is_out es y)) g.2 (in_out_lem g.0 g.1)))
            ]
          ])
        ],
      )

  module _ (w₁ : List ℕ) (c : TableCopied v end w₁) (w : List ℕ) (d : PinsCopied w₁ p w) where
    size : length w ≡ length v
    size = d.size ∙ c.size

    none-at : (x : ℕ) → x < end → entry v x ≡ 0 → get_or w x 0 ≡ x
    none-at x h z = let b = l.ready.below in d.below x (omega arith) ∙ c.done x h ∙ copied_none (entry v x) x z

    wire-at : (x : ℕ) → x < end → (entry v x ≡ 0 → ⊥) → entry v x < kinds_from → get_or w x 0 ≡ entry v x - 1
    wire-at x h z a = let b = l.ready.below in d.below x (omega arith) ∙ c.done x h ∙ copied-wire (entry v x) x z a

    kind_at : (x : ℕ) → x < end → kinds_from ≤ entry v x → get_or w x 0 ≡ entry v x
    kind_at x h a = let b = l.ready.below in d.below x (omega arith) ∙ c.done x h ∙ copied-kind (entry v x) x a

    input : (x : ℕ) → 1 ≤ made_at_lem es x → is_out es x ≡ false
    input x h = input-not_out es 0 ok.end x ok.rising h

    wire-of : (x : ℕ) (y : Wire) → Among y M.wires → y.to ≡ x → TableEntry M x (get_or w x 0)
    wire-of x y h g =
        let t = wire-entry v end p l.ready h in
        let o = in_all (λ y. T (is_out es y.from)) h ok.from in
        let low = terminal-low y.from (out_terminal es y.from o) in
        let b = l.ready.below in
        let m : 1 ≤ made_at_lem es x = subst (λ (z : ℕ). 1 ≤ made_at_lem es z) g (omega (arith, ok.reached y.to, in_all (λ y. 1 ≤ targets M.wires y.to) h (each_target M.wires))) in
        let z : entry v x ≡ y.from + 1 = ap (entry v) (sym g) ∙ t.1 in
        let q : get_or w x 0 ≡ y.from = (let s = wire-at x (made-low x m) (λ n. omega arith) (omega arith) in omega arith) in
        subst (TableEntry M x) (sym q) (of_wire y.from (subst (λ (z : ℕ). source M z ≡ from y.from) g (at-wire M ok h)) (input x m) o)

    kind-of : (a : Element) (x n : ℕ) → Among a es → last a ≡ x → ((y : ℕ) → EntryTells a (entry v y) y → entry v y ≡ kinds_from + n) → get_or w x 0 ≡ kinds_from + n
    kind-of a x n h g f =
        let y = element_entry v end p l.ready h in
        let q : y.0 ≡ x = sym (tells_last a (entry v y.0) y.0 y.2) ∙ g in
        let s : entry v x ≡ kinds_from + n = subst (λ (z : ℕ). entry v z ≡ kinds_from + n) q (f y.0 y.2) in
        kind_at x (omega (arith, y.1)) (omega arith) ∙ s

    entry_of : (x : ℕ) → {s : Source} → Decided M ok x s → TableEntry M x (get_or w x 0)
    entry_of x (is-pin h) = let g = pin_none x h in subst (TableEntry M x) (sym (none-at x (made-low x g.0) g.1)) (of_pin h (input x g.0))
    entry_of x (is-wire y h g) = wire-of x y h g
    entry_of x (is-point i h g) = subst (TableEntry M x) (sym (kind-of (point i) x 7 h g (λ y t. t.1))) (of_point i h g)
    entry_of x (is-part a i h g) = subst (TableEntry M x) (sym (kind-of (part a i) x a h g (λ y t. t.1))) (of_part a i h g (element_entry v end p l.ready h).2.2)

    other-entry : (x : ℕ) → x < end → T (has (terminals es) x) ⊎ ((get_or w x 0 < 8192) ⊎ (left_out ≤ get_or w x 0))
    other-entry x h =
        let b = l.ready.below in
        elim (ℕ_discrete (entry v x) 0) [
          | yes z ↦ inr (inl (omega (arith, none-at x h z)))
          | no z ↦ elim (dec_le kinds_from (entry v x)) [
            | no a ↦ inr (inl (omega (arith, wire-at x h z (omega arith), l.ready.inputs x h (omega arith))))
            | yes a ↦ elim (dec_le left_out (entry v x)) [
              | yes q ↦ inr (inr (omega (arith, kind_at x h a)))
              | no q ↦ (let g = kind-out x h a (omega arith) in inl (in_terminal g.0 x g.1 (omega (arith, start-last g.0, g.2)) (omega (arith, g.2))))
            ]
          ]
        ]

    shown : map terminal_of (region w pins_at p) ≡ M.pins
    unfolding lean_in
    shown =
        let f = l.ready.few_pins in
        let z = l.ready.size in
        let s = size in
        let n = region-length w pins_at p (omega arith) in
        let o = region-length v lean_pins_at p (omega arith) in
        ap (map terminal_of) (ext_get_or 0 (region w pins_at p) (region v lean_pins_at p) (omega arith) (λ i h. region-at w pins_at p i (omega arith) ∙ d.done i (omega arith) ∙ c.above (lean_pins_at + i) (omega (arith, l.ready.below)) ∙ sym (region-at v lean_pins_at p i (omega arith))))

    tabled : Tabled w M end p
    tabled = record {
      size = let s = size in omega (arith, l.ready.size);
      formed = ok;
      few = l.ready.below;
      low = terminal-low;
      entries = λ x t. entry_of x (decided M ok x t);
      others = other-entry;
      few_pins = l.ready.few_pins;
      shown = shown;
    }

    pub made : TablesMade u e k p w end
    made =
        let b = l.ready.below in
        let f = l.ready.few_pins in
        record {
          tabled = subst (λ (m : Net). Tabled w m end p) l.net tabled;
          past = λ x h g. d.above (roots_at + x) (omega arith) ∙ c.above (roots_at + x) (omega arith) ∙ l.past x h g;
          kept = record {
            size = size ∙ l.around.size;
            above = λ j h. d.above j (omega arith) ∙ c.above j (omega arith) ∙ l.around.above j (omega arith);
          };
        }

-- The bytes of a formed netlist in this order and numbering are read as that netlist, and accepted. Assumes nothing.
use Prim.Native.Nat.{ℕ, zero, suc, ◌+◌, ◌≤◌}
use mathlib.Core.Path.{◌≡◌, refl, sym, ap, ◌∙◌, subst}
use mathlib.Core.Bool.{Bool, true, false, ◌&&◌, ◌||◌}
use mathlib.Core.List.{List, [], ◌∷◌, ◌++◌, map, append_assoc, append-nil}
use native.Mathlib.Omega.{arith}
use lib.Dec.{T, eqb, leb, eqb_refl, le→leb}
use lib.ListN.{length, drop, length-drop, length-append}
use Rattle.laws.proofs.Tests.{and_of, or_left, or_right}
use Rattle.calculus.specs.Answer.{Answer, good, refused, ◌>>=◌}
use Rattle.calculus.specs.Terms.{part_at}
use Rattle.calculus.specs.Net.{Terminal, inp, out, Interface, number, Element, point, part, Wire, Net, Item, element, wire, pin, item_bytes}
use Rattle.calculus.specs.Record.{All}
use Rattle.calculus.specs.Inputs.{ins, made_at_lem, targets, is_out}
use Rattle.calculus.specs.NetRead.{Fits, item_size, Front}
use Rattle.circuit_theorems.specs.Formed.{Tiled, Rising, Formed}
use Rattle.sheet_theorems.proofs.Bytes.{behind}
use Rattle.sheet_theorems.proofs.Going.{needed}
use Rattle.circuit_theorems.proofs.Terminals.{rising-end}
use Rattle.circuit_theorems.proofs.Wiring.{wires_run, pins_show}
use Rattle.circuit_theorems.proofs.NetRead.{items_of, items_bytes, records_in_a_row, item_length, item_some, ends-here, item_here, Shows, terminal_is}
use Rattle.circuit_theorems.proofs.Told.{items_fit}
use Rattle.foreign_calculus.specs.Foreign.{Numbered, Accepts, Reading, begin, first_of, past_of, starts, is_in, judge, on_front, read_on, one_each, check}
use Rattle.foreign_theorems.proofs.Sound.{numbered-rising}

-- ---- a row of records that stands in the bytes is judged record by record

bind_ext : {A B : Type 0} (m : Answer A) (f g : A → Answer B) → ((a : A) → f a ≡ g a) → (m >>= f) ≡ (m >>= g)
bind_ext (good a) f g h = h a
bind_ext (refused why) f g h = refl

abbrev judge_all : Bool → List Item → ℕ → Reading → Answer Reading
judge_all lean [] at σ = good σ
judge_all lean (r ∷ rs) at σ = judge lean r σ at >>= λ τ. judge_all lean rs (at + item_size r) τ

module _ (lean : Bool) (s : List ℕ) where
  read-row : (rs : List Item) (left at : ℕ) (σ : Reading) → All Fits rs → drop at s ≡ items_bytes rs → at ≤ length s → length s ≤ at + left → read_on left lean s at σ ≡ judge_all lean rs at σ
  read-row [] zero at σ f e l h = refl
  read-row [] (suc left) at σ f e l h = rw (ends-here s at (omega (arith, ap length e, length-drop at s)))
  read-row (r ∷ rs) zero at σ f e l h =
      absurd (omega (arith, ap length e, length-drop at s, length-append (item_bytes r) (items_bytes rs), item_length r, item_some r))
  read-row (r ∷ rs) (suc left) at σ f e l h =
      let b : drop (at + item_size r) s ≡ items_bytes rs = subst (λ (k : ℕ). drop (at + k) s ≡ items_bytes rs) (item_length r) (behind s (item_bytes r) (items_bytes rs) at e) in
      let z : at + item_size r ≤ length s = omega (arith, ap length e, length-drop at s, length-append (item_bytes r) (items_bytes rs), item_length r, item_some r) in
      ap (λ (x : Front). on_front x at σ (λ r. judge lean r σ at >>= λ τ. read_on left lean s (at + item_size r) τ)) (item_here s (items_bytes rs) at r f.0 e)
      ∙ bind_ext (judge lean r σ at) _ _ (λ τ. read-row rs left (at + item_size r) τ f.1 b z (omega (arith, item_some r)))

-- ---- the numbering, element by element

numbered-end : (lean : Bool) (es : List Element) (n e : ℕ) → Numbered lean es n e → n ≤ e
numbered-end lean es n e a = rising-end es n e (numbered-rising lean es n e a)

numbered-first : (lean : Bool) (x : Element) (es : List Element) (n e : ℕ) → Numbered lean (x ∷ es) n e → T (starts lean (first_of x) n) × Numbered lean es (past_of x) e
numbered-first false (point i) es n e a = (subst (λ (k : ℕ). T (eqb i k)) a.0 (eqb_refl i), subst (λ (k : ℕ). Tiled es (k + 2) e) (sym a.0) a.1)
numbered-first false (part p i) es n e a = (subst (λ (k : ℕ). T (eqb i k)) a.0 (eqb_refl i), subst (λ (k : ℕ). Tiled es (k + (part_at p).inputs + 1) e) (sym a.0) a.1)
numbered-first true (point i) es n e a = (le→leb n i a.0, a.1)
numbered-first true (part p i) es n e a = (le→leb n i a.0, a.1)

-- ---- elements, wires and pins go on from what was read

abbrev reading : List Element → List Wire → Interface → ℕ → ℕ → Reading
reading es ws ps stage next = record { net = record { elements = es; wires = ws; pins = ps }; stage = stage; next = next }

module _ (lean : Bool) where
  elements-pass : (es pre : List Element) (rest : List Item) (at next e : ℕ) → Numbered lean es next e → e ≤ 8192
      → (at' next' : ℕ) × (judge_all lean (map element es ++ rest) at (reading pre [] [] 0 next) ≡ judge_all lean rest at' (reading (pre ++ es) [] [] 0 next'))
  elements-pass [] pre rest at next e a l = (at, next, ap (λ (x : List Element). judge_all lean rest at (reading x [] [] 0 next)) (sym (append-nil pre)))
  elements-pass (x ∷ es) pre rest at next e a l =
      let b = numbered-first lean x es next e a in
      let c : T (leb (past_of x) 8192) = le→leb (past_of x) 8192 (omega (arith, numbered-end lean es (past_of x) e b.1)) in
      let t = and_of (starts lean (first_of x) next) (leb (past_of x) 8192) b.0 c in
      let r = elements-pass es (pre ++ (x ∷ [])) rest (at + item_size (element x)) (past_of x) e b.1 l in
      (r.0, r.1, rw (needed (starts lean (first_of x) next && leb (past_of x) 8192) 22 at t) (r.2 ∙ ap (λ (y : List Element). judge_all lean rest r.0 (reading y [] [] 0 r.1)) (append_assoc pre (x ∷ []) es)))

  module _ (es : List Element) (next : ℕ) where
    wires-pass : (ws pre : List Wire) (rest : List Item) (at stage : ℕ) → stage ≤ 1 → All (λ w. T (is_out es w.from) × (made_at_lem es w.to ≡ 1)) ws
        → (at' stage' : ℕ) × (judge_all lean (map wire ws ++ rest) at (reading es pre [] stage next) ≡ judge_all lean rest at' (reading es (pre ++ ws) [] stage' next))
    wires-pass [] pre rest at stage z a = (at, stage, ap (λ (x : List Wire). judge_all lean rest at (reading es x [] stage next)) (sym (append-nil pre)))
    wires-pass (w ∷ ws) pre rest at stage z a =
        let q = a.0.1 in
        let t = and_of (is_out es w.from) (is_in es w.to) a.0.0 (le→leb 1 (made_at_lem es w.to) (omega arith)) in
        let r = wires-pass ws (pre ++ (w ∷ [])) rest (at + 5) 1 (omega arith) a.1 in
        (r.0, r.1, rw (needed (leb stage 1) 21 at (le→leb stage 1 z), needed (is_out es w.from && is_in es w.to) 22 at t) (r.2 ∙ ap (λ (y : List Wire). judge_all lean rest r.0 (reading es y [] r.1 next)) (append_assoc pre (w ∷ []) ws)))

    shows-one : (t : Terminal) → Shows es t → T (is_out es (number t) || is_in es (number t))
    shows-one (inp i) a = or_right (is_out es i) (is_in es i) (le→leb 1 (made_at_lem es i) (omega arith))
    shows-one (out o) a = or_left (is_out es o) (is_in es o) a

    module _ (e : ℕ) (up : Rising es 0 e) (ws : List Wire) where
      pins-pass : (ts pre : Interface) (at stage : ℕ) → All (Shows es) ts
          → (stage' : ℕ) × (judge_all lean (map (λ t. pin (number t)) ts) at (reading es ws pre stage next) ≡ good (reading es ws (pre ++ ts) stage' next))
      pins-pass [] pre at stage a = (stage, ap (λ (x : Interface). good (reading es ws x stage next)) (sym (append-nil pre)))
      pins-pass (t ∷ ts) pre at stage a =
          let r = pins-pass ts (pre ++ (t ∷ [])) (at + 3) 2 a.1 in
          (r.0, rw (needed (is_out es (number t) || is_in es (number t)) 22 at (shows-one t a.0), terminal_is es e t up a.0) (r.1 ∙ ap (λ (x : Interface). good (reading es ws x r.0 next)) (append_assoc pre (t ∷ []) ts)))

-- ---- the whole

-- the reader gives the netlist back
read_through : (lean : Bool) (s : List ℕ) (a : Accepts lean s) → (stage next : ℕ) × (read_on (length s) lean s 0 begin ≡ good (reading a.net.elements a.net.wires a.net.pins stage next))
read_through lean s a =
    let m = a.net in
    let ok = a.formed in
    let es = m.elements in
    let f = items_fit m ok (omega (arith, a.few)) a.known in
    let p₁ = elements-pass lean es [] (map wire m.wires ++ map (λ t. pin (number t)) m.pins) 0 0 ok.end a.numbering a.few in
    let p₂ = wires-pass lean es p₁.1 m.wires [] (map (λ t. pin (number t)) m.pins) p₁.0 0 (omega arith) (wires_run m ok) in
    let p₃ = pins-pass lean es p₁.1 ok.end ok.rising m.wires m.pins [] p₂.0 p₂.1 (pins_show m ok) in
    (p₃.0, p₁.1, read-row lean s (items_of m) (length s) 0 begin f (a.bytes ∙ records_in_a_row m) (omega arith) (omega arith) ∙ p₁.2 ∙ p₂.2 ∙ p₃.1)

one_all : (m : Net) → Formed m → (k i : ℕ) → one_each k i m ≡ good tt
one_all m ok zero i = refl
one_all m ok (suc k) i = rw (needed (eqb (targets m.wires i + ins m.pins i) (made_at_lem m.elements i)) 23 i (rw (ok.reached i) (eqb_refl (made_at_lem m.elements i)))) (one_all m ok k (i + 1))

pub accepts-check : (lean : Bool) (s : List ℕ) → Accepts lean s → check lean s ≡ good tt
unfolding check
accepts-check lean s a = let r = read_through lean s a in rw r.2 (one_all a.net a.formed r.1 0)

-- A variable and a constant: what the memory holds once their interfaces are on the stack. Assumes nothing.
use Prim.Native.Nat.{ℕ, zero, suc, ◌+◌, ◌*◌, ◌/◌, ◌%◌, ◌≤◌, ◌<◌}
use mathlib.Core.Path.{◌≡◌, refl, sym, ap, ◌∙◌, subst}
use mathlib.Core.Logic.{⊎_elim}
use mathlib.Core.Bool.{Bool, true, false, cond}
use mathlib.Core.List.{List, [], ◌∷◌, map, append-nil}
use native.Mathlib.Omega.{arith}
use borrow.Author.Tests.{eq-eqb, ne_eqb}
use lib.Dec.{eqb}
use lib.ListN.{length, get_or, set, length-map}
use lib.Seq.{sets, ext_get_or}
use Rattle.calculus.specs.Types.{size, tree}
use Rattle.calculus.specs.Terms.{part_at}
use Rattle.calculus.specs.Net.{turns, out_side, in_side, part_side, Bound, unbound, Made, made_var, made_con}
use Rattle.calculus.specs.Record.{All}
use Rattle.records.specs.Rules.{is_constant}
use Rattle.records.specs.declared.Node.{Node}
use Rattle.memory.specs.Map.{elements_at, stack_at, binders_at, region, code}
use Rattle.circuit_theorems.proofs.Bounds.{made_type, made_side}
use Rattle.circuit_theorems.proofs.Counts.{part-inputs}
use Rattle.circuit_theorems.proofs.Drivers.{turns-size}
use Rattle.wiring.specs.declared.walk.State.{State}
use Rattle.wiring.specs.Sides.{KnownType, face}
use Rattle.wiring.specs.Store.{Low}
use Rattle.wiring.specs.Asks.{OfPoints, OfStack, BoundAt, shown, Showable, slot, Asks, made_of, Leaves, Here}
use Rattle.wiring.specs.Nodes.{Variable, Constant}
use Rattle.laws.proofs.Regions.{region-length, region-at}
use Rattle.wiring.proofs.RunLaws.{part_length}
use Rattle.wiring.proofs.StoreLaws.{push_kinds, push_stack}
use Rattle.wiring.proofs.NodeLaws.{variable, constant}

-- ---- codes

pub face_out : (bs : List Bool) (n : ℕ) → face true bs n ≡ map code (out_side bs n)
face_out [] n = refl
face_out (false ∷ bs) n = ap (λ (l : List ℕ). (2 * (n + 1) + 1) ∷ l) (face_out bs (n + 2))
face_out (true ∷ bs) n = ap (λ (l : List ℕ). (2 * n) ∷ l) (face_out bs (n + 2))

pub face_in : (bs : List Bool) (n : ℕ) → face false bs n ≡ map code (in_side bs n)
face_in [] n = refl
face_in (false ∷ bs) n = ap (λ (l : List ℕ). (2 * n) ∷ l) (face_in bs (n + 2))
face_in (true ∷ bs) n = ap (λ (l : List ℕ). (2 * (n + 1) + 1) ∷ l) (face_in bs (n + 2))

pub face-low : (output : Bool) (bs : List Bool) (n : ℕ) → n + 2 * length bs ≤ 8192 → All Low (face output bs n)
face-low output [] n h = tt
face-low true (true ∷ bs) n h = (omega arith, face-low true bs (n + 2) (omega arith))
face-low true (false ∷ bs) n h = (omega arith, face-low true bs (n + 2) (omega arith))
face-low false (true ∷ bs) n h = (omega arith, face-low false bs (n + 2) (omega arith))
face-low false (false ∷ bs) n h = (omega arith, face-low false bs (n + 2) (omega arith))

part_low : (k n : ℕ) → n + k < 8192 → All Low (map code (part_side k n))
part_low zero n h = (omega arith, tt)
part_low (suc k) n h = (omega arith, part_low k (n + 1) (omega arith))

low_of : (xs : List ℕ) → ((j : ℕ) → j < length xs → Low (get_or xs j 0)) → All Low xs
low_of [] f = tt
low_of (x ∷ xs) f = (f 0 (omega arith), low_of xs (λ j h. f (suc j) (omega arith)))

pub low-at : (xs : List ℕ) → All Low xs → (j : ℕ) → Low (get_or xs j 0)
low-at [] a j = omega arith
low-at (x ∷ xs) a zero = a.0
low-at (x ∷ xs) a (suc j) = low-at xs a.1 j

-- ---- a variable

module _ {s sizes w : List ℕ} {node : Node} {st : State} (q : Here s sizes w node st) (none : node.subterms ≡ 0) (f : is_constant node.rule ≡ false) where
  abbrev Q : Asks s sizes w q.at st
  Q = q.asks

  abbrev i : ℕ
  i = node.first

  var : Variable Q.edition Q.table s q.at st.next Q.env Q.term Q.type
  var = variable s q.at st.next Q.env Q.typed Q.fits (rw q.node_is at none) (rw q.node_is at f)

  pub var_scope : (i < st.scope) × (st.scope ≤ 128)
  var_scope = let v = var in let e = ap (λ (x : Node). x.first) q.node_is in (omega (arith, v.bound, Q.binds.all), omega (arith, Q.scoped))

  abbrev b : Bound
  b = get_or Q.env i unbound

  var-is : made_of Q ≡ made_var b st.next
  var-is = var.makes ∙ ap (λ (x : Node). made_var (get_or Q.env x.first unbound) st.next) (sym q.node_is)

  -- its two numbers
  module _ (k : ℕ) (ek : k ≡ binders_at + slot st.scope i) where
    abbrev t : ℕ
    t = get_or w k 0

    abbrev place : ℕ
    place = get_or w (k + 1) 0

    pub var-at : BoundAt Q.table Q.store.stack t place b
    var-at =
        let (h₁, h₂) = var_scope in
        let c = Q.binds.count in
        let L = Q.holds.binders in
        let e₁ : get_or w (binders_at + slot st.scope i) 0 ≡ get_or Q.store.binders (slot st.scope i) 0 = L.here (slot st.scope i) (omega arith) in
        let e₂ : get_or w (binders_at + (slot st.scope i + 1)) 0 ≡ get_or Q.store.binders (slot st.scope i + 1) 0 = L.here (slot st.scope i + 1) (omega arith) in
        let e₃ : k + 1 ≡ binders_at + (slot st.scope i + 1) = omega arith in
        rw (e₃, e₂, ek, e₁) (Q.binds.each i h₁)

    abbrev pub var-named : KnownType s sizes t
    var-named = record { table = Q.table; knows = Q.knows; named = var-at.named }

    pub var-type : tree Q.table t ≡ Q.type
    var-type = sym var-at.type ∙ ap (λ (m : Made). m.type) (sym var-is) ∙ made_type Q.typed Q.env Q.fits st.next

    pub var-size : get_or sizes t 0 ≡ size (tree Q.table t)
    var-size = Q.knows.sized t var-at.named

    pub var-length : length b.side ≡ get_or sizes t 0
    var-length =
        ap (λ (m : Made). length m.side) (sym var-is) ∙ made_side Q.typed Q.env Q.fits st.next
        ∙ ap size (made_type Q.typed Q.env Q.fits st.next ∙ sym var-type) ∙ sym var-size

    pub var-room : (t < 256) × (st.top + get_or sizes t 0 ≤ 8448)
    var-room =
        let v = var in
        (omega (arith, var-at.named, Q.knows.ok.few), omega (arith, Q.deep, v.shallow, var-size, Q.knows.ok.small t))

    pub var-showable : (to : ℕ) → to ≡ stack_at + st.top → Showable s sizes (length w) to t place
    var-showable to et =
        let (r₁, r₂) = var-room in
        let z = var-size in
        record {
          known = var-named;
          room = omega (arith, Q.holds.size);
          points = λ h. ⊎_elim (λ p. omega (arith, p.place_is, p.few)) (λ p. absurd (omega (arith, p.place_is))) var-at.side;
          stack = λ h. ⊎_elim (λ p. absurd (h (omega (arith, p.place_is)))) (λ p. omega (arith, p.place_is, p.below, Q.top)) var-at.side;
        }

    -- what is shown is its interface
    pub var_shown : shown Q.table (get_or sizes t 0) w t place ≡ map code b.side
    unfolding shown
    var_shown = ⊎_elim points stack var-at.side
      where
        points : OfPoints (tree Q.table t) place b.side → cond (eqb (place % 2) 1) (face true (turns false (tree Q.table t)) (place / 2)) (region w (stack_at + place / 2) (get_or sizes t 0)) ≡ map code b.side
        points p =
            let e : place / 2 ≡ p.first = omega (arith, p.place_is) in
            rw (eq-eqb (place % 2) 1 (omega (arith, p.place_is)), e, p.shown) (face_out (turns false (tree Q.table t)) p.first)

        stack : OfStack Q.store.stack (tree Q.table t) place b.side → cond (eqb (place % 2) 1) (face true (turns false (tree Q.table t)) (place / 2)) (region w (stack_at + place / 2) (get_or sizes t 0)) ≡ map code b.side
        stack p =
            let e : place / 2 ≡ p.height = omega (arith, p.place_is) in
            let n = size (tree Q.table t) in
            let L = Q.holds.stack in
            let l₁ = region-length w (stack_at + p.height) n (omega (arith, p.below, L.fits, Q.holds.size)) in
            let l₂ = region-length Q.store.stack p.height n p.below in
            let same : region w (stack_at + p.height) n ≡ region Q.store.stack p.height n =
            ext_get_or 0 (region w (stack_at + p.height) n) (region Q.store.stack p.height n) (l₁ ∙ sym l₂)
            (λ j h. let e₁ : stack_at + p.height + j ≡ stack_at + (p.height + j) = omega arith in
            region-at w (stack_at + p.height) n j (omega arith) ∙ rw e₁ (L.here (p.height + j) (omega (arith, p.below))) ∙ sym (region-at Q.store.stack p.height n j (omega arith))) in
            rw (ne_eqb (place % 2) 1 (λ z. omega (arith, p.place_is)), e, var-size, p.shown) same

    var-low : All Low (map code b.side)
    var-low = ⊎_elim points stack var-at.side
      where
        points : OfPoints (tree Q.table t) place b.side → All Low (map code b.side)
        points p =
            rw (p.shown, ← face_out (turns false (tree Q.table t)) p.first)
            (face-low true (turns false (tree Q.table t)) p.first (omega (arith, p.few, turns-size false (tree Q.table t))))

        stack : OfStack Q.store.stack (tree Q.table t) place b.side → All Low (map code b.side)
        stack p =
            let n = size (tree Q.table t) in
            rw p.shown (low_of (region Q.store.stack p.height n)
            (λ j h. rw (region-at Q.store.stack p.height n j (omega (arith, region-length Q.store.stack p.height n p.below))) (low-at Q.store.stack Q.holds.low (p.height + j))))

    pub var-leaves : (to : ℕ) → to ≡ stack_at + st.top → (len : ℕ) → len ≡ get_or sizes t 0 → (w' : List ℕ) → w' ≡ sets w to (shown Q.table (get_or sizes t 0) w t place)
        → Leaves Q (record { past = node.next; ty = t; len = len; next = st.next; elements = st.elements; wires = st.wires }) w'
    var-leaves to et len el w' ew =
        let (r₁, r₂) = var-room in
        let l = var-length in
        let P = push_stack Q.holds (map code b.side) to (omega (arith, Q.top)) (omega (arith, Q.top, length-map b.side code)) var-low in
        record {
          holds = rw (ew, var_shown, var-is, append-nil, append-nil) P;
          past = ap (λ (x : Node). x.next) q.node_is ∙ sym var.bytes;
          named = var-at.named;
          type = var-type;
          len = el ∙ sym l ∙ ap (λ (m : Made). length m.side) (sym var-is);
          next = ap (λ (m : Made). m.next) (sym var-is);
          elements = omega (arith, ap (λ (m : Made). length m.elements) var-is);
          wires = omega (arith, ap (λ (m : Made). length m.wires) var-is);
        }

-- ---- a constant

module _ {s sizes w : List ℕ} {node : Node} {st : State} (q : Here s sizes w node st) (f : is_constant node.rule ≡ true) where
  abbrev C : Asks s sizes w q.at st
  C = q.asks

  con : Constant C.edition C.table s q.at st.next C.env C.term C.type
  con = constant s q.at st.next C.env C.typed C.ranged (rw q.node_is at f)

  abbrev inputs : ℕ
  inputs = (part_at node.first).inputs

  con-is : made_of C ≡ made_con (tree C.table node.second) node.first st.next
  con-is = con.makes ∙ ap (λ (x : Node). made_con (tree C.table x.second) x.first st.next) (sym q.node_is)

  pub con_room : (st.elements + 1 ≤ 5120) × (st.top + inputs < 8448) × (st.next + inputs < 8192) × (inputs ≤ 2)
  con_room = (
    omega (arith, C.few_elements, ap (λ (m : Made). length m.elements) con-is),
    omega (arith, C.deep, con.shallow, part-inputs node.first),
    omega (arith, C.few, ap (λ (m : Made). m.next) con-is),
    part-inputs node.first,
  )

  pub con_leaves : (k l : ℕ) → k ≡ inputs → l ≡ inputs + 1 → (w' : List ℕ) → w' ≡ sets (set w (elements_at + st.elements) node.first) (stack_at + st.top) (map code (part_side k st.next))
      → Leaves C (record { past = node.next; ty = node.second; len = l; next = st.next + l; elements = st.elements + 1; wires = st.wires }) w'
  con_leaves k l ek el w' ew =
      let (r₁, r₂, r₃, r₄) = con_room in
      let K = push_kinds C.holds (node.first ∷ []) (elements_at + st.elements) (omega (arith, C.elements)) (omega (arith, C.elements)) in
      let P = push_stack K (map code (part_side inputs st.next)) (stack_at + st.top) (omega (arith, C.top)) (omega (arith, C.top, part_length inputs st.next)) (part_low inputs st.next r₃) in
      let en = ap (λ (x : Node). x.second) q.node_is in
      record {
        holds = rw (ew, ek, con-is, append-nil) P;
        past = ap (λ (x : Node). x.next) q.node_is ∙ sym con.bytes;
        named = subst (λ (x : ℕ). x < length C.table) (sym en) con.named;
        type = subst (λ (x : ℕ). tree C.table x ≡ C.type) (sym en) con.is-type;
        len = el ∙ sym (part_length inputs st.next) ∙ length-map (part_side inputs st.next) code ∙ ap (λ (m : Made). length m.side) (sym con-is);
        next = omega (arith, el, ap (λ (m : Made). m.next) con-is);
        elements = omega (arith, ap (λ (m : Made). length m.elements) con-is);
        wires = omega (arith, ap (λ (m : Made). length m.wires) con-is);
      }

-- Turned bits: an arrow turns its left side, and no bit of a sharable type is turned. Assumes nothing.
use Prim.Native.Nat.{ℕ, ◌+◌, ◌*◌, ◌≤◌, ◌<◌}
use mathlib.Core.Path.{◌≡◌, refl, sym, ap, ap₂, ◌∙◌}
use mathlib.Core.Bool.{Bool, true, false, not}
use mathlib.Core.List.{List, ◌++◌}
use native.Mathlib.Omega.{arith}
use lib.Dec.{T}
use lib.ListN.{length, get_or, replicate, replicate-append-replicate}
use lib.Seq.{sets}
use Rattle.laws.proofs.Regions.{sets-append}
use Rattle.laws.proofs.Tests.{and_both, and_of}
use Rattle.calculus.specs.Types.{Ty, bit, prod, arrow, lolli, size, sharable, TyRec, rec01, rec02, rec03, rec04, Table, rec_at, tree}
use Rattle.sheet_theorems.specs.Laid.{Agrees, Below}
use Rattle.calculus.specs.Net.{turns}
use Rattle.records.specs.Forms.{rec_in}
use Rattle.circuit_theorems.proofs.Drivers.{turns_not, turns-size}
use Rattle.records.specs.TypeNumbers.{kind_no, left_no, right_no, sided_of}
use Rattle.records.specs.declared.Sided.{Sided}
use Rattle.wiring.specs.Sides.{Knows, KnownType, Arrow, face}
use Rattle.wiring.proofs.RunLaws.{face-length, face-append, face-turned}

-- ---- type records

-- type t is an arrow from l to r
pub record ArrowAt (Θ : Table) (t l r : ℕ) : Type 0 where
  pub left : l < t
  pub right : r < t
  pub turn : turns false (tree Θ t) ≡ turns true (tree Θ l) ++ turns false (tree Θ r)
  pub sum : size (tree Θ t) ≡ size (tree Θ l) + size (tree Θ r)

arrow_of_lem : (Θ : Table) (t : ℕ) (q : TyRec) → Agrees Θ q (tree Θ t) → Below t q → 2 < kind_no q → ArrowAt Θ t (left_no q) (right_no q)
arrow_of_lem Θ t rec01 a b e = absurd (omega (arith, e))
arrow_of_lem Θ t (rec02 l r) a b e = absurd (omega (arith, e))
arrow_of_lem Θ t (rec03 l r) a b e = record { left = b.0; right = b.1; turn = ap (turns false) a.0; sum = ap size a.0 }
arrow_of_lem Θ t (rec04 l r) a b e = record { left = b.0; right = b.1; turn = ap (turns false) a.0; sum = ap size a.0 }

-- no bit of a sharable type is turned
sharable-turns : (τ : Ty) → T (sharable τ) → turns false τ ≡ replicate (size τ) false
sharable-turns bit h = refl
sharable-turns (prod a b) h =
    let (p, q) = and_both (sharable a) (sharable b) h in
    ap₂ ◌++◌ (sharable-turns a p) (sharable-turns b q) ∙ replicate-append-replicate (size a) (size b) false
sharable-turns (arrow a b) h = absurd h
sharable-turns (lolli a b) h = absurd h

flat_of : (Θ : Table) (t : ℕ) (q : TyRec) → Agrees Θ q (tree Θ t) → kind_no q ≤ 2 → T (sharable (tree Θ t))
flat_of Θ t rec01 a e = rw a tt
flat_of Θ t (rec02 l r) a e = rw a.0 (and_of (sharable (tree Θ l)) (sharable (tree Θ r)) a.1 a.2)
flat_of Θ t (rec03 l r) a e = absurd (omega (arith, e))
flat_of Θ t (rec04 l r) a e = absurd (omega (arith, e))

module _ {s sizes : List ℕ} {Θ : Table} (K : Knows s sizes Θ) {t : ℕ} (h : t < length Θ) {x : Sided} (e : x ≡ sided_of (rec_in s t)) where
  sides-rec : x ≡ sided_of (rec_at Θ t)
  sides-rec = e ∙ ap sided_of (K.records t h)

  pub arrow_at_lem : 2 < x.kind → ArrowAt Θ t x.left x.right
  unfolding sided_of
  arrow_at_lem a = rw sides-rec (arrow_of_lem Θ t (rec_at Θ t) (K.ok.agrees t) (K.ok.earlier t h) (rw sides-rec at a))

  pub flat-turns : x.kind ≤ 2 → turns false (tree Θ t) ≡ replicate (get_or sizes t 0) false
  unfolding sided_of
  flat-turns a = sharable-turns (tree Θ t) (flat_of Θ t (rec_at Θ t) (K.ok.agrees t) (rw sides-rec at a)) ∙ ap (λ (k : ℕ). replicate k false) (sym (K.sized t h))

-- ---- the interface of an arrow

abbrev pub an_arrow : {s sizes : List ℕ} {x : Sided} {room to n t : ℕ} → KnownType s sizes t → x ≡ sided_of (rec_in s t) → 2 < x.kind → to + get_or sizes t 0 ≤ room → n + 2 * get_or sizes t 0 ≤ 8192
    → Arrow s sizes x room to n
an_arrow {t = t} k e a r f = record { type = t; known = k; sides_are = e; arrow = a; room = r; few = f }

module _ {s sizes : List ℕ} {x : Sided} {room to n : ℕ} (q : Arrow s sizes x room to n) where
  pub sides : ArrowAt q.known.table q.type x.left x.right
  sides = arrow_at_lem q.known.knows q.known.named q.sides_are q.arrow

  pub left-named : x.left < length q.known.table
  left-named = omega (arith, sides.left, q.known.named)

  pub right-named : x.right < length q.known.table
  right-named = omega (arith, sides.right, q.known.named)

  abbrev pub left-known : KnownType s sizes x.left
  left-known = record { table = q.known.table; knows = q.known.knows; named = left-named }

  abbrev pub right-known : KnownType s sizes x.right
  right-known = record { table = q.known.table; knows = q.known.knows; named = right-named }

  -- the room of an arrow is that of its two sides
  pub both-sizes : get_or sizes q.type 0 ≡ get_or sizes x.left 0 + get_or sizes x.right 0
  both-sizes =
      let k = q.known.knows in
      k.sized q.type q.known.named ∙ sides.sum ∙ sym (ap₂ ◌+◌ (k.sized x.left left-named) (k.sized x.right right-named))

  -- the left side's other interface is stored, and then the right side's behind it
  pub arrow_face : (output : Bool) {l : ℕ} (w : List ℕ) {w₁ w₂ : List ℕ} → l ≡ get_or sizes x.left 0
      → w₁ ≡ sets w to (face (not output) (turns false (tree q.known.table x.left)) n)
      → w₂ ≡ sets w₁ (to + l) (face output (turns false (tree q.known.table x.right)) (n + 2 * l))
      → w₂ ≡ sets w to (face output (turns false (tree q.known.table q.type)) n)
  arrow_face output {l} w {w₁} {w₂} el e₁ e₂ =
      let α = tree q.known.table x.left in
      let bs = turns true α in
      let cs = turns false (tree q.known.table x.right) in
      let other : face output bs n ≡ face (not output) (turns false α) n = ap (λ (ts : List Bool). face output ts n) (turns_not false α) ∙ face-turned output (turns false α) n in
      let size-left : length bs ≡ l = turns-size true α ∙ sym (q.known.knows.sized x.left left-named) ∙ sym el in
      let face-left = face-length output bs n ∙ size-left in
      rw (sides.turn, face-append output bs cs n, ← sets-append (face output bs n) (face output cs (n + 2 * length bs)) w to, face-left, size-left, other, ← e₁) e₂

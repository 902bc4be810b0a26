-- An interface side by side: of an arrow one side is made and the other is due; at the end no bit is turned. Assumes nothing.
use Prim.Native.Nat.{ℕ, ◌+◌, ◌*◌, ◌≤◌, ◌<◌}
use mathlib.Core.Path.{◌≡◌, refl, sym, ap, ◌∙◌}
use mathlib.Core.Bool.{Bool, false, not}
use mathlib.Core.List.{List}
use native.Mathlib.Omega.{arith}
use lib.ListN.{length, get_or, replicate}
use lib.Seq.{sets}
use Rattle.laws.proofs.Regions.{sets_comm}
use Rattle.calculus.specs.Types.{tree}
use Rattle.calculus.specs.Net.{turns}
use Rattle.circuit_theorems.proofs.Drivers.{turns-size}
use Rattle.records.specs.Forms.{rec_in}
use Rattle.records.specs.TypeNumbers.{sided_of}
use Rattle.records.specs.declared.Sided.{Sided}
use Rattle.wiring.specs.declared.faces.Due.{Due}
use Rattle.wiring.specs.Sides.{KnownType, Arrow, StillDue, face}
use Rattle.wiring.proofs.RunLaws.{face-length}
use Rattle.wiring.proofs.TurnLaws.{flat-turns, an_arrow, sides, left-named, both-sizes, arrow_face}

-- ---- one side is made

module _ {s sizes : List ℕ} {x : Sided} {room : ℕ} (d : Due) (q : Arrow s sizes x room d.to d.n) {l : ℕ} (el : l ≡ get_or sizes x.left 0) (w : List ℕ) {w₁ : List ℕ} where
  pub left-made : w₁ ≡ sets w d.to (face (not d.output) (turns false (tree q.known.table x.left)) d.n)
      → StillDue q d (record { ty = x.right; to = d.to + l; n = d.n + 2 * l; output = d.output }) w w₁
  left-made e =
      let b = both-sizes q in
      record { lower = (sides q).right; fits = omega arith; few = omega arith; rest = arrow_face q d.output w el e refl }

  pub right-made : w₁ ≡ sets w (d.to + l) (face d.output (turns false (tree q.known.table x.right)) (d.n + 2 * l))
      → StillDue q d (record { ty = x.left; to = d.to; n = d.n; output = not d.output }) w w₁
  right-made e =
      let b = both-sizes q in
      let A = face (not d.output) (turns false (tree q.known.table x.left)) d.n in
      let size-left : length A ≡ l = face-length (not d.output) (turns false (tree q.known.table x.left)) d.n ∙ turns-size false (tree q.known.table x.left) ∙ sym (q.known.knows.sized x.left (left-named q)) ∙ sym el in
      record {
        lower = (sides q).left;
        fits = omega arith;
        few = omega arith;
        rest = ap (λ (v : List ℕ). sets v d.to A) e ∙ sym (sets_comm (face d.output (turns false (tree q.known.table x.right)) (d.n + 2 * l)) A w d.to (d.to + l) (omega arith)) ∙ arrow_face q d.output w el refl refl;
      }

-- ---- what is known while a type's interface is made: once that of what is due stands too, all does

pub record Making {s sizes : List ℕ} {t : ℕ} (q : KnownType s sizes t) (to n : ℕ) (output : Bool) (w₀ w : List ℕ) (d : Due) (x : Sided) : Type 0 where
  pub named : d.ty < length q.table
  pub low : d.ty ≤ t
  pub sides_are : x ≡ sided_of (rec_in s d.ty)
  pub fits : d.to + get_or sizes d.ty 0 ≤ to + get_or sizes t 0
  pub few : d.n + 2 * get_or sizes d.ty 0 ≤ n + 2 * get_or sizes t 0
  pub rest : sets w d.to (face d.output (turns false (tree q.table d.ty)) d.n) ≡ sets w₀ to (face output (turns false (tree q.table t)) n)

pub all-due : {s sizes : List ℕ} {t : ℕ} (q : KnownType s sizes t) (to n : ℕ) (output : Bool) (w : List ℕ) {x : Sided} → x ≡ sided_of (rec_in s t)
    → Making q to n output w w (record { ty = t; to = to; n = n; output = output }) x
all-due q to n output w e = record { named = q.named; low = omega arith; sides_are = e; fits = omega arith; few = omega arith; rest = refl }

module _ {s sizes : List ℕ} {t : ℕ} {q : KnownType s sizes t} {to n : ℕ} {output : Bool} {w₀ w : List ℕ} {d : Due} {x : Sided} (M : Making q to n output w₀ w d x) where
  abbrev pub due_arrow : 2 < x.kind → to + get_or sizes t 0 ≤ length w → n + 2 * get_or sizes t 0 ≤ 8192 → Arrow s sizes x (length w) d.to d.n
  due_arrow a r f = an_arrow (record { table = q.table; knows = q.knows; named = M.named }) M.sides_are a (due-room r) (due-few f)
    where
      due-room : to + get_or sizes t 0 ≤ length w → d.to + get_or sizes d.ty 0 ≤ length w
      due-room r = omega (arith, M.fits)

      due-few : n + 2 * get_or sizes t 0 ≤ 8192 → d.n + 2 * get_or sizes d.ty 0 ≤ 8192
      due-few f = omega (arith, M.few)

  pub due-next : (a : 2 < x.kind) (r : to + get_or sizes t 0 ≤ length w) (f : n + 2 * get_or sizes t 0 ≤ 8192) {d' : Due} {x' : Sided} {w' : List ℕ} → StillDue (due_arrow a r f) d d' w w' → x' ≡ sided_of (rec_in s d'.ty)
      → Making q to n output w₀ w' d' x'
  due-next a r f D e = record {
    named = omega (arith, D.lower, M.named);
    low = omega (arith, D.lower, M.low);
    sides_are = e;
    fits = omega (arith, D.fits, M.fits);
    few = omega (arith, D.few, M.few);
    rest = D.rest ∙ M.rest;
  }

  pub due-done : x.kind ≤ 2 → {m : ℕ} {w' : List ℕ} → m ≡ get_or sizes d.ty 0 → w' ≡ sets w d.to (face d.output (replicate m false) d.n)
      → w' ≡ sets w₀ to (face output (turns false (tree q.table t)) n)
  due-done a em e =
      e ∙ ap (λ (bs : List Bool). sets w d.to (face d.output bs d.n)) (ap (λ (k : ℕ). replicate k false) em ∙ sym (flat-turns q.knows M.named M.sides_are a)) ∙ M.rest

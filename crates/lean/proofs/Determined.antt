-- Each public function's contract determines its result, and the memory or the output that it writes: two results that it allows for one
-- call are equal. Of `make_lean` it determines the netlist that stands in the memory, and not the numbers that no reader looks at. Assumes nothing.
use mathlib.Core.Path.{◌≡◌, ap, sym, ◌∙◌}
use mathlib.Core.Bool.{cond}
use mathlib.Core.List.{List}
use Prim.Native.Nat.{ℕ, ◌+◌, ◌-◌, ◌<◌}
use native.Mathlib.Omega.{arith}
use native.Mathlib.Decide.{ℕ_discrete, dec_le}
use lib.ListN.{get_or}
use lib.Seq.{ext_get_or}
use contract.Lifetimes.{Lfts}
use denote.Triple.Clauses.{AtExit}
use borrow.Fn.Kinds.{Dens, res_t, ended_of}
use Rattle.laws.proofs.OneResult.{Result, Results}
use Rattle.calculus.specs.Net.{Net}
use Rattle.calculus.specs.Lean.{root}
use Rattle.calculus.specs.Inputs.{is_out}
use Rattle.memory.specs.Map.{roots_at, roots_end}
use Rattle.lean.specs.Table.{entry, Rooted}
use Rattle.lean.specs.Layout.{lean_in, Passed}
use Rattle.lean.proofs.roots.Kinds as roots
use Rattle.lean.proofs.roots.Reads as roots-reads
use Rattle.lean.proofs.make_lean.Kinds as make-lean
use Rattle.lean.proofs.make_lean.Reads as make-lean-reads
use Rattle.lean.proofs.pass.behind.Kinds as behind
use Rattle.lean.proofs.pass.behind.Reads as behind-reads
use Rattle.lean.proofs.pass.first_of.Kinds as first_of
use Rattle.lean.proofs.pass.first_of.Reads as first-of-reads
use Rattle.lean.proofs.lean_length.Kinds as lean-length
use Rattle.lean.proofs.lean_length.Reads as lean-length-reads
use Rattle.lean.proofs.write_lean.Kinds as write-lean
use Rattle.lean.proofs.write_lean.Reads as write-lean-reads

-- below the table, in it, and above it
one_memory : (w u v : List ℕ) (e k p : ℕ) → Rooted w u e k p → Rooted w v e k p → u ≡ v
one_memory w u v e k p a b = ext_get_or 0 u v (a.within.size ∙ sym b.within.size) (λ i _. at i)
  where
    inside : (x : ℕ) → x < 8192 → entry u x ≡ entry v x
    inside x h =
        a.whole.table x h ∙ ap (λ (m : Net). cond (is_out m.elements x) (root m x) 0) (a.net ∙ sym b.net) ∙ sym (b.whole.table x h)

    at : (i : ℕ) → get_or u i 0 ≡ get_or v i 0
    at i =
        elim (dec_le roots_at i) [
          | no l ↦ a.within.below i (omega arith) ∙ sym (b.within.below i (omega arith))
          | yes l ↦ elim (dec_le roots_end i) [
            | yes h ↦ a.within.above i h ∙ sym (b.within.above i h)
            | no h ↦ let z : roots_at + (i - roots_at) ≡ i = omega arith in rw z at (inside (i - roots_at) (omega arith))
          ]
        ]

pub roots_determined : Results roots.ps roots.r roots-reads.Post (λ κs s. s.0.now)
roots_determined κs a x y s t f g = (f.0 ∙ sym g.0, one_memory _ _ _ _ _ _ f.1 g.1)

pub make_lean_determined : (κs : Lfts 1) (a : Dens κs make-lean.ps) (x y : (res_t make-lean.r κs).Denot) (s t : AtExit (ended_of 1 make-lean.ps make-lean.r) κs)
    → make-lean-reads.Post κs a x s → make-lean-reads.Post κs a y t → lean_in s.0.now x a.1.1.1.0 ≡ lean_in t.0.now y a.1.1.1.0
make_lean_determined κs a x y s t f g = f.net ∙ sym g.net

pub first_of_determined : Result first_of.ps first_of.r first-of-reads.Post
first_of_determined κs a x y s t f g = f ∙ sym g

one_passed : (w : List ℕ) (x y z : ℕ) → Passed w x y → Passed w x z → y ≡ z
one_passed w x y z a b =
    let ar = a.rises in
    let af = a.few in
    let br = b.rises in
    let bf = b.few in
    elim (ℕ_discrete y (x + 2)) [
      | yes e ↦ (elim (ℕ_discrete z (x + 2)) [
        | yes f ↦ omega arith
        | no f ↦ absurd (omega (arith, a.output e, b.input (omega arith)))
      ])
      | no e ↦ (elim (ℕ_discrete z (x + 2)) [
        | yes f ↦ absurd (omega (arith, a.input (omega arith), b.output f))
        | no f ↦ omega arith
      ])
    ]

pub behind-determined : Result behind.ps behind.r behind-reads.Post
behind-determined κs a x y s t f g = one_passed _ _ _ _ f g

pub lean_length_determined : Result lean-length.ps lean-length.r lean-length-reads.Post
lean_length_determined κs a x y s t f g = f ∙ sym g

pub write_lean_determined : Results write-lean.ps write-lean.r write-lean-reads.Post (λ κs s. s.1.0.now)
write_lean_determined κs a x y s t f g = (f.0 ∙ sym g.0, f.1 ∙ sym g.1)

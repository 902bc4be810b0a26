-- Laws of `rec_in`: the record of a type by its number. Assumes nothing.
use mathlib.Core.Path.{◌≡◌, refl, ap, sym, ◌∙◌}
use mathlib.Core.Bool.{cond}
use mathlib.Core.List.{List, map}
use Prim.Native.Nat.{ℕ, zero, suc, ◌+◌, ◌*◌, ◌-◌, ◌≤◌, ◌<◌}
use native.Mathlib.Omega.{arith}
use borrow.Author.Tests.{lt-ltb, le-ltb, ne_eqb}
use native.Mathlib.Decide.{dec_lt}
use lib.Dec.{eqb}
use lib.ListN.{length, get_or, get_or-map, get_or-eq_default}
use Rattle.std.specs.declared.option.Option.{Option}
use Rattle.std.specs.declared.option.Option.TheVariants.{Some, None}
use Rattle.laws.proofs.Runs.{run_at, past}
use Rattle.laws.proofs.Tests.{by_eqb}
use Rattle.calculus.specs.Types.{TyRec, rec01, rec02, rec03, rec04}
use Rattle.records.specs.Record.{shapes, shape_of, form_of}
use Rattle.records.specs.Forms.{said_form, rec_of, rec_from, rec_in}
use Rattle.records.specs.declared.TypeRule.{TypeRule}
use Rattle.records.specs.declared.Rule.{Rule}
use Rattle.records.specs.declared.Shape.{Shape}
use Rattle.records.specs.declared.Shape.TheVariants as shape

pub rec-first : (s : List ℕ) (t : ℕ) → t ≡ 0 → rec01 ≡ rec_in s t
unfolding rec_in
rec-first s t e = rw e

pub rec-later : (s : List ℕ) (t at : ℕ) → ¬ (t ≡ 0) → at ≡ 3 * t - 2 → rec_in s t ≡ rec_from s at
unfolding rec_in
rec-later s zero at d e = absurd (d refl)
rec-later s (suc t) at d e = let f : 3 * t + 1 ≡ at = omega arith in ap (rec_from s) f

pub rec-short : (s : List ℕ) (at : ℕ) → length s < at + 3 → rec_from s at ≡ rec01
rec-short s at h = rw (lt-ltb (length s) (at + 3) h)

pub rec-long : (s : List ℕ) (at : ℕ) → at + 3 ≤ length s → rec_from s at ≡ rec_of (get_or s at 0) (get_or s (at + 1) 0) (get_or s (at + 2) 0)
rec-long s at h = rw (le-ltb (length s) (at + 3) h)

-- by the number as the code widens it
module _ (s : List ℕ) (t w : ℕ) (d : ¬ (t ≡ 0)) (same : w ≡ t) where
  pub type_short : length s < 3 * w - 2 + 3 → rec01 ≡ rec_in s t
  type_short h = sym (rec-later s t (3 * w - 2) d (ap (λ (x : ℕ). 3 * x - 2) same) ∙ rec-short s (3 * w - 2) h)

  pub type_long : (k : ℕ) (q : TyRec) → 3 * w - 2 + 3 ≤ length s → get_or s (3 * w - 2) 0 ≡ k
      → rec_of k (get_or s (3 * w - 2 + 1) 0) (get_or s (3 * w - 2 + 2) 0) ≡ q → q ≡ rec_in s t
  type_long k q h e f = sym (rec-later s t (3 * w - 2) d (ap (λ (x : ℕ). 3 * x - 2) same) ∙ rec-long s (3 * w - 2) h ∙ rw e f)

-- any kind but 02, 03 and 04
rec-bit : (k a b : ℕ) → ¬ (k ≡ 2) → ¬ (k ≡ 3) → ¬ (k ≡ 4) → rec_of k a b ≡ rec01
rec-bit k a b x y z = rw (ne_eqb k 2 x, ne_eqb k 3 y, ne_eqb k 4 z)

-- ---- by the rule that the kind fixes

abbrev ruled : ℕ → ℕ → Option Shape → TyRec
ruled a b (Some (shape.Type n u)) = said_form (form_of u a b)
ruled a b (Some (shape.Node n m u)) = rec01
ruled a b None = rec01

rest-bit : (k a b : ℕ) → ¬ (k ≡ 2) → ¬ (k ≡ 3) → ¬ (k ≡ 4) → get_or (map (ruled a b) shapes) k rec01 ≡ rec01
rest-bit k a b x y z =
    elim (dec_lt k 2) [
      | yes h ↦ run_at (map (ruled a b) shapes) 0 2 rec01 rec01 refl k (omega arith) h
      | no h ↦ elim (dec_lt k 28) [
        | yes l ↦ run_at (map (ruled a b) shapes) 5 23 rec01 rec01 refl k (past (past (past (omega arith) x) y) z) l
        | no l ↦ get_or-eq_default (map (ruled a b) shapes) rec01 {n = k} (omega arith)
      ]
    ]

ruled_by : (k a b : ℕ) → get_or (map (ruled a b) shapes) k rec01 ≡ rec_of k a b
ruled_by k a b =
    by_eqb (λ x. get_or (map (ruled a b) shapes) k rec01 ≡ cond x (rec02 a b) (cond (eqb k 3) (rec03 a b) (cond (eqb k 4) (rec04 a b) rec01))) k 2 (λ e. rw e) λ x.
    by_eqb (λ t. get_or (map (ruled a b) shapes) k rec01 ≡ cond t (rec03 a b) (cond (eqb k 4) (rec04 a b) rec01)) k 3 (λ e. rw e) λ y.
    by_eqb (λ t. get_or (map (ruled a b) shapes) k rec01 ≡ cond t (rec04 a b) rec01) k 4 (λ e. rw e) λ z.
    rest-bit k a b x y z

rec-ruled : (k a b : ℕ) → ruled a b (shape_of k) ≡ rec_of k a b
unfolding shape_of
rec-ruled k a b = sym (get_or-map (ruled a b) shapes k None) ∙ ruled_by k a b

pub rec_type : (k a b : ℕ) {n : ℕ} {u : TypeRule} → shape_of k ≡ Some (shape.Type n u) → rec_of k a b ≡ said_form (form_of u a b)
rec_type k a b e = sym (rec-ruled k a b) ∙ ap (ruled a b) e

pub rec-node : (k a b : ℕ) {n m : ℕ} {u : Rule} → shape_of k ≡ Some (shape.Node n m u) → rec_of k a b ≡ rec01
rec-node k a b e = sym (rec-ruled k a b) ∙ ap (ruled a b) e

pub rec-none : (k a b : ℕ) → shape_of k ≡ None → rec_of k a b ≡ rec01
rec-none k a b e = sym (rec-ruled k a b) ∙ ap (ruled a b) e

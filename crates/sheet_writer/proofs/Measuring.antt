-- The measure of a term is its record's and those of its subterms. Assumes nothing.
use Prim.Native.Nat.{ℕ, ◌+◌, ◌≤◌, ◌<◌}
use mathlib.Core.Path.{◌≡◌, ap}
use mathlib.Core.List.{List, ◌++◌}
use native.Mathlib.Omega.{arith}
use lib.ListN.{length, length-append}
use Rattle.calculus.specs.Write.{term_bytes}
use Rattle.sheet_writer.specs.Bytes.{node_kind_in, node_left_in, node_right_in, node_record, body_bytes, subterm_count}
use Rattle.sheet_writer.specs.Wrote.{TermStands, Measures}
use Rattle.sheet_writer.specs.declared.Span.{Span}
use Rattle.sheet_writer.proofs.Views.{view_leaf, view_one, view-two, view_first, record_length, at_most_three}

module _ (w : List ℕ) (k : ℕ) where
  -- what stands below
  pub first-stands : TermStands w k → (subterm_count (node_kind_in w k) ≡ 0 → ⊥) → (left : ℕ) → left ≡ node_left_in w k → (left < k) × TermStands w left
  first-stands S c left e =
      let v = view_first S.stands c in
      let b = v.below in
      let l = S.low in
      let f = S.few in
      rw e (b, record { size = S.size; low = omega arith; term = v.sub; places = v.rest; stands = v.stands; few = omega (arith, ap length v.places, length-append v.rest v.more) })

  pub second-stands : TermStands w k → (subterm_count (node_kind_in w k) ≡ 0 → ⊥) → (subterm_count (node_kind_in w k) ≡ 1 → ⊥) → (right : ℕ) → right ≡ node_right_in w k → (right < k) × TermStands w right
  second-stands S c d right e =
      let v = view-two S.stands c d in
      let b = v.below_too in
      let l = S.low in
      let f = S.few in
      rw e (b, record { size = S.size; low = omega arith; term = v.second; places = v.more; stands = v.stands_too; few = omega (arith, ap length v.places, length-append v.rest v.more) })

  -- a measure is small
  pub small_span : TermStands w k → (r : Span) → Measures w k r → (r.bytes ≤ 6144) × (r.nodes ≤ 2048)
  small_span S r M =
      let m = M.says S.term S.places S.stands in
      let b = at_most_three S.stands in
      let f = S.few in
      (omega (arith, m.0), omega (arith, m.1))

  module _ (own : ℕ) (o : own ≡ body_bytes (node_kind_in w k) + 1) where
    pub measure-leaf : subterm_count (node_kind_in w k) ≡ 0 → Measures w k (record { bytes = own; nodes = 1 })
    measure-leaf c = record {
      says = λ e ps t. let v = view_leaf t c in (omega (arith, ap length v.bytes, record_length w k), omega (arith, ap length v.places));
    }

    pub measure-one : subterm_count (node_kind_in w k) ≡ 1 → (left : ℕ) → left ≡ node_left_in w k → (a : Span) → Measures w left a → Measures w k (record { bytes = own + a.bytes; nodes = 1 + a.nodes })
    measure-one c left l a M = record {
      says = λ e ps t.
          let v = view_one t c in
          let m = M.says v.sub v.rest (rw l v.stands) in
          (omega (arith, m.0, ap length v.bytes, length-append (node_record w k) (term_bytes v.sub), record_length w k), omega (arith, m.1, ap length v.places));
    }

    pub measure-two :
        (subterm_count (node_kind_in w k) ≡ 0 → ⊥) → (subterm_count (node_kind_in w k) ≡ 1 → ⊥) → (left right : ℕ) → left ≡ node_left_in w k → right ≡ node_right_in w k
        → (a b : Span) → Measures w left a → Measures w right b → Measures w k (record { bytes = own + a.bytes + b.bytes; nodes = 1 + a.nodes + b.nodes })
    measure-two c d left right l r a b M N = record {
      says = λ e ps t.
          let v = view-two t c d in
          let m = M.says v.first v.rest (rw l v.stands) in
          let n = N.says v.second v.more (rw r v.stands_too) in (
            omega (arith, m.0, n.0, ap length v.bytes, length-append (node_record w k) (term_bytes v.first ++ term_bytes v.second), length-append (term_bytes v.first) (term_bytes v.second), record_length w k),
            omega (arith, m.1, n.1, ap length v.places, length-append v.rest v.more),
          );
    }

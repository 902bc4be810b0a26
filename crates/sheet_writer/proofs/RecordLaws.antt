-- A node's record, by the number of its body bytes. Assumes nothing.
use Prim.Native.Nat.{ℕ}
use mathlib.Core.Path.{◌≡◌}
use mathlib.Core.List.{List, [], ◌∷◌}
use native.Mathlib.Omega.{arith}
use borrow.Author.Tests.{ne_eqb}
use Rattle.sheet_writer.specs.Bytes.{node_kind_in, node_body_in, node_left_in, body_bytes, node_record}
use Rattle.sheet_writer.proofs.Views.{body_most}

module _ (w : List ℕ) (k : ℕ) where
  pub body-none : body_bytes (node_kind_in w k) ≡ 0 → node_record w k ≡ node_kind_in w k ∷ []
  body-none e = rw e

  pub body_one : body_bytes (node_kind_in w k) ≡ 1 → node_record w k ≡ node_kind_in w k ∷ node_body_in w k ∷ []
  body_one e = rw e

  pub body_more : (body_bytes (node_kind_in w k) ≡ 0 → ⊥) → (body_bytes (node_kind_in w k) ≡ 1 → ⊥) → node_record w k ≡ node_kind_in w k ∷ node_body_in w k ∷ node_left_in w k ∷ []
  body_more c d = rw (ne_eqb (body_bytes (node_kind_in w k)) 0 c, ne_eqb (body_bytes (node_kind_in w k)) 1 d)

  pub two-more : (body_bytes (node_kind_in w k) ≡ 0 → ⊥) → (body_bytes (node_kind_in w k) ≡ 1 → ⊥) → body_bytes (node_kind_in w k) ≡ 2
  two-more c d = let m = body_most (node_kind_in w k) in omega arith

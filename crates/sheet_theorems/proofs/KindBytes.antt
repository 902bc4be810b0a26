-- The kind byte: each kind has one, and a byte that gives the kind is that one. Assumes nothing.
use Prim.Native.Nat.{ℕ, ◌≤◌}
use mathlib.Core.Path.{◌≡◌, refl, sym, subst, subst⁻¹}
use mathlib.Core.Bool.{Bool, true}
use native.Mathlib.Omega.{arith}
use native.Mathlib.Decide.{dec_lt}
use lib.Dec.{T, eqb, eqb→eq}
use lib.ListN.{get_or-eq_default}
use Rattle.laws.proofs.Below.{below}
use Rattle.calculus.specs.Read.{Kind, unknown, type, node, TypeKind, k01, k02, k03, k04, NodeKind, k11, k12, k13, k14, k15, k16, k17, k18, k19, k1A, k1B, kinds, kind_of}

abbrev pub type_byte : TypeKind → ℕ
type_byte k01 = 0x01
type_byte k02 = 0x02
type_byte k03 = 0x03
type_byte k04 = 0x04

abbrev pub node_byte : NodeKind → ℕ
node_byte k11 = 0x11
node_byte k12 = 0x12
node_byte k13 = 0x13
node_byte k14 = 0x14
node_byte k15 = 0x15
node_byte k16 = 0x16
node_byte k17 = 0x17
node_byte k18 = 0x18
node_byte k19 = 0x19
node_byte k1A = 0x1A
node_byte k1B = 0x1B

abbrev fits : Kind → ℕ → Bool
fits unknown b = true
fits (type k) b = eqb (type_byte k) b
fits (node k) b = eqb (node_byte k) b

fits_all : (b : ℕ) → T (fits (kind_of b) b)
fits_all b = elim (dec_lt b 28) [
  | yes h ↦ below 28 (λ b. fits (kind_of b) b) tt b h
  | no h ↦ subst⁻¹ (λ (k : Kind). T (fits k b)) (get_or-eq_default kinds unknown {n = b} (omega arith)) tt
]

pub type_byte_lem : (b : ℕ) (k : TypeKind) → kind_of b ≡ type k → b ≡ type_byte k
type_byte_lem b k e = sym (eqb→eq (type_byte k) b (subst (λ (k : Kind). T (fits k b)) e (fits_all b)))

pub node-byte : (b : ℕ) (k : NodeKind) → kind_of b ≡ node k → b ≡ node_byte k
node-byte b k e = sym (eqb→eq (node_byte k) b (subst (λ (k : Kind). T (fits k b)) e (fits_all b)))

pub type_kind : (k : TypeKind) → kind_of (type_byte k) ≡ type k
type_kind k01 = refl
type_kind k02 = refl
type_kind k03 = refl
type_kind k04 = refl

pub node-kind : (k : NodeKind) → kind_of (node_byte k) ≡ node k
node-kind k11 = refl
node-kind k12 = refl
node-kind k13 = refl
node-kind k14 = refl
node-kind k15 = refl
node-kind k16 = refl
node-kind k17 = refl
node-kind k18 = refl
node-kind k19 = refl
node-kind k1A = refl
node-kind k1B = refl

pub node_range : (k : NodeKind) → (0x11 ≤ node_byte k) × (node_byte k ≤ 0x1B)
node_range k11 = omega arith
node_range k12 = omega arith
node_range k13 = omega arith
node_range k14 = omega arith
node_range k15 = omega arith
node_range k16 = omega arith
node_range k17 = omega arith
node_range k18 = omega arith
node_range k19 = omega arith
node_range k1A = omega arith
node_range k1B = omega arith

-- Before the first subterm: whether or not a binder is opened, the subterm may be walked. Assumes nothing.
use Prim.Native.Nat.{ℕ}
use mathlib.Core.Path.{◌≡◌, subst, subst⁻¹}
use mathlib.Core.List.{List}
use Rattle.laws.proofs.Tests.{by_eqb}
use Rattle.records.specs.declared.Node.{Node}
use Rattle.wiring.specs.declared.walk.State.{State}
use Rattle.wiring.specs.declared.walk.Built.{Built}
use Rattle.wiring.specs.Asks.{Asks, Here, Leaves, Entered}
use Rattle.wiring.proofs.OneLaws.{body-asks}
use Rattle.wiring.proofs.TwoLaws.{first-asks}

module _ {s sizes w : List ℕ} {node : Node} {st : State} (h : Here s sizes w node st) {r : State} {w₁ : List ℕ} (E : Entered h r w₁) where
  pub subterm_asks : ((node.subterms ≡ 1 → ⊥) → node.subterms ≡ 2) → Asks s sizes w₁ node.next r
  subterm_asks two =
      by_eqb (λ b. Asks s sizes w₁ node.next r) node.subterms 1 (λ one. body-asks h one (E.one one))
      (λ d. subst (λ (v : List ℕ). Asks s sizes v node.next r) (E.more d).1 (subst (λ (x : State). Asks s sizes w node.next x) (E.more d).0 (first-asks h (two d))))

  -- what the first of two subterms leaves
  pub first-leaves : (node.subterms ≡ 1 → ⊥) → (f : Built) (w₂ : List ℕ) → ((q : Asks s sizes w₁ node.next r) → Leaves q f w₂) → (q : Asks s sizes w node.next st) → Leaves q f w₂
  first-leaves d f w₂ L =
      subst⁻¹ (λ (x : State). (q : Asks s sizes w node.next x) → Leaves q f w₂) (E.more d).0
      (subst⁻¹ (λ (v : List ℕ). (q : Asks s sizes v node.next r) → Leaves q f w₂) (E.more d).1 L)

-- The first record of a term's place, and its subterms' number. Assumes nothing.
use Prim.Native.Nat.{ℕ, ◌≤◌, ◌<◌}
use mathlib.Core.Bool.{true}
use mathlib.Core.Path.{◌≡◌, refl, ap, ◌∙◌}
use mathlib.Core.List.{List}
use lib.ListN.{length}
use Rattle.calculus.specs.Terms.{Term, var, lvar, fun, app, lfun, lapp, pair, proj, fix, con, name}
use Rattle.records.specs.Record.{node_at}
use Rattle.records.specs.Heads.{node_of}
use Rattle.records.specs.declared.Node.{Node}
use Rattle.records.proofs.Laws.{node-next, stands_record, stands-node}
use Rattle.wiring.specs.declared.walk.State.{State}
use Rattle.wiring.specs.Asks.{Asks, Here}

subterms_of_lem : (e : Term) (at : ℕ) → ((node_of e at).subterms ≡ 0 → ⊥) → ((node_of e at).subterms ≡ 1 → ⊥) → (node_of e at).subterms ≡ 2
subterms_of_lem (var i) at f g = absurd (f refl)
subterms_of_lem (lvar i) at f g = absurd (f refl)
subterms_of_lem (fun t e) at f g = absurd (g refl)
subterms_of_lem (app a b) at f g = refl
subterms_of_lem (lfun t e) at f g = absurd (g refl)
subterms_of_lem (lapp a b) at f g = refl
subterms_of_lem (pair t a b) at f g = refl
subterms_of_lem (proj a b) at f g = refl
subterms_of_lem (fix t e) at f g = absurd (g refl)
subterms_of_lem (con p t) at f g = absurd (f refl)
subterms_of_lem (name a e) at f g = refl

module _ {s sizes w : List ℕ} {at : ℕ} {st : State} (q : Asks s sizes w at st) {node : Node} (e : node ≡ node_at s at) where
  pub node_of_lem : node ≡ node_of q.term at
  node_of_lem = e ∙ stands-node s at q.term q.stands

  abbrev pub here : Here s sizes w node st
  here = record { at = at; asks = q; node_is = node_of_lem }

  -- the record ends past its start and within the sheet
  pub behind : (at < node.next) × (node.next ≤ length s)
  behind = rw node_of_lem (node-next true s at (stands_record true s at q.term q.stands))

  pub two-subterms : (node.subterms ≡ 0 → ⊥) → (node.subterms ≡ 1 → ⊥) → node.subterms ≡ 2
  two-subterms f h =
      let z = ap (λ (x : Node). x.subterms) node_of_lem in
      z ∙ subterms_of_lem q.term at (λ a. f (z ∙ a)) (λ a. h (z ∙ a))

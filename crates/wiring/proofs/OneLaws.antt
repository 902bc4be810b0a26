-- A function and a fixed point: before the body and after it. Assumes nothing.
use Prim.Native.Nat.{ℕ, suc, ◌+◌, ◌*◌, ◌-◌, ◌≤◌, ◌<◌}
use mathlib.Core.Path.{◌≡◌, refl, sym, ap, ap₂, ◌∙◌, subst}
use mathlib.Core.Logic.{◌⊎◌, inl, inr, ⊎_elim}
use mathlib.Core.Bool.{Bool, true, false, not, cond, true≢false}
use mathlib.Core.List.{List, [], ◌∷◌, ◌++◌, map, map-append, append_assoc, append-nil}
use native.Mathlib.Omega.{arith}
use lib.ListN.{length, get_or, replicate, length-append, length-map, length-replicate}
use lib.Seq.{sets}
use Rattle.calculus.specs.Types.{Ty, size, Table, tree}
use Rattle.calculus.specs.Write.{term_bytes}
use Rattle.sheet_theorems.specs.Laid.{Stands, depth}
use Rattle.calculus.specs.Net.{turns, points, in_side, binder, Made, make, made_fix, join, Interface, Element}
use Rattle.records.specs.Heads.{node_of}
use Rattle.records.specs.Rules.{is_fixed_point}
use Rattle.records.specs.declared.Node.{Node}
use Rattle.memory.specs.Map.{elements_at, stack_at, binders_at, code, kind_number}
use Rattle.circuit_theorems.specs.Drive.{drive_all}
use Rattle.circuit_theorems.proofs.Bounds.{next_is, made_side, made_type, join-length}
use Rattle.circuit_theorems.proofs.Drive.{drive_append}
use Rattle.circuit_theorems.proofs.Drivers.{turns-size, dirs_in, term_driven}
use Rattle.circuit_theorems.specs.Scope.{dirs, Env}
use Rattle.records.specs.TypeNumbers.{bound_in}
use Rattle.wiring.specs.declared.walk.State.{State}
use Rattle.wiring.specs.declared.walk.Built.{Built}
use Rattle.wiring.specs.Sides.{KnownType, face}
use Rattle.wiring.specs.Store.{Store, Holds, at_stack, target, more_wires, with_made}
use Rattle.wiring.specs.Asks.{BoundAt, Binds, Asks, made_of, Leaves, Here, opened, inner, Opened, looped, closed_in, closed, Closable}
use Rattle.wiring.specs.Nodes.{fun_of, Binding}
use Rattle.wiring.proofs.RunLaws.{face-length}
use Rattle.wiring.proofs.StoreLaws.{push_kinds, push_stack, push_binders, cut_binders}
use Rattle.wiring.proofs.LeafLaws.{face_in, face-low}
use Rattle.wiring.proofs.NodeLaws.{binding}
use Rattle.wiring.proofs.JoinLaws.{StackPart, wired-apart, wired-holds, moved_holds}
use Rattle.wiring.proofs.BindLaws.{binds_grow, binds_push}

points-length : (ts : List Bool) (n : ℕ) → length (points ts n) ≡ length ts
points-length [] n = refl
points-length (t ∷ ts) n = ap suc (points-length ts (n + 2))

points-kinds : (ts : List Bool) (n : ℕ) → map kind_number (points ts n) ≡ replicate (length ts) 7
points-kinds [] n = refl
points-kinds (t ∷ ts) n = ap (λ (l : List ℕ). 7 ∷ l) (points-kinds ts (n + 2))

-- ---- stores

kinds_of : (α : Ty) (n : ℕ) (ks : List ℕ) (es : List Element) → (ks ++ replicate (size α) 7) ++ map kind_number es ≡ ks ++ map kind_number (points (turns false α) n ++ es)
kinds_of α n ks es =
    let e : map kind_number (points (turns false α) n) ≡ replicate (size α) 7 = points-kinds (turns false α) n ∙ ap (λ (k : ℕ). replicate k 7) (turns-size false α) in
    append_assoc ks (replicate (size α) 7) (map kind_number es)
    ∙ ap (λ (l : List ℕ). ks ++ l) (ap (λ (l : List ℕ). l ++ map kind_number es) (sym e) ∙ sym (map-append kind_number (points (turns false α) n) es))

stack_of : (bs : List Bool) (n : ℕ) (xs : List ℕ) (side : Interface) → (xs ++ face false bs n) ++ map code side ≡ xs ++ map code (in_side bs n ++ side)
stack_of bs n xs side =
    append_assoc xs (face false bs n) (map code side)
    ∙ ap (λ (l : List ℕ). xs ++ l) (ap (λ (l : List ℕ). l ++ map code side) (face_in bs n) ∙ sym (map-append code (in_side bs n) side))

fun_holds : {w : List ℕ} (m : Store) (Θ : Table) (t n : ℕ) (τ : Ty) (x : Made) → Holds w (with_made (opened m Θ t n) x) → Holds w (with_made m (fun_of (tree Θ t) τ n x))
fun_holds {w} m Θ t n τ x H =
    subst (λ (z : Store). Holds w z)
    (ap₂ (λ (ks ss : List ℕ). record { drivers = drive_all x.wires m.drivers; targets = m.targets ++ map target x.wires; kinds = ks; stack = ss; binders = m.binders; rest = m.rest })
    (kinds_of (tree Θ t) n m.kinds x.elements) (stack_of (turns false (tree Θ t)) n m.stack x.side))
    (cut_binders H m.binders (t ∷ (2 * n + 1) ∷ []) refl)

fix_holds : {w : List ℕ} (m : Store) (Θ : Table) (t n : ℕ) (x : Made)
    → Holds w (at_stack (more_wires (with_made (opened m Θ t n) x) (join x.side (in_side (turns false (tree Θ t)) n))) (m.stack ++ map code x.side)) → Holds w (with_made m (made_fix (tree Θ t) n x))
fix_holds {w} m Θ t n x H =
    let js = join x.side (in_side (turns false (tree Θ t)) n) in
    let et : (m.targets ++ map target x.wires) ++ map target js ≡ m.targets ++ map target (x.wires ++ js) = append_assoc m.targets (map target x.wires) (map target js) ∙ ap (λ (l : List ℕ). m.targets ++ l) (sym (map-append target x.wires js)) in
    let ed : drive_all js (drive_all x.wires m.drivers) ≡ drive_all (x.wires ++ js) m.drivers = sym (drive_append x.wires js m.drivers) in
    subst (λ (ks : List ℕ). Holds w (record { drivers = drive_all (x.wires ++ js) m.drivers; targets = m.targets ++ map target (x.wires ++ js); kinds = ks; stack = m.stack ++ map code x.side; binders = m.binders; rest = m.rest }))
    (kinds_of (tree Θ t) n m.kinds x.elements)
    (subst (λ (z : Store). Holds w z)
    (ap₂ (λ (ds ts : List ℕ). record { drivers = ds; targets = ts; kinds = (m.kinds ++ replicate (size (tree Θ t)) 7) ++ map kind_number x.elements; stack = m.stack ++ map code x.side; binders = m.binders; rest = m.rest }) ed et)
    (cut_binders H m.binders (t ∷ (2 * n + 1) ∷ []) refl))

module _ {s sizes w : List ℕ} {node : Node} {st : State} (q : Here s sizes w node st) (one : node.subterms ≡ 1) where
  abbrev Q : Asks s sizes w q.at st
  Q = q.asks

  abbrev Θ : Table
  Θ = Q.table

  abbrev n : ℕ
  n = st.next

  one-binding : Binding Q.edition Θ s q.at n Q.env Q.term Q.type
  one-binding = binding Q.knows q.at n Q.env Q.typed Q.stands Q.ranged Q.fits (rw q.node_is at one)

  abbrev t : ℕ
  t = bound_in s node

  bound-is : t ≡ one-binding.bound
  bound-is = ap (bound_in s) q.node_is ∙ one-binding.number

  abbrev α : Ty
  α = tree Θ t

  abbrev bs : List Bool
  bs = turns false α

  abbrev body : Made
  body = make Θ one-binding.body (binder α n ∷ Q.env) (n + 2 * size α)

  -- a fixed point, or a function
  one_is : ((is_fixed_point node.rule ≡ true) × (one-binding.type ≡ α) × (made_of Q ≡ made_fix α n body)) ⊎ ((is_fixed_point node.rule ≡ false) × (made_of Q ≡ fun_of α Q.type n body))
  one_is =
      let ek : is_fixed_point node.rule ≡ is_fixed_point (node_of Q.term q.at).rule = ap (λ (x : Node). is_fixed_point x.rule) q.node_is in
      ⊎_elim (λ z. inl (ek ∙ z.0, z.1 ∙ ap (tree Θ) (sym bound-is), z.2 ∙ ap (λ (b : ℕ). made_fix (tree Θ b) n (make Θ one-binding.body (binder (tree Θ b) n ∷ Q.env) (n + 2 * size (tree Θ b)))) (sym bound-is)))
      (λ z. inr (ek ∙ z.0, z.1 ∙ ap (λ (b : ℕ). fun_of (tree Θ b) Q.type n (make Θ one-binding.body (binder (tree Θ b) n ∷ Q.env) (n + 2 * size (tree Θ b)))) (sym bound-is)))
      one-binding.makes

  pub one_named : t < length Θ
  one_named = rw bound-is one-binding.named

  pub one_known : KnownType s sizes t
  one_known = record { table = Θ; knows = Q.knows; named = one_named }

  pub one_size : get_or sizes t 0 ≡ size α
  one_size = Q.knows.sized t one_named

  one-next : (made_of Q).next ≡ body.next
  one-next = ⊎_elim (λ z. ap (λ (m : Made). m.next) z.2) (λ z. ap (λ (m : Made). m.next) z.1) one_is

  one-elements : (made_of Q).elements ≡ points bs n ++ body.elements
  one-elements = ⊎_elim (λ z. ap (λ (m : Made). m.elements) z.2) (λ z. ap (λ (m : Made). m.elements) z.1) one_is

  one_count : length (made_of Q).elements ≡ size α + length body.elements
  one_count = ap length one-elements ∙ length-append (points bs n) body.elements ∙ ap (λ (k : ℕ). k + length body.elements) (points-length bs n ∙ turns-size false α)

  pub one_room : (l : ℕ) → l ≡ size α → (st.elements + l ≤ 5120) × (n + 2 * l ≤ 8192) × (st.top + l ≤ 8448) × (st.scope < 128) × (l ≤ 128)
  one_room l el =
      let d = one-binding.deep in
      let z = Q.knows.ok.small t in (
        omega (arith, Q.few_elements, one_count),
        omega (arith, Q.few, one-next, next_is Θ one-binding.body (binder α n ∷ Q.env) (n + 2 * size α)),
        omega (arith, Q.deep),
        omega (arith, Q.scoped),
        omega arith,
      )

  pub one_opened : (w₁ w₂ w₃ : List ℕ) → w₁ ≡ sets w (elements_at + st.elements) (replicate (size α) 7) → w₂ ≡ sets w₁ (stack_at + st.top) (face false bs n)
      → w₃ ≡ sets w₂ (binders_at + 2 * st.scope) (t ∷ (2 * n + 1) ∷ []) → Holds w₃ (opened Q.store Θ t n)
  one_opened w₁ w₂ w₃ e₁ e₂ e₃ =
      let (r₁, r₂, r₃, r₄, r₅) = one_room (size α) refl in
      let fl = face-length false bs n ∙ turns-size false α in
      let H₁ = push_kinds Q.holds (replicate (size α) 7) (elements_at + st.elements) (omega (arith, Q.elements)) (omega (arith, Q.elements, length-replicate {A = ℕ} (size α) 7)) in
      let H₂ = push_stack H₁ (face false bs n) (stack_at + st.top) (omega (arith, Q.top)) (omega (arith, Q.top)) (face-low false bs n (omega (arith, turns-size false α))) in
      let H₃ = push_binders H₂ (t ∷ (2 * n + 1) ∷ []) (binders_at + 2 * st.scope) (omega (arith, Q.binds.count)) (omega (arith, Q.binds.count)) in
      rw (e₃, e₂, e₁) H₃

  -- by the number and the size that were read
  module _ (u l : ℕ) (eu : u ≡ t) (el : l ≡ get_or sizes u 0) where
    abbrev pub known_at : KnownType s sizes u
    known_at = record { table = Θ; knows = Q.knows; named = subst (λ (x : ℕ). x < length Θ) (sym eu) one_named }

    length_at : l ≡ size α
    length_at = el ∙ ap (λ (x : ℕ). get_or sizes x 0) eu ∙ one_size

    pub room_at : (st.elements + l ≤ 5120) × (n + 2 * l ≤ 8192) × (st.top + l ≤ 8448) × (st.scope < 128) × (l ≤ 128)
    room_at = one_room l length_at

    pub opened-at : (w₁ w₂ w₃ : List ℕ) → w₁ ≡ sets w (elements_at + st.elements) (replicate l 7) → w₂ ≡ sets w₁ (stack_at + st.top) (face false (turns false (tree Θ u)) n)
        → w₃ ≡ sets w₂ (binders_at + 2 * st.scope) (u ∷ (2 * n + 1) ∷ []) → Opened q (inner l st) w₃
    opened-at w₁ w₂ w₃ e₁ e₂ e₃ = record {
      state = ap (λ (x : ℕ). inner x st) length_at;
      holds = one_opened w₁ w₂ w₃ (e₁ ∙ ap (λ (x : ℕ). sets w (elements_at + st.elements) (replicate x 7)) length_at)
          (e₂ ∙ ap (λ (x : ℕ). sets w₁ (stack_at + st.top) (face false (turns false (tree Θ x)) n)) eu) (e₃ ∙ ap (λ (x : ℕ). sets w₂ (binders_at + 2 * st.scope) (x ∷ (2 * n + 1) ∷ [])) eu);
    }

  -- ---- the body

  one-bound : (xs : List ℕ) → BoundAt Θ (Q.store.stack ++ xs) t (2 * n + 1) (binder α n)
  one-bound xs =
      let (r₁, r₂, r₃, r₄, r₅) = one_room (size α) refl in
      record { named = one_named; type = refl; side = inl (record { first = n; place_is = refl; few = r₂; shown = refl }) }

  one-fits : Env one-binding.context (binder α n ∷ Q.env)
  one-fits = subst (λ (b : ℕ). Env one-binding.context (binder (tree Θ b) n ∷ Q.env)) (sym bound-is) one-binding.fits

  one-stands : Stands s node.next one-binding.body
  one-stands = subst (λ (x : Node). Stands s x.next one-binding.body) (sym q.node_is) one-binding.stands

  -- wires of the body, and all
  one-wires : length body.wires ≤ length (made_of Q).wires
  one-wires = ⊎_elim (λ z. omega (arith, ap (λ (m : Made). length m.wires) z.2, length-append body.wires (join body.side (in_side bs n))))
      (λ z. omega (arith, ap (λ (m : Made). length m.wires) z.1)) one_is

  module _ {r : State} {w₁ : List ℕ} (O : Opened q r w₁) where
    body_is : make Θ one-binding.body (binder α n ∷ Q.env) r.next ≡ body
    body_is = ap (λ (x : State). make Θ one-binding.body (binder α n ∷ Q.env) x.next) O.state

    pub body-asks : Asks s sizes w₁ node.next r
    body-asks = record {
      edition = Q.edition;
      table = Θ;
      knows = Q.knows;
      term = one-binding.body;
      stands = one-stands;
      ranged = one-binding.ranged;
      context = one-binding.context;
      type = one-binding.type;
      typed = one-binding.typed;
      env = binder α n ∷ Q.env;
      fits = one-fits;
      store = opened Q.store Θ t n;
      holds = O.holds;
      elements = body-elements;
      wires = Q.wires ∙ ap (λ (x : State). x.wires) (sym O.state);
      top = body_top;
      binds = body-binds;
      few = body-few;
      few_elements = body-few-elements;
      few_wires = body-few-wires;
      deep = body-deep;
      scoped = body-scoped;
    }
      where
        body-elements : length (Q.store.kinds ++ replicate (size α) 7) ≡ r.elements
        body-elements = omega (arith, length-append Q.store.kinds (replicate {A = ℕ} (size α) 7), length-replicate {A = ℕ} (size α) 7, Q.elements, ap (λ (x : State). x.elements) O.state)

        body_top : length (Q.store.stack ++ face false bs n) ≡ r.top
        body_top = omega (arith, length-append Q.store.stack (face false bs n), face-length false bs n, turns-size false α, Q.top, ap (λ (x : State). x.top) O.state)

        body-binds : Binds Θ (Q.store.stack ++ face false bs n) (Q.store.binders ++ t ∷ (2 * n + 1) ∷ []) r.scope (binder α n ∷ Q.env)
        body-binds = rw (ap (λ (x : State). x.scope) O.state) (binds_push Q.store.binders (binds_grow (face false bs n) Q.binds) t (2 * n + 1) (binder α n) (one-bound (face false bs n)))

        body-few : (make Θ one-binding.body (binder α n ∷ Q.env) r.next).next ≤ 8192
        body-few = omega (arith, ap (λ (m : Made). m.next) body_is, one-next, Q.few)

        body-few-elements : r.elements + length (make Θ one-binding.body (binder α n ∷ Q.env) r.next).elements ≤ 5120
        body-few-elements = omega (arith, ap (λ (m : Made). length m.elements) body_is, one_count, Q.few_elements, ap (λ (x : State). x.elements) O.state)

        body-few-wires : r.wires + length (make Θ one-binding.body (binder α n ∷ Q.env) r.next).wires ≤ 5632
        body-few-wires = omega (arith, ap (λ (m : Made). length m.wires) body_is, one-wires, Q.few_wires, ap (λ (x : State). x.wires) O.state)

        body-deep : r.top + 128 * depth one-binding.body ≤ 8448
        body-deep = omega (arith, Q.deep, one-binding.deep, Q.knows.ok.small t, ap (λ (x : State). x.top) O.state)

        body-scoped : r.scope + 2 * depth one-binding.body ≤ 128
        body-scoped = omega (arith, Q.scoped, one-binding.deep, ap (λ (x : State). x.scope) O.state)

    -- ---- after the body

    -- the input interface of the binder stands above what stood
    pub opened-above : st.top ≤ r.top
    opened-above = omega (arith, ap (λ (x : State). x.top) O.state)

    body-type : {b : Built} {w₂ : List ℕ} → Leaves body-asks b w₂ → length body.side ≡ size one-binding.type
    unfolding body-asks
    body-type L = ap (λ (m : Made). length m.side) (sym body_is) ∙ made_side one-binding.typed (binder α n ∷ Q.env) one-fits r.next ∙ ap size (made_type one-binding.typed (binder α n ∷ Q.env) one-fits r.next)

    body-dirs : dirs body.side ≡ turns false one-binding.type
    body-dirs = (term_driven one-binding.typed (binder α n ∷ Q.env) one-fits (n + 2 * size α)).dirs

    module _ {b : Built} {w₂ : List ℕ} (L : Leaves body-asks b w₂) where
      body-holds : Holds w₂ (with_made (opened Q.store Θ t n) body)
      unfolding body-asks
      body-holds = rw body_is at L.holds

      body-small : (b.len ≤ 128) × (b.len ≡ length body.side)
      unfolding body-asks
      body-small =
          let e : b.len ≡ length body.side = L.len ∙ ap (λ (m : Made). length m.side) body_is in
          (omega (arith, body-type L, ap size L.type, Q.knows.ok.small b.ty), e)

      body-counts : (b.past ≡ node.next + length (term_bytes one-binding.body)) × (b.next ≡ body.next) × (b.elements ≡ st.elements + size α + length body.elements) × (b.wires ≡ st.wires + length body.wires)
      unfolding body-asks
      body-counts = (
        L.past,
        L.next ∙ ap (λ (m : Made). m.next) body_is,
        omega (arith, L.elements, ap (λ (m : Made). length m.elements) body_is, ap (λ (x : State). x.elements) O.state),
        omega (arith, L.wires, ap (λ (m : Made). length m.wires) body_is, ap (λ (x : State). x.wires) O.state),
      )

      -- where the two interfaces of a fixed point stand
      low_part : StackPart (with_made (opened Q.store Θ t n) body) Q.store.stack (map code (in_side bs n))
      low_part = record { above = map code body.side; stack_is = append_assoc Q.store.stack (face false bs n) (map code body.side) ∙ ap (λ (l : List ℕ). Q.store.stack ++ (l ++ map code body.side)) (face_in bs n) }

      high_part : StackPart (with_made (opened Q.store Θ t n) body) (Q.store.stack ++ face false bs n) (map code body.side)
      high_part = record { above = []; stack_is = ap (λ (l : List ℕ). (Q.store.stack ++ face false bs n) ++ l) (sym (append-nil (map code body.side))) }

      high-at : length (Q.store.stack ++ face false bs n) ≡ st.top + size α
      high-at = omega (arith, length-append Q.store.stack (face false bs n), face-length false bs n, turns-size false α, Q.top)

      in_length : length (in_side bs n) ≡ size α
      in_length = sym (length-map (in_side bs n) code) ∙ ap length (sym (face_in bs n)) ∙ face-length false bs n ∙ turns-size false α

      abbrev l : ℕ
      l = r.top - st.top

      el : l ≡ size α
      el = omega (arith, ap (λ (x : State). x.top) O.state)

      same_length : one-binding.type ≡ α → length body.side ≡ l
      same_length e = body-type L ∙ ap size e ∙ sym el

      opposite : one-binding.type ≡ α → dirs (in_side bs n) ≡ map not (dirs body.side)
      opposite e = dirs_in bs n ∙ ap (map not) (sym (body-dirs ∙ ap (turns false) e))

      fix-room : one-binding.type ≡ α → made_of Q ≡ made_fix α n body → b.wires + l ≤ 5632
      fix-room e z =
          omega (arith, Q.few_wires, ap (λ (m : Made). length m.wires) z, length-append body.wires (join body.side (in_side bs n)), join-length body.side (in_side bs n) (opposite e), same_length e, body-counts.3)

      wires-at : b.wires ≡ length (with_made (opened Q.store Θ t n) body).targets
      wires-at = omega (arith, body-counts.3, length-append Q.store.targets (map target body.wires), length-map body.wires target, Q.wires)

      pub close-closable : Closable w₂ node st.top (r.top - st.top) b
      close-closable =
          let (r₁, r₂, r₃, r₄, r₅) = one_room l el in
          record {
            small = (r₅, body-small.0, omega arith, omega (arith, body-counts.3, one-wires, Q.few_wires));
            apart = λ k. ⊎_elim
                (λ z. wired-apart body-holds body.side (in_side bs n) high_part low_part (stack_at + st.top + l) (stack_at + st.top) l b.wires (omega (arith, high-at, el)) (omega (arith, Q.top)) (same_length z.1) (in_length ∙ sym el) wires-at (fix-room z.1 z.2))
                (λ z. absurd (true≢false (sym k ∙ z.0))) one_is;
          }

      -- a fixed point: the wires, and the body's interface moved down
      loop-holds : one-binding.type ≡ α → made_of Q ≡ made_fix α n body → Holds (looped w₂ (stack_at + st.top) l b.wires) (with_made Q.store (made_fix α n body))
      unfolding looped high_part low_part
      loop-holds e z =
          let W = wired-holds body-holds body.side (in_side bs n) high_part low_part (stack_at + st.top + l) (stack_at + st.top) l b.wires (omega (arith, high-at, el)) (omega (arith, Q.top)) (same_length e) (in_length ∙ sym el) wires-at (fix-room e z) (opposite e) in
          let hp : StackPart (more_wires (with_made (opened Q.store Θ t n) body) (join body.side (in_side bs n))) (Q.store.stack ++ face false bs n) (map code body.side) = record { above = []; stack_is = high_part.stack_is } in
          let lp : StackPart (more_wires (with_made (opened Q.store Θ t n) body) (join body.side (in_side bs n))) Q.store.stack [] = record { above = map code (in_side bs n) ++ map code body.side; stack_is = low_part.stack_is } in
          fix_holds Q.store Θ t n body (moved_holds W hp lp (stack_at + st.top + l) (stack_at + st.top) l (omega (arith, high-at, el)) (omega (arith, Q.top)) (omega arith) (length-map body.side code ∙ same_length e))

      one_first : (node.first < length Θ) × (tree Θ node.first ≡ Q.type)
      one_first = subst (λ (x : Node). (x.first < length Θ) × (tree Θ x.first ≡ Q.type)) (sym q.node_is) (one-binding.first, one-binding.is-type)

      one-past : b.past ≡ q.at + length (term_bytes Q.term)
      one-past = body-counts.0 ∙ ap (λ (x : Node). x.next + length (term_bytes one-binding.body)) q.node_is ∙ sym one-binding.bytes

      pub close-leaves : Leaves Q (closed node (r.top - st.top) b) (closed_in w₂ node st.top (r.top - st.top) b)
      unfolding closed closed_in
      close-leaves = ⊎_elim fixed function one_is
        where
          fixed : (is_fixed_point node.rule ≡ true) × (one-binding.type ≡ α) × (made_of Q ≡ made_fix α n body) → Leaves Q (closed node l b) (closed_in w₂ node st.top l b)
          fixed z =
              let k = z.0 in
              record {
                holds = subst (λ (m : Made). Holds (cond (is_fixed_point node.rule) (looped w₂ (stack_at + st.top) l b.wires) w₂) (with_made Q.store m)) (sym z.2)
                    (subst (λ (c : Bool). Holds (cond c (looped w₂ (stack_at + st.top) l b.wires) w₂) (with_made Q.store (made_fix α n body))) (sym k) (loop-holds z.1 z.2));
                past = one-past;
                named = one_first.0;
                type = one_first.1;
                len = ap (λ (c : Bool). cond c l (l + b.len)) k ∙ sym (same_length z.1) ∙ ap (λ (m : Made). length m.side) (sym z.2);
                next = body-counts.1 ∙ sym one-next;
                elements = omega (arith, body-counts.2, one_count);
                wires = ap (λ (c : Bool). cond c (b.wires + l) b.wires) k ∙ omega (arith, body-counts.3, ap (λ (m : Made). length m.wires) z.2, length-append body.wires (join body.side (in_side bs n)), join-length body.side (in_side bs n) (opposite z.1), same_length z.1);
              }

          function : (is_fixed_point node.rule ≡ false) × (made_of Q ≡ fun_of α Q.type n body) → Leaves Q (closed node l b) (closed_in w₂ node st.top l b)
          function z =
              let k = z.0 in
              record {
                holds = subst (λ (m : Made). Holds (cond (is_fixed_point node.rule) (looped w₂ (stack_at + st.top) l b.wires) w₂) (with_made Q.store m)) (sym z.1)
                    (subst (λ (c : Bool). Holds (cond c (looped w₂ (stack_at + st.top) l b.wires) w₂) (with_made Q.store (fun_of α Q.type n body))) (sym k) (fun_holds Q.store Θ t n Q.type body body-holds));
                past = one-past;
                named = one_first.0;
                type = one_first.1;
                len = ap (λ (c : Bool). cond c l (l + b.len)) k ∙ omega (arith, body-small.1, ap (λ (m : Made). length m.side) z.1, length-append (in_side bs n) body.side, in_length, el);
                next = body-counts.1 ∙ sym one-next;
                elements = omega (arith, body-counts.2, one_count);
                wires = ap (λ (c : Bool). cond c (b.wires + l) b.wires) k ∙ omega (arith, body-counts.3, ap (λ (m : Made). length m.wires) z.1);
              }

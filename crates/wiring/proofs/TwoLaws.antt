-- An application, a pair and a projection: the first subterm, and the second. Assumes nothing.
use Prim.Native.Nat.{ℕ, ◌+◌, ◌*◌, ◌≤◌, ◌<◌}
use mathlib.Core.Path.{◌≡◌, refl, sym, ap, ap₂, ◌∙◌, subst}
use mathlib.Core.Logic.{◌⊎◌, inr, ⊎_elim}
use mathlib.Core.Bool.{Bool, true, false, cond, true≢false}
use mathlib.Core.List.{List, [], ◌∷◌, ◌++◌, map}
use native.Mathlib.Omega.{arith}
use lib.ListN.{length, get_or, take, drop, length-append, length-map, length-drop}
use lib.Seq.{take_all, drop_at, drop-drop}
use Rattle.laws.proofs.Parts.{map-take, map-drop}
use Rattle.calculus.specs.Types.{Ty, size, Table, tree}
use Rattle.calculus.specs.Terms.{Term, var, lvar, fun, app, lfun, lapp, pair, proj, fix, con, name}
use Rattle.calculus.specs.Write.{term_bytes}
use Rattle.sheet_theorems.specs.Laid.{Stands, depth}
use Rattle.calculus.specs.Net.{turns, Interface, Made, make, left_of, right_of, join, first_half, second_half, whole_of}
use Rattle.records.specs.Heads.{node_of}
use Rattle.records.specs.Forms.{rec_in}
use Rattle.records.specs.Rules.{is_projection, is_naming}
use Rattle.records.specs.declared.Rule.{Rule}
use Rattle.records.specs.declared.Node.{Node}
use Rattle.memory.specs.Map.{binders_at, region, code, kind_number}
use Rattle.sheet_theorems.proofs.Standing.{stands_in}
use Rattle.circuit_theorems.proofs.Bounds.{next_is, made_side, made_type}
use Rattle.circuit_theorems.proofs.Drivers.{term_driven}
use Rattle.circuit_theorems.specs.Scope.{dirs}
use Rattle.wiring.specs.declared.walk.State.{State}
use Rattle.wiring.specs.declared.walk.Built.{Built}
use Rattle.records.specs.TypeNumbers.{left_no, right_no}
use Rattle.wiring.specs.Store.{Store, Holds, at_binders, target, with_made}
use Rattle.wiring.specs.Asks.{BoundAt, Binds, Asks, made_of, Leaves, Here, halved, named_in, by_binding, between_in, middle, Between}
use Rattle.wiring.specs.Nodes.{Applied, Paired, Halved, Projected, Twofold}
use Rattle.wiring.proofs.StoreLaws.{push_binders}
use Rattle.wiring.proofs.NodeLaws.{SidesAt, sided_at, twofold}
use Rattle.wiring.proofs.BindLaws.{binds_grow, binds_push}

depth-some : (e : Term) → 0 < depth e
depth-some (var i) = omega arith
depth-some (lvar i) = omega arith
depth-some (fun t e) = omega arith
depth-some (app f a) = omega arith
depth-some (lfun t e) = omega arith
depth-some (lapp f a) = omega arith
depth-some (pair t a b) = omega arith
depth-some (proj a e) = omega arith
depth-some (fix t e) = omega arith
depth-some (con p t) = omega arith
depth-some (name a e) = omega arith

-- the two parts of an interface that stands on top of the stack
front-region : (stack : List ℕ) (side : Interface) (top k : ℕ) → length stack ≡ top → map code (take k side) ≡ region (stack ++ map code side) top k
front-region stack side top k e = map-take code k side ∙ ap (take k) (sym (drop_at stack (map code side) top e))

back-region : (stack : List ℕ) (side : Interface) (top k m : ℕ) → length stack ≡ top → length side ≡ k + m → map code (drop k side) ≡ region (stack ++ map code side) (top + k) m
back-region stack side top k m e el =
    let z : length (map code (drop k side)) ≤ m = omega (arith, length-map (drop k side) code, length-drop k side) in
    sym (take_all m (map code (drop k side)) z)
    ∙ ap (take m) (map-drop code k side ∙ ap (drop k) (sym (drop_at stack (map code side) top e)) ∙ drop-drop k top (stack ++ map code side))

module _ {s sizes w : List ℕ} {node : Node} {st : State} (q : Here s sizes w node st) (two : node.subterms ≡ 2) where
  abbrev pub Q : Asks s sizes w q.at st
  Q = q.asks

  abbrev pub Θ : Table
  Θ = Q.table

  abbrev pub n : ℕ
  n = st.next

  pub both : Twofold Q.edition Θ s q.at n Q.env Q.term Q.type
  both = twofold Q.knows q.at n Q.env Q.typed Q.stands Q.ranged Q.fits (rw q.node_is at two)

  abbrev pub x : Made
  x = make Θ both.first Q.env n

  abbrev pub y : Made
  y = make Θ both.second both.env₂ x.next

  abbrev pub Sort : Type 0
  Sort = Applied Q.edition Θ s q.at n Q.env Q.term Q.type x y both.type both.env₂ both.type₂
      ⊎ (Paired Q.edition Θ s q.at n Q.env Q.term Q.type x y both.type both.env₂ both.type₂
      ⊎ Projected Q.edition Θ s q.at n Q.env Q.term Q.type x y both.type both.env₂ both.type₂)

  pub rule_is : (f : Rule → Bool) → f node.rule ≡ f (node_of Q.term q.at).rule
  rule_is f = ap (λ (z : Node). f z.rule) q.node_is

  -- what holds of all three sorts
  pub two-next : (made_of Q).next ≡ y.next
  two-next = ⊎_elim (λ z. ap (λ (m : Made). m.next) z.makes) (⊎_elim (λ z. ap (λ (m : Made). m.next) z.makes) (λ z. ap (λ (m : Made). m.next) z.makes)) both.sort

  pub two_elements : (made_of Q).elements ≡ x.elements ++ y.elements
  two_elements = ⊎_elim (λ z. ap (λ (m : Made). m.elements) z.makes) (⊎_elim (λ z. ap (λ (m : Made). m.elements) z.makes) (λ z. ap (λ (m : Made). m.elements) z.makes)) both.sort

  pub two-count : length (made_of Q).elements ≡ length x.elements + length y.elements
  two-count = ap length two_elements ∙ length-append x.elements y.elements

  pub two_wires : length x.wires + length y.wires ≤ length (made_of Q).wires
  two_wires =
      let e = length-append x.wires y.wires in
      ⊎_elim (λ z. omega (arith, ap (λ (m : Made). length m.wires) z.makes, length-append (x.wires ++ y.wires) (join y.side (take (size (left_of x.type)) x.side))))
      (⊎_elim (λ z. omega (arith, ap (λ (m : Made). length m.wires) z.makes)) (λ z. omega (arith, ap (λ (m : Made). length m.wires) z.makes))) both.sort

  first_next : x.next ≤ y.next
  first_next = omega (arith, next_is Θ both.second both.env₂ x.next)

  pub next-at : node.next ≡ (node_of Q.term q.at).next
  next-at = ap (λ (z : Node). z.next) q.node_is

  -- ---- the first

  pub first-asks : Asks s sizes w node.next st
  first-asks = record {
    edition = Q.edition;
    table = Θ;
    knows = Q.knows;
    term = both.first;
    stands = subst (λ (k : ℕ). Stands s k both.first) (sym next-at) both.stands_first;
    ranged = both.ranged-first;
    context = both.context;
    type = both.type;
    typed = both.typed;
    env = Q.env;
    fits = both.fits;
    store = Q.store;
    holds = Q.holds;
    elements = Q.elements;
    wires = Q.wires;
    top = Q.top;
    binds = Q.binds;
    few = omega (arith, Q.few, two-next, first_next);
    few_elements = omega (arith, Q.few_elements, two-count);
    few_wires = omega (arith, Q.few_wires, two_wires);
    deep = omega (arith, Q.deep, both.deep-first);
    scoped = omega (arith, Q.scoped, both.deep-first);
  }

  pub first_type : x.type ≡ both.type
  first_type = made_type both.typed Q.env both.fits n

  pub first-length : length x.side ≡ size both.type
  first-length = made_side both.typed Q.env both.fits n ∙ ap size first_type

  module _ {f : Built} {w₁ : List ℕ} (L : Leaves first-asks f w₁) where
    pub first_holds : Holds w₁ (with_made Q.store x)
    unfolding first-asks
    first_holds = L.holds

    pub first-left : (f.past ≡ node.next + length (term_bytes both.first)) × (f.ty < length Θ) × (tree Θ f.ty ≡ both.type) × (f.len ≡ length x.side) × (f.next ≡ x.next)
        × (f.elements ≡ st.elements + length x.elements) × (f.wires ≡ st.wires + length x.wires)
    unfolding first-asks
    first-left = (L.past, L.named, L.type, L.len, L.next, L.elements, L.wires)

    -- the second stands past the first record
    pub first_past : (node.next ≤ f.past) × (f.past < length s)
    first_past = (
      omega (arith, first-left.0),
      stands_in (subst (λ (k : ℕ). Stands s k both.second) (sym (first-left.0 ∙ ap (λ (k : ℕ). k + length (term_bytes both.first)) next-at)) both.stands_second),
    )

    pub first_small : f.len ≤ 128
    first_small = omega (arith, first-left.3, first-length, ap size first-left.2, Q.knows.ok.small f.ty)

    pub between-asks : Between sizes w₁ st f
    between-asks = record {
      all = Q.knows.all;
      memory = first_holds.size;
      small = (omega (arith, Q.deep), first_small, omega (arith, Q.scoped, both.deep-first, depth-some both.first));
    }

    -- ---- between

    abbrev pub left : ℕ
    left = left_no (rec_in s f.ty)

    abbrev pub right : ℕ
    right = right_no (rec_in s f.ty)

    abbrev pub bound : List ℕ
    bound = Q.store.binders ++ left ∷ (2 * st.top) ∷ []

    abbrev pub both-bound : List ℕ
    both-bound = bound ++ right ∷ (2 * (st.top + get_or sizes left 0)) ∷ []

    abbrev pub one-bound : List ℕ
    one-bound = Q.store.binders ++ f.ty ∷ (2 * st.top) ∷ []

    abbrev pub binders₂ : List ℕ
    binders₂ = by_binding node.rule both-bound one-bound Q.store.binders

    abbrev pub store₂ : Store
    store₂ = at_binders (with_made Q.store x) binders₂

    scope-few : st.scope + 2 ≤ 128
    scope-few = omega (arith, Q.scoped, both.deep-first, depth-some both.first)

    halved-holds : Holds (halved s sizes w₁ f.ty st.scope st.top) (at_binders (with_made Q.store x) both-bound)
    unfolding halved
    halved-holds =
        let c = Q.binds.count in
        let P = push_binders first_holds (left ∷ (2 * st.top) ∷ []) (binders_at + 2 * st.scope) (omega arith) (omega (arith, scope-few)) in
        push_binders P (right ∷ (2 * (st.top + get_or sizes left 0)) ∷ []) (binders_at + 2 * (st.scope + 1))
        (omega (arith, length-append Q.store.binders (left ∷ (2 * st.top) ∷ []))) (omega (arith, scope-few, length-append Q.store.binders (left ∷ (2 * st.top) ∷ [])))

    named-holds : Holds (named_in w₁ f.ty st.scope st.top) (at_binders (with_made Q.store x) one-bound)
    named-holds =
        let c = Q.binds.count in
        push_binders first_holds (f.ty ∷ (2 * st.top) ∷ []) (binders_at + 2 * st.scope) (omega arith) (omega (arith, scope-few))

    pub between-holds : (w₂ : List ℕ) → w₂ ≡ between_in s sizes w₁ node st f → Holds w₂ store₂
    unfolding between_in
    between-holds w₂ e = rw e (by (is_projection node.rule) (is_naming node.rule))
      where
        by : (c d : Bool) → Holds (cond c (halved s sizes w₁ f.ty st.scope st.top) (cond d (named_in w₁ f.ty st.scope st.top) w₁)) (at_binders (with_made Q.store x) (cond c both-bound (cond d one-bound Q.store.binders)))
        by true d = halved-holds
        by false true = named-holds
        by false false = first_holds

    long : length (Q.store.stack ++ map code x.side) ≡ st.top + length x.side
    long = length-append Q.store.stack (map code x.side) ∙ ap₂ ◌+◌ Q.top (length-map x.side code)

    -- the halves of a projection
    module _ (z : Halved Q.edition Θ s q.at n Q.env Q.term Q.type x y both.type both.env₂ both.type₂) where
      sided : SidesAt Θ f.ty left right
      sided = sided_at Q.knows f.ty first-left.1 (λ e. z.product (sym first-left.2 ∙ e))

      left_is : left_of x.type ≡ tree Θ left
      left_is = ap left_of (first_type ∙ sym first-left.2) ∙ sided.left

      right_is : right_of x.type ≡ tree Θ right
      right_is = ap right_of (first_type ∙ sym first-left.2) ∙ sided.right

      left-size : get_or sizes left 0 ≡ size (left_of x.type)
      left-size = Q.knows.sized left (omega (arith, sided.left_below, first-left.1)) ∙ ap size (sym left_is)

      sum : length x.side ≡ size (left_of x.type) + size (right_of x.type)
      sum = first-length ∙ z.sum ∙ ap₂ ◌+◌ (ap (λ (τ : Ty). size (left_of τ)) (sym first_type)) (ap (λ (τ : Ty). size (right_of τ)) (sym first_type))

      first-bound : BoundAt Θ (Q.store.stack ++ map code x.side) left (2 * st.top) (first_half x)
      first-bound = record {
        named = omega (arith, sided.left_below, first-left.1);
        type = left_is;
        side = inr (record {
          height = st.top;
          place_is = refl;
          below = omega (arith, long, sum, ap size left_is);
          shown = front-region Q.store.stack x.side st.top (size (left_of x.type)) Q.top ∙ ap (λ (τ : Ty). region (Q.store.stack ++ map code x.side) st.top (size τ)) left_is;
        });
      }

      second-bound : BoundAt Θ (Q.store.stack ++ map code x.side) right (2 * (st.top + get_or sizes left 0)) (second_half x)
      second-bound = record {
        named = omega (arith, sided.right_below, first-left.1);
        type = right_is;
        side = inr (record {
          height = st.top + size (left_of x.type);
          place_is = ap (λ (k : ℕ). 2 * (st.top + k)) left-size;
          below = omega (arith, long, sum, ap size right_is);
          shown = back-region Q.store.stack x.side st.top (size (left_of x.type)) (size (right_of x.type)) Q.top sum
              ∙ ap (λ (τ : Ty). region (Q.store.stack ++ map code x.side) (st.top + size (left_of x.type)) (size τ)) right_is;
        });
      }

      halves-bind : Binds Θ (Q.store.stack ++ map code x.side) both-bound (st.scope + 2) (second_half x ∷ first_half x ∷ Q.env)
      halves-bind =
          let e : st.scope + 1 + 1 ≡ st.scope + 2 = omega arith in
          subst (λ (k : ℕ). Binds Θ (Q.store.stack ++ map code x.side) both-bound k (second_half x ∷ first_half x ∷ Q.env)) e
          (binds_push bound (binds_push Q.store.binders (binds_grow (map code x.side) Q.binds) left (2 * st.top) (first_half x) first-bound) right (2 * (st.top + get_or sizes left 0)) (second_half x) second-bound)

    -- the whole first
    whole-bound : BoundAt Θ (Q.store.stack ++ map code x.side) f.ty (2 * st.top) (whole_of x)
    whole-bound =
        let is : x.type ≡ tree Θ f.ty = first_type ∙ sym first-left.2 in
        let l : length x.side ≡ size (tree Θ f.ty) = first-length ∙ ap size (sym first-left.2) in
        record {
          named = first-left.1;
          type = is;
          side = inr (record {
            height = st.top;
            place_is = refl;
            below = omega (arith, long, l);
            shown = ap (map code) (sym (take_all (size (tree Θ f.ty)) x.side (omega arith))) ∙ front-region Q.store.stack x.side st.top (size (tree Θ f.ty)) Q.top;
          });
        }

    whole-binds : Binds Θ (Q.store.stack ++ map code x.side) one-bound (st.scope + 1) (whole_of x ∷ Q.env)
    whole-binds = binds_push Q.store.binders (binds_grow (map code x.side) Q.binds) f.ty (2 * st.top) (whole_of x) whole-bound

    abbrev pub scope₂ : ℕ
    scope₂ = by_binding node.rule (st.scope + 2) (st.scope + 1) st.scope

    -- the binders of a sort
    abbrev BindsBy : Bool → Bool → Type 0
    BindsBy c d = Binds Θ (Q.store.stack ++ map code x.side) (cond c both-bound (cond d one-bound Q.store.binders)) (cond c (st.scope + 2) (cond d (st.scope + 1) st.scope)) both.env₂

    by-sort : (c d : Bool) → is_projection node.rule ≡ c → (c ≡ false → is_naming node.rule ≡ d) → BindsBy c d → Binds Θ (Q.store.stack ++ map code x.side) binders₂ scope₂ both.env₂
    by-sort true d e f B = subst (λ (c : Bool). BindsBy c (is_naming node.rule)) (sym e) B
    by-sort false d e f B = subst (λ (c : Bool). BindsBy c (is_naming node.rule)) (sym e) (subst (BindsBy false) (sym (f refl)) B)

    same-binds : both.env₂ ≡ Q.env → BindsBy false false
    same-binds e = subst (Binds Θ (Q.store.stack ++ map code x.side) Q.store.binders st.scope) (sym e) (binds_grow (map code x.side) Q.binds)

    pub two-binds : Binds Θ (Q.store.stack ++ map code x.side) binders₂ scope₂ both.env₂
    two-binds = ⊎_elim (λ z. by-sort false false (rule_is is_projection ∙ z.not-proj) (λ _. rule_is is_naming ∙ z.not_naming) (same-binds z.same))
        (⊎_elim (λ z. by-sort false false (rule_is is_projection ∙ z.not-proj) (λ _. rule_is is_naming ∙ z.not_naming) (same-binds z.same))
        (λ p. ⊎_elim
        (λ z. by-sort true false (rule_is is_projection ∙ z.proj) (λ e. absurd (true≢false e)) (subst (Binds Θ (Q.store.stack ++ map code x.side) both-bound (st.scope + 2)) (sym z.halves) (halves-bind z)))
        (λ z. by-sort false true (rule_is is_projection ∙ z.not-proj) (λ _. rule_is is_naming ∙ z.naming) (subst (Binds Θ (Q.store.stack ++ map code x.side) one-bound (st.scope + 1)) (sym z.whole) whole-binds))
        p.bound)) both.sort

    -- ---- the second

    module _ {r : State} {w₂ : List ℕ} (er : r ≡ middle node st f) (ew : w₂ ≡ between_in s sizes w₁ node st f) where
      middle-is : (r.next ≡ x.next) × (r.elements ≡ st.elements + length x.elements) × (r.wires ≡ st.wires + length x.wires) × (r.top ≡ st.top + length x.side) × (r.scope ≡ scope₂)
      unfolding middle
      middle-is =
          let l = first-left in (
            ap (λ (k : State). k.next) er ∙ l.4,
            ap (λ (k : State). k.elements) er ∙ l.5,
            ap (λ (k : State). k.wires) er ∙ l.6,
            ap (λ (k : State). k.top) er ∙ ap (λ (k : ℕ). st.top + k) l.3,
            ap (λ (k : State). k.scope) er,
          )

      scope-most : r.scope ≤ st.scope + 2
      scope-most = rw middle-is.4 (by (is_projection node.rule) (is_naming node.rule))
        where
          by : (c d : Bool) → cond c (st.scope + 2) (cond d (st.scope + 1) st.scope) ≤ st.scope + 2
          by true d = omega arith
          by false true = omega arith
          by false false = omega arith

      pub second_is : make Θ both.second both.env₂ r.next ≡ y
      second_is = ap (make Θ both.second both.env₂) middle-is.0

      pub second-asks : Asks s sizes w₂ f.past r
      second-asks = record {
        edition = Q.edition;
        table = Θ;
        knows = Q.knows;
        term = both.second;
        stands = subst (λ (k : ℕ). Stands s k both.second) (sym (first-left.0 ∙ ap (λ (k : ℕ). k + length (term_bytes both.first)) next-at)) both.stands_second;
        ranged = both.ranged-second;
        context = both.context₂;
        type = both.type₂;
        typed = both.typed₂;
        env = both.env₂;
        fits = both.fits₂;
        store = store₂;
        holds = between-holds w₂ ew;
        elements = second-elements;
        wires = second-wires;
        top = second-top;
        binds = subst (λ (k : ℕ). Binds Θ (Q.store.stack ++ map code x.side) binders₂ k both.env₂) (sym middle-is.4) two-binds;
        few = omega (arith, Q.few, two-next, ap (λ (m : Made). m.next) second_is);
        few_elements = omega (arith, Q.few_elements, two-count, ap (λ (m : Made). length m.elements) second_is, middle-is.1);
        few_wires = omega (arith, Q.few_wires, two_wires, ap (λ (m : Made). length m.wires) second_is, middle-is.2);
        deep = omega (arith, Q.deep, both.deep-second, middle-is.3, first-left.3, first_small);
        scoped = omega (arith, Q.scoped, both.deep-second, scope-most);
      }
        where
          second-elements : length (Q.store.kinds ++ map kind_number x.elements) ≡ r.elements
          second-elements = omega (arith, length-append Q.store.kinds (map kind_number x.elements), length-map x.elements kind_number, Q.elements, middle-is.1)

          second-wires : length (Q.store.targets ++ map target x.wires) ≡ r.wires
          second-wires = omega (arith, length-append Q.store.targets (map target x.wires), length-map x.wires target, Q.wires, middle-is.2)

          second-top : length (Q.store.stack ++ map code x.side) ≡ r.top
          second-top = omega (arith, length-append Q.store.stack (map code x.side), length-map x.side code, Q.top, middle-is.3)

      module _ {b : Built} {w₃ : List ℕ} (K : Leaves second-asks b w₃) where
        pub second_holds : Holds w₃ (with_made store₂ y)
        unfolding second-asks
        second_holds = rw second_is at K.holds

        pub second-left : (b.past ≡ f.past + length (term_bytes both.second)) × (b.ty < length Θ) × (tree Θ b.ty ≡ both.type₂) × (b.len ≡ length y.side) × (b.next ≡ y.next)
            × (b.elements ≡ st.elements + length x.elements + length y.elements) × (b.wires ≡ st.wires + length x.wires + length y.wires)
        unfolding second-asks
        second-left = (
          K.past,
          K.named,
          K.type,
          K.len ∙ ap (λ (m : Made). length m.side) second_is,
          K.next ∙ ap (λ (m : Made). m.next) second_is,
          omega (arith, K.elements, ap (λ (m : Made). length m.elements) second_is, middle-is.1),
          omega (arith, K.wires, ap (λ (m : Made). length m.wires) second_is, middle-is.2),
        )

  pub second_type : y.type ≡ both.type₂
  second_type = made_type both.typed₂ both.env₂ both.fits₂ x.next

  pub second-length : length y.side ≡ size both.type₂
  second-length = made_side both.typed₂ both.env₂ both.fits₂ x.next ∙ ap size second_type

  pub first-dirs : dirs x.side ≡ turns false both.type
  first-dirs = (term_driven both.typed Q.env both.fits n).dirs

  pub second-dirs : dirs y.side ≡ turns false both.type₂
  second-dirs = (term_driven both.typed₂ both.env₂ both.fits₂ x.next).dirs

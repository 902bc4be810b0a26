-- What the reader of records refuses is what the sentences refuse, and the other way. Assumes nothing.
use Prim.Native.Nat.{ℕ, zero, suc, ◌+◌, ◌<◌, ◌≤◌}
use mathlib.Core.Path.{◌≡◌, refl, sym, ap, subst, ◌∙◌}
use mathlib.Core.Bool.{Bool, true, false, not, ◌||◌, false≢true}
use mathlib.Core.List.{List, [], ◌∷◌, ◌++◌}
use native.Mathlib.Omega.{arith}
use lib.Dec.{T, leb, ltb, eqb, leb→le, ltb→lt}
use lib.ListN.{length, length-append, replicate}
use borrow.Author.Tests.{ltb-false, leb-false, eqb-false, lt-ltb, le-ltb, lt-leb, eq-eqb, ne_eqb, not-false}
use Rattle.calculus.specs.Answer.{Refusal, Answer, good, ◌>>=◌, numbered, refuse, need}
use Rattle.calculus.specs.Types.{size, TyRec, rec01, rec02, rec03, rec04, rec_eq, Table, rec_at, ty_of, tys_from}
use Rattle.calculus.specs.Terms.{Edition, Term, fun, app, lfun, lapp, pair, proj, fix, name}
use Rattle.calculus.specs.Read.{TypeKind, NodeKind, k11, k12, k13, k14, k15, k16, k17, k18, k19, k1A, k1B, Kind, unknown, type, node, kind_of, knows, type_body, node_body, node_typed, byte, known, formed, repeated, type_at, read_types, Got, node_kind, head_at, node_of_kind, read_term, read_records}
use Rattle.laws.proofs.Tests.{T-is, is_false, false_not_T, and_both, and_of, or_left, or_right}
use Rattle.sheet_theorems.specs.Laid.{Below}
use Rattle.sheet_theorems.proofs.TableRead.{repeat_of}
use Rattle.sheet_theorems.proofs.Judging.{Judged, value, Any, of_bind, of_require}
use Rattle.sheet_theorems.proofs.Laying.{headed}
use Rattle.refusal_theorems.specs.Unreadable.{ReadRule, by-due, by_kind, by-body, by_count, by-depth, by-numbers, by_form, by-repeat, by_size, rule_order, KeepsRules, type_here, TypeBroken, type_cut, too_many_types, no_earlier_type_lem, against_the_table_lem, same_as_earlier_lem, too_large, NodeBroken, unfinished, unknown_kind, node_cut, too_many_nodes, too_deep, no_such_type, TypesRead, no_type_yet, type_read, subterms_of, NodesRead, types_end_lem, node_read, BadRecord, bad_type, bad_node, bytes_after}
use Rattle.refusal_theorems.proofs.RuleChains.{run_rules, keeps_rules, RuleTests, runs_or}

-- ---- the tests of a type record

known-below : (Θ : Table) (r : TyRec) → T (known Θ r) → Below (length Θ) r
known-below Θ rec01 t = tt
known-below Θ (rec02 a b) t = let (p, q) = and_both (ltb a (length Θ)) (ltb b (length Θ)) t in (ltb→lt a (length Θ) p, ltb→lt b (length Θ) q)
known-below Θ (rec03 a b) t = let (p, q) = and_both (ltb a (length Θ)) (ltb b (length Θ)) t in (ltb→lt a (length Θ) p, ltb→lt b (length Θ) q)
known-below Θ (rec04 a b) t = let (p, q) = and_both (ltb a (length Θ)) (ltb b (length Θ)) t in (ltb→lt a (length Θ) p, ltb→lt b (length Θ) q)

below-known : (Θ : Table) (r : TyRec) → Below (length Θ) r → T (known Θ r)
below-known Θ rec01 h = tt
below-known Θ (rec02 a b) h = and_of (ltb a (length Θ)) (ltb b (length Θ)) (rw (lt-ltb a (length Θ) h.0) tt) (rw (lt-ltb b (length Θ) h.1) tt)
below-known Θ (rec03 a b) h = and_of (ltb a (length Θ)) (ltb b (length Θ)) (rw (lt-ltb a (length Θ) h.0) tt) (rw (lt-ltb b (length Θ) h.1) tt)
below-known Θ (rec04 a b) h = and_of (ltb a (length Θ)) (ltb b (length Θ)) (rw (lt-ltb a (length Θ) h.0) tt) (rw (lt-ltb b (length Θ) h.1) tt)

rec_eq_refl : (r : TyRec) → T (rec_eq r r)
rec_eq_refl rec01 = tt
rec_eq_refl (rec02 a b) = and_of (eqb a a) (eqb b b) (rw (eq-eqb a a refl) tt) (rw (eq-eqb b b refl) tt)
rec_eq_refl (rec03 a b) = and_of (eqb a a) (eqb b b) (rw (eq-eqb a a refl) tt) (rw (eq-eqb b b refl) tt)
rec_eq_refl (rec04 a b) = and_of (eqb a a) (eqb b b) (rw (eq-eqb a a refl) tt) (rw (eq-eqb b b refl) tt)

of_repeat : (Θ : Table) (r : TyRec) (n : ℕ) → n < length Θ → rec_at Θ n ≡ r → T (repeated Θ r)
of_repeat [] r n h e = absurd (omega (arith, h))
of_repeat (q ∷ Θ) r zero h e = or_left (rec_eq q r) (repeated Θ r) (subst (λ (x : TyRec). T (rec_eq q x)) e (rec_eq_refl q))
of_repeat (q ∷ Θ) r (suc n) h e = or_right (rec_eq q r) (repeated Θ r) (of_repeat Θ r n (omega (arith, h)) e)

module _ (s : List ℕ) (Θ : Table) (at : ℕ) (k : TypeKind) (more : ℕ) where
  abbrev pub type_test : ReadRule → Bool
  type_test by-due = true
  type_test by_kind = true
  type_test by-body = leb (at + 1 + type_body k) (length s)
  type_test by_count = ltb 0 more
  type_test by-depth = true
  type_test by-numbers = known Θ (type_here s at k)
  type_test by_form = formed Θ (type_here s at k)
  type_test by-repeat = not (repeated Θ (type_here s at k))
  type_test by_size = leb (size (ty_of (tys_from [] Θ) (type_here s at k))) 128

  type-fails : {r : ReadRule} → length Θ + more ≡ 256 → TypeBroken s Θ at k r → type_test r ≡ false
  type-fails l (type_cut h) = lt-leb (at + 1 + type_body k) (length s) h
  type-fails l (too_many_types h) = le-ltb 0 more (omega (arith, l, h))
  type-fails l (no_earlier_type_lem h) = is_false (known Θ (type_here s at k)) (λ t. h (known-below Θ (type_here s at k) t))
  type-fails l (against_the_table_lem h) = is_false (formed Θ (type_here s at k)) h
  type-fails l (same_as_earlier_lem {n = n} h e) = rw (T-is (repeated Θ (type_here s at k)) (of_repeat Θ (type_here s at k) n h e))
  type-fails l (too_large h) = lt-leb (size (ty_of (tys_from [] Θ) (type_here s at k))) 128 h

  fails-type : (r : ReadRule) → length Θ + more ≡ 256 → type_test r ≡ false → TypeBroken s Θ at k r
  fails-type by-due l e = absurd (false≢true (sym e))
  fails-type by_kind l e = absurd (false≢true (sym e))
  fails-type by-body l e = type_cut (leb-false (at + 1 + type_body k) (length s) e)
  fails-type by_count l e = let h = ltb-false 0 more e in too_many_types (omega (arith, l))
  fails-type by-depth l e = absurd (false≢true (sym e))
  fails-type by-numbers l e = no_earlier_type_lem (λ b. false_not_T (known Θ (type_here s at k)) e (below-known Θ (type_here s at k) b))
  fails-type by_form l e = against_the_table_lem (false_not_T (formed Θ (type_here s at k)) e)
  fails-type by-repeat l e =
      let (n, h, q) = repeat_of Θ (type_here s at k) (rw (not-false (repeated Θ (type_here s at k)) e) tt) in
      same_as_earlier_lem h q
  fails-type by_size l e = too_large (leb-false (size (ty_of (tys_from [] Θ) (type_here s at k))) 128 e)

  pub type_tests : length Θ + more ≡ 256 → RuleTests (TypeBroken s Θ at k) type_test
  type_tests l r = ((λ b. type-fails l b), (λ e. fails-type r l e))

-- tests one after the other, and then the rest
check_then : {A : Type 0} (a b c d : Bool) (at : ℕ) (g : Answer A)
    → ((need a 5 at >>= λ _. need b 6 at >>= λ _. need c 7 at >>= λ _. need d 8 at) >>= λ _. g) ≡ (need a 5 at >>= λ _. need b 6 at >>= λ _. need c 7 at >>= λ _. need d 8 at >>= λ _. g)
check_then false b c d at g = refl
check_then true false c d at g = refl
check_then true true false d at g = refl
check_then true true true d at g = refl

pub type_runs : (s : List ℕ) (Θ : Table) (at : ℕ) (k : TypeKind) (more : ℕ) (go : Table → ℕ → Answer (Table × ℕ))
    → type_at (type k) more s Θ at go ≡ run_rules (type_test s Θ at k more) at rule_order (go (Θ ++ type_here s at k ∷ []) (at + 1 + type_body k))
type_runs s Θ at k more go =
    ap (λ (x : Answer (Table × ℕ)). need (leb (at + 1 + type_body k) (length s)) 3 at >>= λ _. need (ltb 0 more) 8 at >>= λ _. x)
    (check_then (known Θ (type_here s at k)) (formed Θ (type_here s at k)) (not (repeated Θ (type_here s at k))) (leb (size (ty_of (tys_from [] Θ) (type_here s at k))) 128) at (go (Θ ++ type_here s at k ∷ []) (at + 1 + type_body k)))

-- ---- the tests of a node's record

module _ (E : Edition) (s : List ℕ) (Θ : Table) (at n more : ℕ) where
  abbrev kind_test : Kind → Bool
  kind_test unknown = false
  kind_test (type k) = false
  kind_test (node k) = knows E k

  abbrev body_test : Kind → Bool
  body_test unknown = true
  body_test (type k) = true
  body_test (node k) = leb (at + 1 + node_body k) (length s)

  abbrev numbers_test : Kind → Bool
  numbers_test unknown = true
  numbers_test (type k) = true
  numbers_test (node k) = eqb (node_typed k) 0 || ltb (byte s (at + node_typed k)) (length Θ)

  abbrev pub node_test : Kind → ReadRule → Bool
  node_test q by-due = ltb at (length s)
  node_test q by_kind = kind_test q
  node_test q by-body = body_test q
  node_test q by_count = ltb n 2048
  node_test q by-depth = ltb 0 more
  node_test q by-numbers = numbers_test q
  node_test q by_form = true
  node_test q by-repeat = true
  node_test q by_size = true

  abbrev pub head_value : Kind → Answer NodeKind
  head_value unknown = refuse 4 at
  head_value (type k) = refuse 4 at
  head_value (node k) = good k

  -- `head_at` with its kind
  abbrev head_of : Kind → Answer NodeKind
  head_of q = do
    _ ← need (ltb at (length s)) 3 at
    k ← node_kind q at
    _ ← need (knows E k) 4 at
    _ ← need (leb (at + 1 + node_body k) (length s)) 3 at
    _ ← need (ltb n 2048) 8 at
    _ ← need (ltb 0 more) 8 at
    _ ← need (eqb (node_typed k) 0 || ltb (byte s (at + node_typed k)) (length Θ)) 5 at
    good k

  head-of : head_at E more s (length Θ) at n ≡ head_of (kind_of (byte s at))
  unfolding head_at
  head-of = refl

  of-runs : (q : Kind) → head_of q ≡ run_rules (node_test q) at rule_order (head_value q)
  of-runs unknown = refl
  of-runs (type k) = refl
  of-runs (node k) = refl

  pub head_runs : head_at E more s (length Θ) at n ≡ run_rules (node_test (kind_of (byte s at))) at rule_order (head_value (kind_of (byte s at)))
  head_runs = head-of ∙ of-runs (kind_of (byte s at))

  kind-fails : ((k : NodeKind) → kind_of (byte s at) ≡ node k → ¬ T (knows E k)) → (q : Kind) → kind_of (byte s at) ≡ q → kind_test q ≡ false
  kind-fails h unknown e = refl
  kind-fails h (type k) e = refl
  kind-fails h (node k) e = is_false (knows E k) (h k e)

  node-fails : {r : ReadRule} {d : ℕ} → d + more ≡ 65 → NodeBroken E s Θ at n d r → node_test (kind_of (byte s at)) r ≡ false
  node-fails l (unfinished h) = le-ltb at (length s) (omega (arith, h))
  node-fails l (unknown_kind h) = kind-fails h (kind_of (byte s at)) refl
  node-fails l (node_cut {k = k} e h) = ap body_test e ∙ lt-leb (at + 1 + node_body k) (length s) h
  node-fails l (too_many_nodes h) = le-ltb n 2048 h
  node-fails l (too_deep h) = le-ltb 0 more (omega (arith, l, h))
  node-fails l (no_such_type {k = k} e z h) = ap numbers_test e ∙ neither (eqb (node_typed k) 0) (ltb (byte s (at + node_typed k)) (length Θ)) (ne_eqb (node_typed k) 0 z) (le-ltb (byte s (at + node_typed k)) (length Θ) h)
    where
      neither : (a b : Bool) → a ≡ false → b ≡ false → (a || b) ≡ false
      neither true b e f = absurd (false≢true (sym e))
      neither false b e f = f

  body-broken : (d : ℕ) (q : Kind) → kind_of (byte s at) ≡ q → body_test q ≡ false → NodeBroken E s Θ at n d by-body
  body-broken d unknown e f = absurd (false≢true (sym f))
  body-broken d (type k) e f = absurd (false≢true (sym f))
  body-broken d (node k) e f = node_cut e (leb-false (at + 1 + node_body k) (length s) f)

  numbers-broken : (d : ℕ) (q : Kind) → kind_of (byte s at) ≡ q → numbers_test q ≡ false → NodeBroken E s Θ at n d by-numbers
  numbers-broken d unknown e f = absurd (false≢true (sym f))
  numbers-broken d (type k) e f = absurd (false≢true (sym f))
  numbers-broken d (node k) e f =
      let (a, b) = neither (eqb (node_typed k) 0) (ltb (byte s (at + node_typed k)) (length Θ)) f in
      no_such_type e (eqb-false (node_typed k) 0 a) (ltb-false (byte s (at + node_typed k)) (length Θ) b)
    where
      neither : (a b : Bool) → (a || b) ≡ false → (a ≡ false) × (b ≡ false)
      neither true b e = absurd (false≢true (sym e))
      neither false b e = (refl, e)

  fails-node : (d : ℕ) (r : ReadRule) → d + more ≡ 65 → at ≤ length s → node_test (kind_of (byte s at)) r ≡ false → NodeBroken E s Θ at n d r
  fails-node d by-due l w e = let h = ltb-false at (length s) e in unfinished (omega arith)
  fails-node d by_kind l w e = unknown_kind (λ k q t. false_not_T (knows E k) (sym (ap kind_test q) ∙ e) t)
  fails-node d by-body l w e = body-broken d (kind_of (byte s at)) refl e
  fails-node d by_count l w e = too_many_nodes (ltb-false n 2048 e)
  fails-node d by-depth l w e = let h = ltb-false 0 more e in too_deep (omega (arith, l))
  fails-node d by-numbers l w e = numbers-broken d (kind_of (byte s at)) refl e
  fails-node d by_form l w e = absurd (false≢true (sym e))
  fails-node d by-repeat l w e = absurd (false≢true (sym e))
  fails-node d by_size l w e = absurd (false≢true (sym e))

  pub node_tests : (d : ℕ) → d + more ≡ 65 → at ≤ length s → RuleTests (NodeBroken E s Θ at n d) (node_test (kind_of (byte s at)))
  node_tests d l w r = ((λ b. node-fails l b), (λ e. fails-node d r l w e))

-- ---- what is read stands in the sheet

pub le_if : (x y : ℕ) → ¬ (y < x) → x ≤ y
le_if x y h = by (leb x y) refl
  where
    by : (t : Bool) → leb x y ≡ t → x ≤ y
    by true e = leb→le x y (rw e tt)
    by false e = absurd (h (leb-false x y e))

types-within : {s : List ℕ} {Θ : Table} {at : ℕ} → TypesRead s Θ at → at ≤ length s
types-within no_type_yet = omega arith
types-within {s = s} (type_read {at = at} {k = k} t e o) = le_if (at + 1 + type_body k) (length s) (λ h. o by-body (type_cut h))

pub nodes-within : {E : Edition} {s : List ℕ} {Θ : Table} {at n : ℕ} {due : List ℕ} → NodesRead E s Θ at n due → at ≤ length s
nodes-within (types_end_lem t e) = types-within t
nodes-within {s = s} (node_read {at = at} {k = k} r e o) = le_if (at + 1 + node_body k) (length s) (λ h. o by-body (node_cut e h))

-- ---- from the reader to the sentences

module _ (E : Edition) (s : List ℕ) where
  abbrev pub BadAt : Refusal → Type 0
  BadAt why = (why ≡ numbered why.number why.place) × BadRecord E s why.number why.place

  abbrev TypesEnd : Table × ℕ → Type 0
  TypesEnd r = TypesRead s r.0 r.1 × ((k : TypeKind) → ¬ (kind_of (byte s r.1) ≡ type k))

  type-or : (q : Kind) (more : ℕ) (Θ : Table) (at : ℕ) (go : Table → ℕ → Answer (Table × ℕ)) → kind_of (byte s at) ≡ q → length Θ + more ≡ 256 → TypesRead s Θ at
      → ((Φ : Table) (next : ℕ) → 0 < more → length Φ ≡ length Θ + 1 → TypesRead s Φ next → Judged BadAt TypesEnd (go Φ next)) → Judged BadAt TypesEnd (type_at q more s Θ at go)
  type-or unknown more Θ at go e l t h = value (t, λ k z. let z : ◌≡◌ {A = ℕ} 0 1 = cc in absurd (omega arith))
  type-or (node k) more Θ at go e l t h = value (t, λ k z. let z : ◌≡◌ {A = ℕ} 0 1 = cc in absurd (omega arith))
  type-or (type k) more Θ at go e l t h = rw (type_runs s Θ at k more go)
      (runs_or (type_test s Θ at k more) (type_tests s Θ at k more l) at rule_order (go (Θ ++ type_here s at k ∷ []) (at + 1 + type_body k))
      (λ rule x. (refl, bad_type t e x))
      (λ none. let o = keeps_rules none in h (Θ ++ type_here s at k ∷ []) (at + 1 + type_body k) (room (λ z. o by_count (too_many_types z))) (length-append Θ (type_here s at k ∷ [])) (type_read t e o)))
    where
      room : ¬ (256 ≤ length Θ) → 0 < more
      room f = le_if 1 more (λ z. f (omega (arith, l, z)))

  types-or : (more : ℕ) (Θ : Table) (at : ℕ) → length Θ + more ≡ 256 → TypesRead s Θ at → Judged BadAt TypesEnd (read_types more s Θ at)
  unfolding read_types
  types-or zero Θ at l t = type-or (kind_of (byte s at)) zero Θ at _ refl l t (λ Φ next z _ _. absurd (omega (arith, z)))
  types-or (suc more) Θ at l t = type-or (kind_of (byte s at)) (suc more) Θ at _ refl l t (λ Φ next _ f u. types-or more Φ next (omega (arith, l, f)) u)

  module _ (Θ : Table) where
    -- a node's record: the next one is due behind it
    abbrev NextRead : ℕ → ℕ → ℕ → List ℕ → NodeKind → Type 0
    NextRead at n d due k = NodesRead E s Θ (at + 1 + node_body k) (n + 1) (replicate (subterms_of k) (d + 1) ++ due)

    value-or : (at n d : ℕ) (due : List ℕ) → NodesRead E s Θ at n (d ∷ due) → KeepsRules (NodeBroken E s Θ at n d) → (q : Kind) → kind_of (byte s at) ≡ q → Judged BadAt (NextRead at n d due) (head_value E s Θ at n 0 q)
    value-or at n d due r o unknown e = absurd (o by_kind (unknown_kind (λ k z _. let z : ◌≡◌ {A = ℕ} 0 1 = cc in omega arith)))
    value-or at n d due r o (type k) e = absurd (o by_kind (unknown_kind (λ k z _. let z : ◌≡◌ {A = ℕ} 0 1 = cc in omega arith)))
    value-or at n d due r o (node k) e = value (node_read r e o)

    head-or : (more at n d : ℕ) (due : List ℕ) → d + more ≡ 65 → NodesRead E s Θ at n (d ∷ due) → Judged BadAt (NextRead at n d due) (head_at E more s (length Θ) at n)
    head-or more at n d due l r = rw (head_runs E s Θ at n more)
        (runs_or (node_test E s Θ at n more (kind_of (byte s at))) (node_tests E s Θ at n more d l (nodes-within r)) at rule_order (head_value E s Θ at n more (kind_of (byte s at)))
        (λ rule x. (refl, bad_node r x))
        (λ none. value-or at n d due r (keeps_rules none) (kind_of (byte s at)) refl))

    abbrev TermRead : List ℕ → Got → Type 0
    TermRead due g = NodesRead E s Θ g.next g.count due

    module _ (d : ℕ) (due : List ℕ) (go : ℕ → ℕ → Answer Got) (sub : (due : List ℕ) (at n : ℕ) → NodesRead E s Θ at n ((d + 1) ∷ due) → Judged BadAt (TermRead due) (go at n)) where
      one-or : (next n : ℕ) (f : Term → Term) → NodesRead E s Θ next n ((d + 1) ∷ due)
          → Judged BadAt (TermRead due) (go next n >>= λ e. good (record { term = f e.term; next = e.next; count = e.count }))
      one-or next n f r = of_bind (go next n) _ (sub due next n r) λ e _ j. value j

      two-or : (next n : ℕ) (f : Term → Term → Term) → NodesRead E s Θ next n ((d + 1) ∷ (d + 1) ∷ due)
          → Judged BadAt (TermRead due) (go next n >>= λ x. go x.next x.count >>= λ y. good (record { term = f x.term y.term; next = y.next; count = y.count }))
      two-or next n f r = of_bind (go next n) _ (sub ((d + 1) ∷ due) next n r) λ x _ j. of_bind (go x.next x.count) _ (sub due x.next x.count j) λ y _ l. value l

      node-or : (k : NodeKind) (x y next n : ℕ) → NodesRead E s Θ next n (replicate (subterms_of k) (d + 1) ++ due) → Judged BadAt (TermRead due) (node_of_kind k x y next n go)
      node-or k11 x y next n r = value r
      node-or k12 x y next n r = value r
      node-or k13 x y next n r = one-or next n (fun x) r
      node-or k14 x y next n r = two-or next n app r
      node-or k15 x y next n r = one-or next n (lfun x) r
      node-or k16 x y next n r = two-or next n lapp r
      node-or k17 x y next n r = two-or next n (pair x) r
      node-or k18 x y next n r = two-or next n proj r
      node-or k19 x y next n r = one-or next n (fix x) r
      node-or k1A x y next n r = value r
      node-or k1B x y next n r = two-or next n name r

    -- the kind of a record at depth 65 is never handed out
    too-deep-or : (at n : ℕ) (k : NodeKind) → head_at E 0 s (length Θ) at n ≡ good k → ⊥
    too-deep-or at n k e = let h = (headed E k 0 s (length Θ) at n e).deep in omega (arith, h)

    term-or : (more at n d : ℕ) (due : List ℕ) → d + more ≡ 65 → NodesRead E s Θ at n (d ∷ due) → Judged BadAt (TermRead due) (read_term E more s (length Θ) at n)
    unfolding read_term
    term-or zero at n d due l r = of_bind (head_at E zero s (length Θ) at n) _ (head-or zero at n d due l r) λ k h _. absurd (too-deep-or at n k h)
    term-or (suc more) at n d due l r =
        of_bind (head_at E (suc more) s (length Θ) at n) _ (head-or (suc more) at n d due l r) λ k _ j.
        node-or d due (λ a c. read_term E more s (length Θ) a c) (λ due a c q. term-or more a c (d + 1) due (omega (arith, l)) q) k (byte s (at + 1)) (byte s (at + 2)) (at + 1 + node_body k) (n + 1) j

  pub records_or : Judged BadAt Any (read_records E s)
  unfolding read_records
  records_or =
      of_bind (read_types 256 s [] 0) _ (types-or 256 [] 0 (omega arith) no_type_yet) λ r _ t.
      of_bind (read_term E 64 s (length r.0) r.1 0) _ (term-or r.0 64 r.1 0 1 [] (omega arith) (types_end_lem t.0 t.1)) λ g _ j.
      of_require (eqb g.next (length s)) (numbered 9 g.next) _ (λ f. let d = eqb-false g.next (length s) f in let w = nodes-within j in (refl, bytes_after j (omega arith))) λ _. value tt

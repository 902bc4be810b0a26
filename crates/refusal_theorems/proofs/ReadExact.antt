-- Refusals 2 to 9 of a sheet: the reader's are the sentences', and there is at most one. Assumes nothing.
use Prim.Native.Nat.{ℕ, zero, suc, ◌+◌, ◌≤◌}
use mathlib.Core.Path.{◌≡◌, refl, sym, ap, subst, ◌∙◌}
use mathlib.Core.Logic.{◌↔◌}
use mathlib.Core.List.{List, [], ◌∷◌, ◌++◌}
use native.Mathlib.Omega.{arith}
use native.Mathlib.Decide.{ℕ_discrete}
use lib.Dec.{leb, leb→le}
use lib.ListN.{length, length-append, replicate}
use borrow.Author.Tests.{leb-false, le-leb, lt-leb, ne_eqb}
use Rattle.calculus.specs.Answer.{Refusal, Answer, good, refused, ◌>>=◌, numbered, refuse}
use Rattle.calculus.proofs.Answers.{refused≢good, good-inj, refused-inj}
use Rattle.calculus.specs.Types.{Table}
use Rattle.calculus.specs.Terms.{Edition, first, second, Term, fun, app, lfun, lapp, pair, proj, fix, name}
use Rattle.calculus.specs.Read.{TypeKind, NodeKind, k11, k12, k13, k14, k15, k16, k17, k18, k19, k1A, k1B, Kind, unknown, type, node, kind_of, type_body, node_body, byte, type_at, read_types, Got, got, head_at, node_of_kind, read_term, Sheet, read_records, offset_by, read_sheet}
use Rattle.sheet_theorems.proofs.Judging.{Judged, value, refusal, Any, of_require, weaker, of_refused}
use Rattle.sheet_theorems.proofs.Editions.{first-sheet, second-sheet}
use Rattle.refusal_theorems.specs.Unreadable.{ReadRule, by_count, by-depth, rule_order, rule_number, FirstBroken, KeepsRules, type_here, TypeBroken, too_many_types, NodeBroken, too_deep, TypesRead, no_type_yet, type_read, subterms_of, NodesRead, types_end_lem, node_read, BadRecord, bad_type, bad_node, bytes_after, Unreadable, too_long, in_first, in_second}
use Rattle.refusal_theorems.proofs.RuleChains.{runs-first, runs_none}
use Rattle.refusal_theorems.proofs.Reading.{type_test, type_tests, type_runs, node_test, head_value, head_runs, node_tests, nodes-within, BadAt, records_or}

-- ---- from the sentences to the reader: the types

module _ (s : List ℕ) where
  -- the reader comes to each record behind those in order
  record TypesRun (Θ : Table) (at : ℕ) : Type 0 where
    more : ℕ
    room : length Θ + more ≡ 256
    run : read_types 256 s [] 0 ≡ read_types more s Θ at

  type-on : (more : ℕ) (Θ : Table) (at : ℕ) (k : TypeKind) → length Θ + suc more ≡ 256 → kind_of (byte s at) ≡ type k → KeepsRules (TypeBroken s Θ at k) → read_types (suc more) s Θ at ≡ read_types more s (Θ ++ type_here s at k ∷ []) (at + 1 + type_body k)
  unfolding read_types
  type-on more Θ at k l e o =
      ap (λ (q : Kind). type_at q (suc more) s Θ at (λ Φ next. read_types more s Φ next)) e
      ∙ type_runs s Θ at k (suc more) (λ Φ next. read_types more s Φ next)
      ∙ runs_none (type_test s Θ at k (suc more)) (type_tests s Θ at k (suc more) l) at rule_order _ o

  types-run : {Θ : Table} {at : ℕ} → TypesRead s Θ at → TypesRun Θ at
  types-run no_type_yet = record { more = 256; room = omega arith; run = refl }
  types-run (type_read {Θ = Θ} {at = at} {k = k} t e o) = by (types-run t)
    where
      by : TypesRun Θ at → TypesRun (Θ ++ type_here s at k ∷ []) (at + 1 + type_body k)
      by h = on h.more h.room h.run
        where
          on : (more : ℕ) → length Θ + more ≡ 256 → read_types 256 s [] 0 ≡ read_types more s Θ at → TypesRun (Θ ++ type_here s at k ∷ []) (at + 1 + type_body k)
          on zero l r = absurd (o by_count (too_many_types (omega (arith, l))))
          on (suc more) l r = record { more = more; room = omega (arith, l, length-append Θ (type_here s at k ∷ [])); run = r ∙ type-on more Θ at k l e o }

  -- a record that is no type's ends them
  types-stop : (q : Kind) (more : ℕ) (Θ : Table) (at : ℕ) (go : Table → ℕ → Answer (Table × ℕ)) → ((k : TypeKind) → ¬ (q ≡ type k)) → type_at q more s Θ at go ≡ good (Θ, at)
  types-stop unknown more Θ at go h = refl
  types-stop (node k) more Θ at go h = refl
  types-stop (type k) more Θ at go h = absurd (h k refl)

  types-done : (more : ℕ) (Θ : Table) (at : ℕ) → ((k : TypeKind) → ¬ (kind_of (byte s at) ≡ type k)) → read_types more s Θ at ≡ good (Θ, at)
  unfolding read_types
  types-done zero Θ at h = types-stop (kind_of (byte s at)) zero Θ at _ h
  types-done (suc more) Θ at h = types-stop (kind_of (byte s at)) (suc more) Θ at _ h

  -- a broken one is refused
  type_refused : (more : ℕ) (Θ : Table) (at : ℕ) (k : TypeKind) (go : Table → ℕ → Answer (Table × ℕ)) (rule : ReadRule) → length Θ + more ≡ 256 → FirstBroken (TypeBroken s Θ at k) rule_order rule
      → type_at (type k) more s Θ at go ≡ refused (numbered (rule_number rule) at)
  type_refused more Θ at k go rule l x = type_runs s Θ at k more go ∙ runs-first (type_test s Θ at k more) (type_tests s Θ at k more l) at _ x

  types_refused_lem : (more : ℕ) (Θ : Table) (at : ℕ) (k : TypeKind) (rule : ReadRule) → length Θ + more ≡ 256 → kind_of (byte s at) ≡ type k → FirstBroken (TypeBroken s Θ at k) rule_order rule
      → read_types more s Θ at ≡ refused (numbered (rule_number rule) at)
  unfolding read_types
  types_refused_lem zero Θ at k rule l e x = ap (λ (q : Kind). type_at q zero s Θ at (λ Φ next. refuse 8 at)) e ∙ type_refused zero Θ at k (λ Φ next. refuse 8 at) rule l x
  types_refused_lem (suc more) Θ at k rule l e x = ap (λ (q : Kind). type_at q (suc more) s Θ at (λ Φ next. read_types more s Φ next)) e ∙ type_refused (suc more) Θ at k (λ Φ next. read_types more s Φ next) rule l x

-- ---- .. and the term

-- an answer goes on by its offset and its count alone
one_on : {X : Type 0} (m : Answer Got) (f : Term → Term) (F : ℕ → ℕ → Answer X) → ((m >>= λ e. got (f e.term) e.next e.count) >>= λ g. F g.next g.count) ≡ (m >>= λ g. F g.next g.count)
one_on (good g) f F = refl
one_on (refused why) f F = refl

two_on : {X : Type 0} (m : Answer Got) (h : ℕ → ℕ → Answer Got) (f : Term → Term → Term) (F : ℕ → ℕ → Answer X)
    → ((m >>= λ x. h x.next x.count >>= λ y. got (f x.term y.term) y.next y.count) >>= λ g. F g.next g.count) ≡ (m >>= λ x. h x.next x.count >>= λ y. F y.next y.count)
two_on (good x) h f F = one_on (h x.next x.count) (f x.term) F
two_on (refused why) h f F = refl

module _ (E : Edition) (s : List ℕ) (Θ : Table) where
  -- the subterms that are due, read one after the other, each with the levels of depth that it may take
  abbrev go_on_lem : List ℕ → ℕ → ℕ → Answer (ℕ × ℕ)
  go_on_lem [] at n = good (at, n)
  go_on_lem (m ∷ ms) at n = read_term E m s (length Θ) at n >>= λ g. go_on_lem ms g.next g.count

  node-on : (k : NodeKind) (m : ℕ) (ms : List ℕ) (x y next n : ℕ)
      → (node_of_kind k x y next n (λ a c. read_term E m s (length Θ) a c) >>= λ g. go_on_lem ms g.next g.count) ≡ go_on_lem (replicate (subterms_of k) m ++ ms) next n
  node-on k11 m ms x y next n = refl
  node-on k12 m ms x y next n = refl
  node-on k13 m ms x y next n = one_on (read_term E m s (length Θ) next n) (fun x) (go_on_lem ms)
  node-on k14 m ms x y next n = two_on (read_term E m s (length Θ) next n) (λ a c. read_term E m s (length Θ) a c) app (go_on_lem ms)
  node-on k15 m ms x y next n = one_on (read_term E m s (length Θ) next n) (lfun x) (go_on_lem ms)
  node-on k16 m ms x y next n = two_on (read_term E m s (length Θ) next n) (λ a c. read_term E m s (length Θ) a c) lapp (go_on_lem ms)
  node-on k17 m ms x y next n = two_on (read_term E m s (length Θ) next n) (λ a c. read_term E m s (length Θ) a c) (pair x) (go_on_lem ms)
  node-on k18 m ms x y next n = two_on (read_term E m s (length Θ) next n) (λ a c. read_term E m s (length Θ) a c) proj (go_on_lem ms)
  node-on k19 m ms x y next n = one_on (read_term E m s (length Θ) next n) (fix x) (go_on_lem ms)
  node-on k1A m ms x y next n = refl
  node-on k1B m ms x y next n = two_on (read_term E m s (length Θ) next n) (λ a c. read_term E m s (length Θ) a c) name (go_on_lem ms)

  -- depths, and the levels that are left at each
  data Levels : List ℕ → List ℕ → Type 0 where
    levels-end : Levels [] []
    levels-more : {d m : ℕ} {ds ms : List ℕ} → d + m ≡ 65 → Levels ds ms → Levels (d ∷ ds) (m ∷ ms)

  levels-all : (c d m : ℕ) {ds ms : List ℕ} → d + m ≡ 65 → Levels ds ms → Levels (replicate c d ++ ds) (replicate c m ++ ms)
  levels-all zero d m l v = v
  levels-all (suc c) d m l v = levels-more l (levels-all c d m l v)

  head_good : (m at n d : ℕ) (k : NodeKind) → d + m ≡ 65 → at ≤ length s → kind_of (byte s at) ≡ node k → KeepsRules (NodeBroken E s Θ at n d) → head_at E m s (length Θ) at n ≡ good k
  head_good m at n d k l w e o =
      head_runs E s Θ at n m
      ∙ runs_none (node_test E s Θ at n m (kind_of (byte s at))) (node_tests E s Θ at n m d l w) at rule_order (head_value E s Θ at n m (kind_of (byte s at))) o
      ∙ ap (head_value E s Θ at n m) e

  term_on_lem : (m at n d : ℕ) (k : NodeKind) (ms : List ℕ) → d + suc m ≡ 65 → at ≤ length s → kind_of (byte s at) ≡ node k → KeepsRules (NodeBroken E s Θ at n d)
      → go_on_lem (suc m ∷ ms) at n ≡ go_on_lem (replicate (subterms_of k) m ++ ms) (at + 1 + node_body k) (n + 1)
  unfolding read_term
  term_on_lem m at n d k ms l w e o =
      ap (λ (a : Answer NodeKind). (a >>= λ k. node_of_kind k (byte s (at + 1)) (byte s (at + 2)) (at + 1 + node_body k) (n + 1) (λ a c. read_term E m s (length Θ) a c)) >>= λ g. go_on_lem ms g.next g.count) (head_good (suc m) at n d k l w e o)
      ∙ node-on k m ms (byte s (at + 1)) (byte s (at + 2)) (at + 1 + node_body k) (n + 1)

  -- the reader comes to each node's record behind those in order
  record NodesRun (at n : ℕ) (due : List ℕ) : Type 0 where
    start : ℕ
    types : read_types 256 s [] 0 ≡ good (Θ, start)
    levels : List ℕ
    fits : Levels due levels
    run : go_on_lem (64 ∷ []) start 0 ≡ go_on_lem levels at n

  nodes-run : {at n : ℕ} {due : List ℕ} → NodesRead E s Θ at n due → NodesRun at n due
  nodes-run (types_end_lem {at = at} t h) =
      let r = types-run s t in
      record { start = at; types = r.run ∙ types-done s r.more Θ at h; levels = 64 ∷ []; fits = levels-more {d = 1} {m = 64} (omega arith) levels-end; run = refl }
  nodes-run (node_read {at = at} {n = n} {d = d} {k = k} {due = due} q e o) = by (nodes-run q)
    where
      on : (start : ℕ) (ms : List ℕ) → read_types 256 s [] 0 ≡ good (Θ, start) → Levels (d ∷ due) ms → go_on_lem (64 ∷ []) start 0 ≡ go_on_lem ms at n
          → NodesRun (at + 1 + node_body k) (n + 1) (replicate (subterms_of k) (d + 1) ++ due)
      on start ms t (levels-more {m = zero} l v) r = absurd (o by-depth (too_deep (omega (arith, l))))
      on start ms t (levels-more {m = suc m} {ms = ms'} l v) r =
          record { start = start; types = t; levels = replicate (subterms_of k) m ++ ms'; fits = levels-all (subterms_of k) (d + 1) m (omega (arith, l)) v; run = r ∙ term_on_lem m at n d k ms' l (nodes-within q) e o }

      by : NodesRun at n (d ∷ due) → NodesRun (at + 1 + node_body k) (n + 1) (replicate (subterms_of k) (d + 1) ++ due)
      by h = on h.start h.levels h.types h.fits h.run

  -- a broken record is refused
  head_refused : (m at n d : ℕ) (rule : ReadRule) → d + m ≡ 65 → at ≤ length s → FirstBroken (NodeBroken E s Θ at n d) rule_order rule → head_at E m s (length Θ) at n ≡ refused (numbered (rule_number rule) at)
  head_refused m at n d rule l w x =
      head_runs E s Θ at n m
      ∙ runs-first (node_test E s Θ at n m (kind_of (byte s at))) (node_tests E s Θ at n m d l w) at (head_value E s Θ at n m (kind_of (byte s at))) x

  term_refused : (m at n d : ℕ) (rule : ReadRule) → d + m ≡ 65 → at ≤ length s → FirstBroken (NodeBroken E s Θ at n d) rule_order rule → read_term E m s (length Θ) at n ≡ refused (numbered (rule_number rule) at)
  unfolding read_term
  term_refused zero at n d rule l w x = rw (head_refused zero at n d rule l w x)
  term_refused (suc m) at n d rule l w x = rw (head_refused (suc m) at n d rule l w x)

  levels-refused : {at n d : ℕ} {due : List ℕ} (ms : List ℕ) (rule : ReadRule) → Levels (d ∷ due) ms → at ≤ length s → FirstBroken (NodeBroken E s Θ at n d) rule_order rule → go_on_lem ms at n ≡ refused (numbered (rule_number rule) at)
  levels-refused {at} {n} {d} {due} ms rule (levels-more {m = m} l v) w x = rw (term_refused m at n d rule l w x)

  -- the root alone
  root-refused : (start : ℕ) (why : Refusal) → go_on_lem (64 ∷ []) start 0 ≡ refused why → read_term E 64 s (length Θ) start 0 ≡ refused why
  root-refused start why = by (read_term E 64 s (length Θ) start 0)
    where
      by : (a : Answer Got) → (a >>= λ g. go_on_lem [] g.next g.count) ≡ refused why → a ≡ refused why
      by (good g) e = absurd (refused≢good (sym e))
      by (refused y) e = ap (λ (w : Refusal). refused w) (refused-inj e)

  root-good : (start at n : ℕ) → go_on_lem (64 ∷ []) start 0 ≡ good (at, n) → (g : Got) × (read_term E 64 s (length Θ) start 0 ≡ good g) × (g.next ≡ at)
  root-good start at n = by (read_term E 64 s (length Θ) start 0)
    where
      by : (a : Answer Got) → (a >>= λ g. go_on_lem [] g.next g.count) ≡ good (at, n) → (g : Got) × (a ≡ good g) × (g.next ≡ at)
      by (good g) e = (g, refl, ap (λ (p : ℕ × ℕ). p.0) (good-inj e))
      by (refused y) e = absurd (refused≢good e)

  levels-none : (at n : ℕ) (ms : List ℕ) → Levels [] ms → go_on_lem ms at n ≡ good (at, n)
  levels-none at n ms levels-end = refl

-- ---- the records

bad_read : {E : Edition} {s : List ℕ} {number at : ℕ} → BadRecord E s number at → read_records E s ≡ refused (numbered number at)
unfolding read_records
bad_read {E} {s} (bad_type {Θ = Θ} {at = at} {k = k} {rule = rule} t e x) =
    let r = types-run s t in
    rw (r.run ∙ types_refused_lem s r.more Θ at k rule r.room e x)
bad_read {E} {s} (bad_node {Θ = Θ} {at = at} {n = n} {d = d} {rule = rule} q x) =
    let r = nodes-run E s Θ q in
    let z = root-refused E s Θ r.start (numbered (rule_number rule) at) (r.run ∙ levels-refused E s Θ r.levels rule r.fits (nodes-within q) x) in
    simp (r.types, z)
bad_read {E} {s} (bytes_after {Θ = Θ} {at = at} {n = n} q h) =
    let r = nodes-run E s Θ q in
    let (g, z, i) = root-good E s Θ r.start at n (r.run ∙ levels-none E s Θ at n r.levels r.fits) in
    simp (r.types, z, i, ne_eqb at (length s) (λ e. absurd (omega (arith, e, h))))

-- ---- the sheet

-- offsets behind 31 are one more
second_or : (s r : List ℕ) → length s ≤ 16384 → s ≡ 0x31 ∷ r → (m : Answer Sheet) → Judged (BadAt second r) Any m → Judged (Unreadable s) Any (offset_by 1 m)
second_or s r l e (good σ) h = value tt
second_or s r l e (refused why) (refusal (q, b)) = refusal (subst (Unreadable s) (sym (ap moved q)) (in_second l e b))
  where
    moved : Refusal → Refusal
    moved why = record { number = why.number; place = 1 + why.place; wanted = why.wanted; found = why.found }

unreadable_first : (s : List ℕ) → ¬ (byte s 0 ≡ 0x31) → Judged (Unreadable s) Any (read_sheet s)
unreadable_first s d = rw (first-sheet s d)
    (of_require (leb (length s) 16384) (numbered 2 0) _ (λ f. too_long (leb-false (length s) 16384 f)) λ w.
    weaker (λ why b. subst (Unreadable s) (sym b.0) (in_first (leb→le (length s) 16384 w) d b.1)) (records_or first s))

unreadable_second : (s r : List ℕ) → s ≡ 0x31 ∷ r → Judged (Unreadable s) Any (read_sheet s)
unreadable_second s r e = subst (λ (m : Answer Sheet). Judged (Unreadable s) Any m) (sym (ap read_sheet e ∙ second-sheet r))
    (of_require (leb (suc (length r)) 16384) (numbered 2 0) _ (λ f. let h = leb-false (suc (length r)) 16384 f in too_long (omega (arith, ap length e))) λ w.
    let h = leb→le (suc (length r)) 16384 w in
    second_or s r (omega (arith, ap length e)) e (read_records second r) (records_or second r))

pub unreadable_or : (s : List ℕ) → Judged (Unreadable s) Any (read_sheet s)
unreadable_or [] = unreadable_first [] (λ e. absurd (omega (arith, e)))
unreadable_or (b ∷ r) = elim (ℕ_discrete b 0x31) [ yes e ↦ unreadable_second (b ∷ r) r (ap (λ (x : ℕ). x ∷ r) e) | no d ↦ unreadable_first (b ∷ r) d ]

pub unreadable_read : {s : List ℕ} {why : Refusal} → Unreadable s why → read_sheet s ≡ refused why
unfolding read_sheet
unreadable_read {s} (too_long h) = rw (lt-leb (length s) 16384 h)
unreadable_read {s} (in_first l d b) = first-sheet s d ∙ simp (le-leb (length s) 16384 l, bad_read b)
unreadable_read {s} (in_second {r = r} l e b) =
    ap read_sheet e ∙ second-sheet r ∙ simp (le-leb (suc (length r)) 16384 (omega (arith, l, ap length e)), bad_read b)

-- the reader refuses exactly what the sentences refuse
pub unreadable_exact : (s : List ℕ) (why : Refusal) → (read_sheet s ≡ refused why) ↔ Unreadable s why
unreadable_exact s why = ((λ h. of_refused (read_sheet s) why (unreadable_or s) h), (λ u. unreadable_read u))

-- at most one refusal
pub unreadable_only : (s : List ℕ) (why why' : Refusal) → Unreadable s why → Unreadable s why' → why ≡ why'
unreadable_only s why why' u v = refused-inj (sym (unreadable_read u) ∙ unreadable_read v)

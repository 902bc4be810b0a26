-- Where the reader's refusals stand: 2 to 9, within the sheet. Assumes nothing.
use Prim.Native.Nat.{ℕ, zero, suc, ◌+◌, ◌≤◌, ◌<◌}
use mathlib.Core.Path.{◌≡◌, refl, sym, ap, ◌∙◌}
use mathlib.Core.Bool.{false, not, ◌||◌}
use mathlib.Core.List.{List, []}
use native.Mathlib.Omega.{arith}
use lib.Dec.{leb, ltb, eqb, leb→le, ltb→lt}
use lib.ListN.{length, length-append}
use borrow.Author.Tests.{leb-false, eqb-false}
use Rattle.calculus.specs.Answer.{Refusal, Answer, good, refused, ◌>>=◌, numbered}
use Rattle.calculus.specs.Types.{size, ty_of, tys_from, TyRec, Table}
use Rattle.calculus.specs.Terms.{Edition, opening, Term, fun, app, lfun, lapp, pair, proj, fix, name}
use Rattle.calculus.specs.Read.{known, formed, repeated, knows, node_body, node_typed, Kind, unknown, type, node, NodeKind, k11, k12, k13, k14, k15, k16, k17, k18, k19, k1A, k1B, node_kind, kind_of, byte, type_rec, type_body, check_type, type_at, read_types, Got, head_at, node_of_kind, read_term, Sheet, read_records, edition_of, records_of, offset_by, read_sheet}
use Rattle.sheet_theorems.proofs.Judging.{Judged, value, refusal, Any, of_bind, of_require, of_last, weaker}
use Rattle.sheet_theorems.proofs.Laying.{opens}

-- an offset of the sheet; 3 may stand at its length too
pub record Offset (s : List ℕ) (why : Refusal) : Type 0 where
  pub from : 3 ≤ why.number
  pub to : why.number ≤ 9
  pub within : why.place ≤ length s
  pub inside : (why.number ≡ 3 → ⊥) → why.place < length s
  -- it names no types
  pub plain : (why.wanted ≡ 0) × (why.found ≡ 0)

module _ (s : List ℕ) where
  -- a record that is due or cut short
  cut : (at : ℕ) → at ≤ length s → Offset s (numbered 3 at)
  cut at i = record { from = omega arith; to = omega arith; within = i; inside = λ e. absurd (e refl); plain = (refl, refl) }

  -- a record that is there
  there : (number at : ℕ) → 3 ≤ number → number ≤ 9 → at < length s → Offset s (numbered number at)
  there number at a b i = record { from = a; to = b; within = omega arith; inside = λ _. i; plain = (refl, refl) }

  check-places : (Θ : Table) (r : TyRec) (at : ℕ) → at < length s → Judged (Offset s) Any (check_type Θ r at)
  check-places Θ r at i =
      of_require (known Θ r) (numbered 5 at) _ (λ _. there 5 at (omega arith) (omega arith) i) λ _.
      of_require (formed Θ r) (numbered 6 at) _ (λ _. there 6 at (omega arith) (omega arith) i) λ _.
      of_require (not (repeated Θ r)) (numbered 7 at) _ (λ _. there 7 at (omega arith) (omega arith) i) λ _.
      of_last (leb (size (ty_of (tys_from [] Θ) r)) 128) (numbered 8 at) (there 8 at (omega arith) (omega arith) i)

  abbrev Listed : Table × ℕ → Type 0
  Listed r = r.1 ≤ length s

  type-places : (k : Kind) (more : ℕ) (Θ : Table) (at : ℕ) (go : Table → ℕ → Answer (Table × ℕ)) → at ≤ length s
      → ((Φ : Table) (next : ℕ) → at < next → next ≤ length s → Judged (Offset s) Listed (go Φ next)) → Judged (Offset s) Listed (type_at k more s Θ at go)
  type-places unknown more Θ at go i h = value i
  type-places (node k) more Θ at go i h = value i
  type-places (type k) more Θ at go i h =
      of_require (leb (at + 1 + type_body k) (length s)) (numbered 3 at) _ (λ _. cut at i) λ w.
      let j = leb→le (at + 1 + type_body k) (length s) w in
      let l : at < length s = omega arith in
      of_require (ltb 0 more) (numbered 8 at) _ (λ _. there 8 at (omega arith) (omega arith) l) λ _.
      of_bind (check_type Θ (type_rec k (byte s (at + 1)) (byte s (at + 2))) at) _ (check-places Θ (type_rec k (byte s (at + 1)) (byte s (at + 2))) at l) λ u _ _.
      h _ _ (omega arith) j

  types-places : (more : ℕ) (Θ : Table) (at : ℕ) → at ≤ length s → Judged (Offset s) Listed (read_types more s Θ at)
  unfolding read_types
  types-places zero Θ at i = type-places (kind_of (byte s at)) zero Θ at _ i (λ Φ next a j. refusal (there 8 at (omega arith) (omega arith) (omega arith)))
  types-places (suc more) Θ at i = type-places (kind_of (byte s at)) (suc more) Θ at _ i (λ Φ next a j. types-places more Φ next j)

  kind-places : (k : Kind) (at : ℕ) → at < length s → Judged (Offset s) Any (node_kind k at)
  kind-places unknown at i = refusal (there 4 at (omega arith) (omega arith) i)
  kind-places (type k) at i = refusal (there 4 at (omega arith) (omega arith) i)
  kind-places (node k) at i = value tt

  head-places : (E : Edition) (more types at n : ℕ) → at ≤ length s → Judged (Offset s) (λ k. at + 1 + node_body k ≤ length s) (head_at E more s types at n)
  unfolding head_at
  head-places E more types at n i =
      of_require (ltb at (length s)) (numbered 3 at) _ (λ _. cut at i) λ v.
      let l = ltb→lt at (length s) v in
      of_bind (node_kind (kind_of (byte s at)) at) _ (kind-places (kind_of (byte s at)) at l) λ k _ _.
      of_require (knows E k) (numbered 4 at) _ (λ _. there 4 at (omega arith) (omega arith) l) λ _.
      of_require (leb (at + 1 + node_body k) (length s)) (numbered 3 at) _ (λ _. cut at i) λ w.
      of_require (ltb n 2048) (numbered 8 at) _ (λ _. there 8 at (omega arith) (omega arith) l) λ _.
      of_require (ltb 0 more) (numbered 8 at) _ (λ _. there 8 at (omega arith) (omega arith) l) λ _.
      of_require (eqb (node_typed k) 0 || ltb (byte s (at + node_typed k)) types) (numbered 5 at) _ (λ _. there 5 at (omega arith) (omega arith) l) λ _.
      value (leb→le (at + 1 + node_body k) (length s) w)

  abbrev Ends : Got → Type 0
  Ends g = g.next ≤ length s

  module _ (next n : ℕ) (go : ℕ → ℕ → Answer Got) (i : next ≤ length s) (h : (a c : ℕ) → a ≤ length s → Judged (Offset s) Ends (go a c)) where
    one-places : (f : Term → Term) → Judged (Offset s) Ends (go next n >>= λ e. good (record { term = f e.term; next = e.next; count = e.count }))
    one-places f = of_bind (go next n) _ (h next n i) λ e _ j. value j

    two-places : (f : Term → Term → Term)
        → Judged (Offset s) Ends (go next n >>= λ x. go x.next x.count >>= λ y. good (record { term = f x.term y.term; next = y.next; count = y.count }))
    two-places f = of_bind (go next n) _ (h next n i) λ x _ j. of_bind (go x.next x.count) _ (h x.next x.count j) λ y _ l. value l

    node-places : (k : NodeKind) (x y : ℕ) → Judged (Offset s) Ends (node_of_kind k x y next n go)
    node-places k11 x y = value i
    node-places k12 x y = value i
    node-places k13 x y = one-places (fun x)
    node-places k14 x y = two-places app
    node-places k15 x y = one-places (lfun x)
    node-places k16 x y = two-places lapp
    node-places k17 x y = two-places (pair x)
    node-places k18 x y = two-places proj
    node-places k19 x y = one-places (fix x)
    node-places k1A x y = value i
    node-places k1B x y = two-places name

  term-places : (E : Edition) (more types at n : ℕ) → at ≤ length s → Judged (Offset s) Ends (read_term E more s types at n)
  unfolding read_term
  term-places E zero types at n i = of_bind (head_at E zero s types at n) _ (head-places E zero types at n i) λ k _ j. refusal (there 8 at (omega arith) (omega arith) (omega arith))
  term-places E (suc more) types at n i =
      of_bind (head_at E (suc more) s types at n) _ (head-places E (suc more) types at n i) λ k _ j.
      node-places (at + 1 + node_body k) (n + 1) _ j (λ a c l. term-places E more types a c l) k (byte s (at + 1)) (byte s (at + 2))

-- the records
pub records-places : (E : Edition) (s : List ℕ) → Judged (Offset s) Any (read_records E s)
unfolding read_records
records-places E s =
    of_bind (read_types 256 s [] 0) _ (types-places s 256 [] 0 (omega arith)) λ r _ i.
    of_bind (read_term E 64 s (length r.0) r.1 0) _ (term-places s E 64 (length r.0) r.1 0 i) λ e _ j.
    of_require (eqb e.next (length s)) (numbered 9 e.next) _ (λ f. let d = eqb-false e.next (length s) f in there s 9 e.next (omega arith) (omega arith) (omega arith)) λ _. value tt

-- behind an opening
offset_places : (s r : List ℕ) (n : ℕ) → n + length r ≡ length s → (m : Answer Sheet) → Judged (Offset r) Any m → Judged (Offset s) Any (offset_by n m)
offset_places s r n l (good σ) h = value tt
offset_places s r n l (refused why) (refusal h) = refusal (moved why h)
  where
    moved : (why : Refusal) → Offset r why → Offset s (record { number = why.number; place = n + why.place; wanted = why.wanted; found = why.found })
    moved why h = record { from = h.from; to = h.to; within = omega (arith, h.within); inside = λ d. let i = h.inside d in omega arith; plain = h.plain }

opening-length : (s : List ℕ) → length (opening (edition_of s)) + length (records_of s) ≡ length s
opening-length s = sym (ap length (opens s) ∙ length-append (opening (edition_of s)) (records_of s))

-- a refusal of the reader
pub record ReadPlace (s : List ℕ) (why : Refusal) : Type 0 where
  pub from : 2 ≤ why.number
  pub to : why.number ≤ 9
  -- an offset of the sheet, or its length
  pub within : why.place ≤ length s
  pub few : why.place ≤ 16384
  -- only 3 stands at its length
  pub inside : (why.number ≡ 3 → ⊥) → why.place < length s
  -- a sheet that is too long is refused as a whole
  pub whole : why.number ≡ 2 → why.place ≡ 0
  pub plain : (why.wanted ≡ 0) × (why.found ≡ 0)

long : (s : List ℕ) → leb (length s) 16384 ≡ false → ReadPlace s (numbered 2 0)
long s f = let l = leb-false (length s) 16384 f in record { from = omega arith; to = omega arith; within = omega arith; few = omega arith; inside = λ _. omega arith; whole = λ _. refl; plain = (refl, refl) }

short : (s : List ℕ) (why : Refusal) → length s ≤ 16384 → Offset s why → ReadPlace s why
short s why l o = record { from = omega (arith, o.from); to = o.to; within = o.within; few = omega (arith, o.within); inside = o.inside; whole = λ e. absurd (omega (arith, o.from)); plain = o.plain }

pub read-places : (s : List ℕ) → Judged (ReadPlace s) Any (read_sheet s)
unfolding read_sheet
read-places s =
    of_require (leb (length s) 16384) (numbered 2 0) _ (long s) λ w.
    weaker (λ why o. short s why (leb→le (length s) 16384 w) o)
    (offset_places s (records_of s) (length (opening (edition_of s))) (opening-length s) _ (records-places (edition_of s) (records_of s)))

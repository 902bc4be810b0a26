-- The stretch of a node holds the bytes of the node's subterm, and is empty where there is no such node. Assumes nothing.
use Prim.Native.Nat.{ℕ, zero, suc, ◌+◌, ◌≤◌, ◌<◌}
use mathlib.Core.Path.{◌≡◌, refl, ap, ◌∙◌}
use mathlib.Core.Logic.{◌↔◌}
use mathlib.Core.List.{List, [], ◌∷◌, ◌++◌}
use native.Mathlib.Omega.{arith}
use native.Mathlib.Nat.{not-suc-le-zero, le_of_suc-le-suc}
use native.Mathlib.Decide.{dec_lt}
use lib.ListN.{length, get_or, length-append, get_or-eq_default}
use lib.Seq.{take-append_seam}
use Rattle.calculus.specs.Answer.{Refusal, Answer, good, refused}
use Rattle.calculus.specs.Terms.{Term, var, lvar, fun, app, lfun, lapp, pair, proj, fix, con, name, nodes}
use Rattle.calculus.specs.Read.{Kind, node_body, Sheet, read_sheet}
use Rattle.calculus.specs.Write.{term_bytes}
use Rattle.sheet_theorems.specs.Laid.{Stands}
use Rattle.calculus.specs.Stretch.{Stretch, nowhere, whole, stretches, term_start, stretch_of, cut}
use Rattle.sheet_theorems.specs.Subterms.{subterms, body_of, after_record, skip}
use Rattle.sheet_theorems.proofs.Laying.{sheet-bytes}
use Rattle.sheet_theorems.proofs.Standing.{kind_in, term_nonempty, stands-node, stands-end, fun_body, app_function, app_argument, lfun_body, lapp_function, lapp_argument, pair_first, pair_second, proj_pair, proj_body, fix_body, name-first, name_body, whole-stands}

-- ---- stretches one record after the other

-- the stretches of some terms, each of which stands a record on from the one before; `end` is behind the last record
pub data Run (s : List ℕ) : List Stretch → List Term → ℕ → ℕ → Type 0 where
  run_end : {at : ℕ} → Run s [] [] at at
  run_next : {u : Term} {ps : List Stretch} {us : List Term} {at next end : ℕ} → Stands s at u → after_record s at ≡ next → Run s ps us next end → Run s (whole u at ∷ ps) (u ∷ us) at end

run-append : {s : List ℕ} {ps qs : List Stretch} {us vs : List Term} {a b c : ℕ} → Run s ps us a b → Run s qs vs b c → Run s (ps ++ qs) (us ++ vs) a c
run-append run_end q = q
run-append (run_next h e p) q = run_next h e (run-append p q)

run_to : {s : List ℕ} {ps : List Stretch} {us : List Term} {a b c : ℕ} → Run s ps us a b → b ≡ c → Run s ps us a c
run_to p e = rw (← e) p

module _ (s : List ℕ) where
  -- a term's first record, then those of its subterms
  run-first : (e : Term) (at next : ℕ) {ps : List Stretch} {us : List Term} → Stands s at e → at + 1 + node_body (kind_in e) ≡ next → Run s ps us next (at + length (term_bytes e))
      → Run s (whole e at ∷ ps) (e ∷ us) at (at + length (term_bytes e))
  run-first e at next h n r = run_next h (ap (λ (k : Kind). at + 1 + body_of k) (stands-node h) ∙ n) r

  pub runs : (e : Term) (at : ℕ) → Stands s at e → Run s (stretches e at) (subterms e) at (at + length (term_bytes e))
  runs (var i) at h = run-first (var i) at (at + 2) h (omega arith) run_end
  runs (lvar i) at h = run-first (lvar i) at (at + 2) h (omega arith) run_end
  runs (fun t e) at h = run-first (fun t e) at (at + 2) h (omega arith) (run_to (runs e (at + 2) (fun_body h)) (omega arith))
  runs (app f a) at h =
      let l = length-append (term_bytes f) (term_bytes a) in
      run-first (app f a) at (at + 1) h (omega arith) (run-append (runs f (at + 1) (app_function h)) (run_to (runs a (at + 1 + length (term_bytes f)) (app_argument h)) (omega arith)))
  runs (lfun t e) at h = run-first (lfun t e) at (at + 2) h (omega arith) (run_to (runs e (at + 2) (lfun_body h)) (omega arith))
  runs (lapp f a) at h =
      let l = length-append (term_bytes f) (term_bytes a) in
      run-first (lapp f a) at (at + 1) h (omega arith) (run-append (runs f (at + 1) (lapp_function h)) (run_to (runs a (at + 1 + length (term_bytes f)) (lapp_argument h)) (omega arith)))
  runs (pair t a b) at h =
      let l = length-append (term_bytes a) (term_bytes b) in
      run-first (pair t a b) at (at + 2) h (omega arith) (run-append (runs a (at + 2) (pair_first h)) (run_to (runs b (at + 2 + length (term_bytes a)) (pair_second h)) (omega arith)))
  runs (proj a e) at h =
      let l = length-append (term_bytes a) (term_bytes e) in
      run-first (proj a e) at (at + 1) h (omega arith) (run-append (runs a (at + 1) (proj_pair h)) (run_to (runs e (at + 1 + length (term_bytes a)) (proj_body h)) (omega arith)))
  runs (fix t e) at h = run-first (fix t e) at (at + 2) h (omega arith) (run_to (runs e (at + 2) (fix_body h)) (omega arith))
  runs (con p t) at h = run-first (con p t) at (at + 3) h (omega arith) run_end
  runs (name a e) at h =
      let l = length-append (term_bytes a) (term_bytes e) in
      run-first (name a e) at (at + 1) h (omega arith) (run-append (runs a (at + 1) (name-first h)) (run_to (runs e (at + 1 + length (term_bytes a)) (name_body h)) (omega arith)))

-- ---- the k-th

-- the stretch of a term that stands there, k records on from an offset
pub record Kth (s : List ℕ) (at k : ℕ) (p : Stretch) (u : Term) : Type 0 where
  pub stands : Stands s p.start u
  pub size : p.size ≡ length (term_bytes u)
  pub start : p.start ≡ skip s k at

run_kth : {s : List ℕ} {ps : List Stretch} {us : List Term} {at end : ℕ} (u : Term) (k : ℕ) → Run s ps us at end → k < length us → Kth s at k (get_or ps k nowhere) (get_or us k u)
unfolding skip
run_kth u k run_end h = absurd (not-suc-le-zero h)
run_kth u zero (run_next a e r) h = record { stands = a; size = refl; start = refl }
run_kth u (suc k) (run_next a e r) h =
    let q = run_kth u k r (le_of_suc-le-suc h) in
    record { stands = q.stands; size = q.size; start = rw e q.start }

run-all : {s : List ℕ} {ps : List Stretch} {us : List Term} {at end : ℕ} → Run s ps us at end → skip s (length us) at ≡ end
unfolding skip
run-all run_end = refl
run-all {s} (run_next {us = us} a e r) = ap (λ (x : ℕ). skip s (length us) x) e ∙ run-all r

pub count-subterms : (e : Term) → length (subterms e) ≡ nodes e
count-subterms (var i) = refl
count-subterms (lvar i) = refl
count-subterms (fun t e) = ap suc (count-subterms e)
count-subterms (app f a) = omega (arith, length-append (subterms f) (subterms a), count-subterms f, count-subterms a)
count-subterms (lfun t e) = ap suc (count-subterms e)
count-subterms (lapp f a) = omega (arith, length-append (subterms f) (subterms a), count-subterms f, count-subterms a)
count-subterms (pair t a b) = omega (arith, length-append (subterms a) (subterms b), count-subterms a, count-subterms b)
count-subterms (proj a e) = omega (arith, length-append (subterms a) (subterms e), count-subterms a, count-subterms e)
count-subterms (fix t e) = ap suc (count-subterms e)
count-subterms (con p t) = refl
count-subterms (name a e) = omega (arith, length-append (subterms a) (subterms e), count-subterms a, count-subterms e)

pub count-stretches : (e : Term) (at : ℕ) → length (stretches e at) ≡ nodes e
count-stretches (var i) at = refl
count-stretches (lvar i) at = refl
count-stretches (fun t e) at = ap suc (count-stretches e (at + 2))
count-stretches (app f a) at = omega (arith, length-append (stretches f (at + 1)) (stretches a (at + 1 + length (term_bytes f))), count-stretches f (at + 1), count-stretches a (at + 1 + length (term_bytes f)))
count-stretches (lfun t e) at = ap suc (count-stretches e (at + 2))
count-stretches (lapp f a) at = omega (arith, length-append (stretches f (at + 1)) (stretches a (at + 1 + length (term_bytes f))), count-stretches f (at + 1), count-stretches a (at + 1 + length (term_bytes f)))
count-stretches (pair t a b) at = omega (arith, length-append (stretches a (at + 2)) (stretches b (at + 2 + length (term_bytes a))), count-stretches a (at + 2), count-stretches b (at + 2 + length (term_bytes a)))
count-stretches (proj a e) at = omega (arith, length-append (stretches a (at + 1)) (stretches e (at + 1 + length (term_bytes a))), count-stretches a (at + 1), count-stretches e (at + 1 + length (term_bytes a)))
count-stretches (fix t e) at = ap suc (count-stretches e (at + 2))
count-stretches (con p t) at = refl
count-stretches (name a e) at = omega (arith, length-append (stretches a (at + 1)) (stretches e (at + 1 + length (term_bytes a))), count-stretches a (at + 1), count-stretches e (at + 1 + length (term_bytes a)))

-- node k of a term that stands
pub node-stretch : (s : List ℕ) (e : Term) (at k : ℕ) → Stands s at e → k < nodes e → Kth s at k (get_or (stretches e at) k nowhere) (get_or (subterms e) k e)
node-stretch s e at k h l = run_kth e k (runs s e at h) (rw (count-subterms e) l)

-- a term is as many records on as it has nodes
pub skip_term : (s : List ℕ) (e : Term) (at : ℕ) → Stands s at e → skip s (nodes e) at ≡ at + length (term_bytes e)
skip_term s e at h = rw (← count-subterms e) (run-all (runs s e at h))

-- one record more, as a loop goes
pub skip-next : (s : List ℕ) (k at : ℕ) → skip s (suc k) at ≡ after_record s (skip s k at)
unfolding skip
skip-next s zero at = refl
skip-next s (suc k) at = skip-next s k (after_record s at)

-- ---- the stretch of a node of a sheet

-- the bytes of the node's subterm, k records on from the table's end, in the caller's own sheet
pub record StretchShown (s : List ℕ) (σ : Sheet) (k : ℕ) (p : Stretch) (u : Term) : Type 0 where
  pub node : Kth s (term_start σ) k p u
  pub bytes : cut s p ≡ term_bytes u
  pub nonempty : 0 < p.size
  pub within : p.start + p.size ≤ length s

stands-cut : (s : List ℕ) (p : Stretch) (u : Term) → Stands s p.start u → p.size ≡ length (term_bytes u) → cut s p ≡ term_bytes u
stands-cut s p u h e = rw (e, h.here) (take-append_seam (term_bytes u) h.rest)

pub stretch-holds : (s : List ℕ) (σ : Sheet) (k : ℕ) → read_sheet s ≡ good σ → k < nodes σ.term → StretchShown s σ k (stretch_of s k) (get_or (subterms σ.term) k σ.term)
unfolding stretch_of
stretch-holds s σ k e h =
    let u = get_or (subterms σ.term) k σ.term in
    let q = node-stretch s σ.term (term_start σ) k (whole-stands σ (sheet-bytes s σ e)) h in
    rw e (record {
      node = q;
      bytes = stands-cut s _ u q.stands q.size;
      nonempty = rw q.size (term_nonempty u);
      within = rw q.size (stands-end q.stands);
    })

-- no such node
pub stretch-past : (s : List ℕ) (σ : Sheet) (k : ℕ) → read_sheet s ≡ good σ → nodes σ.term ≤ k → stretch_of s k ≡ nowhere
unfolding stretch_of
stretch-past s σ k e h =
    let at = term_start σ in
    let l : length (stretches σ.term at) ≤ k = rw (count-stretches σ.term at) h in
    rw e (get_or-eq_default (stretches σ.term at) nowhere l)

-- no sheet
pub stretch_refused : (s : List ℕ) (why : Refusal) (k : ℕ) → read_sheet s ≡ refused why → stretch_of s k ≡ nowhere
unfolding stretch_of
stretch_refused s why k e = rw e

-- empty exactly where refusals 2 to 9 apply or the number is too large
pub stretch-empty : (s : List ℕ) (k : ℕ) → ((stretch_of s k).size ≡ 0) ↔ ((σ : Sheet) → read_sheet s ≡ good σ → nodes σ.term ≤ k)
stretch-empty s k = (
  (λ z σ e. elim (dec_lt k (nodes σ.term)) [ yes h ↦ absurd (let p = (stretch-holds s σ k e h).nonempty in omega arith) | no h ↦ omega arith ]),
  (λ f. none (read_sheet s) refl f),
)
  where
    none : (a : Answer Sheet) → read_sheet s ≡ a → ((σ : Sheet) → read_sheet s ≡ good σ → nodes σ.term ≤ k) → (stretch_of s k).size ≡ 0
    none (good σ) e f = ap (λ (p : Stretch). p.size) (stretch-past s σ k e (f σ e))
    none (refused why) e f = ap (λ (p : Stretch). p.size) (stretch_refused s why k e)

-- The walk over the records by the table goes as the definition's reading. Assumes nothing.
use Prim.Native.Nat.{ℕ, zero, suc, ◌+◌, ◌≤◌, ◌<◌}
use mathlib.Core.Path.{◌≡◌, refl, sym, ap, ap₂, ◌∙◌, subst}
use mathlib.Core.Bool.{Bool}
use mathlib.Core.List.{List}
use native.Mathlib.Omega.{arith}
use native.Mathlib.Decide.{dec_lt}
use lib.ListN.{length, take}
use Rattle.std.specs.Prelude.{Option, Some, None, Result, Ok, Err, MatchResult, IsErrAnd}
use Rattle.std.proofs.lemmas.Result.{err_from_is_err_and}
use Rattle.calculus.specs.Answer.{Answer, good, refused, refuse, ◌>>=◌}
use Rattle.calculus.specs.Net.{Item}
use Rattle.calculus.specs.NetRead.{Front, item, ended, broken, item_at, item_size}
use Rattle.memory.specs.Map.{memory_size}
use Rattle.answers.specs.Refusals.{refusal_at, said_why}
use Rattle.answers.specs.declared.Reason.{Reason}
use Rattle.answers.specs.declared.Refusal.{Refusal}
use Rattle.foreign_calculus.specs.Foreign.{Reading, begin, judge, on_front, read_on, Bytes}
use Rattle.foreign_theorems.proofs.Standing.{Stood, item-stood, ended-stood}
use Rattle.circuit_theorems.proofs.NetRead.{item_some, ends-here}
use Rattle.foreign_calculus.specs.Refused.{ReadAs}
use Rattle.foreign_theorems.proofs.Sound.{read_more, read_none, more-taken}
use Rattle.net_reader.specs.Said.{said_record, said_step, stepped}
use Rattle.net_reader.specs.declared.Step.{Step}
use Rattle.net_reader.proofs.Steps.{step_some, step_none, step_off}
use Rattle.foreign.specs.Table.{cell_of, TableHolds, LaterKept, TableClear}
use Rattle.foreign.specs.Take.{Took, next, wrong, stage_of, said_taken, took}
use Rattle.foreign.specs.declared.take.State.{State}
use Rattle.foreign.proofs.SimLaws.{Matches, sim, keeps_same}

-- ---- an error that is mapped

ok_no : {T D : Type 0} {y : T} {d : D} → ◌≡◌ {A = Result T D} (Ok y) (Err d) → ⊥
ok_no e = let z : ◌≡◌ {A = ℕ} 0 1 = cc in omega arith

module _ {T E D : Type 0} (P : E → D → Type 0) where
  pub mapped_ok : (r : Result T E) {m : Result T D} {y : T} → MatchResult r (λ x. m ≡ Ok x) (λ e. IsErrAnd m (P e)) → m ≡ Ok y → r ≡ Ok y
  mapped_ok (Ok x) {m} {y} z q = ap Ok (ok-inj (sym z ∙ q))
    where
      ok-inj : {u v : T} → ◌≡◌ {A = Result T D} (Ok u) (Ok v) → u ≡ v
      ok-inj e = cc
  mapped_ok (Err e) {m} z q = absurd (let f = err_from_is_err_and m z in ok_no (sym q ∙ f.1))

  pub mapped_err : (r : Result T E) {m : Result T D} {d : D} → MatchResult r (λ x. m ≡ Ok x) (λ e. IsErrAnd m (P e)) → m ≡ Err d → (e : E) × (r ≡ Err e) × P e d
  mapped_err (Ok x) z q = absurd (ok_no (sym z ∙ q))
  mapped_err (Err e) {m} {d} z q =
      let f = err_from_is_err_and m z in
      let h : f.0 ≡ d = err-inj (sym f.1 ∙ q) in
      (e, refl, subst (P e) h f.2)
    where
      err-inj : {x y : D} → ◌≡◌ {A = Result T D} (Err x) (Err y) → x ≡ y
      err-inj e = cc

-- ---- all records

-- where the walk is: what was read, and what is left says the same as the whole
pub record WalkGoing (lean : Bool) (s w₀ w : List ℕ) (stage n at : ℕ) : Type 0 where
  pub reading : Reading
  pub left : ℕ
  pub before : ReadAs lean (take at s) reading
  pub stage_is : stage ≡ reading.stage
  pub next_is : n ≡ reading.next
  pub holds : TableHolds w reading.net
  pub keeps : LaterKept w₀ w
  pub enough : length s ≤ at + left
  pub rest : read_on left lean s at reading ≡ read_on (length s) lean s 0 begin

pub going_first : (lean : Bool) (s w : List ℕ) → TableClear w → WalkGoing lean s w w 0 0 0
unfolding cell_of
going_first lean s w c = record {
  reading = begin;
  left = length s;
  before = read_none lean;
  stage_is = refl;
  next_is = refl;
  holds = c.zeros;
  keeps = keeps_same w;
  enough = omega arith;
  rest = refl;
}

keeps_on : (u v w : List ℕ) → LaterKept u v → LaterKept v w → LaterKept u w
keeps_on u v w a b = record { same = b.same ∙ a.same; later = b.later ∙ a.later }

module _ (lean : Bool) (s w₀ w : List ℕ) (b : Bytes s) (size : memory_size ≤ length w₀) (stage n at : ℕ) (g : WalkGoing lean s w₀ w stage n at) where
  abbrev σ : Reading
  σ = g.reading

  abbrev All' : Answer Reading
  All' = read_on (length s) lean s 0 begin

  -- what a record comes to: the walk goes on, or the definition refuses here
  abbrev pub Comes : Took → ℕ → Type 0
  Comes (next a c v) m = WalkGoing lean s w₀ v a c m × (at < m)
  Comes (wrong k v) m = (All' ≡ refuse k at) × LaterKept w₀ v

  opened : at < length s → (left : ℕ) → length s ≤ at + left → read_on left lean s at σ ≡ All'
      → (k : ℕ) × (length s ≤ at + suc k) × (on_front (item_at s at) at σ (λ r. judge lean r σ at >>= λ τ. read_on k lean s (at + item_size r) τ) ≡ All')
  opened l zero e q = absurd (omega arith)
  opened l (suc k) e q = (k, e, q)

  item-step : (r : Item) → Stood s at r → (k : ℕ) → length s ≤ at + suc k → (y : Took) (a : Answer Reading) → judge lean r σ at ≡ a → (a >>= λ τ. read_on k lean s (at + item_size r) τ) ≡ All' → Matches at y a w
      → Comes y (at + item_size r)
  item-step r st k e (next x c v) (good τ) j p m = (
    record {
      reading = τ;
      left = k;
      before = subst (λ (u : List ℕ). ReadAs lean u τ) (sym (more-taken s at r st)) (read_more lean at (take at s) σ τ g.before r st.fits j);
      stage_is = m.0;
      next_is = m.1;
      holds = m.2;
      keeps = keeps_on w₀ w v g.keeps m.3;
      enough = omega (arith, item_some r);
      rest = p;
    },
    omega (arith, item_some r),
  )
  item-step r st k e (wrong x v) (refused why) j p m =
      (sym p ∙ ap refused m.0, keeps_on w₀ w v g.keeps m.1)
  item-step r st k e (next x c v) (refused why) j p m = absurd m
  item-step r st k e (wrong x v) (good τ) j p m = absurd m

  -- a record stands here
  pub taken_here : (r : Item) → item_at s at ≡ item r → Comes (took lean stage n r w) (at + item_size r)
  taken_here r q =
      let z = g.keeps.same in
      let st = item-stood s b at r q in
      let o = opened (omega (arith, st.room, item_some r)) g.left g.enough g.rest in
      let p = subst (λ (x : Front). on_front x at σ (λ r. judge lean r σ at >>= λ τ. read_on o.0 lean s (at + item_size r) τ) ≡ All') q o.2 in
      subst (λ (y : Took). Comes y (at + item_size r)) (ap₂ (λ (x y : ℕ). took lean x y r w) (sym g.stage_is) (sym g.next_is))
      (item-step r st o.0 o.1 (took lean σ.stage σ.next r w) (judge lean r σ at) refl p (sim lean at (take at s) σ w (omega arith) g.before g.holds r))

  broken_no : broken ≡ ended → ⊥
  broken_no e = let z : ◌≡◌ {A = ℕ} 0 1 = cc in omega arith

  -- no record stands here
  pub broken_here : item_at s at ≡ broken → All' ≡ refuse 21 at
  broken_here q =
      elim (dec_lt at (length s)) [
        | yes l ↦
            let o = opened l g.left g.enough g.rest in
            sym (subst (λ (x : Front). on_front x at σ (λ r. judge lean r σ at >>= λ τ. read_on o.0 lean s (at + item_size r) τ) ≡ All') q o.2)
        | no l ↦ absurd (broken_no (sym q ∙ ends-here s at (omega arith)))
      ]

-- at the end of the bytes
pub going_done : {lean : Bool} {s w₀ w : List ℕ} {stage n at : ℕ} (g : WalkGoing lean s w₀ w stage n at) → length s ≤ at
    → (τ : Reading) × (read_on (length s) lean s 0 begin ≡ good τ) × (n ≡ τ.next) × TableHolds w τ.net
going_done {lean} {s} {at = at} g l = (g.reading, sym g.rest ∙ ended_on g.left, g.next_is, g.holds)
  where
    ended_on : (k : ℕ) → read_on k lean s at g.reading ≡ good g.reading
    ended_on zero = refl
    ended_on (suc k) = rw (ends-here s at l)

-- ---- the code's own steps

module _ {lean : Bool} {s w₀ w : List ℕ} {stage n at : ℕ} (b : Bytes s) (size : memory_size ≤ length w₀) (g : WalkGoing lean s w₀ w stage n at) (r : Result (Option Step) Refusal)
    (h : said_step r ≡ stepped (item_at s at) at) where
  module _ (x : Step) (e : r ≡ Ok (Some x)) where
    found : (item_at s at ≡ item (said_record x.found)) × (x.past ≡ at + item_size (said_record x.found))
    found = step_some (item_at s at) at (ap said_step (sym e) ∙ h)

    pub walk_room : x.past ≤ length s
    walk_room = let st = item-stood s b at (said_record x.found) found.0 in omega (arith, st.room, found.1)

    module _ (t : Result State Reason) (v : List ℕ) (u : said_taken t v ≡ took lean stage n (said_record x.found) w) where
      comes : Comes lean s w₀ w b size stage n at g (said_taken t v) x.past
      comes = rw (u, found.1) (taken_here lean s w₀ w b size stage n at g (said_record x.found) found.0)

      pub walk_on : {y : State} → t ≡ Ok y → WalkGoing lean s w₀ v (stage_of y.stage) y.next x.past × (at < x.past)
      walk_on q = subst (λ (z : Result State Reason). Comes lean s w₀ w b size stage n at g (said_taken z v) x.past) q comes

      pub walk-off : {y : Reason} → t ≡ Err y → (read_on (length s) lean s 0 begin ≡ refused (said_why (refusal_at y at))) × LaterKept w₀ v
      walk-off q = subst (λ (z : Result State Reason). Comes lean s w₀ w b size stage n at g (said_taken z v) x.past) q comes

  pub walk_broken : {why : Refusal} → r ≡ Err why → read_on (length s) lean s 0 begin ≡ refused (said_why why)
  walk_broken e =
      let f = step_off (item_at s at) at (ap said_step (sym e) ∙ h) in
      broken_here lean s w₀ w b size stage n at g f.0 ∙ ap refused (sym f.1)

  pub walk_ended : r ≡ Ok None → length s ≤ at
  walk_ended e = ended-stood s at (step_none (item_at s at) at (ap said_step (sym e) ∙ h))

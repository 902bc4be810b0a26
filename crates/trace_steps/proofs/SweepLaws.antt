-- Laws of one sweep. Assumes nothing.
use Prim.Native.Nat.{ℕ, zero, suc, ◌+◌, ◌-◌, ◌≤◌, ◌<◌}
use mathlib.Core.Path.{◌≡◌, refl, sym, ap, ◌∙◌, subst}
use mathlib.Core.Bool.{Bool, true, false, cond}
use mathlib.Core.List.{List}
use native.Mathlib.Omega.{arith}
use native.Mathlib.Decide.{ℕ_discrete}
use lib.ListN.{length, get_or, set, length-set}
use lib.Seq.{get_or-set_same}
use lib.Dec.{eqb, ltb}
use borrow.Author.Tests.{eq-eqb, ne_eqb}
use Rattle.trace_steps.specs.Map.{rest_at, order_at, bits_at, inverter_entry}
use Rattle.trace_steps.specs.Turns.{take_turns}
use Rattle.trace_steps.specs.Steps.{Looks, first_in, ready_in}
use Rattle.trace_steps.specs.Sweeps.{settle_at, Sweep, sweeping, sweep_at, sweep_one, Sweepable, Sweeping, Swept, sweep_all, sweeps, Settling, AllSwept}
use Rattle.trace_steps.proofs.Laws.{first_low, turns_next, set_other}

-- what an output looks at is told by the table by terminal
pub looks-table : {u w : List ℕ} → length w ≡ length u → ((x : ℕ) → x < 8192 → get_or w x 0 ≡ get_or u x 0) → {o : ℕ} → Looks u o → Looks w o
looks-table {u} {w} s t {o} l =
    let h = l.low in
    let e = t o h in
    let f : first_in w o ≡ first_in u o = ap (λ (k : ℕ). cond (ltb k inverter_entry) (o - 2) (o - 1)) e in
    let g = t (first_in u o) (first_low u o h) in
    let q = ap (λ (k : ℕ). get_or w k 0) f in
    let r = t (o - 1) (omega arith) in record {
      size = let z = l.size in omega arith;
      low = h;
      some = l.some;
      kind = let z = l.kind in omega arith;
      two = λ y. l.two (omega arith);
      first = let z = l.first in omega arith;
      last = let z = l.last in omega arith;
    }

module _ (u : List ℕ) (total left j : ℕ) (w : List ℕ) (kept done o : ℕ) (p : Sweepable u total left) (h : j < left) (s : Sweeping u total left j w kept done) (q : o ≡ get_or w (rest_at + j) 0) where
  pub sweep_looks₀ : Looks u o
  sweep_looks₀ = subst (λ (x : ℕ). Looks u x) (sym (q ∙ s.rest j (omega arith) h)) (p.looks j h)

  pub sweep_looks : Looks w o
  sweep_looks = looks-table s.size s.table sweep_looks₀

  pub sweep_yes : ready_in w o ≡ true → Sweeping u total left (j + 1) (settle_at w done o) kept (done + 1)
  sweep_yes e =
      let few = p.few in
      let some = p.some in
      let sum = s.sum in
      let low = s.few in
      let keeps : (x : ℕ) → x < order_at → get_or (settle_at w done o) x 0 ≡ get_or w x 0
      = λ x l. set_other (set w (order_at + done) o) (bits_at + o) x 1 (λ z. omega arith) ∙ set_other w (order_at + done) x o (λ z. omega arith) in
      record {
        size = length-set (set w (order_at + done) o) (bits_at + o) 1 ∙ length-set w (order_at + done) o ∙ s.size;
        table = λ x l. keeps x (omega arith) ∙ s.table x l;
        rest = λ i l m. keeps (rest_at + i) (omega arith) ∙ s.rest i (omega arith) m;
        looks = λ i l. subst (λ (x : ℕ). Looks u x) (sym (keeps (rest_at + i) (omega arith))) (s.looks i l);
        sum = omega arith;
        few = omega arith;
        whole =
            sym (ap (λ (b : Bool). cond b (sweeping (settle_at w done o) kept (done + 1)) (sweeping (set w (rest_at + kept) o) (kept + 1) done)) e)
            ∙ ap (λ (x : ℕ). sweep_at x (sweeping w kept done)) q ∙ turns_next sweep_one j (sweeping u 0 (total - left)) (sweeping w kept done) s.whole;
      }

  pub sweep_no : ready_in w o ≡ false → Sweeping u total left (j + 1) (set w (rest_at + kept) o) (kept + 1) done
  sweep_no e =
      let few = p.few in
      let some = p.some in
      let size = p.size in
      let sum = s.sum in
      let low = s.few in
      let same = s.size in
      record {
        size = length-set w (rest_at + kept) o ∙ s.size;
        table = λ x l. set_other w (rest_at + kept) x o (λ z. omega arith) ∙ s.table x l;
        rest = λ i l m. set_other w (rest_at + kept) (rest_at + i) o (λ z. omega arith) ∙ s.rest i (omega arith) m;
        looks = λ i l. elim (ℕ_discrete i kept) [
          | yes z ↦ subst (λ (x : ℕ). Looks u x) (sym (ap (λ (k : ℕ). get_or (set w (rest_at + kept) o) (rest_at + k) 0) z ∙ get_or-set_same w (rest_at + kept) o 0 (omega arith))) sweep_looks₀
          | no d ↦ subst (λ (x : ℕ). Looks u x) (sym (set_other w (rest_at + kept) (rest_at + i) o (λ z. d (omega arith)))) (s.looks i (omega arith))
        ];
        sum = omega arith;
        few = omega arith;
        whole =
            sym (ap (λ (b : Bool). cond b (sweeping (settle_at w done o) kept (done + 1)) (sweeping (set w (rest_at + kept) o) (kept + 1) done)) e)
            ∙ ap (λ (x : ℕ). sweep_at x (sweeping w kept done)) q ∙ turns_next sweep_one j (sweeping u 0 (total - left)) (sweeping w kept done) s.whole;
      }

pub sweep_start : (u : List ℕ) (total left : ℕ) → Sweepable u total left → Sweeping u total left 0 u 0 (total - left)
sweep_start u total left p = let z = p.some in record {
  size = refl;
  table = λ x l. refl;
  rest = λ i l m. refl;
  looks = λ i l. absurd (omega arith);
  sum = omega arith;
  few = omega arith;
  whole = refl;
}

pub sweep_end : (u : List ℕ) (total left j : ℕ) (w : List ℕ) (kept done : ℕ) → Sweepable u total left → j ≡ left → Sweeping u total left j w kept done → Swept u total left w kept
sweep_end u total left j w kept done p e s =
    let few = p.few in
    let some = p.some in
    let size = p.size in
    let sum = s.sum in
    let low = s.few in
    let same = s.size in
    let d : total - kept ≡ done = omega arith in
    record {
      size = s.size;
      next = record {
        size = omega arith;
        few = few;
        some = omega arith;
        looks = λ i l. looks-table s.size s.table (s.looks i l);
      };
      less = omega arith;
      table = s.table;
      whole = ap (λ (x : ℕ). sweeping w kept x) d ∙ s.whole ∙ ap (λ (k : ℕ). take_turns sweep_one k 0 (sweeping u 0 (total - left))) e;
    }

pub swap : (u : List ℕ) (total left j : ℕ) {w v : List ℕ} {k k' d d' : ℕ} → w ≡ v → k ≡ k' → d ≡ d' → Sweeping u total left j v k' d' → Sweeping u total left j w k d
swap u total left j {w} {v} {k} {k'} {d} {d'} e f g s =
    subst (λ (x : List ℕ). Sweeping u total left j x k d) (sym e) (subst (λ (x : ℕ). Sweeping u total left j v x d) (sym f) (subst (λ (x : ℕ). Sweeping u total left j v k' x) (sym g) s))

-- ---- sweeps

pub settle-start : (u : List ℕ) (total : ℕ) → Sweepable u total total → Settling u total u total
settle-start u total p = record { rounds = total; enough = omega arith; size = refl; next = p; table = λ x l. refl; whole = refl }

module _ (u : List ℕ) (total : ℕ) (w : List ℕ) (left : ℕ) (s : Settling u total w left) (v : List ℕ) (kept : ℕ) (q : Swept w total left v kept) where
  last-kept : (sweep_all total w left).kept ≡ kept
  last-kept = sym (ap (λ (x : Sweep). x.kept) q.whole)

  pub settle_stuck : kept ≡ left → AllSwept u total v left
  settle_stuck e = record {
    size = q.size ∙ s.size;
    next = subst (λ (k : ℕ). Sweepable v total k) e q.next;
    table = λ x l. q.table x l ∙ s.table x l;
    whole =
        subst (λ (k : ℕ). sweeping v k (total - k) ≡ sweep_all total w left) e q.whole
        ∙ sym (ap (λ (b : Bool). cond b (sweep_all total w left) (sweeps s.rounds total (sweep_all total w left).mem (sweep_all total w left).kept)) (eq-eqb (sweep_all total w left).kept left (last-kept ∙ e)))
        ∙ s.whole;
  }

  pub settle-more : (kept ≡ left → ⊥) → Settling u total v kept
  settle-more d = go s.rounds s.enough s.whole
    where
      on : (b : Bool) (k : ℕ) → b ≡ false → sweeps k total v kept ≡ cond b (sweep_all total w left) (sweeps k total (sweep_all total w left).mem (sweep_all total w left).kept)
      on b k e = rw e (ap (λ (x : Sweep). sweeps k total x.mem x.kept) q.whole)

      go : (k : ℕ) → left ≤ k → sweeps (suc k) total w left ≡ sweeps (suc total) total u total → Settling u total v kept
      go zero h e = absurd (d (let l = q.less in omega arith))
      go (suc k) h e = let l = q.less in record {
        rounds = k;
        enough = omega arith;
        size = q.size ∙ s.size;
        next = q.next;
        table = λ x l. q.table x l ∙ s.table x l;
        whole = on (eqb (sweep_all total w left).kept left) (suc k) (ne_eqb (sweep_all total w left).kept left (λ z. d (sym last-kept ∙ z))) ∙ e;
      }

pub settle-none : (u : List ℕ) (total : ℕ) (w : List ℕ) (left : ℕ) → left ≡ 0 → Settling u total w left → AllSwept u total w 0
settle-none u total w left e s = let r = subst (λ (k : ℕ). Settling u total w k) e s in record { size = r.size; next = r.next; table = r.table; whole = r.whole }

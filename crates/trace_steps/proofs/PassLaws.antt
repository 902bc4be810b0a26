-- A pass over an order: afterwards every output of it agrees with what it looks at. Assumes nothing.
use Prim.Native.Nat.{ℕ, zero, suc, ◌+◌, ◌-◌, ◌≤◌, ◌<◌}
use mathlib.Core.Path.{◌≡◌, refl, sym, ap, ◌∙◌, subst}
use mathlib.Core.Logic.{⊎_elim}
use mathlib.Core.Bool.{Bool}
use mathlib.Core.List.{List}
use native.Mathlib.Omega.{arith}
use native.Mathlib.Nat.{eq-or-lt_of_le, le_of_suc-le-suc}
use lib.ListN.{length, get_or, set}
use lib.Dec.{eqb}
use Rattle.memory.specs.Map.{memory_size}
use Rattle.trace_calculus.proofs.Bytes.{byte-bit}
use Rattle.lean.specs.Table.{Within}
use Rattle.lean.proofs.TableLaws.{within_none, within_then, within-set, entry-same, entry_other}
use Rattle.lean.specs.Layout.{kinds_from}
use Rattle.trace_steps.specs.Map.{order_at, bits_at}
use Rattle.trace_steps.specs.Turns.{take_turns}
use Rattle.trace_steps.specs.Steps.{lit, first_in, input_bit, gate_bit, pass_one}
use Rattle.trace_steps.specs.Ticks.{InOrder, due, OrderAgrees}
use Rattle.trace_steps.proofs.Laws.{first_low, first-same, turns_next}

-- what output o gets, over the bits in v
step-due : (w v : List ℕ) (o : ℕ) → Within w v → o < 8192 → gate_bit (get_or v o 0 - kinds_from) (input_bit v (first_in v o)) (input_bit v (o - 1)) ≡ due w v o
step-due w v o i h =
    let e = i.below o (omega arith) in
    let f = ap (λ (y : ℕ). get_or v y 0) (first-same i o h) ∙ i.below (first_in w o) (omega (arith, first_low w o h)) in
    let g = i.below (o - 1) (omega arith) in
    ap (λ (k : ℕ). gate_bit (k - kinds_from) (input_bit v (first_in v o)) (input_bit v (o - 1))) e
    ∙ ap (λ (x : ℕ). gate_bit (get_or w o 0 - kinds_from) (lit v x) (input_bit v (o - 1))) f ∙ ap (λ (x : ℕ). gate_bit (get_or w o 0 - kinds_from) (lit v (get_or w (first_in w o) 0)) (lit v x)) g

-- bits that agree at what o looks at
due-same : (w v v' : List ℕ) (o : ℕ) → lit v' (get_or w (first_in w o) 0) ≡ lit v (get_or w (first_in w o) 0) → lit v' (get_or w (o - 1) 0) ≡ lit v (get_or w (o - 1) 0) → due w v' o ≡ due w v o
due-same w v v' o e f =
    ap (λ (b : Bool). gate_bit (get_or w o 0 - kinds_from) b (lit v' (get_or w (o - 1) 0))) e ∙ ap (λ (b : Bool). gate_bit (get_or w o 0 - kinds_from) (lit v (get_or w (first_in w o) 0)) b) f

lit-other : (v : List ℕ) (o x n : ℕ) → (x ≡ o → ⊥) → lit (set v (bits_at + o) n) x ≡ lit v x
lit-other v o x n d = ap (λ (k : ℕ). eqb k 1) (entry_other v o x n d)

module _ (w : List ℕ) (n : ℕ) (q : InOrder w n) where
  agrees-next : (k : ℕ) (v : List ℕ) → k < n → OrderAgrees w k v → OrderAgrees w (suc k) (pass_one k v)
  agrees-next k v h a = record {
    within = within_then a.within (within-set v o' _ low');
    bits = λ j l. ⊎_elim (λ (e : j ≡ k). subst (λ (x : ℕ). lit v' (get_or w (order_at + x) 0) ≡ due w v' (get_or w (order_at + x) 0)) (sym e) now) (λ (m : j < k). kept j m) (eq-or-lt_of_le (le_of_suc-le-suc l));
    others = λ x f. entry_other v o' x _ (λ z. f k (omega arith) (sym (z ∙ same))) ∙ a.others x (λ j l. f j (omega arith));
  }
    where
      o : ℕ
      o = get_or w (order_at + k) 0

      o' : ℕ
      o' = get_or v (order_at + k) 0

      v' : List ℕ
      v' = pass_one k v

      few : n ≤ 5120
      few = q.ordered.few

      same : o' ≡ o
      same = let f = few in a.within.below (order_at + k) (omega arith)

      low : o < 8192
      low = (q.ordered.looks k h).low

      low' : o' < 8192
      low' = let e = same in let l = low in omega arith

      size : memory_size ≤ length v
      size = let s = a.within.size in let z = q.ordered.size in omega arith

      elsewhere : (x : ℕ) → (x ≡ o → ⊥) → lit v' x ≡ lit v x
      elsewhere x d = lit-other v o' x _ (λ z. d (z ∙ same))

      now : lit v' o ≡ due w v' o
      now =
          ap (lit v') (sym same)
          ∙ ap (λ (x : ℕ). eqb x 1) (entry-same v o' _ size low') ∙ byte-bit _
          ∙ ap (λ (x : ℕ). gate_bit (get_or v x 0 - kinds_from) (input_bit v (first_in v x)) (input_bit v (x - 1))) same
          ∙ step-due w v o a.within low
          ∙ sym (due-same w v v' o (elsewhere (get_or w (first_in w o) 0) (q.first k k (omega arith) h)) (elsewhere (get_or w (o - 1) 0) (q.last k k (omega arith) h)))

      kept : (j : ℕ) → j < k → lit v' (get_or w (order_at + j) 0) ≡ due w v' (get_or w (order_at + j) 0)
      kept j m =
          let p = get_or w (order_at + j) 0 in
          elsewhere p (λ z. let e = q.apart j k (omega arith) h z in omega arith) ∙ a.bits j m
          ∙ sym (due-same w v v' p (elsewhere (get_or w (first_in w p) 0) (q.first j k (omega arith) h)) (elsewhere (get_or w (p - 1) 0) (q.last j k (omega arith) h)))

  agrees-upto : (k : ℕ) → k ≤ n → OrderAgrees w k (take_turns pass_one k 0 w)
  agrees-upto zero h = record { within = within_none w; bits = λ j l. absurd (omega arith); others = λ x f. refl }
  agrees-upto (suc k) h =
      let e : k + 1 ≡ suc k = omega arith in
      subst (λ (v : List ℕ). OrderAgrees w (suc k) v) (turns_next pass_one k w (take_turns pass_one k 0 w) refl ∙ ap (λ (m : ℕ). take_turns pass_one m 0 w) e)
      (agrees-next k (take_turns pass_one k 0 w) h (agrees-upto k (omega arith)))

  -- after the pass every output of the order agrees
  pub pass_agrees : OrderAgrees w n (take_turns pass_one n 0 w)
  pass_agrees = agrees-upto n (omega arith)

-- A pass over the flat layout shows what a pass over the order makes. Assumes nothing.
use Prim.Native.Nat.{ℕ, zero, suc, ◌+◌, ◌-◌, ◌≤◌, ◌<◌}
use mathlib.Core.Path.{◌≡◌, refl, sym, ap, ◌∙◌, subst}
use mathlib.Core.Bool.{Bool, true, false, cond}
use mathlib.Core.List.{List}
use native.Mathlib.Omega.{arith}
use native.Mathlib.Decide.{ℕ_discrete}
use lib.Dec.{eqb}
use lib.ListN.{length, get_or, set}
use lib.Seq.{get_or-set_same}
use Rattle.memory.specs.Map.{memory_size}
use Rattle.lean.specs.Table.{Within}
use Rattle.lean.proofs.TableLaws.{within_none, within_then, within-set, entry-same, entry_other}
use Rattle.lean.specs.Layout.{kinds_from}
use Rattle.trace_steps.specs.Map.{order_at, bits_at, inverter_entry}
use Rattle.trace_steps.specs.Turns.{take_turns}
use Rattle.trace_steps.specs.Steps.{first_in}
use Rattle.trace_steps.specs.Words.{word_at, input_word, gate_word, word_step, word_pass}
use Rattle.trace_steps.proofs.Laws.{turns_next, first_low, first-same, set_other}
use Rattle.trace_flat.specs.Flat.{OnlyBetween, first_at, second_at_lem, third_at, gates_at, ins_at, zero_at, one_at, there_at, form_word, flat_step, second_for, third_for, or_entry, xor_entry}
use Rattle.trace_flat.specs.Shows.{gate_at, Places, Reads, Lists, FlatShows, Unheld}
use Rattle.trace_flat.proofs.Laws.{between_none, between_then, between-set}
use Rattle.trace_flat.proofs.FormLaws.{form_gate, form_low, second_word, third_word}

-- what stands at a place that is chosen
at-chosen : (v : List ℕ) (b : Bool) (x y : ℕ) → get_or v (cond b x y) 0 ≡ cond b (get_or v x 0) (get_or v y 0)
at-chosen v true x y = refl
at-chosen v false x y = refl

at_second : (v : List ℕ) (e b : ℕ) → get_or v zero_at 0 ≡ 0 → get_or v (second_for e b) 0 ≡ second_word e (get_or v b 0)
at_second v e b z =
    at-chosen v (eqb e xor_entry) zero_at (cond (eqb e inverter_entry) zero_at b) ∙ ap (λ (t : ℕ). cond (eqb e xor_entry) t (get_or v (cond (eqb e inverter_entry) zero_at b) 0)) z
    ∙ ap (cond (eqb e xor_entry) 0) (at-chosen v (eqb e inverter_entry) zero_at b ∙ ap (λ (t : ℕ). cond (eqb e inverter_entry) t (get_or v b 0)) z)

at-third : (v : List ℕ) (e a b : ℕ) → get_or v one_at 0 ≡ 65535 → get_or v (third_for e a b) 0 ≡ third_word e (get_or v a 0) (get_or v b 0)
at-third v e a b z =
    at-chosen v (eqb e inverter_entry) one_at (cond (eqb e or_entry) b (cond (eqb e xor_entry) b a)) ∙ ap (λ (t : ℕ). cond (eqb e inverter_entry) t (get_or v (cond (eqb e or_entry) b (cond (eqb e xor_entry) b a)) 0)) z
    ∙ ap (cond (eqb e inverter_entry) 65535) (at-chosen v (eqb e or_entry) b (cond (eqb e xor_entry) b a) ∙ ap (cond (eqb e or_entry) (get_or v b 0)) (at-chosen v (eqb e xor_entry) b a))

module _ (u : List ℕ) (n r end : ℕ) (c : ℕ → ℕ) (places : Places u n r end c) (reads : Reads u n r end) where
  -- the lists stay where only what gates show changes
  pub lists_between : {v v' : List ℕ} → OnlyBetween gates_at ins_at v v' → Lists u n r c v → Lists u n r c v'
  lists_between b l =
      let few = reads.few in
      let rfew = reads.few_registers in
      record {
        size = let s = b.size in let z = l.size in omega arith;
        first = λ j h. b.below (first_at + j) (omega arith) ∙ l.first j h;
        second = λ j h. b.below (second_at_lem + j) (omega arith) ∙ l.second j h;
        third = λ j h. b.below (third_at + j) (omega arith) ∙ l.third j h;
        source = λ j h. b.below (9472 + j) (omega arith) ∙ l.source j h;
        dark = b.above zero_at (omega arith) ∙ l.dark;
        bright = b.above one_at (omega arith) ∙ l.bright;
      }

  -- what the j-th gate of the order gets
  abbrev pub due : List ℕ → ℕ → ℕ
  due w j = gate_word (get_or u (gate_at u j) 0 - kinds_from) (word_at w (get_or u (first_in u (gate_at u j)) 0)) (word_at w (get_or u (gate_at u j - 1) 0))

  -- by terminal ..
  word-step : (w : List ℕ) (j : ℕ) → Within u w → j < n → word_pass j w ≡ set w (bits_at + gate_at u j) (due w j)
  word-step w j i h =
      let o = gate_at u j in
      let few = reads.few in
      let l = reads.order.looks j h in
      let lo = l.low in
      let e = i.below o (omega arith) in
      let f = ap (λ (k : ℕ). get_or w k 0) (first-same i o lo) ∙ i.below (first_in u o) (omega (arith, first_low u o lo)) in
      let g = i.below (o - 1) (omega arith) in
      ap (word_step w) (i.below (order_at + j) (omega arith))
      ∙ ap (λ (k : ℕ). set w (bits_at + o) (gate_word (k - kinds_from) (input_word w (first_in w o)) (input_word w (o - 1)))) e
      ∙ ap (λ (k : ℕ). set w (bits_at + o) (gate_word (get_or u o 0 - kinds_from) (word_at w k) (input_word w (o - 1)))) f
      ∙ ap (λ (k : ℕ). set w (bits_at + o) (gate_word (get_or u o 0 - kinds_from) (word_at w (get_or u (first_in u o) 0)) (word_at w k))) g

  shown-low : (w v : List ℕ) → FlatShows u r end c w v → (x : ℕ) → x < end → Unheld u r x → word_at w x < 65536
  shown-low w v s x l q = subst (λ (k : ℕ). k < 65536) (s.same x l q) (s.fits (c x))

  -- .. and over the flat layout
  flat_step_lem : (w v : List ℕ) (j : ℕ) → Lists u n r c v → FlatShows u r end c w v → j < n → flat_step j v ≡ set v (gates_at + j) (due w j)
  flat_step_lem w v j l s h =
      let o = gate_at u j in
      let e = get_or u o 0 in
      let x = get_or u (first_in u o) 0 in
      let y = get_or u (o - 1) 0 in
      let a = s.same x (reads.first_low j h) (reads.first_shown j h) in
      let b = s.same y (reads.last_low j h) (reads.last_shown j h) in
      let first = ap (λ (k : ℕ). get_or v k 0) (l.first j h) ∙ a in
      let second = ap (λ (k : ℕ). get_or v k 0) (l.second j h) ∙ at_second v e (c y) l.dark ∙ ap (second_word e) b in
      let third = ap (λ (k : ℕ). get_or v k 0) (l.third j h) ∙ at-third v e (c x) (c y) l.bright ∙ ap (λ (k : ℕ). third_word e k (get_or v (c y) 0)) a ∙ ap (third_word e (word_at w x)) b in
      ap (λ (k : ℕ). set v (gates_at + j) k)
      (ap (λ (k : ℕ). form_word k (there_at v (second_at_lem + j)) (there_at v (third_at + j))) first ∙ ap (λ (k : ℕ). form_word (word_at w x) k (there_at v (third_at + j))) second ∙ ap (form_word (word_at w x) (second_word e (word_at w y))) third
      ∙ form_gate e (word_at w x) (word_at w y) (reads.order.looks j h).kind (shown-low w v s x (reads.first_low j h) (reads.first_shown j h)) (shown-low w v s y (reads.last_low j h) (reads.last_shown j h)))

  flat-low : (v : List ℕ) (j : ℕ) → ((i : ℕ) → get_or v i 0 < 65536) → (i : ℕ) → memory_size ≤ length v → j < n → get_or (flat_step j v) i 0 < 65536
  flat-low v j f i z h = let few = reads.few in elim (ℕ_discrete i (gates_at + j)) [
    | yes q ↦ subst (λ (k : ℕ). k < 65536) (sym (ap (λ (k : ℕ). get_or (flat_step j v) k 0) q ∙ get_or-set_same v (gates_at + j) _ 0 (omega arith))) (form_low (there_at v (first_at + j)) (there_at v (second_at_lem + j)) (there_at v (third_at + j)) (f _) (f _) (f _))
    | no d ↦ subst (λ (k : ℕ). k < 65536) (sym (set_other v (gates_at + j) i _ d)) (f i)
  ]

  -- one gate more: the step over the flat layout is the step over the order
  pub step-shows : (w v : List ℕ) (j : ℕ) → Within u w → Lists u n r c v → FlatShows u r end c w v → j < n → FlatShows u r end c (word_pass j w) (flat_step j v)
  step-shows w v j i l s h =
      let o = gate_at u j in
      let g = due w j in
      let few = reads.few in
      let zw = i.size in
      let zu = reads.order.size in
      let zv = l.size in
      let low = (reads.order.looks j h).low in
      record {
        same = λ x lx sx. elim (ℕ_discrete x o) [
          | yes q ↦ ap (λ (k : List ℕ). get_or k (c x) 0) (flat_step_lem w v j l s h) ∙ ap (λ (k : ℕ). get_or (set v (gates_at + j) g) (c k) 0) q ∙ ap (λ (k : ℕ). get_or (set v (gates_at + j) g) k 0) (places.gate j h)
              ∙ get_or-set_same v (gates_at + j) g 0 (omega arith) ∙ sym (ap (λ (k : List ℕ). word_at k x) (word-step w j i h) ∙ ap (word_at (set w (bits_at + o) g)) q ∙ entry-same w o g (omega arith) low)
          | no d ↦ ap (λ (k : List ℕ). get_or k (c x) 0) (flat_step_lem w v j l s h) ∙ set_other v (gates_at + j) (c x) g (λ q. d (places.gate_only x j lx h q)) ∙ s.same x lx sx
              ∙ sym (ap (λ (k : List ℕ). word_at k x) (word-step w j i h) ∙ entry_other w o x g d)
        ];
        fits = λ k. flat-low v j s.fits k l.size h;
      }

  -- so many gates
  pub record Stepped (k : ℕ) (w v : List ℕ) : Type 0 where
    pub within : Within w (take_turns word_pass k 0 w)
    pub between : OnlyBetween gates_at ins_at v (take_turns flat_step k 0 v)
    pub shows : FlatShows u r end c (take_turns word_pass k 0 w) (take_turns flat_step k 0 v)

  pub pass_shows : (w v : List ℕ) → Within u w → Lists u n r c v → FlatShows u r end c w v → (k : ℕ) → k ≤ n → Stepped k w v
  pass_shows w v i l s zero h = record { within = within_none w; between = between_none gates_at ins_at v; shows = s }
  pass_shows w v i l s (suc k) h =
      let p = pass_shows w v i l s k (omega arith) in
      let few = reads.few in
      let w' = take_turns word_pass k 0 w in
      let v' = take_turns flat_step k 0 v in
      let i' = within_then i p.within in
      let e : k + 1 ≡ suc k = omega arith in
      let a = turns_next word_pass k w w' refl ∙ ap (λ (m : ℕ). take_turns word_pass m 0 w) e in
      let b = turns_next flat_step k v v' refl ∙ ap (λ (m : ℕ). take_turns flat_step m 0 v) e in
      let q = step-shows w' v' k i' (lists_between p.between l) p.shows h in
      let low = (reads.order.looks k h).low in
      record {
        within = within_then p.within (subst (λ (z : List ℕ). Within w' z) (sym (word-step w' k i' h) ∙ a) (within-set w' (gate_at u k) (due w' k) low));
        between = between_then p.between (subst (λ (z : List ℕ). OnlyBetween gates_at ins_at v' z) b (between-set gates_at ins_at v' (gates_at + k) _ (omega arith) (omega arith)));
        shows = subst (λ (z : List ℕ). FlatShows u r end c z (take_turns flat_step (suc k) 0 v)) a (subst (λ (z : List ℕ). FlatShows u r end c (word_pass k w') z) b q);
      }

-- The registers: what they show after a tick over the flat layout is what they show after one by terminal. Assumes nothing.
use Prim.Native.Nat.{ℕ, zero, suc, ◌+◌, ◌-◌, ◌≤◌, ◌<◌}
use mathlib.Core.Path.{◌≡◌, refl, sym, ap, ◌∙◌, subst}
use mathlib.Core.Logic.{⊎_elim}
use mathlib.Core.List.{List}
use native.Mathlib.Omega.{arith}
use native.Mathlib.Decide.{ℕ_discrete}
use lib.ListN.{length, get_or, set}
use lib.Seq.{get_or-set_same}
use Rattle.memory.specs.Map.{memory_size}
use Rattle.lean.specs.Table.{Within}
use Rattle.lean.proofs.TableLaws.{within_none, within_then, within-set, entry-same, entry_other}
use Rattle.trace_steps.specs.Map.{registers_at, order_at, bits_at}
use Rattle.trace_steps.specs.Turns.{take_turns}
use Rattle.trace_steps.specs.Steps.{hold_at, hold_one, turn_at, turn_one}
use Rattle.trace_steps.specs.Words.{word_at}
use Rattle.trace_steps.proofs.Laws.{turns_next, set_other}
use Rattle.trace_flat.specs.Flat.{OnlyBetween, sources_at, next_at, shown_at, gates_at, ins_at, there_at, flat_hold, flat_turn}
use Rattle.trace_flat.specs.FlatTicks.{Cells}
use Rattle.trace_flat.specs.Shows.{register_at, Places, Reads, Lists, FlatShows, Unheld}
use Rattle.trace_flat.proofs.Laws.{between_none, between_then, between-set}
use Rattle.trace_flat.proofs.CellLaws.{cells_then, cells_next, cells_shown}
use Rattle.trace_flat.proofs.PlaceLaws.{Sought, sought}

module _ (u : List ℕ) (n r end : ℕ) (c : ℕ → ℕ) (places : Places u n r end c) (reads : Reads u n r end) where
  -- what the j-th register stores
  abbrev stored : ℕ → ℕ
  stored j = get_or u (register_at u j - 1) 0

  same-register : (w : List ℕ) (j : ℕ) → Within u w → j < r → get_or w (registers_at + j) 0 ≡ register_at u j
  same-register w j i h = let few = reads.few_registers in i.below (registers_at + j) (omega arith)

  same_source : (w : List ℕ) (j : ℕ) → Within u w → j < r → get_or w (register_at u j - 1) 0 ≡ stored j
  same_source w j i h = let lo = (reads.registers.each j h).low in i.below (register_at u j - 1) (omega arith)

  hold-step : (w : List ℕ) (j : ℕ) → Within u w → j < r → hold_one j w ≡ set w (bits_at + (register_at u j - 1)) (word_at w (stored j))
  hold-step w j i h = ap (hold_at w) (same-register w j i h) ∙ ap (λ (y : ℕ). set w (bits_at + (register_at u j - 1)) (word_at w y)) (same_source w j i h)

  -- ---- by terminal: the first k registers hold what they store, and what is shown stays

  record Holding (w : List ℕ) (k : ℕ) (h : List ℕ) : Type 0 where
    within : Within w h
    held : (j : ℕ) → j < k → word_at h (register_at u j - 1) ≡ word_at w (stored j)
    kept : (x : ℕ) → Unheld u r x → word_at h x ≡ word_at w x

  module _ (w : List ℕ) (i : Within u w) where
    size : memory_size ≤ length w
    size = let s = i.size in let z = reads.registers.size in omega arith

    holding-next : (k : ℕ) (v : List ℕ) → k < r → Holding w k v → Holding w (suc k) (hold_one k v)
    holding-next k v l s =
        let i' = within_then i s.within in
        let o = register_at u k in
        let a = reads.registers.each k l in
        let lo = a.low in
        let zv = s.within.size in
        let z = size in
        let e = s.kept (stored k) (reads.source_shown k l) in
        subst (λ (t : List ℕ). Holding w (suc k) t) (sym (hold-step v k i' l)) (record {
          within = within_then s.within (within-set v (o - 1) _ (omega arith));
          held = λ j h. elim (ℕ_discrete j k) [
            | yes d ↦ ap (λ (y : ℕ). word_at (set v (bits_at + (o - 1)) (word_at v (stored k))) (register_at u y - 1)) d ∙ entry-same v (o - 1) _ (omega arith) (omega arith) ∙ e ∙ ap (λ (y : ℕ). word_at w (stored y)) (sym d)
            | no d ↦ (let b = reads.registers.each j (omega arith) in let so = b.some in let sk = a.some in
                entry_other v (o - 1) (register_at u j - 1) _ (λ y. d (reads.apart j k (omega arith) l (omega arith))) ∙ s.held j (omega arith))
          ];
          kept = λ x q. elim (ℕ_discrete x (o - 1)) [
            | yes d ↦ ap (word_at (set v (bits_at + (o - 1)) (word_at v (stored k)))) d ∙ entry-same v (o - 1) _ (omega arith) (omega arith)
                ∙ ap (word_at v) (ap (λ (y : ℕ). get_or u y 0) (sym d) ∙ q k l d) ∙ s.kept x q
            | no d ↦ entry_other v (o - 1) x _ d ∙ s.kept x q
          ];
        })

    holding : (k : ℕ) → k ≤ r → Holding w k (take_turns hold_one k 0 w)
    holding zero l = record { within = within_none w; held = λ j h. absurd (omega arith); kept = λ x q. refl }
    holding (suc k) l =
        let e : k + 1 ≡ suc k = omega arith in
        subst (λ (v : List ℕ). Holding w (suc k) v) (turns_next hold_one k w (take_turns hold_one k 0 w) refl ∙ ap (λ (m : ℕ). take_turns hold_one m 0 w) e) (holding-next k (take_turns hold_one k 0 w) l (holding k (omega arith)))

  -- ---- and then show it

  record Turning (w : List ℕ) (k : ℕ) (t : List ℕ) : Type 0 where
    within : Within w t
    turned : (j : ℕ) → j < k → word_at t (register_at u j) ≡ word_at w (register_at u j - 1)
    kept : (x : ℕ) → ((j : ℕ) → j < k → register_at u j ≡ x → ⊥) → word_at t x ≡ word_at w x

  module _ (w : List ℕ) (i : Within u w) where
    turning-next : (k : ℕ) (v : List ℕ) → k < r → Turning w k v → Turning w (suc k) (turn_one k v)
    turning-next k v l s =
        let i' = within_then i s.within in
        let o = register_at u k in
        let lo = (reads.registers.each k l).low in
        let zv = s.within.size in
        let zi = i.size in
        let zu = reads.registers.size in
        let e = s.kept (o - 1) (λ j h q. reads.no_input j k (omega arith) l q) in
        subst (λ (t : List ℕ). Turning w (suc k) t) (sym (ap (turn_at v) (same-register v k i' l))) (record {
          within = within_then s.within (within-set v o _ lo);
          turned = λ j h. elim (ℕ_discrete j k) [
            | yes d ↦ ap (λ (y : ℕ). word_at (turn_at v o) (register_at u y)) d ∙ entry-same v o _ (omega arith) lo ∙ e ∙ ap (λ (y : ℕ). word_at w (register_at u y - 1)) (sym d)
            | no d ↦ entry_other v o (register_at u j) _ (λ y. d (reads.apart j k (omega arith) l y)) ∙ s.turned j (omega arith)
          ];
          kept = λ x f. entry_other v o x _ (λ y. f k (omega arith) (sym y)) ∙ s.kept x (λ j h. f j (omega arith));
        })

    turning : (k : ℕ) → k ≤ r → Turning w k (take_turns turn_one k 0 w)
    turning zero l = record { within = within_none w; turned = λ j h. absurd (omega arith); kept = λ x q. refl }
    turning (suc k) l =
        let e : k + 1 ≡ suc k = omega arith in
        subst (λ (v : List ℕ). Turning w (suc k) v) (turns_next turn_one k w (take_turns turn_one k 0 w) refl ∙ ap (λ (m : ℕ). take_turns turn_one m 0 w) e) (turning-next k (take_turns turn_one k 0 w) l (turning k (omega arith)))

  -- ---- over the flat layout: the same, in one room and then in the other

  -- a place is not among what registers show next
  place-stays : (v t : List ℕ) → OnlyBetween next_at shown_at v t → (x : ℕ) → x < end → get_or t (c x) 0 ≡ get_or v (c x) 0
  place-stays v t b x l =
      let low = reads.low in
      ⊎_elim (λ (a : (gates_at ≤ c x) × (c x < ins_at)). (let h = a.0 in b.above (c x) (omega arith)))
      (λ z. ⊎_elim (λ (a : (shown_at ≤ c x) × (c x < order_at)). b.above (c x) a.0) (λ (e : c x ≡ bits_at + x). b.above (c x) (omega arith)) z) (places.where_is x l)

  record FlatHolding (v : List ℕ) (k : ℕ) (t : List ℕ) : Type 0 where
    between : OnlyBetween next_at shown_at v t
    held : (j : ℕ) → j < k → get_or t (next_at + j) 0 ≡ get_or v (c (stored j)) 0
    fits : (i : ℕ) → get_or t i 0 < 65536

  module _ (v : List ℕ) (lists : Lists u n r c v) (fits₀ : (i : ℕ) → get_or v i 0 < 65536) where
    source-there : (k : ℕ) (t : List ℕ) → k < r → OnlyBetween next_at shown_at v t → there_at t (sources_at + k) ≡ get_or v (c (stored k)) 0
    source-there k t l b =
        let few = reads.few_registers in
        ap (λ (y : ℕ). get_or t y 0) (b.below (sources_at + k) (omega arith) ∙ lists.source k l) ∙ place-stays v t b (stored k) (reads.source_low k l)

    flat-holding-next : (k : ℕ) (t : List ℕ) → k < r → FlatHolding v k t → FlatHolding v (suc k) (flat_hold k t)
    flat-holding-next k t l s =
        let few = reads.few_registers in
        let z = lists.size in
        let y = s.between.size in
        record {
          between = between_then s.between (between-set next_at shown_at t (next_at + k) _ (omega arith) (omega arith));
          held = λ j h. elim (ℕ_discrete j k) [
            | yes d ↦ ap (λ (x : ℕ). get_or (flat_hold k t) (next_at + x) 0) d ∙ get_or-set_same t (next_at + k) _ 0 (omega arith) ∙ source-there k t l s.between ∙ ap (λ (x : ℕ). get_or v (c (stored x)) 0) (sym d)
            | no d ↦ set_other t (next_at + k) (next_at + j) _ (λ x. d (omega arith)) ∙ s.held j (omega arith)
          ];
          fits = λ x. elim (ℕ_discrete x (next_at + k)) [
            | yes d ↦ subst (λ (a : ℕ). a < 65536) (sym (ap (λ (a : ℕ). get_or (flat_hold k t) a 0) d ∙ get_or-set_same t (next_at + k) _ 0 (omega arith))) (s.fits (get_or t (sources_at + k) 0))
            | no d ↦ subst (λ (a : ℕ). a < 65536) (sym (set_other t (next_at + k) x _ d)) (s.fits x)
          ];
        }

    flat-holding : (k : ℕ) → k ≤ r → FlatHolding v k (take_turns flat_hold k 0 v)
    flat-holding zero l = record { between = between_none next_at shown_at v; held = λ j h. absurd (omega arith); fits = fits₀ }
    flat-holding (suc k) l =
        let e : k + 1 ≡ suc k = omega arith in
        subst (λ (t : List ℕ). FlatHolding v (suc k) t) (turns_next flat_hold k v (take_turns flat_hold k 0 v) refl ∙ ap (λ (m : ℕ). take_turns flat_hold m 0 v) e) (flat-holding-next k (take_turns flat_hold k 0 v) l (flat-holding k (omega arith)))

  record FlatTurning (v : List ℕ) (k : ℕ) (t : List ℕ) : Type 0 where
    between : OnlyBetween shown_at order_at v t
    turned : (j : ℕ) → j < k → get_or t (shown_at + j) 0 ≡ get_or v (next_at + j) 0
    kept : (x : ℕ) → ((j : ℕ) → j < k → x ≡ shown_at + j → ⊥) → get_or t x 0 ≡ get_or v x 0
    fits : (i : ℕ) → get_or t i 0 < 65536

  module _ (v : List ℕ) (size : memory_size ≤ length v) (fits₀ : (i : ℕ) → get_or v i 0 < 65536) where
    flat-turning-next : (k : ℕ) (t : List ℕ) → k < r → FlatTurning v k t → FlatTurning v (suc k) (flat_turn k t)
    flat-turning-next k t l s =
        let few = reads.few_registers in
        let z = size in
        let y = s.between.size in
        record {
          between = between_then s.between (between-set shown_at order_at t (shown_at + k) _ (omega arith) (omega arith));
          turned = λ j h. elim (ℕ_discrete j k) [
            | yes d ↦ ap (λ (x : ℕ). get_or (flat_turn k t) (shown_at + x) 0) d ∙ get_or-set_same t (shown_at + k) _ 0 (omega arith) ∙ s.between.below (next_at + k) (omega arith) ∙ ap (λ (x : ℕ). get_or v (next_at + x) 0) (sym d)
            | no d ↦ set_other t (shown_at + k) (shown_at + j) _ (λ x. d (omega arith)) ∙ s.turned j (omega arith)
          ];
          kept = λ x f. set_other t (shown_at + k) x _ (f k (omega arith)) ∙ s.kept x (λ j h. f j (omega arith));
          fits = λ x. elim (ℕ_discrete x (shown_at + k)) [
            | yes d ↦ subst (λ (a : ℕ). a < 65536) (sym (ap (λ (a : ℕ). get_or (flat_turn k t) a 0) d ∙ get_or-set_same t (shown_at + k) _ 0 (omega arith))) (s.fits (next_at + k))
            | no d ↦ subst (λ (a : ℕ). a < 65536) (sym (set_other t (shown_at + k) x _ d)) (s.fits x)
          ];
        }

    flat-turning : (k : ℕ) → k ≤ r → FlatTurning v k (take_turns flat_turn k 0 v)
    flat-turning zero l = record { between = between_none shown_at order_at v; turned = λ j h. absurd (omega arith); kept = λ x q. refl; fits = fits₀ }
    flat-turning (suc k) l =
        let e : k + 1 ≡ suc k = omega arith in
        subst (λ (t : List ℕ). FlatTurning v (suc k) t) (turns_next flat_turn k v (take_turns flat_turn k 0 v) refl ∙ ap (λ (m : ℕ). take_turns flat_turn m 0 v) e) (flat-turning-next k (take_turns flat_turn k 0 v) l (flat-turning k (omega arith)))

  -- all registers go on
  pub turn_shows : (w v : List ℕ) → Within u w → Lists u n r c v → FlatShows u r end c w v
      → FlatShows u r end c (take_turns turn_one r 0 (take_turns hold_one r 0 w)) (take_turns flat_turn r 0 (take_turns flat_hold r 0 v))
  unfolding Sought
  turn_shows w v i l s =
      let h = holding w i r (omega arith) in
      let t = turning (take_turns hold_one r 0 w) (within_then i h.within) r (omega arith) in
      let fh = flat-holding v l s.fits r (omega arith) in
      let sv = fh.between.size in
      let zv = l.size in
      let ft = flat-turning (take_turns flat_hold r 0 v) (omega arith) fh.fits r (omega arith) in
      record {
        same = λ x lx q. ⊎_elim
            (λ (a : (j : ℕ) × (j < r) × (register_at u j ≡ x)). (let j = a.0 in let k = a.1 in
            ap (λ (y : ℕ). get_or (take_turns flat_turn r 0 (take_turns flat_hold r 0 v)) y 0) (ap c (sym a.2) ∙ places.register j k)
            ∙ ft.turned j k ∙ fh.held j k ∙ s.same (stored j) (reads.source_low j k) (reads.source_shown j k)
            ∙ sym (ap (word_at (take_turns turn_one r 0 (take_turns hold_one r 0 w))) (sym a.2) ∙ t.turned j k ∙ h.held j k)))
            (λ (f : (j : ℕ) → j < r → register_at u j ≡ x → ⊥).
            ft.kept (c x) (λ j k e. f j k (sym (places.register_only x j lx k e))) ∙ place-stays v (take_turns flat_hold r 0 v) fh.between x lx ∙ s.same x lx q
            ∙ sym (t.kept x f ∙ h.kept x q)) (sought (register_at u) x r);
        fits = ft.fits;
      }

  pub turn_within : (w : List ℕ) → Within u w → Within w (take_turns turn_one r 0 (take_turns hold_one r 0 w))
  turn_within w i =
      let h = holding w i r (omega arith) in
      within_then h.within (turning (take_turns hold_one r 0 w) (within_then i h.within) r (omega arith)).within

  pub turn_cells : (w v : List ℕ) → Lists u n r c v → FlatShows u r end c w v → Cells v (take_turns flat_turn r 0 (take_turns flat_hold r 0 v))
  turn_cells w v l s =
      let fh = flat-holding v l s.fits r (omega arith) in
      let sv = fh.between.size in
      let zv = l.size in
      cells_then (cells_next fh.between) (cells_shown (flat-turning (take_turns flat_hold r 0 v) (omega arith) fh.fits r (omega arith)).between)

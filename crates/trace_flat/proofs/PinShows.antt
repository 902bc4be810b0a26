-- The pins: what is loaded to the flat layout, and written from it, is what is loaded and written by terminal. Assumes nothing.
use Prim.Native.Nat.{ℕ, zero, suc, ◌+◌, ◌/◌, ◌%◌, ◌≤◌, ◌<◌}
use mathlib.Core.Path.{◌≡◌, refl, sym, ap, ◌∙◌, subst}
use mathlib.Core.Logic.{inl, inr, ⊎_elim}
use mathlib.Core.Bool.{Bool, true, false, cond}
use mathlib.Core.List.{List}
use native.Mathlib.Omega.{arith}
use native.Mathlib.Decide.{ℕ_discrete}
use lib.ListN.{length, get_or, set}
use lib.Seq.{get_or-set_same}
use lib.Dec.{eqb}
use Rattle.memory.specs.Map.{memory_size}
use Rattle.lean.specs.Table.{Within}
use Rattle.lean.proofs.TableLaws.{within_none, within_then, within-set, entry-same, entry_other}
use Rattle.trace_steps.specs.Map.{order_at, pins_at, bits_at}
use Rattle.trace_steps.specs.Turns.{take_turns}
use Rattle.trace_steps.specs.Words.{word_at}
use Rattle.trace_steps.specs.Pins.{Counted, counted, pin_is_in, in_pin_count, out_pin_count, load_one, word_store}
use Rattle.trace_steps.proofs.Laws.{turns_next, set_other}
use Rattle.trace_flat.specs.Flat.{shown_at, gates_at, ins_at, outs_at, there_at}
use Rattle.trace_flat.specs.FlatTicks.{Cells, flat_load, flat_store}
use Rattle.trace_flat.specs.Shows.{Places, Reads, FlatShows, PinReads, PinLists}
use Rattle.trace_flat.proofs.CellLaws.{cells_none, cells_then, cells_set}

module _ (u : List ℕ) (n r end p : ℕ) (c : ℕ → ℕ) (places : Places u n r end c) (reads : Reads u n r end) (pins : PinReads u r end p c) where
  same-pin : (w : List ℕ) (k : ℕ) → Within u w → k < p → get_or w (pins_at + k) 0 ≡ get_or u (pins_at + k) 0
  same-pin w k i h = let few = pins.few in i.below (pins_at + k) (omega arith)

  same_kind : (w : List ℕ) (k : ℕ) → Within u w → k < p → pin_is_in w k ≡ pin_is_in u k
  same_kind w k i h = ap (λ (x : ℕ). eqb (x % 2) 0) (same-pin w k i h)

  pub pin_lists_cells : {v t : List ℕ} → Cells v t → PinLists u p c v → PinLists u p c t
  pin_lists_cells b l = record { ins = λ k h e. b.above (ins_at + in_pin_count u k) (omega arith) ∙ l.ins k h e; outs = λ k h e. b.above (outs_at + out_pin_count u k) (omega arith) ∙ l.outs k h e }

  -- the first k pins are loaded in both
  record Loaded (bits w v : List ℕ) (from k : ℕ) (s : Counted) (t : List ℕ) : Type 0 where
    count : s.count ≡ from + in_pin_count u k
    within : Within w s.mem
    cells : Cells v t
    shows : FlatShows u r end c s.mem t

  module _ (bits w v : List ℕ) (from : ℕ) (bits_fit : (i : ℕ) → get_or bits i 0 < 65536) (i : Within u w) (size : memory_size ≤ length v) (lists : PinLists u p c v) where
    loaded-in : (k : ℕ) (s : Counted) (t : List ℕ) → k < p → pin_is_in u k ≡ true → Loaded bits w v from k s t → Loaded bits w v from (suc k) (load_one bits k s) (flat_load bits from (in_pin_count u k) t)
    loaded-in k s t h e l =
        let x = get_or u (pins_at + k) 0 / 2 in
        let y = get_or bits (from + in_pin_count u k) 0 in
        let i' = within_then i l.within in
        let lx = pins.in_low k h e in
        let own = pins.in_own k h e in
        let low = reads.low in
        let zu = reads.order.size in
        let zm = i'.size in
        let zt = l.cells.size in
        let kind = same_kind s.mem k i' h ∙ e in
        let spot : get_or t (ins_at + in_pin_count u k) 0 ≡ c x = l.cells.above (ins_at + in_pin_count u k) (omega arith) ∙ lists.ins k h e in
        let one : load_one bits k s ≡ counted (set s.mem (bits_at + x) y) (s.count + 1) =
        ap (λ (b : Bool). cond b (counted (set s.mem (bits_at + get_or s.mem (pins_at + k) 0 / 2) (get_or bits s.count 0)) (s.count + 1)) s) kind
        ∙ ap (λ (z : ℕ). counted (set s.mem (bits_at + z / 2) (get_or bits s.count 0)) (s.count + 1)) (same-pin s.mem k i' h)
        ∙ ap (λ (z : ℕ). counted (set s.mem (bits_at + x) (get_or bits z 0)) (s.count + 1)) l.count in
        let two : flat_load bits from (in_pin_count u k) t ≡ set t (c x) y = ap (λ (z : ℕ). set t z y) spot in
        let up : in_pin_count u (suc k) ≡ in_pin_count u k + 1 = ap (λ (b : Bool). in_pin_count u k + cond b 1 0) e in
        let lc = l.count in
        subst (λ (z : Counted). Loaded bits w v from (suc k) z (flat_load bits from (in_pin_count u k) t)) (sym one) (subst (λ (z : List ℕ). Loaded bits w v from (suc k) (counted (set s.mem (bits_at + x) y) (s.count + 1)) z) (sym two) (record {
          count = omega arith;
          within = within_then l.within (within-set s.mem x y (omega arith));
          cells = cells_then l.cells (cells_set t (c x) y (inr (inl (omega arith, omega arith))));
          shows = record {
            same = λ z lz q. elim (ℕ_discrete z x) [
              | yes d ↦ ap (λ (a : ℕ). get_or (set t (c x) y) (c a) 0) d ∙ get_or-set_same t (c x) y 0 (omega arith) ∙ sym (ap (word_at (set s.mem (bits_at + x) y)) d ∙ entry-same s.mem x y (omega arith) (omega arith))
              | no d ↦ set_other t (c x) (c z) y (λ a. apart z x lz lx own a d) ∙ l.shows.same z lz q ∙ sym (entry_other s.mem x z y d)
            ];
            fits = λ a. elim (ℕ_discrete a (c x)) [
              | yes d ↦ subst (λ (b : ℕ). b < 65536) (sym (ap (λ (b : ℕ). get_or (set t (c x) y) b 0) d ∙ get_or-set_same t (c x) y 0 (omega arith))) (bits_fit (from + in_pin_count u k))
              | no d ↦ subst (λ (b : ℕ). b < 65536) (sym (set_other t (c x) a y d)) (l.shows.fits a)
            ];
          };
        }))
      where
        apart : (z x : ℕ) → z < end → x < end → c x ≡ bits_at + x → c z ≡ c x → (z ≡ x → ⊥) → ⊥
        apart z x lz lx own a d =
            let low = reads.low in
            ⊎_elim (λ (b : (gates_at ≤ c z) × (c z < ins_at)). (let h = b.0 in omega arith)) (λ g. ⊎_elim (λ (b : (shown_at ≤ c z) × (c z < order_at)). (let h = b.1 in omega arith)) (λ (b : c z ≡ bits_at + z). d (omega arith)) g) (places.where_is z lz)

    loaded-out : (k : ℕ) (s : Counted) (t : List ℕ) → k < p → pin_is_in u k ≡ false → Loaded bits w v from k s t → Loaded bits w v from (suc k) (load_one bits k s) t
    loaded-out k s t h e l =
        let i' = within_then i l.within in
        let kind = same_kind s.mem k i' h ∙ e in
        let up : in_pin_count u (suc k) ≡ in_pin_count u k + 0 = ap (λ (b : Bool). in_pin_count u k + cond b 1 0) e in
        let lc = l.count in
        subst (λ (z : Counted). Loaded bits w v from (suc k) z t) (sym (ap (λ (b : Bool). cond b (counted (set s.mem (bits_at + get_or s.mem (pins_at + k) 0 / 2) (get_or bits s.count 0)) (s.count + 1)) s) kind))
        (record { count = omega arith; within = l.within; cells = l.cells; shows = l.shows })

    loaded : FlatShows u r end c w v → (k : ℕ) → k ≤ p → Loaded bits w v from k (take_turns (load_one bits) k 0 (counted w from)) (take_turns (flat_load bits from) (in_pin_count u k) 0 v)
    loaded s zero h = record { count = omega arith; within = within_none w; cells = cells_none v; shows = s }
    loaded s (suc k) h = by (pin_is_in u k) refl (loaded s k (omega arith))
      where
        next : load_one bits k (take_turns (load_one bits) k 0 (counted w from)) ≡ take_turns (load_one bits) (suc k) 0 (counted w from)
        next = let e : k + 1 ≡ suc k = omega arith in turns_next (load_one bits) k (counted w from) (take_turns (load_one bits) k 0 (counted w from)) refl ∙ ap (λ (m : ℕ). take_turns (load_one bits) m 0 (counted w from)) e

        by : (b : Bool) → pin_is_in u k ≡ b → Loaded bits w v from k (take_turns (load_one bits) k 0 (counted w from)) (take_turns (flat_load bits from) (in_pin_count u k) 0 v) → Loaded bits w v from (suc k) (take_turns (load_one bits) (suc k) 0 (counted w from)) (take_turns (flat_load bits from) (in_pin_count u (suc k)) 0 v)
        by true e before =
            let up : in_pin_count u k + 1 ≡ in_pin_count u (suc k) = sym (ap (λ (b : Bool). in_pin_count u k + cond b 1 0) e) in
            subst (λ (z : Counted). Loaded bits w v from (suc k) z (take_turns (flat_load bits from) (in_pin_count u (suc k)) 0 v)) next
            (subst (λ (z : List ℕ). Loaded bits w v from (suc k) (load_one bits k (take_turns (load_one bits) k 0 (counted w from))) z) (turns_next (flat_load bits from) (in_pin_count u k) v (take_turns (flat_load bits from) (in_pin_count u k) 0 v) refl ∙ ap (λ (m : ℕ). take_turns (flat_load bits from) m 0 v) up)
            (loaded-in k (take_turns (load_one bits) k 0 (counted w from)) (take_turns (flat_load bits from) (in_pin_count u k) 0 v) h e before))
        by false e before =
            let up : in_pin_count u k ≡ in_pin_count u (suc k) = (let z : in_pin_count u k ≡ in_pin_count u k + 0 = omega arith in z) ∙ sym (ap (λ (b : Bool). in_pin_count u k + cond b 1 0) e) in
            subst (λ (z : Counted). Loaded bits w v from (suc k) z (take_turns (flat_load bits from) (in_pin_count u (suc k)) 0 v)) next
            (subst (λ (m : ℕ). Loaded bits w v from (suc k) (load_one bits k (take_turns (load_one bits) k 0 (counted w from))) (take_turns (flat_load bits from) m 0 v)) up
            (loaded-out k (take_turns (load_one bits) k 0 (counted w from)) (take_turns (flat_load bits from) (in_pin_count u k) 0 v) h e before))

    -- all input pins
    pub load-within : FlatShows u r end c w v → Within w (take_turns (load_one bits) p 0 (counted w from)).mem
    load-within s = (loaded s p (omega arith)).within

    pub load_cells : FlatShows u r end c w v → Cells v (take_turns (flat_load bits from) (in_pin_count u p) 0 v)
    load_cells s = (loaded s p (omega arith)).cells

    pub load-shows : FlatShows u r end c w v → FlatShows u r end c (take_turns (load_one bits) p 0 (counted w from)).mem (take_turns (flat_load bits from) (in_pin_count u p) 0 v)
    load-shows s = (loaded s p (omega arith)).shows

  -- all output pins
  module _ (g : ℕ → ℕ) (w v : List ℕ) (to : ℕ) (i : Within u w) (lists : PinLists u p c v) (s : FlatShows u r end c w v) (out : List ℕ) where
    stores : (k : ℕ) → k ≤ p → take_turns (word_store g w) k 0 (counted out to) ≡ counted (take_turns (flat_store g v to) (out_pin_count u k) 0 out) (to + out_pin_count u k)
    stores zero h = let e : to ≡ to + 0 = omega arith in ap (counted out) e
    stores (suc k) h = sym next ∙ ap (word_store g w k) (stores k (omega arith)) ∙ by (pin_is_in u k) refl
      where
        next : word_store g w k (take_turns (word_store g w) k 0 (counted out to)) ≡ take_turns (word_store g w) (suc k) 0 (counted out to)
        next = let e : k + 1 ≡ suc k = omega arith in turns_next (word_store g w) k (counted out to) (take_turns (word_store g w) k 0 (counted out to)) refl ∙ ap (λ (m : ℕ). take_turns (word_store g w) m 0 (counted out to)) e

        by : (b : Bool) → pin_is_in u k ≡ b → word_store g w k (counted (take_turns (flat_store g v to) (out_pin_count u k) 0 out) (to + out_pin_count u k)) ≡ counted (take_turns (flat_store g v to) (out_pin_count u (suc k)) 0 out) (to + out_pin_count u (suc k))
        by true e =
            let kind = same_kind w k i h ∙ e in
            let F = take_turns (flat_store g v to) (out_pin_count u k) 0 out in
            let up : out_pin_count u k ≡ out_pin_count u (suc k) = (let z : out_pin_count u k ≡ out_pin_count u k + 0 = omega arith in z) ∙ sym (ap (λ (b : Bool). out_pin_count u k + cond b 0 1) e) in
            ap (λ (b : Bool). cond b (counted F (to + out_pin_count u k)) (counted (set F (to + out_pin_count u k) (g (word_at w (get_or w (pins_at + k) 0 / 2)))) (to + out_pin_count u k + 1))) kind
            ∙ ap (λ (m : ℕ). counted (take_turns (flat_store g v to) m 0 out) (to + m)) up
        by false e =
            let kind = same_kind w k i h ∙ e in
            let x = get_or u (pins_at + k) 0 / 2 in
            let F = take_turns (flat_store g v to) (out_pin_count u k) 0 out in
            let up : out_pin_count u k + 1 ≡ out_pin_count u (suc k) = sym (ap (λ (b : Bool). out_pin_count u k + cond b 0 1) e) in
            let there : word_at w (get_or w (pins_at + k) 0 / 2) ≡ there_at v (outs_at + out_pin_count u k) = ap (λ (z : ℕ). word_at w (z / 2)) (same-pin w k i h)
            ∙ sym (ap (λ (z : ℕ). get_or v z 0) (lists.outs k h e) ∙ s.same x (pins.out_low k h e) (pins.out_shown k h e)) in
            let sum : to + out_pin_count u k + 1 ≡ to + (out_pin_count u k + 1) = omega arith in
            ap (λ (b : Bool). cond b (counted F (to + out_pin_count u k)) (counted (set F (to + out_pin_count u k) (g (word_at w (get_or w (pins_at + k) 0 / 2)))) (to + out_pin_count u k + 1))) kind
            ∙ ap (λ (z : ℕ). counted (set F (to + out_pin_count u k) (g z)) (to + out_pin_count u k + 1)) there
            ∙ ap (λ (z : List ℕ). counted z (to + out_pin_count u k + 1)) (turns_next (flat_store g v to) (out_pin_count u k) out F refl)
            ∙ ap (λ (z : ℕ). counted (take_turns (flat_store g v to) (out_pin_count u k + 1) 0 out) z) sum
            ∙ ap (λ (m : ℕ). counted (take_turns (flat_store g v to) m 0 out) (to + m)) up

    pub store-shows : (take_turns (word_store g w) p 0 (counted out to)).mem ≡ take_turns (flat_store g v to) (out_pin_count u p) 0 out
    store-shows = ap (λ (z : Counted). z.mem) (stores p (omega arith))

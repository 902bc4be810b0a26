-- A run over the flat layout writes what a run by terminal writes, and shows what it holds. Assumes nothing.
use Prim.Native.Nat.{ℕ, zero, suc, ◌+◌, ◌*◌, ◌<◌}
use mathlib.Core.Path.{◌≡◌, refl, sym, ap, ◌∙◌, subst}
use mathlib.Core.List.{List}
use native.Mathlib.Omega.{arith}
use lib.ListN.{get_or, set}
use Rattle.lean.specs.Table.{Within}
use Rattle.lean.proofs.TableLaws.{within_then}
use Rattle.trace_steps.specs.Map.{registers_at}
use Rattle.trace_steps.specs.Turns.{take_turns}
use Rattle.trace_steps.specs.Words.{word_at, keep_one}
use Rattle.trace_steps.specs.Pins.{in_pin_count, out_pin_count}
use Rattle.trace_steps.specs.Ticks.{Sizes, sizes, word_lighted, word_ticked, word_shown, Running, running, word_tick, Ran}
use Rattle.trace_steps.proofs.Laws.{turns_next}
use Rattle.trace_flat.specs.Flat.{sources_at, first_at, second_at_lem, third_at, zero_at, one_at}
use Rattle.trace_flat.specs.FlatTicks.{flat_keep, Cells, Counts, counts, flat_lighted, flat_ticked, flat_shown, flat_tick, FlatRan}
use Rattle.trace_flat.specs.Shows.{register_at, Places, Reads, Lists, FlatShows, PinReads, PinLists}
use Rattle.trace_flat.proofs.CellLaws.{cells_gates}
use Rattle.trace_flat.proofs.ShowLaws.{pass_shows}
use Rattle.trace_flat.proofs.TurnLaws.{turn_shows, turn_within, turn_cells}
use Rattle.trace_flat.proofs.PinShows.{pin_lists_cells, load-within, load_cells, load-shows, store-shows}

module _ (u : List ℕ) (n r end p : ℕ) (c : ℕ → ℕ) (places : Places u n r end c) (reads : Reads u n r end) (pins : PinReads u r end p c) where
  -- the memory by terminal, and the flat one
  pub record Agree (w v : List ℕ) : Type 0 where
    pub within : Within u w
    pub lists : Lists u n r c v
    pub pin-lists : PinLists u p c v
    pub shows : FlatShows u r end c w v

  lists-cells : {v t : List ℕ} → Cells v t → Lists u n r c v → Lists u n r c t
  lists-cells b l =
      let few = reads.few in
      let rfew = reads.few_registers in
      record {
        size = let s = b.size in let z = l.size in omega arith;
        first = λ j h. b.lists (first_at + j) (omega arith) (omega arith) ∙ l.first j h;
        second = λ j h. b.lists (second_at_lem + j) (omega arith) (omega arith) ∙ l.second j h;
        third = λ j h. b.lists (third_at + j) (omega arith) (omega arith) ∙ l.third j h;
        source = λ j h. b.below (sources_at + j) (omega arith) ∙ l.source j h;
        dark = b.above zero_at (omega arith) ∙ l.dark;
        bright = b.above one_at (omega arith) ∙ l.bright;
      }

  agree-next : {w v w' v' : List ℕ} → Agree w v → Within w w' → Cells v v' → FlatShows u r end c w' v' → Agree w' v'
  agree-next a i b s = record { within = within_then a.within i; lists = lists-cells b a.lists; pin-lists = pin_lists_cells u n r end p c places reads pins b a.pin-lists; shows = s }

  abbrev pub asked : Sizes
  asked = sizes n r p

  abbrev pub laid : Counts
  laid = counts n r (in_pin_count u p) (out_pin_count u p)

  module _ (bits : List ℕ) (bits_fit : (i : ℕ) → get_or bits i 0 < 65536) where
    light-agrees : (from : ℕ) (w v : List ℕ) → Agree w v → Agree (word_lighted asked bits from w) (flat_lighted laid bits from v)
    unfolding word_lighted flat_lighted
    light-agrees from w v a =
        let z = a.lists.size in
        let b = agree-next a (load-within u n r end p c places reads pins bits w v from bits_fit a.within z a.pin-lists a.shows) (load_cells u n r end p c places reads pins bits w v from bits_fit a.within z a.pin-lists a.shows)
        (load-shows u n r end p c places reads pins bits w v from bits_fit a.within z a.pin-lists a.shows) in
        let s = pass_shows u n r end c places reads _ _ b.within b.lists b.shows n (omega arith) in
        agree-next b s.within (cells_gates s.between) s.shows

    pub tick-agrees : (from : ℕ) (w v : List ℕ) → Agree w v → Agree (word_ticked asked bits from w) (flat_ticked laid bits from v)
    unfolding word_ticked flat_ticked
    tick-agrees from w v a =
        let b = light-agrees from w v a in
        agree-next b (turn_within u n r end c places reads _ b.within) (turn_cells u n r end c places reads _ _ b.lists b.shows) (turn_shows u n r end c places reads _ _ b.within b.lists b.shows)

    pub shown-agrees : (g : ℕ → ℕ) (from to : ℕ) (w v out : List ℕ) → Agree w v → word_shown g asked bits from to w out ≡ flat_shown g laid bits from to v out
    unfolding word_shown flat_shown
    shown-agrees g from to w v out a = let b = light-agrees from w v a in store-shows u n r end p c places reads pins g _ _ to b.within b.pin-lists b.shows out

    -- so many ticks
    pub record Along (a b : Running) : Type 0 where
      pub agree : Agree a.mem b.mem
      pub same : a.out ≡ b.out

    along_next : (g : ℕ → ℕ) (t : ℕ) (a b : Running) → Along a b → Along (word_tick g asked bits (in_pin_count u p) (out_pin_count u p) t a) (flat_tick g laid bits t b)
    along_next g t a b l = record {
      agree = tick-agrees (t * in_pin_count u p) a.mem b.mem l.agree;
      same = ap (word_shown g asked bits (t * in_pin_count u p) (t * out_pin_count u p) a.mem) l.same ∙ shown-agrees g (t * in_pin_count u p) (t * out_pin_count u p) a.mem b.mem b.out l.agree;
    }

    -- a run over the flat layout is the run by terminal: the same output, and memories that agree
    pub run-shows : (g : ℕ → ℕ) (w v out : List ℕ) → Agree w v → (k : ℕ)
        → Along (take_turns (word_tick g asked bits (in_pin_count u p) (out_pin_count u p)) k 0 (running w out)) (take_turns (flat_tick g laid bits) k 0 (running v out))
    run-shows g w v out a zero = record { agree = a; same = refl }
    run-shows g w v out a (suc k) =
        let f = word_tick g asked bits (in_pin_count u p) (out_pin_count u p) in
        let h = flat_tick g laid bits in
        let e : k + 1 ≡ suc k = omega arith in
        let x = turns_next f k (running w out) (take_turns f k 0 (running w out)) refl ∙ ap (λ (m : ℕ). take_turns f m 0 (running w out)) e in
        let y = turns_next h k (running v out) (take_turns h k 0 (running v out)) refl ∙ ap (λ (m : ℕ). take_turns h m 0 (running v out)) e in
        subst (λ (z : Running). Along z (take_turns h (suc k) 0 (running v out))) x (subst (λ (z : Running). Along (f k (take_turns f k 0 (running w out))) z) y
        (along_next g k (take_turns f k 0 (running w out)) (take_turns h k 0 (running v out)) (run-shows g w v out a k)))

    both-within : {w w' : List ℕ} → Within u w → Within u w' → Within w w'
    both-within a b = record { size = b.size ∙ sym a.size; below = λ j h. b.below j h ∙ sym (a.below j h); above = λ j h. b.above j h ∙ sym (a.above j h) }

    pub record RanSo (g : ℕ → ℕ) (k : ℕ) (w out v' out' : List ℕ) : Type 0 where
      pub mem : List ℕ
      pub ran : Ran g asked bits (in_pin_count u p) (out_pin_count u p) k w out mem out'
      pub agree : Agree mem v'

    -- so what the code did over the flat layout is a run by terminal, which L4's proof speaks of
    pub ran-is : (g : ℕ → ℕ) (k : ℕ) (w v out v' out' : List ℕ) → Agree w v → FlatRan g laid bits k v out v' out' → RanSo g k w out v' out'
    ran-is g k w v out v' out' a f =
        let l = run-shows g w v out a k in
        let e = ap (λ (x : Running). x.mem) f.whole in
        let o = ap (λ (x : Running). x.out) f.whole in
        let t = take_turns (word_tick g asked bits (in_pin_count u p) (out_pin_count u p)) k 0 (running w out) in
        record {
          mem = t.mem;
          ran = record { within = both-within a.within l.agree.within; size = f.size; whole = ap (λ (x : List ℕ). running t.mem x) (o ∙ sym l.same) };
          agree = subst (λ (x : List ℕ). Agree t.mem x) (sym e) l.agree;
        }

  -- ---- what the registers would show next is kept

  turns_same : (f h : ℕ → List ℕ → List ℕ) (k : ℕ) (s : List ℕ) → ((j : ℕ) (t : List ℕ) → j < k → f j t ≡ h j t) → take_turns f k 0 s ≡ take_turns h k 0 s
  turns_same f h zero s e = refl
  turns_same f h (suc k) s e =
      let q : k + 1 ≡ suc k = omega arith in
      let a = turns_next f k s (take_turns f k 0 s) refl ∙ ap (λ (m : ℕ). take_turns f m 0 s) q in
      let b = turns_next h k s (take_turns f k 0 s) (turns_same f h k s (λ j t l. e j t (omega arith))) ∙ ap (λ (m : ℕ). take_turns h m 0 s) q in
      sym a ∙ e k (take_turns f k 0 s) (omega arith) ∙ b

  pub keep-shows : (w v st : List ℕ) → ((j : ℕ) → j < r → register_at u j < end) → Agree w v → take_turns (flat_keep v) r 0 st ≡ take_turns (keep_one w) r 0 st
  keep-shows w v st low a = turns_same (flat_keep v) (keep_one w) r st (λ j t h.
      let few = reads.few_registers in
      ap (λ (y : ℕ). set t j y) (ap (λ (y : ℕ). get_or v y 0) (sym (places.register j h)) ∙ a.shows.same (register_at u j) (low j h) (λ i k e. absurd (reads.no_input j i h k e))
      ∙ ap (word_at w) (sym (a.within.below (registers_at + j) (omega arith)))))

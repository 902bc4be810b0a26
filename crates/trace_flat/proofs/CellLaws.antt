-- Laws of a tick over the flat layout: what stays, and what a tick is made of. Assumes nothing.
use Prim.Native.Nat.{ℕ, ◌+◌, ◌*◌, ◌≤◌, ◌<◌}
use mathlib.Core.Path.{◌≡◌, refl, sym, ap, ◌∙◌, subst}
use mathlib.Core.Logic.{◌⊎◌, inl, inr, ⊎_elim}
use mathlib.Core.List.{List, map}
use native.Mathlib.Omega.{arith}
use Rattle.std.proofs.lemmas.List.{get_or-map, map-set}
use lib.ListN.{length, get_or, set, length-set}
use Rattle.memory.specs.Map.{memory_size}
use Rattle.trace_steps.specs.Map.{order_at, bits_at}
use Rattle.trace_steps.specs.Turns.{take_turns}
use Rattle.trace_steps.specs.Ticks.{running}
use Rattle.trace_steps.proofs.Laws.{turns_next, set_other}
use Rattle.trace_flat.specs.Flat.{OnlyBetween, Stretched, next_at, shown_at, sources_at, first_at, second_at_lem, third_at, gates_at, ins_at, outs_at, Gates, Sources, flat_step, flat_hold, flat_turn}
use Rattle.trace_flat.specs.FlatTicks.{Place, Cells, Celled, Counts, counts, Flat, flat_load, flat_store, WrittenBy, flat_lighted, flat_ticked, flat_shown, FlatTicked, flat_tick, FlatRan}

pub cells_none : (w : List ℕ) → Cells w w
cells_none w = record { size = refl; below = λ j h. refl; middle = λ j h k. refl; lists = λ j h k. refl; above = λ j h. refl }

pub cells_then : {u v w : List ℕ} → Cells u v → Cells v w → Cells u w
cells_then a b = record {
  size = b.size ∙ a.size;
  below = λ j h. b.below j h ∙ a.below j h;
  middle = λ j h k. b.middle j h k ∙ a.middle j h k;
  lists = λ j h k. b.lists j h k ∙ a.lists j h k;
  above = λ j h. b.above j h ∙ a.above j h;
}

pub place-low : (y : ℕ) → Place y → y < memory_size
place-low y p = ⊎_elim (λ (a : (shown_at ≤ y) × (y < order_at)). let h = a.1 in omega arith) (λ q. ⊎_elim (λ (a : (bits_at ≤ y) × (y < first_at)). let h = a.1 in omega arith) (λ (a : (gates_at ≤ y) × (y < ins_at)). let h = a.1 in omega arith) q) p

-- a place is none of the others
place_not : (y : ℕ) → Place y → (j : ℕ) → (j < next_at) ⊎ (((order_at ≤ j) × (j < bits_at)) ⊎ (((first_at ≤ j) × (j < gates_at)) ⊎ (ins_at ≤ j))) → j ≡ y → ⊥
place_not y p j q e =
    ⊎_elim (λ (a : (shown_at ≤ y) × (y < order_at)). far (λ h. (let l = a.0 in let k = a.1 in omega arith)) (λ h. (let l = a.0 in let k = a.1 in let f = h.0 in omega arith)) (λ h. (let k = a.1 in let f = h.0 in omega arith)) (λ h. (let k = a.1 in omega arith)) q)
    (λ z. ⊎_elim (λ (a : (bits_at ≤ y) × (y < first_at)). far (λ h. (let l = a.0 in omega arith)) (λ h. (let l = a.0 in let f = h.1 in omega arith)) (λ h. (let k = a.1 in let f = h.0 in omega arith)) (λ h. (let k = a.1 in omega arith)) q)
    (λ (a : (gates_at ≤ y) × (y < ins_at)). far (λ h. (let l = a.0 in omega arith)) (λ h. (let l = a.0 in let f = h.1 in omega arith)) (λ h. (let l = a.0 in let f = h.1 in omega arith)) (λ h. (let k = a.1 in omega arith)) q) z) p
  where
    far : (j < next_at → ⊥) → ((order_at ≤ j) × (j < bits_at) → ⊥) → ((first_at ≤ j) × (j < gates_at) → ⊥) → (ins_at ≤ j → ⊥) → (j < next_at) ⊎ (((order_at ≤ j) × (j < bits_at)) ⊎ (((first_at ≤ j) × (j < gates_at)) ⊎ (ins_at ≤ j))) → ⊥
    far a b c d s = ⊎_elim a (λ t. ⊎_elim b (λ v. ⊎_elim c d v) t) s

pub cells_set : (w : List ℕ) (y x : ℕ) → Place y → Cells w (set w y x)
cells_set w y x p = record {
  size = length-set w y x;
  below = λ j h. set_other w y j x (place_not y p j (inl h));
  middle = λ j h k. set_other w y j x (place_not y p j (inr (inl (h, k))));
  lists = λ j h k. set_other w y j x (place_not y p j (inr (inr (inl (h, k)))));
  above = λ j h. set_other w y j x (place_not y p j (inr (inr (inr h))));
}

pub cells_gates : {u w : List ℕ} → OnlyBetween gates_at ins_at u w → Cells u w
cells_gates b = record { size = b.size; below = λ j h. b.below j (omega arith); middle = λ j h k. b.below j (omega arith); lists = λ j h k. b.below j (omega arith); above = λ j h. b.above j h }

pub cells_next : {u w : List ℕ} → OnlyBetween next_at shown_at u w → Cells u w
cells_next b = record { size = b.size; below = λ j h. b.below j h; middle = λ j h k. b.above j (omega arith); lists = λ j h k. b.above j (omega arith); above = λ j h. b.above j (omega arith) }

pub cells_shown : {u w : List ℕ} → OnlyBetween shown_at order_at u w → Cells u w
cells_shown b = record { size = b.size; below = λ j h. b.below j (omega arith); middle = λ j h k. b.above j h; lists = λ j h k. b.above j (omega arith); above = λ j h. b.above j (omega arith) }

-- ---- what a tick asks stays

gates_cells : {u w : List ℕ} {n : ℕ} → Cells u w → Gates u n → Gates w n
gates_cells b g = let s = b.size in let z = g.size in record {
  size = omega arith;
  few = g.few;
  each = λ j h.
      let a = g.each j h in
      let f = a.few in
      let x = b.lists (first_at + j) (omega arith) (omega arith) in
      let y = b.lists (second_at_lem + j) (omega arith) (omega arith) in
      let t = b.lists (third_at + j) (omega arith) (omega arith) in
      let p = a.first in
      let q = a.second in
      let r = a.third in
      record { size = omega arith; few = f; first = omega arith; second = omega arith; third = omega arith };
}

sources_cells : {u w : List ℕ} {n : ℕ} → Cells u w → Sources u n → Sources w n
sources_cells b g = let s = b.size in let z = g.size in record { size = omega arith; few = g.few; each = λ j h. let f = g.few in let e = b.below (sources_at + j) (omega arith) in let l = g.each j h in omega arith }

pub flat_cells : {u w : List ℕ} {n r i o : ℕ} → Cells u w → Flat u n r i o → Flat w n r i o
flat_cells b f = record {
  size = let s = b.size in let z = f.size in omega arith;
  gates = gates_cells b f.gates;
  sources = sources_cells b f.sources;
  few_in = f.few_in;
  few_out = f.few_out;
  ins = λ k h. subst Place (sym (b.above (ins_at + k) (omega arith))) (f.ins k h);
  outs = λ k h. let e = b.above (outs_at + k) (omega arith) in let l = f.outs k h in omega arith;
}

-- ---- an item of a trace, as a number

pub item_at : {X : Type 0} (f : X → ℕ) (xs : List X) (i : ℕ) (x : X) (v : ℕ) → i < length xs → x ≡ get_or xs i x → v ≡ f x → v ≡ get_or (map f xs) i 0
item_at f xs i x v h e k = k ∙ ap f e ∙ sym (get_or-map f xs i x 0 h)

pub item_set : {X : Type 0} (f : X → ℕ) (xs : List X) (i : ℕ) (x : X) (v : ℕ) → f x ≡ v → map f (set xs i x) ≡ set (map f xs) i v
item_set f xs i x v e = map-set f xs i x ∙ ap (set (map f xs) i) e

-- ---- a load, pin after pin

pub load_place : (u w : List ℕ) (n k : ℕ) → ((j : ℕ) → j < n → Place (get_or u (ins_at + j) 0)) → Cells u w → k < n → Place (get_or w (ins_at + k) 0)
load_place u w n k p b h = subst Place (sym (b.above (ins_at + k) (omega arith))) (p k h)

pub load_next : (bits : List ℕ) (from n : ℕ) (u w v : List ℕ) (k : ℕ) → ((j : ℕ) → j < n → Place (get_or u (ins_at + j) 0)) → k < n → Celled (flat_load bits from) k u w → v ≡ flat_load bits from k w → Celled (flat_load bits from) (k + 1) u v
load_next bits from n u w v k p h l e = record {
  cells = cells_then l.cells (subst (λ (z : List ℕ). Cells w z) (sym e) (cells_set w (get_or w (ins_at + k) 0) _ (load_place u w n k p l.cells h)));
  whole = e ∙ turns_next (flat_load bits from) k u w l.whole;
}

-- ---- a store, pin after pin; and any list written

pub written_next : (f : ℕ → List ℕ → List ℕ) (k : ℕ) (out₀ out v : List ℕ) → WrittenBy f k out₀ out → length v ≡ length out → v ≡ f k out → WrittenBy f (k + 1) out₀ v
written_next f k out₀ out v w s e = record { size = s ∙ w.size; whole = e ∙ turns_next f k out₀ out w.whole }

-- ---- a tick

pub flat_tick_is : (g : ℕ → ℕ) (n r i o : ℕ) (bits : List ℕ) (from to : ℕ) (u out₀ a b c d out : List ℕ)
    → Celled (flat_load bits from) i u a → Stretched gates_at ins_at flat_step n a b → WrittenBy (flat_store g b to) o out₀ out → Stretched next_at shown_at flat_hold r b c → Stretched shown_at order_at flat_turn r c d
    → FlatTicked g (counts n r i o) bits from to u out₀ d out
unfolding flat_lighted flat_ticked flat_shown
flat_tick_is g n r i o bits from to u out₀ a b c d out l m q h t =
    let e : b ≡ take_turns flat_step n 0 (take_turns (flat_load bits from) i 0 u) = m.whole ∙ ap (take_turns flat_step n 0) l.whole in
    record {
      cells = cells_then (cells_then (cells_then l.cells (cells_gates m.between)) (cells_next h.between)) (cells_shown t.between);
      memory = t.whole ∙ ap (take_turns flat_turn r 0) (h.whole ∙ ap (take_turns flat_hold r 0) e);
      size = q.size;
      bytes = q.whole ∙ ap (λ (x : List ℕ). take_turns (flat_store g x to) o 0 out₀) e;
    }

-- ---- ticks one after the other

pub flat-ran_next : (g : ℕ → ℕ) (z : Counts) (bits : List ℕ) (t : ℕ) (u out₀ w out v w' : List ℕ) → FlatRan g z bits t u out₀ w out → FlatTicked g z bits (t * z.ins) (t * z.outs) w out w' v
    → FlatRan g z bits (t + 1) u out₀ w' v
flat-ran_next g z bits t u out₀ w out v w' r k = record {
  cells = cells_then r.cells k.cells;
  size = k.size ∙ r.size;
  whole = both k.memory k.bytes ∙ turns_next (flat_tick g z bits) t (running u out₀) (running w out) r.whole;
}
  where
    both : {a a' b b' : List ℕ} → a ≡ a' → b ≡ b' → running a b ≡ running a' b'
    both {a} {a'} {b} {b'} p q = ap (λ (x : List ℕ). running x b) p ∙ ap (λ (y : List ℕ). running a' y) q

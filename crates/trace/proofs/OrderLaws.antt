-- Sweeps: what is settled looks at what is free or was settled before; in the end all is settled, or each that is left waits for another that is left.
-- Assumes nothing.
use Prim.Native.Nat.{ℕ, zero, suc, ◌+◌, ◌-◌, ◌≤◌, ◌<◌}
use mathlib.Core.Path.{◌≡◌, refl, sym, ap, ◌∙◌, subst}
use mathlib.Core.Logic.{◌⊎◌, inl, inr, ⊎_elim}
use mathlib.Core.Bool.{Bool, true, false, cond, ◌&&◌}
use mathlib.Core.List.{List}
use native.Mathlib.Omega.{arith}
use native.Mathlib.Decide.{ℕ_discrete, dec_le}
use lib.ListN.{length, get_or, set, length-set}
use lib.Seq.{get_or-set_same}
use lib.Dec.{T, eqb, ltb, eqb→eq}
use borrow.Author.Tests.{eqb-false}
use Rattle.laws.proofs.Tests.{and_both}
use Rattle.memory.specs.Map.{memory_size}
use Rattle.trace_steps.specs.Map.{rest_at, order_at, pins_at, bits_at, bits_end, inverter_entry}
use Rattle.trace_steps.specs.Steps.{lit, first_in, ready_in, Looks}
use Rattle.trace_steps.specs.Sweeps.{settle_at, Sweep, sweeping, sweep_one, sweep_all, sweeps}
use Rattle.trace_steps.proofs.Laws.{first_low, set_other}
use Rattle.trace_rings.specs.Rings.{mark, rest, met, InputOf}
use Rattle.trace.proofs.Turning.{turns-keep}

-- the outputs that are to be settled, in a memory u
pub record OrderStart (u : List ℕ) (total : ℕ) : Type 0 where
  pub size : memory_size ≤ length u
  pub few : total ≤ 4096
  pub looks : (k : ℕ) → k < total → Looks u (rest u k)
  pub falling : (i k : ℕ) → i < k → k < total → rest u k < rest u i
  pub loose : (k : ℕ) → k < total → mark u (rest u k) ≡ 1 → ⊥

-- place i of the list is in use, where the first j of `left` are looked at and `kept` of them stay
abbrev pub PlaceHeld : ℕ → ℕ → ℕ → ℕ → Type 0
PlaceHeld kept j left i = (i < kept) ⊎ ((j ≤ i) × (i < left))

pub record Stage (u : List ℕ) (total left j : ℕ) (w : List ℕ) (kept done : ℕ) : Type 0 where
  pub size : length w ≡ length u
  pub table : (x : ℕ) → x < 8192 → get_or w x 0 ≡ get_or u x 0
  pub pins : (x : ℕ) → pins_at ≤ x → x < bits_at → get_or w x 0 ≡ get_or u x 0
  pub above : (x : ℕ) → bits_end ≤ x → get_or w x 0 ≡ get_or u x 0
  pub sum : kept + done + left ≡ total + j
  pub few : kept ≤ j
  pub some : j ≤ left
  pub bound : left ≤ total
  pub known : (i : ℕ) → PlaceHeld kept j left i → (k : ℕ) × (k < total) × (rest u k ≡ rest w i)
  pub falling : (i k : ℕ) → i < k → PlaceHeld kept j left i → PlaceHeld kept j left k → rest w k < rest w i
  pub loose : (i : ℕ) → PlaceHeld kept j left i → mark w (rest w i) ≡ 1 → ⊥
  pub order : (k : ℕ) → k < done → (n : ℕ) × (n < total) × (rest u n ≡ met w k)
  pub marked : (k : ℕ) → k < done → mark w (met w k) ≡ 1
  pub marks : (y : ℕ) → (mark w y ≡ mark u y) ⊎ ((mark w y ≡ 1) × ((k : ℕ) × (k < done) × (met w k ≡ y)))
  pub apart : (i k : ℕ) → i < k → k < done → met w i ≡ met w k → ⊥
  pub sourced : (k z : ℕ) → k < done → InputOf u (met w k) z → (mark u (get_or u z 0) ≡ 1) ⊎ ((i : ℕ) × (i < k) × (met w i ≡ get_or u z 0))
  pub cover : (n : ℕ) → n < total → ((i : ℕ) × PlaceHeld kept j left i × (rest w i ≡ rest u n)) ⊎ ((k : ℕ) × (k < done) × (met w k ≡ rest u n))
  pub stuck : kept ≡ j → (i : ℕ) → i < kept → ready_in w (rest w i) ≡ false

pub stage_start : (u : List ℕ) (total : ℕ) → OrderStart u total → Stage u total total 0 u 0 0
stage_start u total s = record {
  size = refl;
  table = λ x l. refl;
  pins = λ x l h. refl;
  above = λ x l. refl;
  sum = omega arith;
  few = omega arith;
  some = omega arith;
  bound = omega arith;
  known = λ i h. (i, held i h, refl);
  falling = λ i k l h g. s.falling i k l (held k g);
  loose = λ i h. s.loose i (held i h);
  order = λ k l. absurd (omega arith);
  marked = λ k l. absurd (omega arith);
  marks = λ y. inl refl;
  apart = λ i k l h. absurd (omega arith);
  sourced = λ k z l. absurd (omega arith);
  cover = λ n l. inl (n, inr (omega arith, l), refl);
  stuck = λ e i l. absurd (omega arith);
}
  where
    held : (i : ℕ) → PlaceHeld 0 0 total i → i < total
    held i (inl l) = absurd (omega arith)
    held i (inr (a, b)) = b

-- what is ready depends on the table and the marks
ready_same : (w v : List ℕ) (o : ℕ) → o < 8192 → ((x : ℕ) → x < 8192 → get_or v x 0 ≡ get_or w x 0) → ((y : ℕ) → mark v y ≡ mark w y) → ready_in v o ≡ ready_in w o
ready_same w v o l t m =
    let e : first_in v o ≡ first_in w o = ap (λ (a : ℕ). cond (ltb a inverter_entry) (o - 2) (o - 1)) (t o l) in
    let a : get_or v (first_in v o) 0 ≡ get_or w (first_in w o) 0 = ap (λ (z : ℕ). get_or v z 0) e ∙ t (first_in w o) (first_low w o l) in
    let b : get_or v (o - 1) 0 ≡ get_or w (o - 1) 0 = t (o - 1) (omega arith) in
    let p : lit v (get_or v (first_in v o) 0) ≡ lit w (get_or w (first_in w o) 0) = ap (lit v) a ∙ ap (λ (n : ℕ). eqb n 1) (m (get_or w (first_in w o) 0)) in
    let q : lit v (get_or v (o - 1) 0) ≡ lit w (get_or w (o - 1) 0) = ap (lit v) b ∙ ap (λ (n : ℕ). eqb n 1) (m (get_or w (o - 1) 0)) in
    ap (λ (c : Bool). c && lit v (get_or v (o - 1) 0)) p ∙ ap (λ (c : Bool). lit w (get_or w (first_in w o) 0) && c) q

module _ (u : List ℕ) (total : ℕ) (s : OrderStart u total) (left j : ℕ) (w : List ℕ) (kept done : ℕ) (c : Stage u total left j w kept done) (h : j < left) where
  abbrev o : ℕ
  o = rest w j

  at_j : (k : ℕ) × (k < total) × (rest u k ≡ o)
  at_j = c.known j (inr (omega arith, h))

  looks : Looks u o
  looks = subst (λ (z : ℕ). Looks u z) at_j.2 (s.looks at_j.0 at_j.1)

  low : o < 8192
  low = looks.low

  less : done < total
  less = let a = c.sum in omega arith

  big : memory_size ≤ length w
  big = let a = c.size in let b = s.size in omega arith

  -- ---- o is ready

  abbrev v : List ℕ
  v = settle_at w done o

  same : (x : ℕ) → x < order_at → get_or v x 0 ≡ get_or w x 0
  same x l = let a = low in set_other (set w (order_at + done) o) (bits_at + o) x 1 (λ z. omega arith) ∙ set_other w (order_at + done) x o (λ z. omega arith)

  between : (x : ℕ) → pins_at ≤ x → x < bits_at → get_or v x 0 ≡ get_or w x 0
  between x l g = let a = less in let b = s.few in set_other (set w (order_at + done) o) (bits_at + o) x 1 (λ z. omega arith) ∙ set_other w (order_at + done) x o (λ z. omega arith)

  far : (x : ℕ) → bits_end ≤ x → get_or v x 0 ≡ get_or w x 0
  far x l = let a = less in let b = s.few in let d = low in set_other (set w (order_at + done) o) (bits_at + o) x 1 (λ z. omega arith) ∙ set_other w (order_at + done) x o (λ z. omega arith)

  mark-at : mark v o ≡ 1
  mark-at = let a = big in let d = low in get_or-set_same (set w (order_at + done) o) (bits_at + o) 1 0 (let q = length-set w (order_at + done) o in omega arith)

  mark-other : (y : ℕ) → (y ≡ o → ⊥) → mark v y ≡ mark w y
  mark-other y d = let a = less in let b = s.few in set_other (set w (order_at + done) o) (bits_at + o) (bits_at + y) 1 (λ z. d (omega arith)) ∙ set_other w (order_at + done) (bits_at + y) o (λ z. omega arith)

  met_old : (k : ℕ) → k < done → met v k ≡ met w k
  met_old k l = let a = less in let b = s.few in set_other (set w (order_at + done) o) (bits_at + o) (order_at + k) 1 (λ z. omega arith) ∙ set_other w (order_at + done) (order_at + k) o (λ z. omega arith)

  met-new : met v done ≡ o
  met-new = let a = less in let b = s.few in let g = big in set_other (set w (order_at + done) o) (bits_at + o) (order_at + done) 1 (λ z. omega arith) ∙ get_or-set_same w (order_at + done) o 0 (omega arith)

  rest-same : (i : ℕ) → i < left → rest v i ≡ rest w i
  rest-same i l = let a = s.few in let b = c.bound in same (rest_at + i) (omega arith)

  held-old : (i : ℕ) → PlaceHeld kept (j + 1) left i → PlaceHeld kept j left i
  held-old i (inl l) = inl l
  held-old i (inr (a, b)) = inr (omega arith, b)

  held_low : (i : ℕ) → PlaceHeld kept (j + 1) left i → (i < left) × (i ≡ j → ⊥)
  held_low i (inl l) = let a = c.few in (omega arith, λ z. omega arith)
  held_low i (inr (a, b)) = (b, λ z. omega arith)

  not-o : (i : ℕ) → PlaceHeld kept (j + 1) left i → rest w i ≡ o → ⊥
  not-o i g e = elim (dec_le i j) [
    | yes l ↦ (let z = (held_low i g).1 in let a = c.falling i j (omega arith) (held-old i g) (inr (omega arith, h)) in omega arith)
    | no l ↦ (let a = c.falling j i (omega arith) (inr (omega arith, h)) (held-old i g) in omega arith)
  ]

  not-met : (k : ℕ) → k < done → met w k ≡ o → ⊥
  not-met k l e = c.loose j (inr (omega arith, h)) (ap (mark w) (sym e) ∙ c.marked k l)

  more : (P : ℕ → Type 0) → ((k : ℕ) → k < done → P (met w k)) → P o → (k : ℕ) → k < done + 1 → P (met v k)
  more P f p k l = elim (ℕ_discrete k done) [
    | yes t ↦ subst P (sym (ap (met v) t ∙ met-new)) p
    | no t ↦ subst P (sym (met_old k (omega arith))) (f k (omega arith))
  ]

  pub stage_yes : ready_in w o ≡ true → Stage u total left (j + 1) v kept (done + 1)
  stage_yes q = record {
    size = length-set (set w (order_at + done) o) (bits_at + o) 1 ∙ length-set w (order_at + done) o ∙ c.size;
    table = λ x l. same x (omega arith) ∙ c.table x l;
    pins = λ x l g. between x l g ∙ c.pins x l g;
    above = λ x l. far x l ∙ c.above x l;
    sum = let a = c.sum in omega arith;
    few = let a = c.few in omega arith;
    some = omega arith;
    bound = c.bound;
    known = λ i g. (let k = c.known i (held-old i g) in (k.0, k.1, k.2 ∙ sym (rest-same i (held_low i g).0)));
    falling = λ i k l g f. (let a = rest-same i (held_low i g).0 in let b = rest-same k (held_low k f).0 in let d = c.falling i k l (held-old i g) (held-old k f) in omega arith);
    loose = λ i g e. (let a = rest-same i (held_low i g).0 in c.loose i (held-old i g) (sym (mark-other (rest w i) (not-o i g)) ∙ sym (ap (mark v) a) ∙ e));
    order = more (λ y. (n : ℕ) × (n < total) × (rest u n ≡ y)) c.order at_j;
    marked = λ k l. elim (ℕ_discrete (met v k) o) [
      | yes t ↦ ap (mark v) t ∙ mark-at
      | no t ↦ mark-other (met v k) t ∙ (elim (ℕ_discrete k done) [ yes a ↦ absurd (t (ap (met v) a ∙ met-new)) | no a ↦ ap (mark w) (met_old k (omega arith)) ∙ c.marked k (omega arith) ])
    ];
    marks = λ y. elim (ℕ_discrete y o) [
      | yes t ↦ inr (ap (mark v) t ∙ mark-at, (done, omega arith, met-new ∙ sym t))
      | no t ↦ ⊎_elim (λ e. inl (mark-other y t ∙ e)) (λ g. inr (mark-other y t ∙ g.0, (g.1.0, omega (arith, g.1.1), met_old g.1.0 g.1.1 ∙ g.1.2))) (c.marks y)
    ];
    apart = λ i k l g. elim (ℕ_discrete k done) [
      | yes t ↦ λ e. not-met i (omega arith) (sym (met_old i (omega arith)) ∙ e ∙ ap (met v) t ∙ met-new)
      | no t ↦ λ e. c.apart i k l (omega arith) (sym (met_old i (omega arith)) ∙ e ∙ met_old k (omega arith))
    ];
    sourced = λ k z l g. elim (ℕ_discrete k done) [
      | yes t ↦ (let r = from-ready z (subst (λ (y : ℕ). InputOf u y z) (ap (met v) t ∙ met-new) g) in ⊎_elim inl (λ f. inr (f.0, (let a = f.1 in omega arith), met_old f.0 f.1 ∙ f.2)) r)
      | no t ↦ ⊎_elim inl (λ f. inr (f.0, f.1, met_old f.0 (let a = f.1 in omega arith) ∙ f.2)) (c.sourced k z (omega arith) (subst (λ (y : ℕ). InputOf u y z) (met_old k (omega arith)) g))
    ];
    cover = λ n l. ⊎_elim (λ g. at_place n g.0 g.1 g.2) (λ g. inr (g.0, omega (arith, g.1), met_old g.0 g.1 ∙ g.2)) (c.cover n l);
    stuck = λ e. absurd (let a = c.few in omega arith);
  }
    where
      both : T (lit w (get_or w (first_in w o) 0)) × T (lit w (get_or w (o - 1) 0))
      both = and_both (lit w (get_or w (first_in w o) 0)) (lit w (get_or w (o - 1) 0)) (subst (λ (b : Bool). T b) (sym q) tt)

      source_of : (z : ℕ) → InputOf u o z → T (lit w (get_or u z 0))
      source_of z (inl e) =
          let l = low in
          let f : first_in w o ≡ first_in u o = ap (λ (a : ℕ). cond (ltb a inverter_entry) (o - 2) (o - 1)) (c.table o l) in
          subst (λ (y : ℕ). T (lit w y)) (ap (λ (a : ℕ). get_or w a 0) f ∙ c.table (first_in u o) (first_low u o l) ∙ ap (λ (a : ℕ). get_or u a 0) (sym e)) both.0
      source_of z (inr e) = let l = low in subst (λ (y : ℕ). T (lit w y)) (c.table (o - 1) (omega arith) ∙ ap (λ (a : ℕ). get_or u a 0) (sym e)) both.1

      from-ready : (z : ℕ) → InputOf u o z → (mark u (get_or u z 0) ≡ 1) ⊎ ((i : ℕ) × (i < done) × (met w i ≡ get_or u z 0))
      from-ready z g = let e = eqb→eq (mark w (get_or u z 0)) 1 (source_of z g) in ⊎_elim (λ a. inl (sym a ∙ e)) (λ a. inr a.1) (c.marks (get_or u z 0))

      at_place : (n i : ℕ) → PlaceHeld kept j left i → rest w i ≡ rest u n → ((i : ℕ) × PlaceHeld kept (j + 1) left i × (rest v i ≡ rest u n)) ⊎ ((k : ℕ) × (k < done + 1) × (met v k ≡ rest u n))
      at_place n i g e = elim (ℕ_discrete i j) [
        | yes t ↦ inr (done, omega arith, met-new ∙ ap (rest w) (sym t) ∙ e)
        | no t ↦ inl (i, later i g t, rest-same i (held_low i (later i g t)).0 ∙ e)
      ]
        where
          later : (i : ℕ) → PlaceHeld kept j left i → (i ≡ j → ⊥) → PlaceHeld kept (j + 1) left i
          later i (inl l) d = inl l
          later i (inr (a, b)) d = inr (omega arith, b)

  -- ---- o waits

  abbrev x : List ℕ
  x = set w (rest_at + kept) o

  keep-other : (i : ℕ) → (i ≡ rest_at + kept → ⊥) → get_or x i 0 ≡ get_or w i 0
  keep-other i d = set_other w (rest_at + kept) i o d

  few-kept : kept < 4096
  few-kept = let a = c.few in let b = c.sum in let d = s.few in let e = less in omega arith

  keep-new : rest x kept ≡ o
  keep-new = let a = few-kept in let b = big in get_or-set_same w (rest_at + kept) o 0 (omega arith)

  held_of : (i : ℕ) → PlaceHeld (kept + 1) (j + 1) left i → (i ≡ kept → ⊥) → PlaceHeld kept j left i
  held_of i (inl l) d = inl (omega arith)
  held_of i (inr (a, b)) d = inr (omega arith, b)

  rest-kept : (i : ℕ) → (i ≡ kept → ⊥) → rest x i ≡ rest w i
  rest-kept i d = keep-other (rest_at + i) (λ z. d (omega arith))

  mark-kept : (y : ℕ) → mark x y ≡ mark w y
  mark-kept y = let a = few-kept in keep-other (bits_at + y) (λ z. omega arith)

  met-kept : (k : ℕ) → met x k ≡ met w k
  met-kept k = let a = few-kept in keep-other (order_at + k) (λ z. omega arith)

  each : (P : ℕ → Type 0) → ((i : ℕ) → PlaceHeld kept j left i → P (rest w i)) → (i : ℕ) → PlaceHeld (kept + 1) (j + 1) left i → P (rest x i)
  each P f i g = elim (ℕ_discrete i kept) [
    | yes t ↦ subst P (sym (ap (rest x) t ∙ keep-new)) (f j (inr (omega arith, h)))
    | no t ↦ subst P (sym (rest-kept i t)) (f i (held_of i g t))
  ]

  pub stage_no : ready_in w o ≡ false → Stage u total left (j + 1) x (kept + 1) done
  stage_no q = record {
    size = length-set w (rest_at + kept) o ∙ c.size;
    table = λ y l. keep-other y (λ z. omega arith) ∙ c.table y l;
    pins = λ y l g. (let a = few-kept in keep-other y (λ z. omega arith) ∙ c.pins y l g);
    above = λ y l. (let a = few-kept in keep-other y (λ z. omega arith) ∙ c.above y l);
    sum = let a = c.sum in omega arith;
    few = let a = c.few in omega arith;
    some = omega arith;
    bound = c.bound;
    known = each (λ y. (k : ℕ) × (k < total) × (rest u k ≡ y)) c.known;
    falling = λ i k l g f. falls i k l g f;
    loose = each (λ y. mark x y ≡ 1 → ⊥) (λ i g e. c.loose i g (sym (mark-kept (rest w i)) ∙ e));
    order = λ k l. (let a = c.order k l in (a.0, a.1, a.2 ∙ sym (met-kept k)));
    marked = λ k l. mark-kept (met x k) ∙ ap (mark w) (met-kept k) ∙ c.marked k l;
    marks = λ y. ⊎_elim (λ e. inl (mark-kept y ∙ e)) (λ g. inr (mark-kept y ∙ g.0, (g.1.0, g.1.1, met-kept g.1.0 ∙ g.1.2))) (c.marks y);
    apart = λ i k l g e. c.apart i k l g (sym (met-kept i) ∙ e ∙ met-kept k);
    sourced = λ k z l g. ⊎_elim inl (λ f. inr (f.0, f.1, met-kept f.0 ∙ f.2)) (c.sourced k z l (subst (λ (y : ℕ). InputOf u y z) (met-kept k) g));
    cover = λ n l. ⊎_elim (λ g. inl (at_place n g.0 g.1 g.2)) (λ g. inr (g.0, g.1, met-kept g.0 ∙ g.2)) (c.cover n l);
    stuck = λ e i l. elim (ℕ_discrete i kept) [
      | yes t ↦ subst (λ (y : ℕ). ready_in x y ≡ false) (sym (ap (rest x) t ∙ keep-new)) (ready_same w x o low (λ y g. keep-other y (λ z. omega arith)) mark-kept ∙ q)
      | no t ↦ (let k = c.known i (inl (omega arith)) in let b = subst (λ (y : ℕ). y < 8192) k.2 (s.looks k.0 k.1).low in
          subst (λ (y : ℕ). ready_in x y ≡ false) (sym (rest-kept i t)) (ready_same w x (rest w i) b (λ y g. keep-other y (λ z. omega arith)) mark-kept ∙ c.stuck (omega arith) i (omega arith)))
    ];
  }
    where
      falls : (i k : ℕ) → i < k → PlaceHeld (kept + 1) (j + 1) left i → PlaceHeld (kept + 1) (j + 1) left k → rest x k < rest x i
      falls i k l g f = elim (ℕ_discrete k kept) [
        | yes t ↦ (let a = rest-kept i (λ z. omega arith) in let b = ap (rest x) t ∙ keep-new in let d = c.few in let e = c.falling i j (omega arith) (inl (omega arith)) (inr (omega arith, h)) in omega arith)
        | no t ↦ (elim (ℕ_discrete i kept) [
          | yes p ↦ (let a = rest-kept k t in let b = ap (rest x) p ∙ keep-new in let e = c.falling j k (past k (omega arith) f) (inr (omega arith, h)) (held_of k f t) in omega arith)
          | no p ↦ (let a = rest-kept i p in let b = rest-kept k t in let e = c.falling i k l (held_of i g p) (held_of k f t) in omega arith)
        ])
      ]
        where
          past : (k : ℕ) → kept < k → PlaceHeld (kept + 1) (j + 1) left k → j < k
          past k d (inl a) = absurd (omega arith)
          past k d (inr (a, b)) = omega arith

      at_place : (n i : ℕ) → PlaceHeld kept j left i → rest w i ≡ rest u n → (i : ℕ) × PlaceHeld (kept + 1) (j + 1) left i × (rest x i ≡ rest u n)
      at_place n i g e = elim (ℕ_discrete i j) [
        | yes t ↦ (kept, inl (omega arith), keep-new ∙ ap (rest w) (sym t) ∙ e)
        | no t ↦ (i, later i g t, rest-kept i (not-kept i g t) ∙ e)
      ]
        where
          later : (i : ℕ) → PlaceHeld kept j left i → (i ≡ j → ⊥) → PlaceHeld (kept + 1) (j + 1) left i
          later i (inl l) d = inl (omega arith)
          later i (inr (a, b)) d = inr (omega arith, b)

          not-kept : (i : ℕ) → PlaceHeld kept j left i → (i ≡ j → ⊥) → i ≡ kept → ⊥
          not-kept i (inl l) d z = omega arith
          not-kept i (inr (a, b)) d z = let f = c.few in omega arith

  -- ---- one of those left

  pub stage_next : Stage u total left (suc j) (sweep_one j (sweeping w kept done)).mem (sweep_one j (sweeping w kept done)).kept (sweep_one j (sweeping w kept done)).done
  stage_next = let e : j + 1 ≡ suc j = omega arith in subst (λ (k : ℕ). Stage u total left k (sweep_one j (sweeping w kept done)).mem (sweep_one j (sweeping w kept done)).kept (sweep_one j (sweeping w kept done)).done) e (by (ready_in w o) refl)
    where
      by : (b : Bool) → ready_in w o ≡ b → Stage u total left (j + 1) (cond b (sweeping v kept (done + 1)) (sweeping x (kept + 1) done)).mem (cond b (sweeping v kept (done + 1)) (sweeping x (kept + 1) done)).kept (cond b (sweeping v kept (done + 1)) (sweeping x (kept + 1) done)).done
      by true q = stage_yes q
      by false q = stage_no q

-- ---- all of them

module _ (u : List ℕ) (total : ℕ) (s : OrderStart u total) where
  abbrev At : ℕ → ℕ → Sweep → Type 0
  At left j r = Stage u total left j r.mem r.kept r.done

  swept : (left : ℕ) (w : List ℕ) → Stage u total left 0 w 0 (total - left) → At left left (sweep_all total w left)
  swept left w c = turns-keep sweep_one (At left) (sweeping w 0 (total - left)) c left (λ j r l g. stage_next u total s left j r.mem r.kept r.done g l)

  -- the next sweep begins with those that stay
  again : (left : ℕ) (w : List ℕ) (kept done : ℕ) → Stage u total left left w kept done → Stage u total kept 0 w 0 done
  again left w kept done c = record {
    size = c.size;
    table = c.table;
    pins = c.pins;
    above = c.above;
    sum = let a = c.sum in omega arith;
    few = omega arith;
    some = omega arith;
    bound = let a = c.few in let b = c.bound in omega arith;
    known = λ i h. c.known i (inl (held i h));
    falling = λ i k l h g. c.falling i k l (inl (held i h)) (inl (held k g));
    loose = λ i h. c.loose i (inl (held i h));
    order = c.order;
    marked = c.marked;
    marks = c.marks;
    apart = c.apart;
    sourced = c.sourced;
    cover = λ n l. ⊎_elim (λ g. inl (g.0, inr (omega arith, back g.0 g.1), g.2)) inr (c.cover n l);
    stuck = λ e i l. absurd (omega arith);
  }
    where
      held : (i : ℕ) → PlaceHeld 0 0 kept i → i < kept
      held i (inl l) = absurd (omega arith)
      held i (inr (a, b)) = b

      back : (i : ℕ) → PlaceHeld kept left left i → i < kept
      back i (inl l) = l
      back i (inr (a, b)) = absurd (omega arith)

  pub record End (w : List ℕ) (left done : ℕ) : Type 0 where
    pub stage : Stage u total left 0 w 0 done
    pub rest-is : done + left ≡ total
    pub stuck : (i : ℕ) → i < left → ready_in w (rest w i) ≡ false

  next-stage : (left : ℕ) (w : List ℕ) → Stage u total left 0 w 0 (total - left) → Stage u total (sweep_all total w left).kept 0 (sweep_all total w left).mem 0 (total - (sweep_all total w left).kept)
  next-stage left w c =
      let g = swept left w c in
      let b = g.sum in
      let a = g.few in
      let h = g.bound in
      let e : (sweep_all total w left).done ≡ total - (sweep_all total w left).kept = omega arith in
      subst (λ (n : ℕ). Stage u total (sweep_all total w left).kept 0 (sweep_all total w left).mem 0 n) e (again left (sweep_all total w left).mem (sweep_all total w left).kept (sweep_all total w left).done g)

  -- the sweep settles none, or there are fewer to go
  ended-or : (left : ℕ) (w : List ℕ) → Stage u total left 0 w 0 (total - left) → (b : Bool) → eqb (sweep_all total w left).kept left ≡ b → (r : Sweep)
      → ((sweep_all total w left).kept ≤ left → (sweep_all total w left).kept < left → End r.mem r.kept r.done)
      → End (cond b (sweep_all total w left) r).mem (cond b (sweep_all total w left) r).kept (cond b (sweep_all total w left) r).done
  ended-or left w c true q r f =
      let g = swept left w c in
      let e = eqb→eq (sweep_all total w left).kept left (subst T (sym q) tt) in
      record {
        stage = again left (sweep_all total w left).mem (sweep_all total w left).kept (sweep_all total w left).done g;
        rest-is = let a = g.sum in omega arith;
        stuck = g.stuck e;
      }
  ended-or left w c false q r f =
      let g = swept left w c in
      let a = g.few in
      let d : (sweep_all total w left).kept ≡ left → ⊥ = eqb-false (sweep_all total w left).kept left q in
      f a (strict a d)
    where
      strict : {a b : ℕ} → a ≤ b → (a ≡ b → ⊥) → a < b
      strict {a} {b} h d = omega arith

  sweeps-end : (k : ℕ) (w : List ℕ) (left : ℕ) → left ≤ k → left ≤ total → Stage u total left 0 w 0 (total - left) → End (sweeps (suc k) total w left).mem (sweeps (suc k) total w left).kept (sweeps (suc k) total w left).done
  sweeps-end zero w left l f c = ended-or left w c (eqb (sweep_all total w left).kept left) refl (sweeping (sweep_all total w left).mem (sweep_all total w left).kept (total - (sweep_all total w left).kept)) (λ h d. absurd (omega arith))
  sweeps-end (suc k) w left l f c = ended-or left w c (eqb (sweep_all total w left).kept left) refl (sweeps (suc k) total (sweep_all total w left).mem (sweep_all total w left).kept)
      (λ h d. sweeps-end k (sweep_all total w left).mem (sweep_all total w left).kept (omega arith) (omega arith) (next-stage left w c))

  -- what the sweeps of a memory u leave
  pub settled-end : (w : List ℕ) (left : ℕ) → sweeping w left (total - left) ≡ sweeps (suc total) total u total → End w left (total - left)
  settled-end w left q =
      let z : total - total ≡ 0 = omega arith in
      let e = sweeps-end total u total (omega arith) (omega arith) (subst (λ (n : ℕ). Stage u total total 0 u 0 n) (sym z) (stage_start u total s)) in
      subst (λ (r : Sweep). End r.mem r.kept r.done) (sym q) e

-- The search back from an input, output by output: what is met is behind the input, each once, and so there are few. Assumes nothing.
use Prim.Native.Nat.{ℕ, ◌+◌, ◌-◌, ◌*◌, ◌≤◌, ◌<◌}
use mathlib.Core.Path.{◌≡◌, refl, sym, ap, ◌∙◌, subst}
use mathlib.Core.Logic.{◌⊎◌, inl, inr, ⊎_elim}
use mathlib.Core.Bool.{Bool, true, false, cond, ◌||◌}
use mathlib.Core.List.{List}
use native.Mathlib.Omega.{arith}
use native.Mathlib.Decide.{ℕ_discrete, dec_le}
use lib.ListN.{length, get_or, set, length-set}
use lib.Seq.{get_or-set_same}
use lib.Dec.{T, eqb, ltb, eqb→eq}
use borrow.Author.Tests.{eqb-false}
use Rattle.circuit_theorems.specs.Terminals.{has}
use Rattle.laws.proofs.Regions.{region-length, region-at}
use Rattle.memory.specs.Map.{region}
use Rattle.circuit_theorems.proofs.Rings.{pigeon}
use Rattle.trace_theorems.proofs.Lists.{has-at}
use Rattle.trace_steps.specs.Map.{rest_at, order_at, bits_at, inverter_entry}
use Rattle.trace_steps.specs.Steps.{first_in, Looks}
use Rattle.trace_steps.specs.Pins.{Counted, counted}
use Rattle.trace_steps.proofs.Laws.{first_low, set_other}
use Rattle.trace_steps.proofs.SweepLaws.{looks-table}
use Rattle.trace_rings.specs.Rings.{mark, rest, met, InputOf, Behind, first, further, Rest, InputAmong, meet_in, look_in, Fresh, Kept, Searched, SearchTold, OnNoRing, here, none, RingFound}

pub kept-none : (w : List ℕ) → Kept w w
kept-none w = record { size = refl; below = λ j l. refl; above = λ j l. refl }

pub kept_then : {u v w : List ℕ} → Kept u v → Kept v w → Kept u w
kept_then a b = record { size = b.size ∙ a.size; below = λ j l. b.below j l ∙ a.below j l; above = λ j l. b.above j l ∙ a.above j l }

-- ---- one output

abbrev joined : List ℕ → ℕ → ℕ → ℕ → List ℕ
joined w y s n = set (set w (bits_at + y) s) (order_at + n) y

joined-kept : (w : List ℕ) (y s n : ℕ) → y < 8192 → n ≤ 5120 → Kept w (joined w y s n)
joined-kept w y s n l h = record {
  size = length-set (set w (bits_at + y) s) (order_at + n) y ∙ length-set w (bits_at + y) s;
  below = λ j g. set_other (set w (bits_at + y) s) (order_at + n) j y (λ z. omega arith) ∙ set_other w (bits_at + y) j s (λ z. omega arith);
  above = λ j g. set_other (set w (bits_at + y) s) (order_at + n) j y (λ z. omega arith) ∙ set_other w (bits_at + y) j s (λ z. omega arith);
}

pub meet_kept : (w : List ℕ) (y s n : ℕ) → y < 8192 → n ≤ 5120 → Kept w (meet_in w y s n).mem
meet_kept w y s n l h = by (eqb (mark w y) 1 || eqb (mark w y) s)
  where
    by : (b : Bool) → Kept w (cond b (counted w n) (counted (joined w y s n) (n + 1))).mem
    by true = kept-none w
    by false = joined-kept w y s n l h

pub meet_count : (w : List ℕ) (y s n : ℕ) → (meet_in w y s n).count ≤ n + 1
meet_count w y s n = by (eqb (mark w y) 1 || eqb (mark w y) s)
  where
    by : (b : Bool) → (cond b (counted w n) (counted (joined w y s n) (n + 1))).count ≤ n + 1
    by true = omega arith
    by false = omega arith

-- ---- the search

-- y is settled, or among the n that are met
abbrev pub Covered : List ℕ → List ℕ → ℕ → ℕ → Type 0
Covered u w n y = (mark u y ≡ 1) ⊎ ((k : ℕ) × (k < n) × (met w k ≡ y))

-- n are met, and what the first h of them look at is covered
pub record SearchingBack (u : List ℕ) (left x s : ℕ) (w : List ℕ) (n h : ℕ) : Type 0 where
  pub kept : Kept u w
  pub listed : (k : ℕ) → k < n → (i : ℕ) × (i < left) × (rest u i ≡ met w k)
  pub stamped : (k : ℕ) → k < n → mark w (met w k) ≡ s
  pub apart : (i k : ℕ) → i < k → k < n → met w i ≡ met w k → ⊥
  pub behind : (k : ℕ) → k < n → Behind u x (met w k)
  pub marks : (y : ℕ) → (mark w y ≡ mark u y) ⊎ ((k : ℕ) × (k < n) × (met w k ≡ y))
  pub shut : (k z : ℕ) → k < h → InputOf u (met w k) z → Covered u w n (get_or u z 0)
  pub order : h ≤ n

pub searching_start : (u : List ℕ) (left x s : ℕ) → SearchingBack u left x s u 0 0
searching_start u left x s = record {
  kept = kept-none u;
  listed = λ k l. absurd (omega arith);
  stamped = λ k l. absurd (omega arith);
  apart = λ i k l h. absurd (omega arith);
  behind = λ k l. absurd (omega arith);
  marks = λ y. inl refl;
  shut = λ k z l. absurd (omega arith);
  order = omega arith;
}

module _ (u : List ℕ) (left x s : ℕ) (r : Rest u left) (f : Fresh u s) where
  -- each is met once, and is one of those left
  pub met-few : (w : List ℕ) (n h : ℕ) → SearchingBack u left x s w n h → n ≤ left
  met-few w n h c = elim (dec_le n left) [ yes l ↦ l | no d ↦ absurd (go (pigeon n (region u rest_at left) (met w) (let z = long in omega arith) (λ k l. in_rest k l))) ]
    where
      long : length (region u rest_at left) ≡ left
      long = let a = r.size in let b = r.few in region-length u rest_at left (omega arith)

      in_rest : (k : ℕ) → k < n → T (has (region u rest_at left) (met w k))
      in_rest k l =
          let o = c.listed k l in
          let b = long in
          subst (λ (y : ℕ). T (has (region u rest_at left) y)) (region-at u rest_at left o.0 o.1 ∙ o.2) (has-at (region u rest_at left) o.0 (omega (arith, o.1)))

      go : (a : ℕ) × (b : ℕ) × (a < b) × (b < n) × (met w a ≡ met w b) → ⊥
      go (a, b, l, k, e) = c.apart a b l k e

  pub record Joined (w : List ℕ) (n h y : ℕ) (c : Counted) : Type 0 where
    pub next : SearchingBack u left x s c.mem c.count h
    pub covered : Covered u c.mem c.count y
    pub still : (z : ℕ) → Covered u w n z → Covered u c.mem c.count z
    pub same : (k : ℕ) → k < n → met c.mem k ≡ met w k
    pub grows : n ≤ c.count

  module _ (w : List ℕ) (n h y : ℕ) (c : SearchingBack u left x s w n h) (low : y < 8192) where
    stays : Covered u w n y → Joined w n h y (counted w n)
    stays g = record { next = c; covered = g; still = λ z k. k; same = λ k l. refl; grows = omega arith }

    by-marks : mark w y ≡ 1 ⊎ mark w y ≡ s → Covered u w n y
    by-marks (inl e) = ⊎_elim (λ q. inl (sym q ∙ e)) inr (c.marks y)
    by-marks (inr e) = ⊎_elim (λ q. absurd (let l = f.1 y low in omega arith)) inr (c.marks y)

    module _ (in_rest : (mark u y ≡ 1) ⊎ ((i : ℕ) × (i < left) × (rest u i ≡ y))) (is-behind : (mark u y ≡ 1 → ⊥) → Behind u x y) where
      module _ (d : mark w y ≡ 1 → ⊥) (e : mark w y ≡ s → ⊥) where
        few : n ≤ left
        few = met-few w n h c

        abbrev v : List ℕ
        v = joined w y s n

        loose : mark u y ≡ 1 → ⊥
        loose q = ⊎_elim (λ g. d (g ∙ q)) (λ g. e (sym (ap (mark w) g.2) ∙ c.stamped g.0 g.1)) (c.marks y)

        met_old : (k : ℕ) → k < n → met v k ≡ met w k
        met_old k l = let a = r.few in let b = few in set_other (set w (bits_at + y) s) (order_at + n) (order_at + k) y (λ z. omega arith) ∙ set_other w (bits_at + y) (order_at + k) s (λ z. omega arith)

        met-last : met v n ≡ y
        met-last =
            let a = r.few in
            let b = few in
            let g = r.size in
            let q = c.kept.size in
            get_or-set_same (set w (bits_at + y) s) (order_at + n) y 0 (let q₁ = length-set w (bits_at + y) s in omega arith)

        mark-old : (z : ℕ) → (z ≡ y → ⊥) → mark v z ≡ mark w z
        mark-old z g = let a = r.few in let b = few in set_other (set w (bits_at + y) s) (order_at + n) (bits_at + z) y (λ t. omega arith) ∙ set_other w (bits_at + y) (bits_at + z) s (λ t. g (omega arith))

        mark-new : mark v y ≡ s
        mark-new =
            let a = r.few in
            let b = few in
            let g = r.size in
            let q = c.kept.size in
            set_other (set w (bits_at + y) s) (order_at + n) (bits_at + y) y (λ t. omega arith) ∙ get_or-set_same w (bits_at + y) s 0 (omega arith)

        not-met : (k : ℕ) → k < n → met w k ≡ y → ⊥
        not-met k l q = e (sym (ap (mark w) q) ∙ c.stamped k l)

        covers : (z : ℕ) → Covered u w n z → Covered u v (n + 1) z
        covers z (inl q) = inl q
        covers z (inr (k, l, q)) = inr (k, omega arith, met_old k l ∙ q)

        more : (P : ℕ → Type 0) → ((k : ℕ) → k < n → P (met w k)) → P y → (k : ℕ) → k < n + 1 → P (met v k)
        more P g p k l = elim (ℕ_discrete k n) [
          | yes t ↦ subst P (sym (ap (met v) t ∙ met-last)) p
          | no t ↦ subst P (sym (met_old k (omega arith))) (g k (omega arith))
        ]

        pub join-new : Joined w n h y (counted v (n + 1))
        join-new = record {
          next = record {
            kept = kept_then c.kept (joined-kept w y s n low (let a = r.few in let b = few in omega arith));
            listed = more (λ z. (i : ℕ) × (i < left) × (rest u i ≡ z)) c.listed (⊎_elim (λ q. absurd (loose q)) (λ g. g) in_rest);
            stamped = λ k l. elim (ℕ_discrete (met v k) y) [
              | yes t ↦ ap (mark v) t ∙ mark-new
              | no t ↦ mark-old (met v k) t ∙ (elim (ℕ_discrete k n) [ yes a ↦ absurd (t (ap (met v) a ∙ met-last)) | no a ↦ ap (mark w) (met_old k (omega arith)) ∙ c.stamped k (omega arith) ])
            ];
            apart = λ i k l g. elim (ℕ_discrete k n) [
              | yes a ↦ λ q. not-met i (omega arith) (sym (met_old i (omega arith)) ∙ q ∙ ap (met v) a ∙ met-last)
              | no a ↦ λ q. c.apart i k l (omega arith) (sym (met_old i (omega arith)) ∙ q ∙ met_old k (omega arith))
            ];
            behind = more (λ z. Behind u x z) c.behind (is-behind loose);
            marks = λ z. elim (ℕ_discrete z y) [
              | yes t ↦ inr (n, omega arith, met-last ∙ sym t)
              | no t ↦ ⊎_elim (λ q. inl (mark-old z t ∙ q)) (λ g. inr (g.0, omega (arith, g.1), met_old g.0 g.1 ∙ g.2)) (c.marks z)
            ];
            shut = λ k z l i. (let o = c.order in covers (get_or u z 0) (c.shut k z l (subst (λ (a : ℕ). InputOf u a z) (met_old k (omega arith)) i)));
            order = let o = c.order in omega arith;
          };
          covered = inr (n, omega arith, met-last);
          still = covers;
          same = met_old;
          grows = omega arith;
        }

      -- output y is met
      pub join : Joined w n h y (meet_in w y s n)
      join = by (eqb (mark w y) 1) (eqb (mark w y) s) refl refl
        where
          by : (a b : Bool) → eqb (mark w y) 1 ≡ a → eqb (mark w y) s ≡ b → Joined w n h y (cond (a || b) (counted w n) (counted (joined w y s n) (n + 1)))
          by true b p q = stays (by-marks (inl (eqb→eq (mark w y) 1 (subst (λ (t : Bool). T t) (sym p) tt))))
          by false true p q = stays (by-marks (inr (eqb→eq (mark w y) s (subst (λ (t : Bool). T t) (sym q) tt))))
          by false false p q = join-new (eqb-false (mark w y) 1 p) (eqb-false (mark w y) s q)

  -- ---- what an output looks at

  module _ (w : List ℕ) (n h : ℕ) (c : SearchingBack u left x s w n h) (l : h < n) where
    abbrev o : ℕ
    o = met w h

    found : (i : ℕ) × (i < left) × (rest u i ≡ o)
    found = c.listed h l

    looks : Looks u o
    looks = subst (λ (z : ℕ). Looks u z) found.2 (r.looks found.0 found.1)

    pub looks-now : Looks w o
    looks-now = looks-table c.kept.size (λ z g. c.kept.below z (omega arith)) looks

    shut_at : (z : ℕ) → InputOf u o z → (mark u (get_or u z 0) ≡ 1) ⊎ ((i : ℕ) × (i < left) × (rest u i ≡ get_or u z 0))
    shut_at z i = r.shut found.0 z found.1 (subst (λ (a : ℕ). InputOf u a z) (sym found.2) i)

    same_first : get_or w (first_in w o) 0 ≡ get_or u (first_in u o) 0
    same_first =
        let k = looks.low in
        let e : first_in w o ≡ first_in u o = ap (λ (a : ℕ). cond (ltb a inverter_entry) (o - 2) (o - 1)) (c.kept.below o (omega arith)) in
        ap (λ (a : ℕ). get_or w a 0) e ∙ c.kept.below (first_in u o) (omega (arith, first_low u o k))

    abbrev a : Counted
    a = meet_in w (get_or w (first_in w o) 0) s n

    one : Joined w n h (get_or w (first_in w o) 0) a
    one =
        join w n h (get_or w (first_in w o) 0) c (let e = same_first in let k = looks.first in omega arith)
        (subst (λ (y : ℕ). (mark u y ≡ 1) ⊎ ((i : ℕ) × (i < left) × (rest u i ≡ y))) (sym same_first) (shut_at (first_in u o) (inl refl)))
        (λ d. subst (λ (y : ℕ). Behind u x y) (sym same_first) (further o (first_in u o) (get_or u (first_in u o) 0) (c.behind h l) (inl refl) refl (subst (λ (y : ℕ). mark u y ≡ 1 → ⊥) same_first d)))

    same-last : get_or a.mem (o - 1) 0 ≡ get_or u (o - 1) 0
    same-last = let k = looks.low in one.next.kept.below (o - 1) (omega arith)

    two : Joined a.mem a.count h (get_or a.mem (o - 1) 0) (look_in w o s n)
    two =
        join a.mem a.count h (get_or a.mem (o - 1) 0) one.next (let e = same-last in let k = looks.last in omega arith)
        (subst (λ (y : ℕ). (mark u y ≡ 1) ⊎ ((i : ℕ) × (i < left) × (rest u i ≡ y))) (sym same-last) (shut_at (o - 1) (inr refl)))
        (λ d. subst (λ (y : ℕ). Behind u x y) (sym same-last) (further o (o - 1) (get_or u (o - 1) 0) (c.behind h l) (inr refl) refl (subst (λ (y : ℕ). mark u y ≡ 1 → ⊥) same-last d)))

    -- where output h stands it stays, and what it looks at is covered
    pub look-next : SearchingBack u left x s (look_in w o s n).mem (look_in w o s n).count (h + 1) × ((z : ℕ) → Covered u w n z → Covered u (look_in w o s n).mem (look_in w o s n).count z)
    look-next = (
      record {
        kept = q.kept;
        listed = q.listed;
        stamped = q.stamped;
        apart = q.apart;
        behind = q.behind;
        marks = q.marks;
        shut = λ k z g i. elim (ℕ_discrete k h) [
          | yes t ↦ at_last z (subst (λ (y : ℕ). InputOf u y z) (ap (met (look_in w o s n).mem) t ∙ two.same h (omega (arith, one.grows)) ∙ one.same h l) i)
          | no t ↦ q.shut k z (omega arith) i
        ];
        order = let a₁ = one.grows in let a₂ = two.grows in omega arith;
      },
      (λ z g. two.still z (one.still z g)),
    )
      where
        q : SearchingBack u left x s (look_in w o s n).mem (look_in w o s n).count h
        q = two.next

        at_last : (z : ℕ) → InputOf u o z → Covered u (look_in w o s n).mem (look_in w o s n).count (get_or u z 0)
        at_last z (inl e) =
            subst (λ (y : ℕ). Covered u (look_in w o s n).mem (look_in w o s n).count y) (same_first ∙ sym (ap (λ (k : ℕ). get_or u k 0) e)) (two.still (get_or w (first_in w o) 0) one.covered)
        at_last z (inr e) =
            subst (λ (y : ℕ). Covered u (look_in w o s n).mem (look_in w o s n).count y) (same-last ∙ sym (ap (λ (k : ℕ). get_or u k 0) e)) two.covered

  -- ---- the end

  pub search-end : (w : List ℕ) (n : ℕ) → SearchingBack u left x s w n n → Covered u w n (get_or u x 0) → Searched u x s w
  search-end w n c g = record {
    kept = c.kept;
    behind = λ o l e. ⊎_elim (λ q. absurd (let t = f.1 o l in omega arith)) (λ k. subst (λ (y : ℕ). Behind u x y) k.2 (c.behind k.0 k.1)) (c.marks o);
    all = λ o b. stamp-of (all o b);
    settled = λ y e. ⊎_elim (λ q. sym q ∙ e) (λ k. absurd (let t = f.0 in let z = ap (mark w) k.2 in let q = c.stamped k.0 k.1 in omega arith)) (c.marks y);
    still = λ y e. ⊎_elim (λ q. q ∙ e) (λ k. absurd (loose (c.behind k.0 k.1) (ap (mark u) k.2 ∙ e))) (c.marks y);
    fresh = (let t = f.0 in omega arith, λ y l. ⊎_elim (λ q. (let t = f.1 y l in omega arith)) (λ k. (let z = ap (mark w) k.2 in let q = c.stamped k.0 k.1 in omega arith)) (c.marks y));
  }
    where
      loose : {y : ℕ} → Behind u x y → mark u y ≡ 1 → ⊥
      loose (first y e d) q = d q
      loose (further o z y b i e d) q = d q

      pick : {y : ℕ} → (mark u y ≡ 1 → ⊥) → Covered u w n y → (k : ℕ) × (k < n) × (met w k ≡ y)
      pick d (inl e) = absurd (d e)
      pick d (inr k) = k

      all : (o : ℕ) → Behind u x o → (k : ℕ) × (k < n) × (met w k ≡ o)
      all o (first y e d) = pick d (subst (λ (z : ℕ). Covered u w n z) (sym e) g)
      all o (further p z y b i e d) = go (all p b)
        where
          go : (k : ℕ) × (k < n) × (met w k ≡ p) → (k : ℕ) × (k < n) × (met w k ≡ o)
          go (k, l, q) = pick d (subst (λ (a : ℕ). Covered u w n a) (sym e) (c.shut k z l (subst (λ (a : ℕ). InputOf u a z) (sym q) i)))

      stamp-of : {o : ℕ} → (k : ℕ) × (k < n) × (met w k ≡ o) → mark w o ≡ s
      stamp-of (k, l, q) = sym (ap (mark w) q) ∙ c.stamped k l

-- ---- as code has it

pub among-low : (u : List ℕ) (left x : ℕ) → Rest u left → InputAmong u left x → x < 8192
among-low u left x r a = by a.input
  where
    low : rest u a.at < 8192
    low = (r.looks a.at a.low).low

    by : InputOf u (rest u a.at) x → x < 8192
    by (inl e) = let l = low in omega (arith, first_low u (rest u a.at) l)
    by (inr e) = let l = low in omega arith

pub among-source : (u : List ℕ) (left x : ℕ) → Rest u left → InputAmong u left x → get_or u x 0 < 8192
among-source u left x r a = by a.input
  where
    by : InputOf u (rest u a.at) x → get_or u x 0 < 8192
    by (inl e) = subst (λ (z : ℕ). get_or u z 0 < 8192) (sym e) (r.looks a.at a.low).first
    by (inr e) = subst (λ (z : ℕ). get_or u z 0 < 8192) (sym e) (r.looks a.at a.low).last

-- the source of x is met
pub record Began (u : List ℕ) (left x s : ℕ) (v : List ℕ) (n : ℕ) : Type 0 where
  pub holds : Rest u left
  pub among : InputAmong u left x
  pub fresh : Fresh u s
  pub whole : counted v n ≡ meet_in u (get_or u x 0) s 0

pub began : (u : List ℕ) (left x s y : ℕ) (v : List ℕ) (n : ℕ) → Rest u left → InputAmong u left x → Fresh u s → y ≡ get_or u x 0 → counted v n ≡ meet_in u y s 0 → Began u left x s v n
began u left x s y v n r a f e q = record { holds = r; among = a; fresh = f; whole = q ∙ ap (λ (z : ℕ). meet_in u z s 0) e }

-- the loop's invariant, whatever memory it began with
abbrev pub SearchGoing : ℕ → ℕ → ℕ → List ℕ → ℕ → List ℕ → ℕ → ℕ → Type 0
SearchGoing left x s v m w n h = (u : List ℕ) → Began u left x s v m → SearchingBack u left x s w n h × Covered u w n (get_or u x 0)

pub going_start : (left x s : ℕ) (v : List ℕ) (m : ℕ) → SearchGoing left x s v m v m 0
going_start left x s v m u b =
    let j = join u left x s b.holds b.fresh u 0 0 (get_or u x 0) (searching_start u left x s) (among-source u left x b.holds b.among)
    (b.holds.shut b.among.at x b.among.low b.among.input) (λ d. first (get_or u x 0) refl d) in
    subst (λ (c : Counted). SearchingBack u left x s c.mem c.count 0 × Covered u c.mem c.count (get_or u x 0)) (sym b.whole) (j.next, j.covered)

module _ (u : List ℕ) (left x s : ℕ) (v : List ℕ) (m : ℕ) (b : Began u left x s v m) (w : List ℕ) (n h : ℕ) (g : SearchGoing left x s v m w n h) where
  pub going_few : n ≤ 4096
  going_few = let f = b.holds.few in omega (arith, met-few u left x s b.holds b.fresh w n h (g u b).0)

  pub going_size : length w ≡ length u
  going_size = (g u b).0.kept.size

  pub going_looks : (o : ℕ) → o ≡ met w h → h < n → Looks w o
  going_looks o e l = subst (λ (z : ℕ). Looks w z) (sym e) (looks-now u left x s b.holds b.fresh w n h (g u b).0 l)

pub going_next : (left x s : ℕ) (v : List ℕ) (m : ℕ) (w : List ℕ) (n h : ℕ) → SearchGoing left x s v m w n h → h < n → (o : ℕ) (w' : List ℕ) (n' : ℕ) → o ≡ met w h → counted w' n' ≡ look_in w o s n → SearchGoing left x s v m w' n' (h + 1)
going_next left x s v m w n h g l o w' n' e q u b =
    let r = g u b in
    let t = look-next u left x s b.holds b.fresh w n h r.0 l in
    subst (λ (c : Counted). SearchingBack u left x s c.mem c.count (h + 1) × Covered u c.mem c.count (get_or u x 0)) (ap (λ (z : ℕ). look_in w z s n) (sym e) ∙ sym q) (t.0, t.1 (get_or u x 0) r.1)

pub going_end : (u : List ℕ) (left x s : ℕ) (v : List ℕ) (m : ℕ) → Began u left x s v m → (w : List ℕ) (n h : ℕ) → n ≤ h → SearchGoing left x s v m w n h → Searched u x s w
going_end u left x s v m b w n h l g =
    let r = g u b in
    let e : h ≡ n = (let o = r.0.order in omega arith) in
    search-end u left x s b.holds b.fresh w n (subst (λ (k : ℕ). SearchingBack u left x s w n k) e r.0) r.1

pub meet_after : (w : List ℕ) (y s n : ℕ) (v : List ℕ) (k : ℕ) → y < 8192 → n ≤ 5120 → counted v k ≡ meet_in w y s n → Kept w v × (k ≤ n + 1)
meet_after w y s n v k l h e = (subst (λ (c : Counted). Kept w c.mem) (sym e) (meet_kept w y s n l h), subst (λ (c : Counted). c.count ≤ n + 1) (sym e) (meet_count w y s n))

pub told_yes : (u : List ℕ) (x s o : ℕ) (w : List ℕ) (r : Bool) → o < 8192 → Searched u x s w → r ≡ eqb (mark w o) s → SearchTold u x s o w r
told_yes u x s o w r l c e = record {
  searched = c;
  yes_behind = λ q. c.behind o l (eqb→eq (mark w o) s (subst (λ (b : Bool). T b) (sym q ∙ e) tt));
  not_behind = λ q b. eqb-false (mark w o) s (sym e ∙ q) (c.all o b);
}

-- ---- the same behind, after marks have changed

pub record SameMarks (u w : List ℕ) : Type 0 where
  pub kept : Kept u w
  pub settled : (y : ℕ) → mark w y ≡ 1 → mark u y ≡ 1
  pub still : (y : ℕ) → mark u y ≡ 1 → mark w y ≡ 1

module _ (u w : List ℕ) (left : ℕ) (r : Rest u left) (same : SameMarks u w) where
  abbrev k : Kept u w
  k = same.kept

  abbrev settled : (y : ℕ) → mark w y ≡ 1 → mark u y ≡ 1
  settled = same.settled

  abbrev still : (y : ℕ) → mark u y ≡ 1 → mark w y ≡ 1
  still = same.still

  pub same_rest : (j : ℕ) → j < left → rest w j ≡ rest u j
  same_rest j l = let f = r.few in k.below (rest_at + j) (omega arith)

  pub same-input : (j z : ℕ) → j < left → InputOf w (rest u j) z → InputOf u (rest u j) z
  same-input j z l (inl e) = inl (e ∙ (let h = (r.looks j l).low in ap (λ (a : ℕ). cond (ltb a inverter_entry) (rest u j - 2) (rest u j - 1)) (k.below (rest u j) (omega arith))))
  same-input j z l (inr e) = inr e

  input-same : (j z : ℕ) → j < left → InputOf u (rest u j) z → InputOf w (rest u j) z
  input-same j z l (inl e) = inl (e ∙ sym (let h = (r.looks j l).low in ap (λ (a : ℕ). cond (ltb a inverter_entry) (rest u j - 2) (rest u j - 1)) (k.below (rest u j) (omega arith))))
  input-same j z l (inr e) = inr e

  input-low : (j z : ℕ) → j < left → InputOf u (rest u j) z → z < 8192
  input-low j z l (inl e) = omega (arith, first_low u (rest u j) (r.looks j l).low)
  input-low j z l (inr e) = let h = (r.looks j l).low in omega arith

  same_at : (j z : ℕ) → j < left → InputOf u (rest u j) z → get_or w z 0 ≡ get_or u z 0
  same_at j z l i = let h = input-low j z l i in k.below z (omega arith)

  pub rest-kept : Rest w left
  rest-kept = record {
    size = let a = r.size in let b = k.size in omega arith;
    few = r.few;
    looks = λ j l. subst (λ (o : ℕ). Looks w o) (sym (same_rest j l)) (looks-table k.size (λ x h. k.below x (omega arith)) (r.looks j l));
    shut = λ j x l i.
        let i₁ = same-input j x l (subst (λ (o : ℕ). InputOf w o x) (same_rest j l) i) in
        let e = same_at j x l i₁ in
        ⊎_elim (λ q. inl (ap (mark w) e ∙ still (get_or u x 0) q)) (λ g. inr (g.0, g.1, same_rest g.0 g.1 ∙ g.2 ∙ sym e)) (r.shut j x l i₁);
  }

  pub among-kept : (x : ℕ) → InputAmong u left x → InputAmong w left x
  among-kept x a = record { at = a.at; low = a.low; input = subst (λ (o : ℕ). InputOf w o x) (sym (same_rest a.at a.low)) (input-same a.at x a.low a.input) }

  module _ (x : ℕ) (a : InputAmong u left x) where
    behind-in : (o : ℕ) → Behind u x o → (i : ℕ) × (i < left) × (rest u i ≡ o)
    behind-in o (first y e d) = ⊎_elim (λ q. absurd (d (ap (mark u) e ∙ q))) (λ g. (g.0, g.1, g.2 ∙ sym e)) (r.shut a.at x a.low a.input)
    behind-in o (further p z y b i e d) = go (behind-in p b)
      where
        go : (i : ℕ) × (i < left) × (rest u i ≡ p) → (i : ℕ) × (i < left) × (rest u i ≡ o)
        go (j, l, q) = ⊎_elim (λ t. absurd (d (ap (mark u) e ∙ t))) (λ g. (g.0, g.1, g.2 ∙ sym e)) (r.shut j z l (subst (λ (c : ℕ). InputOf u c z) (sym q) i))

    -- both ways
    pub behind-kept : (o : ℕ) → Behind u x o → Behind w x o
    behind-kept o (first y e d) = first o (e ∙ sym (same_at a.at x a.low a.input)) (λ q. d (settled o q))
    behind-kept o (further p z y b i e d) =
        let g = behind-in p b in
        let i₁ = subst (λ (c : ℕ). InputOf u c z) (sym g.2) i in
        further p z o (behind-kept p b) (subst (λ (c : ℕ). InputOf w c z) g.2 (input-same g.0 z g.1 i₁)) (e ∙ sym (same_at g.0 z g.1 i₁)) (λ q. d (settled o q))

    back-kept : (o : ℕ) → Behind w x o → Behind u x o × ((i : ℕ) × (i < left) × (rest u i ≡ o))
    back-kept o (first y e d) = let b = first o (e ∙ same_at a.at x a.low a.input) (λ q. d (still o q)) in (b, behind-in o b)
    back-kept o (further p z y b i e d) = go (back-kept p b)
      where
        go : Behind u x p × ((i : ℕ) × (i < left) × (rest u i ≡ p)) → Behind u x o × ((i : ℕ) × (i < left) × (rest u i ≡ o))
        go (c, (j, l, q)) =
            let i₁ = same-input j z l (subst (λ (c : ℕ). InputOf w c z) (sym q) i) in
            let b = further p z o c (subst (λ (c : ℕ). InputOf u c z) q i₁) (e ∙ same_at j z l i₁) (λ t. d (still o t)) in
            (b, behind-in o b)

    pub kept-behind : (o : ℕ) → Behind w x o → Behind u x o
    kept-behind o b = (back-kept o b).0

-- ---- input after input

first-last : (w : List ℕ) (o : ℕ) → first_in w o ≤ o - 1
first-last w o = by (ltb (get_or w o 0) inverter_entry)
  where
    by : (b : Bool) → cond b (o - 2) (o - 1) ≤ o - 1
    by true = omega arith
    by false = omega arith

pub record SeekingRing (u : List ℕ) (left : ℕ) (w : List ℕ) (j s : ℕ) : Type 0 where
  pub same : SameMarks u w
  pub fresh : Fresh w s
  pub count : s + 2 * j ≡ 2 + 2 * left
  pub low : j ≤ left
  pub clear : (i : ℕ) → j ≤ i → i < left → OnNoRing u (rest u i)

-- a search more
module _ (u w : List ℕ) (left : ℕ) (r : Rest u left) (same : SameMarks u w) (x s o : ℕ) (v : List ℕ) (b : Bool) (a : InputAmong u left x) (t : SearchTold w x s o v b) where
  pub same_after : SameMarks u v
  same_after = record {
    kept = kept_then same.kept t.searched.kept;
    settled = λ y e. same.settled y (t.searched.settled y e);
    still = λ y e. t.searched.still y (same.still y e);
  }

  pub found-behind : b ≡ true → Behind u x o
  found-behind e = kept-behind u w left r same x a o (t.yes_behind e)

  pub found_none : b ≡ false → Behind u x o → ⊥
  found_none e g = t.not_behind e (behind-kept u w left r same x a o g)

module _ (u : List ℕ) (left : ℕ) (r : Rest u left) (w : List ℕ) (j i s o x : ℕ) (c : SeekingRing u left w j s) (e : j ≡ i + 1) (eo : o ≡ rest w i) (ex : x ≡ first_in w o) where
  lower : i < left
  lower = let l = c.low in omega arith

  is-rest : o ≡ rest u i
  is-rest = eo ∙ same_rest u w left r c.same i lower

  pub seek_rest : Rest w left
  seek_rest = rest-kept u w left r c.same

  pub seek_looks : Looks w o
  seek_looks = subst (λ (z : ℕ). Looks w z) (sym eo) (seek_rest.looks i lower)

  pub first_of : InputAmong u left x
  first_of = record { at = i; low = lower; input = same-input u w left r c.same i x lower (subst (λ (z : ℕ). InputOf w z x) is-rest (inl ex)) }

  pub last_of : InputAmong u left (o - 1)
  last_of = record { at = i; low = lower; input = inr (ap (λ (z : ℕ). z - 1) is-rest) }

  pub seek_among : InputAmong w left x
  seek_among = among-kept u w left r c.same x first_of

  x-first : x ≡ first_in u (rest u i)
  x-first =
      let l = (r.looks i lower).low in
      ex ∙ ap (λ (z : ℕ). first_in w z) is-rest ∙ ap (λ (a : ℕ). cond (ltb a inverter_entry) (rest u i - 2) (rest u i - 1)) (c.same.kept.below (rest u i) (omega arith))

  -- the first input of o is on a ring
  pub seek_first : (v : List ℕ) (b : Bool) → SearchTold w x s o v b → b ≡ true → RingFound u left v x
  unfolding first_of
  seek_first v b t q = record {
    kept = (same_after u w left r c.same x s o v b first_of t).kept;
    place = here i x lower first_of.input (subst (λ (z : ℕ). Behind u x z) is-rest (found-behind u w left r c.same x s o v b first_of t q)) (λ k l h. c.clear k (omega arith) h) below;
  }
    where
      below : (z : ℕ) → z < x → InputOf u (rest u i) z → Behind u z (rest u i) → ⊥
      below z l (inl q) g = let k = x-first in omega arith
      below z l (inr q) g = let k = x-first in omega (arith, first-last u (rest u i))

  -- it is not, and the other input is looked at
  module _ (v : List ℕ) (b : Bool) (t : SearchTold w x s o v b) (q : b ≡ false) where
    after : SameMarks u v
    after = same_after u w left r c.same x s o v b first_of t

    pub then-rest : Rest v left
    then-rest = rest-kept u v left r after

    pub then-among : InputAmong v left (o - 1)
    then-among = among-kept u v left r after (o - 1) last_of

    not_first : Behind u x (rest u i) → ⊥
    not_first g = found_none u w left r c.same x s o v b first_of t q (subst (λ (z : ℕ). Behind u x z) (sym is-rest) g)

    module _ (v' : List ℕ) (b' : Bool) (t' : SearchTold v (o - 1) (s + 1) o v' b') where
      pub seek-last : b' ≡ true → RingFound u left v' (o - 1)
      unfolding last_of
      seek-last p = record {
        kept = (same_after u v left r after (o - 1) (s + 1) o v' b' last_of t').kept;
        place = here i (o - 1) lower last_of.input (subst (λ (z : ℕ). Behind u (o - 1) z) is-rest (found-behind u v left r after (o - 1) (s + 1) o v' b' last_of t' p)) (λ k l h. c.clear k (omega arith) h) below;
      }
        where
          below : (z : ℕ) → z < o - 1 → InputOf u (rest u i) z → Behind u z (rest u i) → ⊥
          below z l (inl p) g = not_first (subst (λ (a : ℕ). Behind u a (rest u i)) (p ∙ sym x-first) g)
          below z l (inr p) g = let k = ap (λ (a : ℕ). a - 1) is-rest in omega arith

      pub seek-next : b' ≡ false → SeekingRing u left v' i (s + 2)
      seek-next p = record {
        same = same_after u v left r after (o - 1) (s + 1) o v' b' last_of t';
        fresh = let k : s + 1 + 1 ≡ s + 2 = omega arith in subst (λ (z : ℕ). Fresh v' z) k t'.searched.fresh;
        count = let k = c.count in omega arith;
        low = let l = lower in omega arith;
        clear = λ k l h. elim (ℕ_discrete k i) [ yes a ↦ subst (λ (z : ℕ). OnNoRing u (rest u z)) (sym a) clear-i | no a ↦ c.clear k (omega arith) h ];
      }
        where
          clear-i : OnNoRing u (rest u i)
          clear-i z (inl a) g = not_first (subst (λ (y : ℕ). Behind u y (rest u i)) (a ∙ sym x-first) g)
          clear-i z (inr a) g =
              found_none u v left r after (o - 1) (s + 1) o v' b' last_of t' p (subst (λ (y : ℕ). Behind u (o - 1) y) (sym is-rest) (subst (λ (y : ℕ). Behind u y (rest u i)) (a ∙ sym (ap (λ (z : ℕ). z - 1) is-rest)) g))

pub seeking_end : (u : List ℕ) (left : ℕ) (w : List ℕ) (j s : ℕ) → j ≡ 0 → SeekingRing u left w j s → RingFound u left w 0
seeking_end u left w j s e c = record { kept = c.same.kept; place = none (λ i l. c.clear i (omega arith) l) }

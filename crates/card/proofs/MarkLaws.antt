-- One more mark, and one terminal more without it. Assumes nothing.
use Prim.Native.Nat.{ℕ, zero, suc, ◌+◌, ◌-◌, ◌/◌, ◌%◌, ◌≤◌, ◌<◌}
use mathlib.Core.Path.{◌≡◌, refl, sym, ap, ◌∙◌, subst}
use mathlib.Core.Bool.{Bool, true, false, not, cond, ◌||◌, ◌&&◌}
use mathlib.Core.List.{List, [], ◌∷◌, ◌++◌, map, map-append}
use native.Mathlib.Omega.{arith}
use native.Mathlib.Numerals.{add-one}
use native.Mathlib.Decide.{ℕ_discrete, dec_le}
use lib.Dec.{eqb, leb, ltb}
use lib.ListN.{length, get_or, set, drop, length-drop, length-set}
use lib.Seq.{ext_get_or, get_or-set_same, get_or-set_other, take-suc, get_or-drop}
use borrow.Author.Tests.{ne_eqb, eq-eqb, lt-ltb, le-ltb, le-leb, lt-leb}
use Rattle.calculus.specs.Terms.{part_at}
use Rattle.calculus.specs.Answer.{Answer, ◌>>=◌, need}
use Rattle.calculus.specs.Net.{inp, out, Interface, Element, part, Wire}
use Rattle.export_calculus.specs.Card.{need_all, drives, is_out_pin, is_read, output_place}
use Rattle.memory.specs.Map.{roots_at, region, terminal_of, Ready}
use Rattle.netlist.specs.Elements.{output_of}
use Rattle.lean.specs.Table.{entry}
use Rattle.lean.specs.Layout.{lean_pins_at, kinds_from, left_out, element_at, wire_at, row_in, lean_in, Leant, Passed}
use Rattle.lean.proofs.DriverLaws.{output-below, driver_out}
use Rattle.lean.proofs.EntryLaws.{source_out, pin_out, lean_free}
use Rattle.lean.proofs.Rows.{row_more}
use Rattle.lean.proofs.MakeLaws.{element_input, element_left, element_here, wire-none, wire-output, wire-here}
use Rattle.std.specs.Prelude.{Some, None}
use Rattle.card.specs.Rings.{answer_of}
use Rattle.card.specs.Marks.{read_mark, mark_wire, mark_pin, Free, Markable, MarkedWhere, unread_at, unread_from, place_of, without_mark, Cleaned}

or_none_lem : (b : Bool) → (b || false) ≡ b
or_none_lem true = refl
or_none_lem false = refl

pub drives-append : (xs ys : List Wire) (j : ℕ) → drives (xs ++ ys) j ≡ (drives xs j || drives ys j)
drives-append [] ys j = refl
drives-append (x ∷ xs) ys j = by (eqb x.from j) (drives-append xs ys j)
  where
    by : (b : Bool) → drives (xs ++ ys) j ≡ (drives xs j || drives ys j) → (b || drives (xs ++ ys) j) ≡ ((b || drives xs j) || drives ys j)
    by true e = refl
    by false e = e

pub pins_append : (xs ys : Interface) (j : ℕ) → is_out_pin (xs ++ ys) j ≡ (is_out_pin xs j || is_out_pin ys j)
pins_append [] ys j = refl
pins_append (inp i ∷ xs) ys j = pins_append xs ys j
pins_append (out o ∷ xs) ys j = by (eqb o j) (pins_append xs ys j)
  where
    by : (b : Bool) → is_out_pin (xs ++ ys) j ≡ (is_out_pin xs j || is_out_pin ys j) → (b || is_out_pin (xs ++ ys) j) ≡ ((b || is_out_pin xs j) || is_out_pin ys j)
    by true e = refl
    by false e = e

-- ---- marks

pub marked-same : {w w' : List ℕ} {end : ℕ} {P Q : ℕ → Bool} → ((j : ℕ) → P j ≡ Q j) → MarkedWhere w end P w' → MarkedWhere w end Q w'
marked-same {w} h m = record {
  size = m.size;
  low = λ j l. m.low j l ∙ ap (λ (b : Bool). cond b read_mark (get_or w j 0)) (h j);
  high = m.high;
  free = λ j e. m.free j (h j ∙ e);
}

marked_one : {w w' : List ℕ} {end : ℕ} {P : ℕ → Bool} (o : ℕ) → end ≤ 8192 → 8192 ≤ length w → Free w end o → MarkedWhere w end P w' → MarkedWhere w end (λ j. P j || eqb o j) (set w' o read_mark)
marked_one {w} {w'} {end} {P} o l z f m =
    let s = m.size in
    let u = f.0 in
    record {
      size = length-set w' o read_mark ∙ m.size;
      low = λ j h. elim (ℕ_discrete o j) [
        | yes e ↦ ap (λ (i : ℕ). get_or (set w' o read_mark) i 0) (sym e) ∙ get_or-set_same w' o read_mark 0 (omega arith) ∙ rw (eq-eqb o j e) (passes (P j) (get_or w j 0))
        | no d ↦ get_or-set_other w' o j read_mark 0 (λ e. d (sym e)) ∙ m.low j h ∙ rw (ne_eqb o j d) (ap (λ (b : Bool). cond b read_mark (get_or w j 0)) (sym (or_none_lem (P j))))
      ];
      high = λ j h. get_or-set_other w' o j read_mark 0 (λ e. omega arith) ∙ m.high j h;
      free = λ j e. elim (ℕ_discrete o j) [
        | yes q ↦ subst (Free w end) q f
        | no d ↦ m.free j (sym (or_none_lem (P j)) ∙ (rw (ne_eqb o j d) at e))
      ];
    }
  where
    passes : (b : Bool) (a : ℕ) → read_mark ≡ cond (b || true) read_mark a
    passes true a = refl
    passes false a = refl

module _ (w : List ℕ) (end pins : ℕ) (p : Markable w end pins) where
  big : 8192 ≤ length w
  big = let z = p.ready.size in omega arith

  abbrev pub Wired : ℕ → ℕ → Bool
  Wired x j = drives (row_in wire_at roots_at w x 0) j

  wired-more : (x j : ℕ) → Wired (x + 1) j ≡ (Wired x j || drives (wire_at (entry w x) x) j)
  wired-more x j = ap (λ (ws : List Wire). drives ws j) (row_more wire_at roots_at w x) ∙ drives-append (row_in wire_at roots_at w x 0) (wire_at (entry w x) x) j

  pub wires_next : {w' : List ℕ} (x : ℕ) → x < end → MarkedWhere w end (Wired x) w' → MarkedWhere w end (Wired (x + 1)) (mark_wire w' (entry w x))
  wires_next {w'} x h m =
      let v = entry w x in
      elim (ℕ_discrete v 0) [
        | yes e ↦ rw (eq-eqb v 0 e) (marked-same (λ j. sym (wired-more x j ∙ ap (λ (ws : List Wire). Wired x j || drives ws j) (wire-none v x e) ∙ or_none_lem (Wired x j))) m)
        | no d ↦ elim (dec_le kinds_from v) [
          | yes g ↦ rw (ne_eqb v 0 d, le-ltb v kinds_from g) (marked-same (λ j. sym (wired-more x j ∙ ap (λ (ws : List Wire). Wired x j || drives ws j) (wire-output v x g) ∙ or_none_lem (Wired x j))) m)
          | no g ↦ rw (ne_eqb v 0 d, lt-ltb v kinds_from (omega arith))
              (marked-same (λ j. sym (wired-more x j ∙ ap (λ (ws : List Wire). Wired x j || drives ws j) (wire-here v x d (omega arith)) ∙ ap (λ (b : Bool). Wired x j || b) (or_none_lem (eqb (v - 1) j))))
              (marked_one (v - 1) p.ready.below big (p.sources x h d (omega arith)) m))
        ]
      ]

  -- an output has no wire
  wired-output : (x j : ℕ) → kinds_from ≤ entry w x → Wired (x + 1) j ≡ Wired x j
  wired-output x j g = wired-more x j ∙ ap (λ (ws : List Wire). Wired x j || drives ws j) (wire-output (entry w x) x g) ∙ or_none_lem (Wired x j)

  -- what is passed is an output
  pub wires_passed : {w' : List ℕ} (x y : ℕ) → Passed w' x y → MarkedWhere w end (Wired (x + 1)) w' → MarkedWhere w end (Wired y) w'
  wires_passed {w'} x y q m = elim (ℕ_discrete y (x + 2)) [
    | yes e ↦ (let two : x + 1 + 1 ≡ y = omega arith in
        subst (λ (z : ℕ). MarkedWhere w end (Wired z) w') two (marked-same (λ j. sym (wired-output (x + 1) j (subst (λ (v : ℕ). kinds_from ≤ v) (m.high (roots_at + (x + 1)) (omega arith)) (q.output e)))) m))
    | no d ↦ (let one : x + 1 ≡ y = (let r = q.rises in let f = q.few in omega arith) in subst (λ (z : ℕ). MarkedWhere w end (Wired z) w') one m)
  ]

  -- what is passed at the end
  pub passed-end : {w' : List ℕ} (x y : ℕ) → x < end → Passed w' x y → MarkedWhere w end (Wired (x + 1)) w' → y ≡ end + 1 → kinds_from ≤ entry w end
  passed-end {w'} x y h q m e =
      let f = q.few in
      let last : x + 1 ≡ end = omega arith in
      subst (λ (z : ℕ). kinds_from ≤ entry w z) last (subst (λ (v : ℕ). kinds_from ≤ v) (m.high (roots_at + (x + 1)) (omega arith)) (q.output (omega arith)))

  pub wires_end : {w' : List ℕ} (x : ℕ) → end ≤ x → x ≤ end + 1 → (x ≡ end + 1 → kinds_from ≤ entry w end) → MarkedWhere w end (Wired x) w' → MarkedWhere w end (Wired end) w'
  wires_end {w'} x g l h m = elim (ℕ_discrete x (end + 1)) [
    | yes e ↦ marked-same (λ j. wired-output end j (h e)) (subst (λ (z : ℕ). MarkedWhere w end (Wired z) w') e m)
    | no d ↦ (let e : x ≡ end = omega arith in subst (λ (z : ℕ). MarkedWhere w end (Wired z) w') e m)
  ]

  -- what pins show too

  abbrev pub Read : ℕ → ℕ → Bool
  Read i j = Wired end j || is_out_pin (map terminal_of (region w lean_pins_at i)) j

  read_more : (i j : ℕ) → i < pins → Read (i + 1) j ≡ (Read i j || is_out_pin (terminal_of (get_or w (lean_pins_at + i) 0) ∷ []) j)
  read_more i j h =
      let f = p.ready.few_pins in
      let z = p.ready.size in
      let lt : i < length (drop lean_pins_at w) = rw length-drop (omega arith) in
      rw (add-one i, take-suc (drop lean_pins_at w) i 0 lt, map-append terminal_of (region w lean_pins_at i) (get_or (drop lean_pins_at w) i 0 ∷ []), get_or-drop lean_pins_at w i 0, pins_append (map terminal_of (region w lean_pins_at i)) (terminal_of (get_or w (lean_pins_at + i) 0) ∷ []) j)
      (by (Wired end j) (is_out_pin (map terminal_of (region w lean_pins_at i)) j) (is_out_pin (terminal_of (get_or w (lean_pins_at + i) 0) ∷ []) j))
    where
      by : (a b c : Bool) → (a || (b || c)) ≡ ((a || b) || c)
      by true b c = refl
      by false b c = refl

  pub pins_next : {w' : List ℕ} (i : ℕ) → i < pins → MarkedWhere w end (Read i) w' → MarkedWhere w end (Read (i + 1)) (mark_pin w' (get_or w (lean_pins_at + i) 0))
  pins_next {w'} i h m =
      let c = get_or w (lean_pins_at + i) 0 in
      elim (ℕ_discrete (c % 2) 0) [
        | yes e ↦ rw (eq-eqb (c % 2) 0 e) (marked-same (λ j. sym (read_more i j h ∙ ap (λ (b : Bool). Read i j || is_out_pin (cond b (inp (c / 2)) (out (c / 2)) ∷ []) j) (eq-eqb (c % 2) 0 e) ∙ or_none_lem (Read i j))) m)
        | no d ↦ rw (ne_eqb (c % 2) 0 d) (marked-same (λ j. sym (read_more i j h ∙ ap (λ (b : Bool). Read i j || is_out_pin (cond b (inp (c / 2)) (out (c / 2)) ∷ []) j) (ne_eqb (c % 2) 0 d) ∙ ap (λ (b : Bool). Read i j || b) (or_none_lem (eqb (c / 2) j))))
            (marked_one (c / 2) p.ready.below big (p.shown i h d) m))
      ]

  pub pins_start : {w' : List ℕ} → MarkedWhere w end (Wired end) w' → MarkedWhere w end (Read 0) w'
  pins_start m = marked-same (λ j. sym (or_none_lem (Wired end j))) m

  -- ---- once all marks stand: the first part's output without one is where the definition refuses

  module _ (w' : List ℕ) (m : MarkedWhere w end (Read pins) w') where
    mark-is : (j : ℕ) → j < 8192 → eqb (get_or w' j 0) read_mark ≡ Read pins j
    mark-is j l = by (Read pins j) (m.low j l)
      where
        by : (b : Bool) → get_or w' j 0 ≡ cond b read_mark (get_or w j 0) → eqb (get_or w' j 0) read_mark ≡ b
        by true e = eq-eqb (get_or w' j 0) read_mark e
        by false e = ne_eqb (get_or w' j 0) read_mark (λ z. p.drivers j (sym e ∙ z) l)

    entry-same : (x : ℕ) → entry w' x ≡ entry w x
    entry-same x = m.high (roots_at + x) (omega arith)

    abbrev test : List Element → Answer (Unit {0})
    test es = need_all (is_read (lean_in w end pins)) 29 output_place es

    -- of a part's output, by its mark; of any other nothing is asked
    other_at : (x : ℕ) → (leb kinds_from (entry w x) && ltb (entry w x) (kinds_from + 7)) ≡ false → unread_at w' x ≡ false
    other_at x h = ap (λ (v : ℕ). not (eqb (get_or w' x 0) read_mark) && (leb kinds_from v && ltb v (kinds_from + 7))) (entry-same x) ∙ ap (λ (b : Bool). not (eqb (get_or w' x 0) read_mark) && b) h ∙ none (not (eqb (get_or w' x 0) read_mark))
      where
        none : (b : Bool) → (b && false) ≡ false
        none true = refl
        none false = refl

    part-at : (x : ℕ) → x < 8192 → (leb kinds_from (entry w x) && ltb (entry w x) (kinds_from + 7)) ≡ true → unread_at w' x ≡ not (Read pins x)
    part-at x l h = ap (λ (v : ℕ). not (eqb (get_or w' x 0) read_mark) && (leb kinds_from v && ltb v (kinds_from + 7))) (entry-same x) ∙ ap (λ (b : Bool). not (eqb (get_or w' x 0) read_mark) && b) h ∙ ap (λ (b : Bool). not b && true) (mark-is x l) ∙ all (not (Read pins x))
      where
        all : (b : Bool) → (b && true) ≡ b
        all true = refl
        all false = refl

    skip : (x c : ℕ) (es : List Element) → es ≡ [] → (leb kinds_from (entry w x) && ltb (entry w x) (kinds_from + 7)) ≡ false
        → test (row_in element_at roots_at w c (x + 1)) ≡ answer_of 29 (place_of (unread_from w' c (x + 1))) → test (es ++ row_in element_at roots_at w c (x + 1)) ≡ answer_of 29 (place_of (cond (unread_at w' x) x (unread_from w' c (x + 1))))
    skip x c es e h next = rw (e, other_at x h) next

    read-test : (x i k : ℕ) (es : List Element) (rest : ℕ) → i + (part_at k).inputs ≡ x → x < 8192 → test es ≡ answer_of 29 (place_of rest) → test (part k i ∷ es) ≡ answer_of 29 (place_of (cond (not (Read pins x)) x rest))
    unfolding lean_in
    read-test x i k es rest e l next = rw e (by (Read pins x) refl)
      where
        by : (b : Bool) → Read pins x ≡ b → (need b 29 x >>= λ _. test es) ≡ answer_of 29 (place_of (cond (not b) x rest))
        by true z = next
        by false z = rw (lt-ltb x 8192 l)

    search : (c x : ℕ) → x + c ≤ end → test (row_in element_at roots_at w c x) ≡ answer_of 29 (place_of (unread_from w' c x))
    search zero x h = refl
    search (suc c) x h =
        let v = entry w x in
        let l = p.ready.below in
        let next = search c (x + 1) (omega arith) in
        let es = row_in element_at roots_at w c (x + 1) in
        elim (dec_le kinds_from v) [
          | no a ↦ skip x c (element_at v x) (element_input v x (omega arith)) (ap (λ (b : Bool). b && ltb v (kinds_from + 7)) (lt-leb kinds_from v (omega arith))) next
          | yes a ↦ elim (dec_le (kinds_from + 7) v) [
            | yes g ↦ elim (dec_le left_out v) [
              | yes f ↦ skip x c (element_at v x) (element_left v x f) (late a g) next
              | no f ↦ (let z : v ≡ kinds_from + 7 = omega arith in rw (other_at x (late a g), z) next)
            ]
            | no g ↦ (let k = v - kinds_from in
                let u : output_of k 0 ≤ x = p.ready.outputs x (omega arith) a (omega arith) in
                let n : k ≡ 7 → ⊥ = λ z. omega arith in
                let i : x - (0 + (part_at k).inputs) + (part_at k).inputs ≡ x = (let y = rw (ne_eqb k 7 n) at u in omega arith) in
                rw (element_here v x a (omega arith), ne_eqb k 7 n, part-at x (omega arith) (ap (λ (b : Bool). b && ltb v (kinds_from + 7)) (le-leb kinds_from v a) ∙ lt-ltb v (kinds_from + 7) (omega arith)))
                (read-test x (x - (0 + (part_at k).inputs)) k es (unread_from w' c (x + 1)) i (omega arith) next))
          ]
        ]
      where
        late : {v : ℕ} → kinds_from ≤ v → kinds_from + 7 ≤ v → (leb kinds_from v && ltb v (kinds_from + 7)) ≡ false
        late {v} a g = ap (λ (b : Bool). b && ltb v (kinds_from + 7)) (le-leb kinds_from v a) ∙ le-ltb v (kinds_from + 7) g

    pub unread-answer : need_all (is_read (lean_in w end pins)) 29 output_place (lean_in w end pins).elements ≡ answer_of 29 (place_of (unread_from w' end 0))
    unfolding lean_in
    unread-answer = search end 0 (omega arith)

    -- and without its marks the memory is as it was
    pub clean-same : {u : List ℕ} → Cleaned w' end u → u ≡ w
    clean-same {u} c = ext_get_or 0 u w (c.size ∙ m.size) (λ j _. at j)
      where
        at : (j : ℕ) → get_or u j 0 ≡ get_or w j 0
        at j =
            let l = p.ready.below in
            elim (dec_le end j) [
              | yes h ↦ c.rest j h ∙ elim (dec_le 8192 j) [
                | yes g ↦ m.high j g
                | no g ↦ m.low j (omega arith) ∙ past (Read pins j) refl h
              ]
              | no h ↦ c.done j (omega arith) ∙ rw (mark-is j (omega arith), m.low j (omega arith)) (by (Read pins j) refl)
            ]
          where
            past : (b : Bool) → Read pins j ≡ b → end ≤ j → cond b read_mark (get_or w j 0) ≡ get_or w j 0
            past true e h = absurd (let f = (m.free j e).0 in omega arith)
            past false e h = refl

            by : (b : Bool) → Read pins j ≡ b → cond b 65535 (cond b read_mark (get_or w j 0)) ≡ get_or w j 0
            by true e = sym (m.free j e).1
            by false e = refl

-- ---- one terminal after the other loses its mark, and the lowest that nobody reads is known

-- the place that is found, and that there is none
pub there : (n : ℕ) → n < 8192 → place_of n ≡ Some n
there n h = ap (λ (b : Bool). cond b (Some n) None) (lt-ltb n 8192 h)

pub nowhere : (n : ℕ) → 8192 ≤ n → place_of n ≡ None
nowhere n h = ap (λ (b : Bool). cond b (Some n) None) (le-ltb n 8192 h)

abbrev LowSoFar : List ℕ → ℕ → ℕ → ℕ → Type 0
LowSoFar w end x low = cond (ltb low 8192) low (unread_from w (end - x) x) ≡ unread_from w end 0

pub record Cleaning (w : List ℕ) (end x low : ℕ) (u : List ℕ) : Type 0 where
  pub clean : Cleaned w x u
  pub below : low ≤ 8192
  pub found : low < 8192 → low < x
  pub so_far : LowSoFar w end x low

pub cleaning_end : {w u : List ℕ} {end x low : ℕ} → x ≤ end → end ≤ x → Cleaning w end x low u → (low ≡ unread_from w end 0) × Cleaned w end u
cleaning_end {w} {u} {end} {x} {low} g h c = (
  elim (dec_le 8192 low) [
    | yes l ↦ (let b = c.below in let z : low ≡ 8192 = omega arith in let e : end - x ≡ 0 = omega arith in z ∙ sym (ap (λ (b : Bool). cond b low 8192) (le-ltb low 8192 l)) ∙ ap (λ (n : ℕ). cond (ltb low 8192) low (unread_from w n x)) (sym e) ∙ c.so_far)
    | no l ↦ sym (ap (λ (b : Bool). cond b low (unread_from w (end - x) x)) (lt-ltb low 8192 (omega arith))) ∙ c.so_far
  ],
  (let e : x ≡ end = omega arith in subst (λ (n : ℕ). Cleaned w n u) e c.clean),
)

-- the lower of two, where the first is x or none
lower-is : (b : Bool) (x low : ℕ) → x < 8192 → low ≤ 8192 → (low < 8192 → low < x) → cond (ltb (cond b x 8192) low) (cond b x 8192) low ≡ cond (ltb low 8192) low (cond b x low)
lower-is true x low l b f = elim (dec_le 8192 low) [
  | yes h ↦ rw (lt-ltb x low (omega arith), le-ltb low 8192 h)
  | no h ↦ (let g = f (omega arith) in rw (le-ltb x low (omega arith), lt-ltb low 8192 (omega arith)))
]
lower-is false x low l b f = rw (le-ltb 8192 low b) (by (ltb low 8192))
  where
    by : (c : Bool) → low ≡ cond c low low
    by true = refl
    by false = refl

pub cleaning_next : {w u : List ℕ} {end x low : ℕ} (place next m : ℕ) → 8192 ≤ length w → x < end → end ≤ 8192 → Cleaning w end x low u
    → place ≡ cond (unread_at u x) x 8192 → next ≡ cond (ltb place low) place low → m ≡ without_mark (get_or u x 0) → Cleaning w end (x + 1) next (set u x m)
cleaning_next {w} {u} {end} {x} {low} place next m z h l c p n k =
    let r = c.clean.rest in
    let s = c.clean.size in
    let same : unread_at u x ≡ unread_at w x = rw (r x (omega arith), r (roots_at + x) (omega arith)) in
    let q : next ≡ cond (ltb low 8192) low (cond (unread_at w x) x low) = n ∙ ap (λ (y : ℕ). cond (ltb y low) y low) (p ∙ ap (λ (b : Bool). cond b x 8192) same) ∙ lower-is (unread_at w x) x low (omega arith) c.below c.found in
    let e : end - x ≡ suc (end - (x + 1)) = omega arith in
    let t : cond (ltb low 8192) low (cond (unread_at w x) x (unread_from w (end - (x + 1)) (x + 1))) ≡ unread_from w end 0 = ap (λ (n : ℕ). cond (ltb low 8192) low (unread_from w n x)) (sym e) ∙ c.so_far in
    record {
      clean = record {
        size = length-set u x m ∙ c.clean.size;
        done = λ j g. elim (ℕ_discrete j x) [
          | yes y ↦ ap (λ (i : ℕ). get_or (set u x m) i 0) y ∙ get_or-set_same u x m 0 (omega arith) ∙ k ∙ ap without_mark (r x (omega arith)) ∙ ap (λ (i : ℕ). without_mark (get_or w i 0)) (sym y)
          | no d ↦ get_or-set_other u x j m 0 d ∙ c.clean.done j (omega arith)
        ];
        rest = λ j g. get_or-set_other u x j m 0 (λ y. omega arith) ∙ r j (omega arith);
      };
      below = subst (λ (y : ℕ). y ≤ 8192) (sym q) (small (ltb low 8192) (unread_at w x) c.below);
      found = subst (λ (y : ℕ). y < 8192 → y < x + 1) (sym q) (up (ltb low 8192) (unread_at w x) (λ g. let f = c.found g in omega arith));
      so_far = subst (λ (y : ℕ). LowSoFar w end (x + 1) y) (sym q) (on (unread_at w x) t);
    }
  where
    small : (a b : Bool) → low ≤ 8192 → cond a low (cond b x low) ≤ 8192
    small true b g = omega arith
    small false true g = omega arith
    small false false g = omega arith

    up : (a b : Bool) → (low < 8192 → low < x + 1) → cond a low (cond b x low) < 8192 → cond a low (cond b x low) < x + 1
    up true b f = f
    up false true f = λ g. omega arith
    up false false f = f

    on : (b : Bool) → cond (ltb low 8192) low (cond b x (unread_from w (end - (x + 1)) (x + 1))) ≡ unread_from w end 0
        → LowSoFar w end (x + 1) (cond (ltb low 8192) low (cond b x low))
    on b t = elim (dec_le 8192 low) [
      | no g ↦ (let f = lt-ltb low 8192 (omega arith) in rw (f, f) (rw f at t))
      | yes g ↦ rw (le-ltb low 8192 g) (last b g (rw (le-ltb low 8192 g) at t))
    ]
      where
        last : (b : Bool) → 8192 ≤ low → cond b x (unread_from w (end - (x + 1)) (x + 1)) ≡ unread_from w end 0 → cond (ltb (cond b x low) 8192) (cond b x low) (unread_from w (end - (x + 1)) (x + 1)) ≡ unread_from w end 0
        last true g t = rw (lt-ltb x 8192 (omega arith)) t
        last false g t = rw (le-ltb low 8192 g) t

-- ---- the lean netlist that was made of a full one may be marked

pub markable : (u : List ℕ) (e k p : ℕ) → Ready u e k p → (w : List ℕ) (end : ℕ) → Leant u e k p w end → Markable w end p
markable u e k p r w end l = record {
  ready = l.ready;
  drivers = λ j z h.
      let y = l.around.below j (omega arith) in
      omega (arith, output-below u e k p r (get_or u j 0) (driver_out u e k p r j h (λ q. omega arith)));
  sources = λ x h d g. lean_free u e k p r w end l (entry w x - 1) (source_out u e k p r w end l x h d g);
  shown = λ j h d. lean_free u e k p r w end l (get_or w (lean_pins_at + j) 0 / 2) (pin_out u e k p r w end l j h d);
}

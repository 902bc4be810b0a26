-- The registers by rising output, as the memory lists them and as the definition does. Assumes nothing.
use Prim.Native.Nat.{ℕ, zero, suc, ◌+◌, ◌≤◌, ◌<◌}
use mathlib.Core.Path.{◌≡◌, refl, sym, ap, ◌∙◌, subst}
use mathlib.Core.Logic.{⊎_elim}
use mathlib.Core.Bool.{Bool, true, false, cond}
use mathlib.Core.List.{List, [], ◌∷◌, ◌++◌, map}
use native.Mathlib.Omega.{arith}
use native.Mathlib.Decide.{ℕ_discrete}
use lib.ListN.{length, get_or, set, length-set, length-append, length-map}
use lib.Seq.{get_or-set_same, get_or-append-add}
use lib.Dec.{T, eqb, eqb→eq, eqb_refl}
use borrow.Author.Tests.{eqb-false}
use Rattle.laws.proofs.Tests.{or_elim, or_left, or_right}
use Rattle.calculus.specs.Terms.{part_at}
use Rattle.calculus.specs.Net.{Element, point, part, Net}
use Rattle.calculus.specs.Record.{Among}
use Rattle.circuit_theorems.specs.Terminals.{has}
use Rattle.trace_calculus.specs.Trace.{terminals, registers, place}
use Rattle.trace_theorems.proofs.Sources.{has-append, has_left, has_right, out_terminal}
use Rattle.memory.specs.Map.{memory_size, kind_number}
use Rattle.trace_theorems.proofs.Lists.{has-at, place_at, at_place, Up, up_low, up_weaken, up_once}
use Rattle.trace_theorems.proofs.Lending.{registers_in, in_registers, registers_up}
use Rattle.trace_theorems.proofs.Owners.{start, last, same_owner}
use Rattle.lean.specs.Layout.{left_out, kinds_from}
use Rattle.trace_steps.specs.Map.{registers_at, register_entry}
use Rattle.trace_steps.specs.Turns.{take_turns}
use Rattle.trace_steps.specs.Pins.{Counted, counted, register_one}
use Rattle.trace_steps.proofs.Laws.{set_other}
use Rattle.trace.specs.Tables.{TableEntry, of_pin, of_wire, of_point, of_part, Tabled}
use Rattle.trace.proofs.Turning.{turns-keep}
use Rattle.trace.proofs.ElementLaws.{in_out_lem}

-- ---- rising lists

up_snoc : (is : List ℕ) (n x : ℕ) → n ≤ x → Up is n → ((i : ℕ) → T (has is i) → i < x) → Up (is ++ x ∷ []) n
up_snoc [] n x l u f = (l, tt)
up_snoc (i ∷ is) n x l u f = (u.0, up_snoc is (i + 1) x (let k = f i (or_left (eqb i i) (has is i) (eqb_refl i)) in omega arith) u.1 (λ j t. f j (or_right (eqb i j) (has is j) t)))

-- two rising lists with the same members are one
rising-same : (xs ys : List ℕ) (n : ℕ) → Up xs n → Up ys n → ((x : ℕ) → T (has xs x) → T (has ys x)) → ((x : ℕ) → T (has ys x) → T (has xs x)) → xs ≡ ys
rising-same [] [] n u v f g = refl
rising-same [] (y ∷ ys) n u v f g = absurd (g y (or_left (eqb y y) (has ys y) (eqb_refl y)))
rising-same (x ∷ xs) [] n u v f g = absurd (f x (or_left (eqb x x) (has xs x) (eqb_refl x)))
rising-same (x ∷ xs) (y ∷ ys) n u v f g =
    let p : x ≤ y = or_elim (eqb x y) (has xs y) (g y (or_left (eqb y y) (has ys y) (eqb_refl y))) (λ t. let e = eqb→eq x y t in omega arith) (λ t. let l = up_low xs (x + 1) y u.1 t in omega arith) in
    let q : y ≤ x = or_elim (eqb y x) (has ys x) (f x (or_left (eqb x x) (has xs x) (eqb_refl x))) (λ t. let e = eqb→eq y x t in omega arith) (λ t. let l = up_low ys (y + 1) x v.1 t in omega arith) in
    let e : x ≡ y = omega arith in
    ap (λ (z : ℕ). z ∷ xs) e ∙ ap (λ (l : List ℕ). y ∷ l)
    (rising-same xs ys (x + 1) u.1 (subst (λ (z : ℕ). Up ys (z + 1)) (sym e) v.1)
    (λ z t. or_elim (eqb y z) (has ys z) (f z (or_right (eqb x z) (has xs z) t)) (λ a. absurd (let b = eqb→eq y z a in let l = up_low xs (x + 1) z u.1 t in omega arith)) (λ a. a))
    (λ z t. or_elim (eqb x z) (has xs z) (g z (or_right (eqb y z) (has ys z) t)) (λ a. absurd (let b = eqb→eq x z a in let l = up_low ys (y + 1) z v.1 t in omega arith)) (λ a. a)))

-- ---- the definition's list

abbrev next : ℕ → ℕ
next i = i + 1

up_next : (is : List ℕ) (n : ℕ) → Up is n → Up (map next is) (n + 1)
up_next [] n u = tt
up_next (i ∷ is) n u = (let l = u.0 in omega arith, up_next is (i + 1) u.1)

map-has : (is : List ℕ) (x : ℕ) → T (has (map next is) x) → (i : ℕ) × T (has is i) × (i + 1 ≡ x)
map-has [] x t = absurd t
map-has (i ∷ is) x t = or_elim (eqb (i + 1) x) (has (map next is) x) t (λ v. (i, or_left (eqb i i) (has is i) (eqb_refl i), eqb→eq (i + 1) x v)) (λ v. let r = map-has is x v in (r.0, or_right (eqb i r.0) (has is r.0) r.1, r.2))

has-map : (is : List ℕ) (i : ℕ) → T (has is i) → T (has (map next is) (i + 1))
has-map [] i t = absurd t
has-map (j ∷ is) i t = or_elim (eqb j i) (has is i) t (λ v. or_left (eqb (j + 1) (i + 1)) (has (map next is) (i + 1)) (subst (λ (z : ℕ). T (eqb (j + 1) (z + 1))) (eqb→eq j i v) (eqb_refl (j + 1)))) (λ v. or_right (eqb (j + 1) (i + 1)) (has (map next is) (i + 1)) (has-map is i v))

-- ---- the memory's list

-- the first n numbers of the registers' list
abbrev pub listed : List ℕ → ℕ → List ℕ
listed w zero = []
listed w (suc n) = listed w n ++ get_or w (registers_at + n) 0 ∷ []

listed_same : (w v : List ℕ) (n : ℕ) → ((i : ℕ) → i < n → get_or v (registers_at + i) 0 ≡ get_or w (registers_at + i) 0) → listed v n ≡ listed w n
listed_same w v zero f = refl
listed_same w v (suc n) f = ap (λ (l : List ℕ). l ++ get_or v (registers_at + n) 0 ∷ []) (listed_same w v n (λ i l. f i (omega arith))) ∙ ap (λ (x : ℕ). listed w n ++ x ∷ []) (f n (omega arith))

pub listed-length : (w : List ℕ) (n : ℕ) → length (listed w n) ≡ n
listed-length w zero = refl
listed-length w (suc n) = length-append (listed w n) (get_or w (registers_at + n) 0 ∷ []) ∙ (let a = listed-length w n in omega arith)

pub listed_at : (w : List ℕ) (n i : ℕ) → i < n → get_or (listed w n) i 0 ≡ get_or w (registers_at + i) 0
listed_at w zero i l = absurd (omega arith)
listed_at w (suc n) i l = elim (ℕ_discrete i n) [
  | yes e ↦ (let z : length (listed w n) + 0 ≡ i = (let a = listed-length w n in omega arith) in ap (λ (k : ℕ). get_or (listed w n ++ get_or w (registers_at + n) 0 ∷ []) k 0) (sym z) ∙ get_or-append-add (listed w n) (get_or w (registers_at + n) 0 ∷ []) 0 0 ∙ ap (λ (k : ℕ). get_or w (registers_at + k) 0) (sym e))
  | no d ↦ (let a = listed-length w n in lib.ListN.get_or-append (listed w n) (get_or w (registers_at + n) 0 ∷ []) 0 i (omega arith) ∙ listed_at w n i (omega arith))
]

-- the outputs of registers among the first x terminals
pub record Collected (u : List ℕ) (x : ℕ) (c : Counted) : Type 0 where
  pub table : (y : ℕ) → y < 8192 → get_or c.mem y 0 ≡ get_or u y 0
  pub size : length c.mem ≡ length u
  pub few : c.count ≤ x
  pub up : Up (listed c.mem c.count) 0
  pub below : (y : ℕ) → T (has (listed c.mem c.count) y) → y < x
  pub is_register : (y : ℕ) → T (has (listed c.mem c.count) y) → get_or u y 0 ≡ register_entry
  pub all : (y : ℕ) → y < x → get_or u y 0 ≡ register_entry → T (has (listed c.mem c.count) y)

pub collect : (u : List ℕ) (end : ℕ) → memory_size ≤ length u → end ≤ 8192 → Collected u end (take_turns register_one end 0 (counted u 0))
collect u end size few = turns-keep register_one (Collected u) (counted u 0) start end step
  where
    start : Collected u 0 (counted u 0)
    start = record { table = λ y l. refl; size = refl; few = omega arith; up = tt; below = λ y t. absurd t; is_register = λ y t. absurd t; all = λ y l. absurd (omega arith) }

    step : (x : ℕ) (c : Counted) → x < end → Collected u x c → Collected u (suc x) (register_one x c)
    step x c l q = by (eqb (get_or c.mem x 0) register_entry) refl
      where
        same-x : get_or c.mem x 0 ≡ get_or u x 0
        same-x = q.table x (omega arith)

        yes-case : get_or u x 0 ≡ register_entry → Collected u (suc x) (counted (set c.mem (registers_at + c.count) x) (c.count + 1))
        yes-case e =
            let n = c.count in
            let w = c.mem in
            let v = set w (registers_at + n) x in
            let z = q.size in
            let few-n = q.few in
            let at_n : get_or v (registers_at + n) 0 ≡ x = get_or-set_same w (registers_at + n) x 0 (omega arith) in
            let old : (i : ℕ) → (i ≡ registers_at + n → ⊥) → get_or v i 0 ≡ get_or w i 0 = λ i d. set_other w (registers_at + n) i x d in
            let shape : listed v (n + 1) ≡ listed w n ++ x ∷ [] =
            (let k : n + 1 ≡ suc n = omega arith in ap (listed v) k ∙ ap (λ (l : List ℕ). l ++ get_or v (registers_at + n) 0 ∷ []) (listed_same w v n (λ i l. old (registers_at + i) (λ t. omega arith))) ∙ ap (λ (y : ℕ). listed w n ++ y ∷ []) at_n) in
            record {
              table = λ y h. old y (λ t. omega arith) ∙ q.table y h;
              size = length-set w (registers_at + n) x ∙ q.size;
              few = omega arith;
              up = subst (λ (l : List ℕ). Up l 0) (sym shape) (up_snoc (listed w n) 0 x (omega arith) q.up q.below);
              below = λ y t. split y (subst (λ (l : List ℕ). T (has l y)) shape t) (λ h. (let k = q.below y h in omega arith)) (λ h. omega arith);
              is_register = λ y t. split y (subst (λ (l : List ℕ). T (has l y)) shape t) (q.is_register y) (λ h. ap (λ (k : ℕ). get_or u k 0) (sym h) ∙ e);
              all = λ y h f. subst (λ (l : List ℕ). T (has l y)) (sym shape) (elim (ℕ_discrete y x) [
                | yes k ↦ has_right (listed w n) (x ∷ []) y (or_left (eqb x y) false (subst (λ (a : ℕ). T (eqb x a)) (sym k) (eqb_refl x)))
                | no d ↦ has_left (listed w n) (x ∷ []) y (q.all y (omega arith) f)
              ]);
            }
          where
            split : {X : Type 0} (y : ℕ) → T (has (listed c.mem c.count ++ x ∷ []) y) → (T (has (listed c.mem c.count) y) → X) → (x ≡ y → X) → X
            split y t f g = ⊎_elim f (λ h. or_elim (eqb x y) false h (λ k. g (eqb→eq x y k)) (λ k. absurd k)) (has-append (listed c.mem c.count) (x ∷ []) y t)

        no-case : (get_or u x 0 ≡ register_entry → ⊥) → Collected u (suc x) c
        no-case d = record {
          table = q.table;
          size = q.size;
          few = let k = q.few in omega arith;
          up = q.up;
          below = λ y t. (let k = q.below y t in omega arith);
          is_register = q.is_register;
          all = λ y h f. elim (ℕ_discrete y x) [ yes k ↦ absurd (d (ap (λ (a : ℕ). get_or u a 0) (sym k) ∙ f)) | no k ↦ q.all y (omega arith) f ];
        }

        by : (b : Bool) → eqb (get_or c.mem x 0) register_entry ≡ b → Collected u (suc x) (cond b (counted (set c.mem (registers_at + c.count) x) (c.count + 1)) c)
        by true e = yes-case (sym same-x ∙ eqb→eq (get_or c.mem x 0) register_entry (subst T (sym e) tt))
        by false e = no-case (λ h. eqb-false (get_or c.mem x 0) register_entry e (same-x ∙ h))

-- ---- both lists

module _ (u : List ℕ) (m : Net) (end pins : ℕ) (t : Tabled u m end pins) where
  pub register_of : (x : ℕ) → x < end → get_or u x 0 ≡ register_entry → (i : ℕ) × Among (part 1 i) m.elements × (i + 1 ≡ x)
  register_of x l e = go (t.entries x terminal) refl
    where
      terminal : T (has (terminals m.elements) x)
      terminal = ⊎_elim (λ h. h) (λ h. absurd (⊎_elim (λ (a : get_or u x 0 < 8192). omega arith) (λ (a : left_out ≤ get_or u x 0). omega arith) h)) (t.others x l)

      go : {v : ℕ} → TableEntry m x v → v ≡ get_or u x 0 → (i : ℕ) × Among (part 1 i) m.elements × (i + 1 ≡ x)
      go (of_pin a b) q = absurd (let f = t.few in omega arith)
      go (of_wire y a b c) q = absurd (let k = t.low y (out_terminal m.elements y c) in let f = t.few in omega arith)
      go (of_point i a b) q = absurd (omega arith)
      go (of_part p i a b c) q = let k : p ≡ 1 = omega arith in (i, subst (λ (z : ℕ). Among (part z i) m.elements) k a, subst (λ (z : ℕ). i + (part_at z).inputs ≡ x) k b)

  -- the entry of an element's output
  pub element_entry : (a : Element) → Among a m.elements → get_or u (last a) 0 ≡ kinds_from + kind_number a
  element_entry a h = go (t.entries (last a) (out_terminal m.elements (last a) (in_out_lem a h))) refl
    where
      start-last : (a : Element) → start a ≤ last a
      start-last (point i) = omega arith
      start-last (part p i) = omega arith

      one : (b : Element) → Among b m.elements → last b ≡ last a → b ≡ a
      one b k e = same_owner 0 t.formed.end (last a) t.formed.rising k h (let l = start-last b in omega arith) (omega arith) (start-last a) (omega arith)

      go : {v : ℕ} → TableEntry m (last a) v → v ≡ get_or u (last a) 0 → get_or u (last a) 0 ≡ kinds_from + kind_number a
      go (of_pin x y) q = absurd (subst T y (in_out_lem a h))
      go (of_wire y x z c) q = absurd (subst T z (in_out_lem a h))
      go (of_point i x e) q = sym q ∙ ap (λ (b : Element). kinds_from + kind_number b) (one (point i) x e)
      go (of_part p i x e c) q = sym q ∙ ap (λ (b : Element). kinds_from + kind_number b) (one (part p i) x e)

  of-register : (i : ℕ) → Among (part 1 i) m.elements → (i + 1 < end) × (get_or u (i + 1) 0 ≡ register_entry)
  of-register i h = (t.low (i + 1) (out_terminal m.elements (i + 1) (in_out_lem (part 1 i) h)), element_entry (part 1 i) h)

  pub lists_same : (c : Counted) → Collected u end c → listed c.mem c.count ≡ map next (registers m.elements)
  lists_same c q =
      rising-same (listed c.mem c.count) (map next (registers m.elements)) 0 q.up
      (up_weaken (map next (registers m.elements)) 1 0 (omega arith) (up_next (registers m.elements) 0 (registers_up m.elements 0 t.formed.end t.formed.rising)))
      (λ x h. let r = register_of x (q.below x h) (q.is_register x h) in subst (λ (z : ℕ). T (has (map next (registers m.elements)) z)) r.2 (has-map (registers m.elements) r.0 (in_registers r.0 r.1)))
      (λ x h. let r = map-has (registers m.elements) x h in let k = of-register r.0 (registers_in m.elements r.0 r.1) in subst (λ (z : ℕ). T (has (listed c.mem c.count) z)) r.2 (q.all (r.0 + 1) k.0 k.1))

  module _ (c : Counted) (q : Collected u end c) where
    abbrev rs : List ℕ
    rs = registers m.elements

    pub registers-length : length (registers m.elements) ≡ c.count
    registers-length = sym (length-map rs next) ∙ ap length (sym (lists_same c q)) ∙ listed-length c.mem c.count

    at_map : (xs : List ℕ) (j : ℕ) → j < length xs → get_or (map next xs) j 0 ≡ get_or xs j 0 + 1
    at_map [] j l = absurd (omega arith)
    at_map (x ∷ xs) zero l = refl
    at_map (x ∷ xs) (suc j) l = at_map xs j (omega arith)

    -- the j-th of the memory's list is the output of the definition's j-th register
    pub register_at_lem : (j : ℕ) → j < c.count → Among (part 1 (get_or rs j 0)) m.elements × (get_or c.mem (registers_at + j) 0 ≡ get_or rs j 0 + 1)
    register_at_lem j l =
        let n = registers-length in
        (registers_in m.elements (get_or rs j 0) (has-at rs j (omega arith)), sym (listed_at c.mem c.count j l) ∙ ap (λ (xs : List ℕ). get_or xs j 0) (lists_same c q) ∙ at_map rs j (omega arith))

    -- and each register is there
    pub register_number : (i : ℕ) → Among (part 1 i) m.elements → (place rs i < c.count) × (get_or rs (place rs i) 0 ≡ i)
    register_number i h = let n = registers-length in let r = at_place rs i (in_registers i h) in (omega (arith, r.0), r.1)

    -- no two are one
    pub registers-apart : (i j : ℕ) → i < c.count → j < c.count → get_or rs i 0 ≡ get_or rs j 0 → i ≡ j
    registers-apart i j l h e =
        let n = registers-length in
        let o = up_once rs 0 (registers_up m.elements 0 t.formed.end t.formed.rising) in
        sym (place_at rs o i (omega arith)) ∙ ap (place rs) e ∙ place_at rs o j (omega arith)

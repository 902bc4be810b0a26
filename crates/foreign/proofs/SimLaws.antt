-- The table says the same as the netlist: what a record does to the one it does to the other. Assumes nothing.
use Prim.Native.Nat.{ℕ, zero, suc, ◌+◌, ◌-◌, ◌≤◌, ◌<◌, min}
use mathlib.Core.Path.{◌≡◌, refl, sym, ap, ap₂, ◌∙◌, subst}
use mathlib.Core.Bool.{Bool, true, false, not, cond, ◌&&◌, ◌||◌}
use mathlib.Core.List.{List, [], ◌∷◌, ◌++◌}
use native.Mathlib.Omega.{arith}
use native.Mathlib.Decide.{dec_le, dec_lt, ℕ_discrete}
use lib.Dec.{T, eqb, leb, ltb, eqb→eq, leb→le}
use lib.ListN.{length, get_or, set, replicate, length-set, length-append, length-replicate, get_or-replicate, get_or-append}
use lib.Seq.{sets, length-sets, get_or-set_same, get_or-set_other, get_or_at, drop-set-lt}
use borrow.Author.Tests.{eq-eqb, ne_eqb, lt-ltb, le-ltb, le-leb, lt-leb}
use Rattle.laws.proofs.Tests.{by_eqb, is_false}
use Rattle.laws.proofs.Regions.{sets_outside, sets-before, sets-drop, sets-at}
use Rattle.calculus.specs.Answer.{Answer, good, refused, ◌>>=◌, numbered, need}
use Rattle.calculus.specs.Terms.{part_at}
use Rattle.calculus.specs.Net.{Terminal, inp, out, Interface, Element, point, part, Wire, Net, part_side, Item, element, wire, pin}
use Rattle.calculus.specs.Inputs.{tally, ins, made_at_lem, targets, is_out}
use Rattle.circuit_theorems.specs.Formed.{Rising}
use Rattle.circuit_theorems.proofs.Terminals.{out_high, made-high}
use Rattle.circuit_theorems.proofs.Drivers.{made-append, targets-append}
use Rattle.memory.specs.Map.{memory_size}
use Rattle.foreign_calculus.specs.Foreign.{Reading, first_of, past_of, starts, is_in, more_element, more_wire, more_pin, judge}
use Rattle.foreign_calculus.specs.Refused.{ReadAs}
use Rattle.foreign_theorems.proofs.Sound.{numbered-rising}
use Rattle.circuit_theorems.proofs.NetRead.{out_not_made}
use Rattle.foreign.specs.Table.{cells_of, driven, cell_at, cell_of, TableHolds, LaterKept}
use Rattle.foreign.specs.Take.{Took, next, wrong, took_element, took_wire, took_pin, took}

-- ---- one more

or_assoc : (a b c : Bool) → a || (b || c) ≡ (a || b) || c
or_assoc true b c = refl
or_assoc false b c = refl

out_more : (es : List Element) (e : Element) (x : ℕ) → is_out (es ++ (e ∷ [])) x ≡ is_out es x || is_out (e ∷ []) x
out_more [] e x = refl
out_more (point i ∷ es) e x = ap (λ (b : Bool). eqb (i + 1) x || b) (out_more es e x) ∙ or_assoc (eqb (i + 1) x) (is_out es x) (is_out (e ∷ []) x)
out_more (part p i ∷ es) e x = ap (λ (b : Bool). eqb (i + (part_at p).inputs) x || b) (out_more es e x) ∙ or_assoc (eqb (i + (part_at p).inputs) x) (is_out es x) (is_out (e ∷ []) x)

ins-more : (ps : Interface) (t : Terminal) (x : ℕ) → ins (ps ++ (t ∷ [])) x ≡ ins ps x + ins (t ∷ []) x
ins-more [] t x = omega arith
ins-more (inp i ∷ ps) t x = omega (arith, ins-more ps t x)
ins-more (out o ∷ ps) t x = ins-more ps t x

-- ---- an element's cells

abbrev inputs_of : Element → ℕ
inputs_of (point i) = 1
inputs_of (part p i) = (part_at p).inputs

past_is : (e : Element) → past_of e ≡ first_of e + inputs_of e + 1
past_is (point i) = omega arith
past_is (part p i) = refl

made_alone : (e : Element) (x : ℕ) → made_at_lem (e ∷ []) x ≡ ins (part_side (inputs_of e) (first_of e)) x
made_alone (point i) x = refl
made_alone (part p i) x = omega arith

out_alone : (e : Element) (x : ℕ) → is_out (e ∷ []) x ≡ eqb (first_of e + inputs_of e) x || false
out_alone (point i) x = refl
out_alone (part p i) x = refl

or_false : (b : Bool) → b || false ≡ b
or_false true = refl
or_false false = refl

part_not : (k i x : ℕ) → (i ≤ x → x < i + k → ⊥) → ins (part_side k i) x ≡ 0
part_not zero i x f = refl
part_not (suc k) i x f = by_eqb (λ b. cond b 1 0 + ins (part_side k (i + 1)) x ≡ 0) i x (λ q. absurd (f (omega arith) (omega arith))) (λ q. omega (arith, part_not k (i + 1) x (λ a b. f (omega arith) (omega arith))))

part_in : (k i x : ℕ) → i ≤ x → x < i + k → ins (part_side k i) x ≡ 1
part_in zero i x l h = absurd (omega arith)
part_in (suc k) i x l h =
    by_eqb (λ b. cond b 1 0 + ins (part_side k (i + 1)) x ≡ 1) i x (λ q. omega (arith, part_not k (i + 1) x (λ a b. omega arith))) (λ q. omega (arith, part_in k (i + 1) x (omega arith) (omega arith)))

cells_length : (k : ℕ) → length (cells_of k) ≡ k + 1
cells_length k = length-append (replicate k 1) (4 ∷ []) ∙ ap (λ (x : ℕ). x + 1) (length-replicate k 1)

cells_in : (k d : ℕ) → d < k → get_or (cells_of k) d 0 ≡ 1
cells_in k d h = get_or-append (replicate k 1) (4 ∷ []) 0 d (rw length-replicate h) ∙ get_or-replicate k d 1 0 h

cells_out : (k : ℕ) → get_or (cells_of k) k 0 ≡ 4
cells_out k = get_or_at (replicate k 1) 4 [] 0 k (length-replicate k 1)

-- ---- what a terminal is

module _ (m : Net) (x : ℕ) where
  pub cell_out : is_out m.elements x ≡ true → cell_of m x ≡ 4
  unfolding cell_of
  cell_out o = rw o

  pub cell_in : is_out m.elements x ≡ false → 1 ≤ made_at_lem m.elements x → cell_of m x ≡ 1 + min 2 (targets m.wires x + ins m.pins x)
  unfolding cell_of
  cell_in o l = rw (o, le-leb 1 (made_at_lem m.elements x) l)

  pub cell_no : is_out m.elements x ≡ false → made_at_lem m.elements x ≡ 0 → cell_of m x ≡ 0
  unfolding cell_of
  cell_no o l = rw (o, lt-leb 1 (made_at_lem m.elements x) (omega arith))

cell_same : (m n : Net) (x : ℕ) → is_out m.elements x ≡ is_out n.elements x → made_at_lem m.elements x ≡ made_at_lem n.elements x
    → targets m.wires x + ins m.pins x ≡ targets n.wires x + ins n.pins x → cell_of m x ≡ cell_of n x
unfolding cell_of
cell_same m n x o l c = rw (o, l, c)

-- ---- what comes of it

-- at an offset, what the table gives and what the definition says
abbrev pub Matches : ℕ → Took → Answer Reading → List ℕ → Type 0
Matches at (next a b v) (good τ) w = (a ≡ τ.stage) × (b ≡ τ.next) × TableHolds v τ.net × LaterKept w v
Matches at (wrong k v) (refused why) w = (why ≡ numbered k at) × LaterKept w v
Matches at (next a b v) (refused why) w = ⊥
Matches at (wrong k v) (good τ) w = ⊥

pub keeps_same : (w : List ℕ) → LaterKept w w
keeps_same w = record { same = refl; later = refl }

module _ (lean : Bool) (at : ℕ) (p : List ℕ) (σ : Reading) (w : List ℕ) (size : memory_size ≤ length w) (ok : ReadAs lean p σ) (h : TableHolds w σ.net) where
  up : Rising σ.net.elements 0 σ.next
  up = numbered-rising lean σ.net.elements 0 σ.next ok.numbering

  no-out : (x : ℕ) → σ.next ≤ x → is_out σ.net.elements x ≡ false
  no-out x l = is_false _ (λ t. omega (arith, out_high σ.net.elements 0 σ.next x up t))

  no-made : (x : ℕ) → σ.next ≤ x → made_at_lem σ.net.elements x ≡ 0
  no-made x l = made-high σ.net.elements 0 σ.next x up l

  cell-is : (x : ℕ) → cell_at w x ≡ cell_of σ.net x
  cell-is x =
      elim (dec_lt x 8192) [
        | yes l ↦ rw (lt-ltb x 8192 l) (h x l)
        | no l ↦ let f = ok.few in rw (le-ltb x 8192 (omega arith)) (sym (cell_no σ.net x (no-out x (omega arith)) (no-made x (omega arith))))
      ]

  -- ---- an element

  module _ (e : Element) (z : σ.stage ≡ 0) (low : σ.next ≤ first_of e) (few : past_of e ≤ 8192) where
    abbrev k : ℕ
    k = inputs_of e

    abbrev i : ℕ
    i = first_of e

    abbrev m' : Net
    m' = (more_element e σ).net

    fits : i + length (cells_of k) ≤ length w
    fits = omega (arith, cells_length k, past_is e)

    none_here : (x : ℕ) → targets σ.net.wires x + ins σ.net.pins x ≡ 0
    none_here x = rw (ok.no_wires z, ok.no_pins (omega arith))

    inside : (d : ℕ) → d < k → get_or (sets w i (cells_of k)) (i + d) 0 ≡ cell_of m' (i + d)
    inside d l =
        let o : is_out (σ.net.elements ++ (e ∷ [])) (i + d) ≡ false =
        out_more σ.net.elements e (i + d) ∙ ap₂ (λ (a b : Bool). a || b) (no-out (i + d) (omega arith)) (out_alone e (i + d) ∙ or_false _ ∙ ne_eqb (i + k) (i + d) (λ q. omega arith)) in
        let c : 1 ≤ made_at_lem (σ.net.elements ++ (e ∷ [])) (i + d) = omega (arith, made-append σ.net.elements (e ∷ []) (i + d), made_alone e (i + d), part_in k i (i + d) (omega arith) (omega arith)) in
        sets-at (cells_of k) w i d fits (omega (arith, cells_length k)) ∙ cells_in k d l
        ∙ sym (cell_in m' (i + d) o c ∙ ap (λ (x : ℕ). 1 + min 2 x) (none_here (i + d)))

    output : get_or (sets w i (cells_of k)) (i + k) 0 ≡ cell_of m' (i + k)
    output =
        let o : is_out (σ.net.elements ++ (e ∷ [])) (i + k) ≡ true =
        out_more σ.net.elements e (i + k) ∙ ap₂ (λ (a b : Bool). a || b) (no-out (i + k) (omega arith)) (out_alone e (i + k) ∙ or_false _ ∙ eq-eqb (i + k) (i + k) refl) in
        sets-at (cells_of k) w i k fits (omega (arith, cells_length k)) ∙ cells_out k ∙ sym (cell_out m' (i + k) o)

    outside : (x : ℕ) → (i ≤ x → x < i + k + 1 → ⊥) → x < 8192 → get_or (sets w i (cells_of k)) x 0 ≡ cell_of m' x
    outside x f l =
        let o : is_out (σ.net.elements ++ (e ∷ [])) x ≡ is_out σ.net.elements x =
        out_more σ.net.elements e x ∙ ap (λ (b : Bool). is_out σ.net.elements x || b) (out_alone e x ∙ or_false _ ∙ ne_eqb (i + k) x (λ q. f (omega arith) (omega arith))) ∙ or_false _ in
        let c : made_at_lem (σ.net.elements ++ (e ∷ [])) x ≡ made_at_lem σ.net.elements x =
        omega (arith, made-append σ.net.elements (e ∷ []) x, made_alone e x, part_not k i x (λ a b. f a (omega arith))) in
        let g : get_or (sets w i (cells_of k)) x 0 ≡ get_or w x 0 =
        elim (dec_lt x i) [
          | yes q ↦ sets-before (cells_of k) w i x 0 q
          | no q ↦ sets_outside (cells_of k) w i x 0 q (elim (dec_le (i + k + 1) x) [ yes r ↦ omega (arith, cells_length k) | no r ↦ absurd (f (omega arith) (omega arith)) ])
        ] in
        g ∙ h x l ∙ sym (cell_same m' σ.net x o c refl)

    holds-element : TableHolds (sets w i (cells_of k)) m'
    holds-element x l =
        elim (dec_lt x i) [
          | yes q ↦ outside x (λ a b. omega arith) l
          | no q ↦
              elim (dec_lt x (i + k)) [
                | yes r ↦ let z : i + (x - i) ≡ x = omega arith in subst (λ (y : ℕ). get_or (sets w i (cells_of k)) y 0 ≡ cell_of m' y) z (inside (x - i) (omega arith))
                | no r ↦
                    elim (ℕ_discrete x (i + k)) [
                      | yes s ↦ subst (λ (y : ℕ). get_or (sets w i (cells_of k)) y 0 ≡ cell_of m' y) (sym s) output
                      | no s ↦ outside x (λ a b. s (omega arith)) l
                    ]
              ]
        ]

    keeps-element : LaterKept w (sets w i (cells_of k))
    keeps-element = record { same = length-sets w i (cells_of k); later = sets-drop (cells_of k) w i memory_size (omega (arith, cells_length k, past_is e)) }

  element-by : (b₁ b₂ b₃ : Bool) (τ : Reading) (v : List ℕ) (n : ℕ) → (T b₁ → T b₂ → T b₃ → (0 ≡ τ.stage) × (n ≡ τ.next) × TableHolds v τ.net × LaterKept w v)
      → Matches at (cond b₁ (cond b₂ (cond b₃ (next 0 n v) (wrong 22 w)) (wrong 22 w)) (wrong 21 w)) (need b₁ 21 at >>= λ _. need (b₂ && b₃) 22 at >>= λ _. good τ) w
  element-by true true true τ v n f = f tt tt tt
  element-by true true false τ v n f = (refl, keeps_same w)
  element-by true false b₃ τ v n f = (refl, keeps_same w)
  element-by false b₂ b₃ τ v n f = (refl, keeps_same w)

  starts-low : (lean : Bool) (i n : ℕ) → T (starts lean i n) → n ≤ i
  starts-low true i n t = leb→le n i t
  starts-low false i n t = omega (arith, eqb→eq i n t)

  sim-element : (e : Element) → Matches at (took_element lean σ.stage σ.next (first_of e) (inputs_of e) w) (judge lean (element e) σ at) w
  sim-element e =
      let g = past_is e in
      subst (λ (y : ℕ). Matches at (took_element lean σ.stage σ.next (first_of e) (inputs_of e) w) (need (eqb σ.stage 0) 21 at >>= λ _. need (starts lean (first_of e) σ.next && leb y 8192) 22 at >>= λ _. good (more_element e σ)) w) (sym g)
      (element-by (eqb σ.stage 0) (starts lean (first_of e) σ.next) (leb (first_of e + inputs_of e + 1) 8192) (more_element e σ) (sets w (first_of e) (cells_of (inputs_of e))) (first_of e + inputs_of e + 1)
      (λ t₁ t₂ t₃.
      let z = eqb→eq σ.stage 0 t₁ in
      let l = starts-low lean (first_of e) σ.next t₂ in
      let c : past_of e ≤ 8192 = omega (arith, leb→le (first_of e + inputs_of e + 1) 8192 t₃) in
      (refl, sym g, holds-element e z l c, keeps-element e z l c)))

  -- ---- one driver more

  driven-same : (i n : ℕ) → i < length w → get_or w i 0 ≡ 1 + min 2 n → get_or (driven w i) i 0 ≡ 1 + min 2 (n + 1)
  driven-same i n l c =
      elim (dec_lt (get_or w i 0) 3) [
        | yes q ↦ rw (lt-ltb (get_or w i 0) 3 q) (get_or-set_same w i (get_or w i 0 + 1) 0 l ∙ omega arith)
        | no q ↦ rw (le-ltb (get_or w i 0) 3 (omega arith)) (omega arith)
      ]

  driven-other : (i x : ℕ) → (x ≡ i → ⊥) → get_or (driven w i) x 0 ≡ get_or w x 0
  driven-other i x d = by (ltb (get_or w i 0) 3)
    where
      by : (b : Bool) → get_or (cond b (set w i (get_or w i 0 + 1)) w) x 0 ≡ get_or w x 0
      by true = get_or-set_other w i x (get_or w i 0 + 1) 0 d
      by false = refl

  keeps-driven : (i : ℕ) → i < 8192 → LaterKept w (driven w i)
  keeps-driven i l = by (ltb (get_or w i 0) 3)
    where
      by : (b : Bool) → LaterKept w (cond b (set w i (get_or w i 0 + 1)) w)
      by true = record { same = length-set w i (get_or w i 0 + 1); later = drop-set-lt memory_size w i (get_or w i 0 + 1) (omega arith) }
      by false = keeps_same w

  holds-driven : (to : ℕ) (n : Net) → n.elements ≡ σ.net.elements → ((x : ℕ) → targets n.wires x + ins n.pins x ≡ targets σ.net.wires x + ins σ.net.pins x + tally x to)
      → 1 ≤ made_at_lem σ.net.elements to → is_out σ.net.elements to ≡ false → to < 8192 → TableHolds (driven w to) n
  holds-driven to n e c l o b x x-low =
      let es = σ.net.elements in
      elim (ℕ_discrete x to) [
        | yes q ↦
            let z : targets n.wires to + ins n.pins to ≡ targets σ.net.wires to + ins σ.net.pins to + 1 = c to ∙ ap (λ (y : Bool). targets σ.net.wires to + ins σ.net.pins to + cond y 1 0) (eq-eqb to to refl) in
            subst (λ (y : ℕ). get_or (driven w to) y 0 ≡ cell_of n y) (sym q)
            (driven-same to (targets σ.net.wires to + ins σ.net.pins to) (omega arith) (h to b ∙ cell_in σ.net to o l)
            ∙ sym (cell_in n to (ap (λ (y : List Element). is_out y to) e ∙ o) (omega (arith, ap (λ (y : List Element). made_at_lem y to) e)) ∙ ap (λ (y : ℕ). 1 + min 2 y) z))
        | no q ↦
            let z : targets n.wires x + ins n.pins x ≡ targets σ.net.wires x + ins σ.net.pins x =
            c x ∙ ap (λ (y : Bool). targets σ.net.wires x + ins σ.net.pins x + cond y 1 0) (ne_eqb to x (λ r. q (sym r))) ∙ omega arith in
            driven-other to x q ∙ h x x-low ∙ sym (cell_same n σ.net x (ap (λ (y : List Element). is_out y x) e) (ap (λ (y : List Element). made_at_lem y x) e) z)
      ]

  -- ---- the tests

  made-not-out : (x : ℕ) → 1 ≤ made_at_lem σ.net.elements x → is_out σ.net.elements x ≡ false
  made-not-out x l = is_false _ (λ t. omega (arith, out_not_made σ.net.elements 0 σ.next x up t))

  out-test : (x : ℕ) → eqb (cell_at w x) 4 ≡ is_out σ.net.elements x
  out-test x = by (is_out σ.net.elements x) refl
    where
      by : (b : Bool) → is_out σ.net.elements x ≡ b → eqb (cell_at w x) 4 ≡ b
      by true q = eq-eqb (cell_at w x) 4 (cell-is x ∙ cell_out σ.net x q)
      by false q =
          ne_eqb (cell_at w x) 4 (λ e.
          elim (dec_le 1 (made_at_lem σ.net.elements x)) [
            | yes l ↦ omega (arith, cell-is x, cell_in σ.net x q l)
            | no l ↦ omega (arith, cell-is x, cell_no σ.net x q (omega arith))
          ])

  none-test : (x : ℕ) → eqb (cell_at w x) 0 ≡ not (is_out σ.net.elements x || is_in σ.net.elements x)
  none-test x = by (is_out σ.net.elements x) refl
    where
      by : (b : Bool) → is_out σ.net.elements x ≡ b → eqb (cell_at w x) 0 ≡ not (b || is_in σ.net.elements x)
      by true q = ne_eqb (cell_at w x) 0 (λ e. omega (arith, cell-is x, cell_out σ.net x q))
      by false q =
          elim (dec_le 1 (made_at_lem σ.net.elements x)) [
            | yes l ↦ rw (le-leb 1 (made_at_lem σ.net.elements x) l) (ne_eqb (cell_at w x) 0 (λ e. omega (arith, cell-is x, cell_in σ.net x q l)))
            | no l ↦ rw (lt-leb 1 (made_at_lem σ.net.elements x) (omega arith)) (eq-eqb (cell_at w x) 0 (cell-is x ∙ cell_no σ.net x q (omega arith)))
          ]

  below : (x : ℕ) → 1 ≤ made_at_lem σ.net.elements x → x < 8192
  below x l = let f = ok.few in elim (dec_le σ.next x) [ yes q ↦ absurd (omega (arith, no-made x q)) | no q ↦ omega arith ]

  -- ---- a wire

  wire-by : (b₁ o o' i' : Bool) (τ : Reading) (v : List ℕ) (n : ℕ) → (T o' → T i' → ⊥) → (T i' → (1 ≡ τ.stage) × (n ≡ τ.next) × TableHolds v τ.net × LaterKept w v)
      → Matches at (cond b₁ (cond o (cond (not (o' || i')) (wrong 22 w) (cond o' (wrong 22 w) (next 1 n v))) (wrong 22 w)) (wrong 21 w)) (need b₁ 21 at >>= λ _. need (o && i') 22 at >>= λ _. good τ) w
  wire-by true true true true τ v n x f = absurd (x tt tt)
  wire-by true true true false τ v n x f = (refl, keeps_same w)
  wire-by true true false true τ v n x f = f tt
  wire-by true true false false τ v n x f = (refl, keeps_same w)
  wire-by true false o' i' τ v n x f = (refl, keeps_same w)
  wire-by false o o' i' τ v n x f = (refl, keeps_same w)

  sim-wire : (x : Wire) → Matches at (took_wire σ.stage σ.next x.from x.to w) (judge lean (wire x) σ at) w
  sim-wire x =
      let es = σ.net.elements in
      rw (out-test x.from, none-test x.to, out-test x.to)
      (wire-by (leb σ.stage 1) (is_out es x.from) (is_out es x.to) (is_in es x.to) (more_wire x σ) (driven w x.to) σ.next
      (λ t u. omega (arith, out_not_made es 0 σ.next x.to up t, leb→le 1 (made_at_lem es x.to) u))
      (λ u.
      let l = leb→le 1 (made_at_lem es x.to) u in
      (refl, refl, holds-driven x.to (more_wire x σ).net refl (λ y. omega (arith, targets-append σ.net.wires (x ∷ []) y)) l (made-not-out x.to l) (below x.to l), keeps-driven x.to (below x.to l))))

  -- ---- a pin

  pin-by : (o i : Bool) (τ : Reading) (v : List ℕ) (n : ℕ) → (T (o || i) → (2 ≡ τ.stage) × (n ≡ τ.next) × TableHolds (cond o w v) τ.net × LaterKept w (cond o w v))
      → Matches at (cond (not (o || i)) (wrong 22 w) (next 2 n (cond o w v))) (need (o || i) 22 at >>= λ _. good τ) w
  pin-by true i τ v n f = f tt
  pin-by false true τ v n f = f tt
  pin-by false false τ v n f = (refl, keeps_same w)

  pin-holds : (t : ℕ) (b : Bool) → is_out σ.net.elements t ≡ b → T (b || is_in σ.net.elements t)
      → TableHolds (cond b w (driven w t)) (record { elements = σ.net.elements; wires = σ.net.wires; pins = σ.net.pins ++ (cond b (out t) (inp t) ∷ []) }) × LaterKept w (cond b w (driven w t))
  pin-holds t true q u = (
    (λ x l. h x l ∙ sym (cell_same (record { elements = σ.net.elements; wires = σ.net.wires; pins = σ.net.pins ++ (out t ∷ []) }) σ.net x refl refl (omega (arith, ins-more σ.net.pins (out t) x)))),
    keeps_same w,
  )
  pin-holds t false q u =
      let l = leb→le 1 (made_at_lem σ.net.elements t) u in (
        holds-driven t (record { elements = σ.net.elements; wires = σ.net.wires; pins = σ.net.pins ++ (inp t ∷ []) }) refl (λ y. omega (arith, ins-more σ.net.pins (inp t) y)) l q (below t l),
        keeps-driven t (below t l),
      )

  sim-pin : (t : ℕ) → Matches at (took_pin σ.next t w) (judge lean (pin t) σ at) w
  sim-pin t =
      let es = σ.net.elements in
      rw (none-test t, out-test t)
      (pin-by (is_out es t) (is_in es t) (more_pin t σ) (driven w t) σ.next (λ u. let r = pin-holds t (is_out es t) refl u in (refl, refl, r.0, r.1)))

  pub sim : (r : Item) → Matches at (took lean σ.stage σ.next r w) (judge lean r σ at) w
  sim (element (point i)) = sim-element (point i)
  sim (element (part q i)) = sim-element (part q i)
  sim (wire x) = sim-wire x
  sim (pin t) = sim-pin t

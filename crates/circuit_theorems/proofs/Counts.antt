-- How many wires a formed netlist has, and how many bytes: counted over its inputs. Assumes nothing.
use Prim.Native.Nat.{ℕ, zero, suc, ◌+◌, ◌*◌, ◌<◌, ◌≤◌}
use mathlib.Core.Path.{◌≡◌, refl, sym, ap, ap₂, ◌∙◌}
use mathlib.Core.Bool.{Bool, true, false, cond}
use mathlib.Core.List.{List, [], ◌∷◌}
use native.Mathlib.Omega.{arith}
use native.Mathlib.Decide.{dec_le}
use native.Mathlib.Nat.{not-suc-le-zero, le_refl}
use lib.ListN.{length, length-append, length-map}
use Rattle.laws.proofs.Tests.{by_eqb}
use Rattle.calculus.specs.Types.{Ty, Table}
use Rattle.calculus.specs.Terms.{Edition, Term, part_at}
use Rattle.calculus.specs.Rules.{many, once, away, Ctx, Typed}
use Rattle.calculus.specs.Net.{inp, out, Interface, Element, point, part, Wire, Net, part_side, Bound, make, element_bytes, wire_bytes, pin_bytes, net_bytes}
use Rattle.calculus.specs.Lean.{is_pin, point_count, kept, keep, lean_wires, lean_pin, lean}
use Rattle.calculus.specs.Record.{All}
use Rattle.calculus.specs.Inputs.{tally, ins, made_at_lem, targets}
use Rattle.circuit_theorems.specs.Formed.{Rising, Formed}
use Rattle.circuit_theorems.proofs.Lists.{all_map}
use Rattle.circuit_theorems.proofs.Terminals.{tiled-rising, rising-end, made-high, no_ins, each_target}
use Rattle.circuit_theorems.proofs.Drivers.{linears, term_driven}
use Rattle.circuit_theorems.specs.Scope.{Env}
use Rattle.circuit_theorems.proofs.Outputs.{Shows, Runs, BoundShows, tiled, names-below}
use Rattle.circuit_theorems.proofs.Forming.{free_targets, pin_targets, lean-formed, lean-end}

-- ---- sums of a count over the terminals below n

abbrev pub sum_to : ℕ → (ℕ → ℕ) → ℕ
sum_to zero f = 0
sum_to (suc n) f = f n + sum_to n f

sum_le : (n : ℕ) (f g : ℕ → ℕ) → ((i : ℕ) → f i ≤ g i) → sum_to n f ≤ sum_to n g
sum_le zero f g h = le_refl 0
sum_le (suc n) f g h = omega (arith, h n, sum_le n f g h)

sum_add : (n : ℕ) (f g : ℕ → ℕ) → sum_to n (λ i. f i + g i) ≡ sum_to n f + sum_to n g
sum_add zero f g = refl
sum_add (suc n) f g = omega (arith, sum_add n f g)

sum-none : (n : ℕ) → sum_to n (λ i. 0) ≡ 0
sum-none zero = refl
sum-none (suc n) = omega (arith, sum-none n)

sum_past : (n j : ℕ) → n ≤ j → sum_to n (λ i. tally i j) ≡ 0
sum_past zero j h = refl
sum_past (suc n) j h = by_eqb (λ b. cond b 1 0 + sum_to n (λ i. tally i j) ≡ 0) j n (λ q. absurd (omega arith)) (λ q. omega (arith, sum_past n j (omega arith)))

-- one number is counted once
sum_one : (n j : ℕ) → j < n → sum_to n (λ i. tally i j) ≡ 1
sum_one zero j h = absurd (not-suc-le-zero h)
sum_one (suc n) j h = by_eqb (λ b. cond b 1 0 + sum_to n (λ i. tally i j) ≡ 1) j n (λ q. omega (arith, sum_past n j (omega arith))) (λ q. omega (arith, sum_one n j (omega arith)))

sum_is : (n j : ℕ) → sum_to n (λ i. tally i j) ≤ 1
sum_is n j = elim (dec_le n j) [ yes h ↦ omega (arith, sum_past n j h) | no h ↦ omega (arith, sum_one n j (omega arith)) ]

-- ---- inputs

-- the number of inputs that elements have
abbrev pub input_count : List Element → ℕ
input_count [] = 0
input_count (point i ∷ es) = suc (input_count es)
input_count (part p i ∷ es) = (part_at p).inputs + input_count es

part-sum : (n k j : ℕ) → sum_to n (ins (part_side k j)) ≤ k
part-sum n zero j = omega (arith, sum-none n)
part-sum n (suc k) j = omega (arith, sum_add n (λ i. tally i j) (ins (part_side k (j + 1))), sum_is n j, part-sum n k (j + 1))

made-sum : (n : ℕ) (es : List Element) → sum_to n (made_at_lem es) ≤ input_count es
made-sum n [] = omega (arith, sum-none n)
made-sum n (point j ∷ es) = omega (arith, sum_add n (λ i. tally i j) (made_at_lem es), sum_is n j, made-sum n es)
made-sum n (part p j ∷ es) =
    omega (arith, sum_add n (ins (part_side (part_at p).inputs j)) (made_at_lem es), part-sum n (part_at p).inputs j, made-sum n es)

wires_sum : (n : ℕ) (ws : List Wire) → All (λ w. w.to < n) ws → length ws ≡ sum_to n (targets ws)
wires_sum n [] a = sym (sum-none n)
wires_sum n (w ∷ ws) a = omega (arith, sum_add n (λ i. tally i w.to) (targets ws), sum_one n w.to a.0, wires_sum n ws a.1)

-- no part has more than two inputs
pub part-inputs : (p : ℕ) → (part_at p).inputs ≤ 2
part-inputs zero = omega arith
part-inputs (suc zero) = omega arith
part-inputs (suc (suc zero)) = omega arith
part-inputs (suc (suc (suc zero))) = omega arith
part-inputs (suc (suc (suc (suc zero)))) = omega arith
part-inputs (suc (suc (suc (suc (suc zero))))) = omega arith
part-inputs (suc (suc (suc (suc (suc (suc zero)))))) = omega arith
part-inputs (suc (suc (suc (suc (suc (suc (suc p))))))) = omega arith

-- two of three terminals at most are inputs
pub inputs-few : (es : List Element) (n e : ℕ) → Rising es n e → 3 * input_count es + 2 * n ≤ 2 * e
inputs-few [] n e a = omega arith
inputs-few (point i ∷ es) n e a = let q = a.0 in omega (arith, inputs-few es (i + 2) e a.1)
inputs-few (part p i ∷ es) n e a = let q = a.0 in omega (arith, inputs-few es (i + (part_at p).inputs + 1) e a.1, part-inputs p)

-- a point has two terminals, a part one or more
pub elements_few : (es : List Element) (n e : ℕ) → Rising es n e → n + point_count es + length es ≤ e
elements_few [] n e a = omega arith
elements_few (point i ∷ es) n e a = let q = a.0 in omega (arith, elements_few es (i + 2) e a.1)
elements_few (part p i ∷ es) n e a = let q = a.0 in omega (arith, elements_few es (i + (part_at p).inputs + 1) e a.1)

-- ---- wires

module _ (m : Net) (ok : Formed m) where
  -- a wire's target is below the end
  pub targets-below : All (λ w. w.to < ok.end) m.wires
  targets-below = all_map (λ w. 1 ≤ targets m.wires w.to) (λ w. w.to < ok.end) below m.wires (each_target m.wires)
    where
      below : (w : Wire) → 1 ≤ targets m.wires w.to → w.to < ok.end
      below w h = elim (dec_le ok.end w.to) [ yes l ↦ absurd (omega (arith, ok.reached w.to, made-high m.elements 0 ok.end w.to ok.rising l)) | no l ↦ omega arith ]

  wires_count : length m.wires ≡ sum_to ok.end (targets m.wires)
  wires_count = wires_sum ok.end m.wires targets-below

  -- not more wires than inputs
  pub wires_inputs : length m.wires ≤ input_count m.elements
  wires_inputs =
      omega (arith, wires_count, sum_le ok.end (targets m.wires) (made_at_lem m.elements) (λ i. omega (arith, ok.reached i)), made-sum ok.end m.elements)

  pub wires_few : 3 * length m.wires ≤ 2 * ok.end
  wires_few = omega (arith, wires_inputs, inputs-few m.elements 0 ok.end ok.rising)

-- ---- bytes

pub wire-bytes : (ws : List Wire) → length (wire_bytes ws) ≡ 5 * length ws
wire-bytes [] = refl
wire-bytes (w ∷ ws) = omega (arith, wire-bytes ws)

pub pin_bytes_lem : (ps : Interface) → length (pin_bytes ps) ≡ 3 * length ps
pin_bytes_lem [] = refl
pin_bytes_lem (p ∷ ps) = omega (arith, pin_bytes_lem ps)

-- a point's record and its wire take 8 bytes, a part's and its wires 4 and 5 for each input
element_bytes_lem : (es : List Element) (n e : ℕ) → Rising es n e → length (element_bytes es) + 5 * input_count es + 5 * n ≤ 5 * e
element_bytes_lem [] n e a = omega arith
element_bytes_lem (point i ∷ es) n e a = let q = a.0 in omega (arith, element_bytes_lem es (i + 2) e a.1)
element_bytes_lem (part p i ∷ es) n e a = let q = a.0 in omega (arith, element_bytes_lem es (i + (part_at p).inputs + 1) e a.1)

pub net-bytes : (m : Net) → length (net_bytes m) ≡ length (element_bytes m.elements) + (5 * length m.wires + 3 * length m.pins)
unfolding net_bytes
net-bytes m =
    length-append (element_bytes m.elements) _ ∙ ap (λ (k : ℕ). length (element_bytes m.elements) + k)
    (length-append (wire_bytes m.wires) (pin_bytes m.pins) ∙ ap₂ ◌+◌ (wire-bytes m.wires) (pin_bytes_lem m.pins))

-- five bytes for each terminal, and three for each pin
pub bytes-few : (m : Net) (ok : Formed m) → length (net_bytes m) ≤ 5 * ok.end + 3 * length m.pins
bytes-few m ok = omega (arith, net-bytes m, wires_inputs m ok, element_bytes_lem m.elements 0 ok.end ok.rising)

-- ---- the lean netlist is not longer

module _ (m : Net) where
  keep-bytes : (es : List Element) → length (element_bytes (keep m es)) ≤ length (element_bytes es)
  keep-bytes [] = le_refl 0
  keep-bytes (point i ∷ es) = by-kept (kept m (point i)) (keep-bytes es)
    where
      by-kept : (b : Bool) → length (element_bytes (keep m es)) ≤ length (element_bytes es) → length (element_bytes (cond b (point i ∷ keep m es) (keep m es))) ≤ length (element_bytes (point i ∷ es))
      by-kept true h = omega arith
      by-kept false h = omega arith
  keep-bytes (part p i ∷ es) = omega (arith, keep-bytes es)

  keep-made : (es : List Element) (i : ℕ) → made_at_lem (keep m es) i ≤ made_at_lem es i
  keep-made [] i = le_refl 0
  keep-made (point j ∷ es) i = by-kept (kept m (point j)) (keep-made es i)
    where
      by-kept : (b : Bool) → made_at_lem (keep m es) i ≤ made_at_lem es i → made_at_lem (cond b (point j ∷ keep m es) (keep m es)) i ≤ tally i j + made_at_lem es i
      by-kept true h = omega arith
      by-kept false h = omega arith
  keep-made (part p j ∷ es) i = omega (arith, keep-made es i)

  module _ (ok : Formed m) where
    lean-targets : (i : ℕ) → targets (lean_wires m m.elements) i ≤ targets m.wires i
    lean-targets i = by_pin (is_pin m.pins i) refl
      where
        by_pin : (b : Bool) → is_pin m.pins i ≡ b → targets (lean_wires m m.elements) i ≤ targets m.wires i
        by_pin true u = omega (arith, pin_targets m i u m.elements)
        by_pin false u = omega (arith, free_targets m i u m.elements, keep-made m.elements i, ok.reached i, no_ins m.pins i u)

    pub lean-wires-few : length (lean m).wires ≤ length m.wires
    unfolding lean
    lean-wires-few = omega (arith, rw (lean-end m ok) at (wires_count (lean m) (lean-formed m ok)), wires_count m ok, sum_le ok.end (targets (lean_wires m m.elements)) (targets m.wires) lean-targets)

    pub lean-bytes : length (net_bytes (lean m)) ≤ length (net_bytes m)
    unfolding lean
    lean-bytes =
        omega (arith, net-bytes (lean m), net-bytes m, keep-bytes m.elements, lean-wires-few, length-map m.pins (lean_pin m))

-- ---- the wires that a typed term makes, over any binders

-- the number of inputs that an interface shows
abbrev pub in_count_lem : Interface → ℕ
in_count_lem [] = 0
in_count_lem (inp i ∷ s) = suc (in_count_lem s)
in_count_lem (out o ∷ s) = in_count_lem s

-- the number of inputs that the linear variables in Δ show
abbrev pub linear_count : Ctx → List Bound → ℕ
linear_count [] env = 0
linear_count (x ∷ Γ) [] = 0
linear_count (many θ ∷ Γ) (b ∷ env) = linear_count Γ env
linear_count (once κ ∷ Γ) (b ∷ env) = in_count_lem b.side + linear_count Γ env
linear_count (away ∷ Γ) (b ∷ env) = linear_count Γ env

sum_cong : (n : ℕ) (f g : ℕ → ℕ) → ((i : ℕ) → f i ≡ g i) → sum_to n f ≡ sum_to n g
sum_cong zero f g h = refl
sum_cong (suc n) f g h = ap₂ ◌+◌ (h n) (sum_cong n f g h)

module _ (N : ℕ) where
  abbrev Low : ℕ → Type 0
  Low x = x < N

  ins-sum : (s : Interface) → Shows Low Low s → sum_to N (ins s) ≡ in_count_lem s
  ins-sum [] a = sum-none N
  ins-sum (inp j ∷ s) a = omega (arith, sum_add N (λ i. tally i j) (ins s), sum_one N j a.0, ins-sum s a.1)
  ins-sum (out o ∷ s) a = ins-sum s a.1

  part-all : (k j : ℕ) → j + k < N → sum_to N (ins (part_side k j)) ≡ k
  part-all zero j h = sum-none N
  part-all (suc k) j h = omega (arith, sum_add N (λ i. tally i j) (ins (part_side k (j + 1))), sum_one N j (omega arith), part-all k (j + 1) (omega arith))

  made_all : (es : List Element) (n e : ℕ) → Rising es n e → e ≤ N → sum_to N (made_at_lem es) ≡ input_count es
  made_all [] n e a h = sum-none N
  made_all (point j ∷ es) n e a h =
      let q = rising-end es (j + 2) e a.1 in
      omega (arith, sum_add N (λ i. tally i j) (made_at_lem es), sum_one N j (omega arith), made_all es (j + 2) e a.1 h)
  made_all (part p j ∷ es) n e a h =
      let q = rising-end es (j + (part_at p).inputs + 1) e a.1 in
      omega (arith, sum_add N (ins (part_side (part_at p).inputs j)) (made_at_lem es), part-all (part_at p).inputs j (omega arith), made_all es (j + (part_at p).inputs + 1) e a.1 h)

  linears-all : (Γ : Ctx) (env : List Bound) → All (BoundShows Low Low) env → sum_to N (linears Γ env) ≡ linear_count Γ env
  linears-all [] env a = sum-none N
  linears-all (x ∷ Γ) [] a = sum-none N
  linears-all (many θ ∷ Γ) (b ∷ env) a = linears-all Γ env a.1
  linears-all (once κ ∷ Γ) (b ∷ env) a = omega (arith, sum_add N (ins b.side) (linears Γ env), ins-sum b.side a.0, linears-all Γ env a.1)
  linears-all (away ∷ Γ) (b ∷ env) a = linears-all Γ env a.1

  -- each input that is made, or comes with a linear variable, gets a wire or is shown
  pub wires_made : {E : Edition} {Θ : Table} {Γ : Ctx} {e : Term} {τ : Ty} → Typed E Θ Γ e τ → (env : List Bound) → Env Γ env → (n : ℕ)
      → All (BoundShows Low Low) env → (make Θ e env n).next ≤ N
      → length (make Θ e env n).wires + in_count_lem (make Θ e env n).side ≡ input_count (make Θ e env n).elements + linear_count Γ env
  wires_made {Θ = Θ} {Γ} {e} d env v n low h =
      let m = make Θ e env n in
      let r = names-below N Θ e env n low h in
      omega (
        arith,
        wires_sum N m.wires (all_map (Runs Low Low) (λ w. w.to < N) (λ w a. a.1) m.wires r.wires),
        ins-sum m.side r.side,
        made_all m.elements n m.next (tiled-rising m.elements n m.next (tiled Θ e env n)) h,
        linears-all Γ env low,
        sum_add N (made_at_lem m.elements) (linears Γ env),
        sum_add N (targets m.wires) (ins m.side),
        sum_cong N (λ i. made_at_lem m.elements i + linears Γ env i) (λ i. targets m.wires i + ins m.side i) (term_driven d env v n).count,
      )

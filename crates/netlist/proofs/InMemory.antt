-- What holds of a netlist that stands in the working memory. Assumes nothing.
use mathlib.Core.Path.{◌≡◌, refl, ◌∙◌}
use mathlib.Core.Bool.{Bool, true, false}
use mathlib.Core.List.{List, [], ◌∷◌, ◌++◌, map, map-append}
use Prim.Native.Nat.{ℕ, ◌+◌, ◌-◌, ◌*◌, ◌≤◌, ◌<◌}
use native.Mathlib.Omega.{arith}
use native.Mathlib.Numerals.{add-one}
use lib.ListN.{length, get_or, drop, length-drop, length-map}
use lib.Seq.{take-suc, get_or-drop}
use Rattle.laws.proofs.Regions.{region-length, region-at}
use Rattle.calculus.specs.Net.{wire_bytes, pin_bytes, net_bytes}
use Rattle.calculus.specs.Makers.{written}
use Rattle.calculus.specs.Record.{All}
use Rattle.calculus.specs.Inputs.{targets}
use Rattle.circuit_theorems.proofs.Terminals.{tiled-rising, made-high}
use Rattle.circuit_theorems.proofs.Counts.{wire-bytes, pin_bytes_lem}
use Rattle.circuit_theorems.proofs.Bounds.{tiled-end}
use Rattle.circuit_theorems.proofs.NodeBytes.{node-bytes}
use Rattle.memory.specs.Map.{targets_at, elements_at, stack_at, makers_at, region, elements_from, wires_from, terminal_of, net_in, Ready}
use Rattle.calculus.specs.NetRead.{Known}
use Rattle.netlist.specs.Elements.{after, after_all, element_size, node_size, element_records}
use Rattle.netlist.proofs.Records.{wires_append, pins_append, net-length}
use Rattle.netlist.proofs.Elements.{first_bytes, first_after, length_more, after_one, bytes-within, after-within, kinds-tiled, kinds-known, kinds-length, first_records, records-first, records-more}
use Rattle.netlist.proofs.Targets.{target-counted}

pub wires_count : (w is : List ℕ) → length (wires_from w is) ≡ length is
wires_count w [] = refl
wires_count w (i ∷ is) = let h = wires_count w is in omega arith

pub wires_from-append : (w is js : List ℕ) → wires_from w (is ++ js) ≡ wires_from w is ++ wires_from w js
wires_from-append w [] js = refl
wires_from-append w (i ∷ is) js = rw (wires_from-append w is js)

-- ---- one more element, wire or pin

module _ (w : List ℕ) (a i : ℕ) (h : a + i < length w) where
  here : i < length (drop a w)
  here = rw length-drop (omega arith)

  pub element_length : length (first_bytes (drop a w) (i + 1)) ≡ length (first_bytes (drop a w) i) + element_size (get_or w (a + i) 0)
  element_length = rw (← get_or-drop a w i 0) (length_more (drop a w) i here)

  pub element_after : first_after (drop a w) (i + 1) ≡ after (get_or w (a + i) 0) (first_after (drop a w) i)
  element_after = rw (← get_or-drop a w i 0) (after_one (drop a w) i here)

  pub element_fits : (n : ℕ) → i < n → length (first_bytes (drop a w) i) + element_size (get_or w (a + i) 0) ≤ length (first_bytes (drop a w) n)
  element_fits n lt =
      let e : i + 1 + (n - (i + 1)) ≡ n = omega arith in
      let within = rw e at (bytes-within (drop a w) (i + 1) (n - (i + 1))) in
      omega (arith, element_length)

-- the record of one more, from the kinds at a and the makers at b
pub record_next : (plain : Bool) (w : List ℕ) (a b i : ℕ) → a + i < length w → b + i < length w
    → first_records plain (drop a w) (drop b w) (i + 1)
    ≡ first_records plain (drop a w) (drop b w) i ++ element_records plain (elements_from (get_or w (a + i) 0 ∷ []) (first_after (drop a w) i)) (get_or w (b + i) 0 ∷ [])
record_next plain w a b i h g =
    rw (← get_or-drop a w i 0, ← get_or-drop b w i 0) (records-more plain (drop a w) (drop b w) i (here w a i h) (here w b i g))

pub records-before : (plain : Bool) (w : List ℕ) (a b i : ℕ) → a + i ≤ length w
    → length (first_records plain (drop a w) (drop b w) i) ≡ length (first_bytes (drop a w) i) + node_size plain i
records-before plain w a b i h = records-first plain (drop a w) (drop b w) i (rw length-drop (omega arith))

pub after-fits : (ks : List ℕ) (i n : ℕ) → i ≤ n → first_after ks i ≤ first_after ks n
after-fits ks i n h = let e : i + (n - i) ≡ n = omega arith in rw e at (after-within ks i (n - i))

pub wires_more : (w : List ℕ) (a i : ℕ) → a + i < length w
    → wire_bytes (wires_from w (region w a (i + 1))) ≡ wire_bytes (wires_from w (region w a i)) ++ wire_bytes (wires_from w (get_or w (a + i) 0 ∷ []))
wires_more w a i h =
    let lt : i < length (drop a w) = rw length-drop (omega arith) in
    rw (add-one i, take-suc (drop a w) i 0 lt, wires_from-append w (region w a i) (get_or (drop a w) i 0 ∷ []), wires_append (wires_from w (region w a i)) (wires_from w (get_or (drop a w) i 0 ∷ [])), get_or-drop a w i 0)

pub pins_more : (w : List ℕ) (a i : ℕ) → a + i < length w
    → pin_bytes (map terminal_of (region w a (i + 1))) ≡ pin_bytes (map terminal_of (region w a i)) ++ pin_bytes (terminal_of (get_or w (a + i) 0) ∷ [])
pins_more w a i h =
    let lt : i < length (drop a w) = rw length-drop (omega arith) in
    rw (add-one i, take-suc (drop a w) i 0 lt, map-append terminal_of (region w a i) (get_or (drop a w) i 0 ∷ []), pins_append (map terminal_of (region w a i)) (terminal_of (get_or (drop a w) i 0) ∷ []), get_or-drop a w i 0)

-- ---- the length of n of them

pub wires_first : (w : List ℕ) (a n : ℕ) → a + n ≤ length w → length (wire_bytes (wires_from w (region w a n))) ≡ 5 * n
wires_first w a n h = rw (wire-bytes (wires_from w (region w a n)), wires_count w (region w a n), region-length w a n h)

pub pins_first : (w : List ℕ) (a n : ℕ) → a + n ≤ length w → length (pin_bytes (map terminal_of (region w a n))) ≡ 3 * n
pins_first w a n h = rw (pin_bytes_lem (map terminal_of (region w a n)), length-map (region w a n) terminal_of, region-length w a n h)

-- ---- a whole netlist

module _ (w : List ℕ) (e k p : ℕ) (r : Ready w e k p) where
  pub length-here : length (net_bytes (net_in w e k p)) ≡ 5 * k + 3 * p + length (first_bytes (drop elements_at w) e)
  unfolding net_in
  length-here =
      let l = net-length (net_in w e k p) in
      let a = wires_first w targets_at k (omega arith) in
      let b = pins_first w stack_at p (omega arith) in
      omega arith

  pub elements_here : length (net_in w e k p).elements ≡ e
  unfolding net_in
  elements_here = kinds-length (region w elements_at e) 0 ∙ region-length w elements_at e (omega arith)

  -- .. and with its makers, where they are wished
  pub written-here : (plain : Bool) → length (written plain (net_in w e k p) (region w makers_at e)) ≡ 5 * k + 3 * p + length (first_bytes (drop elements_at w) e) + node_size plain e
  written-here true = omega (arith, length-here)
  written-here false = omega (arith, node-bytes (net_in w e k p) (region w makers_at e), length-here, elements_here)

  -- the elements' terminals end by 8,192
  pub after-here : first_after (drop elements_at w) e ≤ 8192
  unfolding net_in
  after-here =
      let ks = region w elements_at e in
      let t = tiled-end (elements_from ks 0) 0 (after_all ks 0) r.end (kinds-tiled ks 0) r.tiled in
      let b = r.below in
      omega arith

  -- and each wire runs to one of them
  pub target-here : (j : ℕ) → j < k → get_or w (targets_at + j) 0 < 8192
  unfolding net_in
  target-here j h =
      let ts = region w targets_at k in
      let t = get_or w (targets_at + j) 0 in
      let l = region-length w targets_at k (omega arith) in
      let counted : 1 ≤ targets (wires_from w ts) t = rw (← region-at w targets_at k j h) (target-counted w ts j (omega arith)) in
      let once = r.formed.reached t in
      let past : 8192 ≤ t → ⊥ = λ g. omega (arith, made-high (elements_from (region w elements_at e) 0) 0 r.end t (tiled-rising (elements_from (region w elements_at e) 0) 0 r.end r.tiled) (omega arith)) in
      omega arith

  pub kind-here : All Known (net_in w e k p).elements → (i : ℕ) → i < e → get_or w (elements_at + i) 0 < 8
  unfolding net_in
  kind-here a i h =
      let l = region-length w elements_at e (omega arith) in
      rw (← region-at w elements_at e i h) (kinds-known (region w elements_at e) 0 i a (omega arith))

-- The table of drivers and the list of wires say the same. Assumes nothing.
use Prim.Native.Nat.{ℕ, ◌+◌, ◌<◌, ◌≤◌}
use mathlib.Core.Path.{◌≡◌, refl, sym, ap, ◌∙◌, subst}
use mathlib.Core.Logic.{⊎_elim, ◌↔◌}
use mathlib.Core.Bool.{Bool, true, false, cond}
use mathlib.Core.List.Memᴰ
use mathlib.Core.List.{List, [], ◌∷◌, ◌++◌, Memᴰ}
use native.Mathlib.Omega.{arith}
use native.Mathlib.Decide.{dec_le}
use lib.Dec.{T, eqb, lit≤}
use lib.ListN.{length, get_or, set, length-set, replicate, length-replicate, get_or-replicate}
use lib.Seq.{get_or-set_same, get_or-set_other}
use borrow.Author.Tests.{ne_eqb, eq-eqb}
use Rattle.laws.proofs.Tests.{by_eqb}
use Rattle.calculus.specs.Answer.{good}
use Rattle.calculus.specs.Net.{Wire, Net}
use Rattle.calculus.specs.Lean.{driver, is_pin, back}
use Rattle.calculus.specs.Record.{All}
use Rattle.calculus.specs.Inputs.{made_at_lem, targets, is_out}
use Rattle.circuit_theorems.specs.Formed.{Formed}
use Rattle.calculus.specs.Translate.{full}
use Rattle.circuit_theorems.specs.Drive.{drive_all}
use Rattle.circuit_theorems.proofs.Lists.{all_map}
use Rattle.circuit_theorems.proofs.Terminals.{point_in, out_high, point_made, driver-fed, driver-any, ins_pin}
use Rattle.circuit_theorems.proofs.BackLaws.{back_point, back_pin}
use Rattle.circuit_theorems.proofs.Counts.{targets-below}
use Rattle.circuit_theorems.proofs.Wiring.{input-once, target_one, one_driver, free_driven, pin_undriven}
use Rattle.circuit_theorems.proofs.Main.{formed}

-- ---- laws of the table

pub drive_length : (ws : List Wire) (table : List ℕ) → length (drive_all ws table) ≡ length table
drive_length [] table = refl
drive_length (w ∷ ws) table = drive_length ws (set table w.to w.from) ∙ length-set table w.to w.from

pub drive_append : (ws vs : List Wire) (table : List ℕ) → drive_all (ws ++ vs) table ≡ drive_all vs (drive_all ws table)
drive_append [] vs table = refl
drive_append (w ∷ ws) vs table = drive_append ws vs (set table w.to w.from)

-- ---- the driver of an input

-- without a wire to it, there is none
pub driver-none : (ws : List Wire) (i d : ℕ) → targets ws i ≡ 0 → driver ws i d ≡ d
driver-none [] i d h = refl
driver-none (w ∷ ws) i d h =
    by_eqb (λ b. cond b 1 0 + targets ws i ≡ 0 → cond b w.from (driver ws i d) ≡ d) w.to i
    (λ q l. absurd (omega arith)) (λ q l. driver-none ws i d (omega arith)) h

-- with one, it is that wire's source
pub driver_mem : (ws : List Wire) (i d : ℕ) → 1 ≤ targets ws i → Memᴰ (record { from = driver ws i d; to = i }) ws
driver_mem [] i d h = absurd (omega arith)
driver_mem (w ∷ ws) i d h =
    by_eqb (λ b. 1 ≤ cond b 1 0 + targets ws i → Memᴰ (record { from = cond b w.from (driver ws i d); to = i }) (w ∷ ws)) w.to i
    (λ q l. Memᴰ.head (ap (λ (x : ℕ). record { from = w.from; to = x }) (sym q)))
    (λ q l. Memᴰ.tail (driver_mem ws i d (omega arith))) h

mem_target : (ws : List Wire) (w : Wire) → Memᴰ w ws → 1 ≤ targets ws w.to
mem_target [] w x = absurd (Memᴰ.not-nil x)
mem_target (v ∷ ws) w x =
    ⊎_elim (λ e. by_eqb (λ b. 1 ≤ cond b 1 0 + targets ws w.to) v.to w.to (λ q. omega arith) (λ q. absurd (q (ap (λ (z : Wire). z.to) (sym e)))))
    (λ y. omega (arith, mem_target ws w y)) (Memᴰ.cases_cons x)

pub mem_driver : (ws : List Wire) (w : Wire) (d : ℕ) → ((i : ℕ) → targets ws i ≤ 1) → Memᴰ w ws → driver ws w.to d ≡ w.from
mem_driver [] w d h x = absurd (Memᴰ.not-nil x)
mem_driver (v ∷ ws) w d h x =
    ⊎_elim
    (λ e. by_eqb (λ b. cond b v.from (driver ws w.to d) ≡ w.from) v.to w.to (λ q. ap (λ (z : Wire). z.from) (sym e)) (λ q. absurd (q (ap (λ (z : Wire). z.to) (sym e)))))
    (λ y. by_eqb (λ b. cond b 1 0 + targets ws w.to ≤ 1 → cond b v.from (driver ws w.to d) ≡ w.from) v.to w.to
    (λ q l. absurd (omega (arith, mem_target ws w y))) (λ q l. mem_driver ws w d (λ i. let k = h i in omega arith) y) (h w.to))
    (Memᴰ.cases_cons x)

-- ---- the table and the list

-- where no input is the target of two wires, an entry is the driver, or what stood there
pub drive_at : (ws : List Wire) (table : List ℕ) (i d : ℕ) → ((x : ℕ) → targets ws x ≤ 1) → All (λ w. w.to < length table) ws
    → get_or (drive_all ws table) i d ≡ driver ws i (get_or table i d)
drive_at [] table i d h a = refl
drive_at (w ∷ ws) table i d h a =
    drive_at ws (set table w.to w.from) i d (λ x. let k = h x in omega arith) (subst (λ (n : ℕ). All (λ v. v.to < n) ws) (sym (length-set table w.to w.from)) a.1)
    ∙ by_eqb (λ b. cond b 1 0 + targets ws i ≤ 1 → driver ws i (get_or (set table w.to w.from) i d) ≡ cond b w.from (driver ws i (get_or table i d))) w.to i
    (λ q l. driver-none ws i _ (omega arith) ∙ subst (λ (x : ℕ). get_or (set table w.to w.from) x d ≡ w.from) q (get_or-set_same table w.to w.from d a.0))
    (λ q l. ap (driver ws i) (get_or-set_other table w.to i w.from d (λ e. q (sym e)))) (h i)

-- a formed netlist with at most N terminals; `none` is no terminal
module _ (m : Net) (ok : Formed m) (N none : ℕ) (few : ok.end ≤ N) (big : N ≤ none) where
  abbrev table : List ℕ
  table = drive_all m.wires (replicate N none)

  from-below : All (λ w. w.from < N) m.wires
  from-below = all_map (λ w. T (is_out m.elements w.from)) (λ w. w.from < N) (λ w t. omega (arith, out_high m.elements 0 ok.end w.from ok.rising t)) m.wires ok.from

  to_below : All (λ w. w.to < length (replicate N none)) m.wires
  to_below = all_map (λ w. w.to < ok.end) (λ w. w.to < length (replicate N none)) (λ w l. rw (length-replicate N none) (omega arith)) m.wires (targets-below m ok)

  pub table_at : (i : ℕ) → i < N → get_or table i none ≡ driver m.wires i none
  table_at i h = drive_at m.wires (replicate N none) i none (target_one m ok) to_below ∙ ap (driver m.wires i) (get_or-replicate N i none none h)

  -- o stands at i exactly if a wire o-i stands in the list
  pub table_mem : (o i : ℕ) → o < N → i < N → (get_or table i none ≡ o) ↔ Memᴰ (record { from = o; to = i }) m.wires
  table_mem o i ho hi = (
    (λ e. there (sym (table_at i hi) ∙ e)),
    (λ x. table_at i hi ∙ mem_driver m.wires (record { from = o; to = i }) none (target_one m ok) x),
  )
    where
      there : driver m.wires i none ≡ o → Memᴰ (record { from = o; to = i }) m.wires
      there e =
          elim (dec_le 1 (targets m.wires i)) [
            | yes l ↦ subst (λ (x : ℕ). Memᴰ (record { from = x; to = i }) m.wires) e (driver_mem m.wires i none l)
            | no l ↦ absurd (omega (arith, driver-none m.wires i none (omega arith)))
          ]

  driven-below : (i : ℕ) → i < N → 1 ≤ targets m.wires i → get_or table i none < N
  driven-below i hi l = rw (table_at i hi) (driver-fed (λ x. x < N) m.wires i none from-below l)

  -- `none` stands at i exactly if no wire goes to i
  pub table_none : (i : ℕ) → i < N → (get_or table i none ≡ none) ↔ (targets m.wires i ≡ 0)
  table_none i hi = (
    (λ e. elim (dec_le 1 (targets m.wires i)) [ yes l ↦ absurd (omega (arith, driven-below i hi l)) | no l ↦ omega arith ]),
    (λ e. table_at i hi ∙ driver-none m.wires i none e),
  )

  -- at an input, exactly if it is a pin
  pub table_pin : (i : ℕ) → i < N → made_at_lem m.elements i ≡ 1 → (get_or table i none ≡ none) ↔ T (is_pin m.pins i)
  table_pin i hi e = (
    (λ q. ins_pin m.pins i (omega (arith, (table_none i hi).0 q, one_driver m ok i e))),
    (λ u. (table_none i hi).1 (pin_undriven m ok i u)),
  )

  -- an input that is no pin: its entry is the output that drives it
  pub table-driver : (i d : ℕ) → i < N → made_at_lem m.elements i ≡ 1 → is_pin m.pins i ≡ false → get_or table i none ≡ driver m.wires i d
  table-driver i d hi e u = table_at i hi ∙ driver-any m.wires i none d (omega (arith, free_driven m ok i e u))

  -- one step back from a point's output, by the table: it stays at `none`
  pub table-back : (i : ℕ) → i < N → T (point_in m.elements i) → back m (i + 1) ≡ cond (eqb (get_or table i none) none) (i + 1) (get_or table i none)
  table-back i hi h = by_pin (is_pin m.pins i) refl
    where
      is_made : made_at_lem m.elements i ≡ 1
      is_made = omega (arith, point_made m.elements i h, input-once m ok i)

      by_pin : (b : Bool) → is_pin m.pins i ≡ b → back m (i + 1) ≡ cond (eqb (get_or table i none) none) (i + 1) (get_or table i none)
      by_pin true u =
          let t : T (is_pin m.pins i) = subst T (sym u) tt in
          let e : eqb (get_or table i none) none ≡ true = eq-eqb _ _ ((table_pin i hi is_made).1 t) in
          back_pin m i t ∙ sym (ap (λ (b : Bool). cond b (i + 1) (get_or table i none)) e)
      by_pin false u =
          let e : eqb (get_or table i none) none ≡ false = ne_eqb _ _ (λ (q : get_or table i none ≡ none). omega (arith, driven-below i hi (omega (arith, free_driven m ok i is_made u)))) in
          back_point m i h u ∙ sym (table-driver i (i + 1) hi is_made u) ∙ sym (ap (λ (b : Bool). cond b (i + 1) (get_or table i none)) e)

-- ---- every accepted sheet: 8,192 entries, 65,535 for none

module _ (s : List ℕ) (m : Net) (ok : full s ≡ good m) where
  pub table_list_lem : (i : ℕ) → i < 8192 → get_or (drive_all m.wires (replicate 8192 65535)) i 65535 ≡ driver m.wires i 65535
  table_list_lem = table_at m (formed s m ok).net 8192 65535 (formed s m ok).few (lit≤ tt)

  pub table-wire : (o i : ℕ) → o < 8192 → i < 8192
      → (get_or (drive_all m.wires (replicate 8192 65535)) i 65535 ≡ o) ↔ Memᴰ (record { from = o; to = i }) m.wires
  table-wire = table_mem m (formed s m ok).net 8192 65535 (formed s m ok).few (lit≤ tt)

  pub table-no_wire : (i : ℕ) → i < 8192 → (get_or (drive_all m.wires (replicate 8192 65535)) i 65535 ≡ 65535) ↔ (targets m.wires i ≡ 0)
  table-no_wire = table_none m (formed s m ok).net 8192 65535 (formed s m ok).few (lit≤ tt)

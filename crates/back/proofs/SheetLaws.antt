-- The whole sheet: its rows in a row, and its length. Assumes nothing.
use Prim.Native.Nat.{ℕ, zero, suc, ◌+◌, ◌-◌, ◌*◌, ◌≤◌}
use mathlib.Core.Path.{◌≡◌, refl, sym, ap, ap₂, ◌∙◌}
use mathlib.Core.List.{List, [], ◌∷◌, ◌++◌, append_assoc}
use native.Mathlib.Omega.{arith}
use lib.ListN.{length, length-append}
use lib.Seq.{sets}
use borrow.Author.Tests.{le-ltb}
use Rattle.calculus.specs.Terms.{part_at, fix}
use Rattle.calculus.specs.Write.{table_bytes, term_bytes, record_bytes, sheet_bytes}
use Rattle.calculus.specs.Net.{Element, point, part, Net}
use Rattle.calculus.specs.Record.{All}
use Rattle.back_calculus.specs.Back.{Gate, sources, undrivens, gates_from, gates, open_ins, tuple, back_table, tuple_term, projections, back_term, gates_sheet, back_sheet}
use Rattle.back_calculus.specs.Promises.{PartOnly}
use Rattle.back_theorems.proofs.Typing.{few}
use Rattle.back_theorems.proofs.CameBack.{gates-length}
use Rattle.back.specs.Gates.{net_here, input_total, Limited}
use Rattle.back.specs.Rows.{rows_up_to, function_row, projection_row, pair_row, tuple_rows, gate_row, gate_of, sheet_length}
use Rattle.laws.proofs.Regions.{written-more}
use Rattle.back.proofs.RowLaws.{rows-length}
use Rattle.back.proofs.TermLaws.{arrows-few, types-length, functions-bytes, projections-bytes}
use Rattle.back.proofs.WriteLaws.{gate-length, rows_of}

-- ---- its rows

abbrev pub all_rows : Net → ℕ → ℕ → List ℕ
all_rows m q k = table_bytes (back_table q k) ++ (rows_up_to (function_row (tuple q + k)) k ++ ((0x19 ∷ tuple q ∷ []) ++ (rows_up_to projection_row q ++ term_bytes (tuple_term k q (gates m)))))

gates-rows : (gs : List Gate) (q k : ℕ) → length gs ≡ suc q → open_ins gs ≡ k
    → gates_sheet gs ≡ table_bytes (back_table q k) ++ (rows_up_to (function_row (tuple q + k)) k ++ ((0x19 ∷ tuple q ∷ []) ++ (rows_up_to projection_row q ++ term_bytes (tuple_term k q gs))))
unfolding sheet_bytes record_bytes
gates-rows [] q k e o = absurd (omega arith)
gates-rows (g ∷ gs) q k e o =
    let l : length gs ≡ q = omega arith in
    ap₂ (λ (x y : ℕ). table_bytes (back_table x y) ++ term_bytes (back_term x y (g ∷ gs))) l o
    ∙ ap (λ (b : List ℕ). table_bytes (back_table q k) ++ b)
    (functions-bytes (tuple q) k (fix (tuple q) (projections q (tuple_term k q (g ∷ gs)))) ∙ ap (λ (b : List ℕ). rows_up_to (function_row (tuple q + k)) k ++ (0x19 ∷ tuple q ∷ b)) (projections-bytes q (tuple_term k q (g ∷ gs))))

module _ (s : List ℕ) (n k : ℕ) (l : Limited s n k) where
  pub sheet-rows : back_sheet (net_here s) ≡ all_rows (net_here s) (n - 1) k
  unfolding back_sheet
  sheet-rows =
      let c = l.of.count in
      let o = l.some in
      gates-rows (gates (net_here s)) (n - 1) k (omega (arith, gates-length (net_here s) (net_here s).elements 0 l.of.parts)) (sym l.undriven)

  -- ---- its length

  pub sheet-sum : length (back_sheet (net_here s)) ≡ length (table_bytes (back_table (n - 1) k)) + 2 * k + 2 + 3 * (n - 1) + length (term_bytes (tuple_term k (n - 1) (gates (net_here s))))
  sheet-sum =
      let q = n - 1 in
      let u = term_bytes (tuple_term k q (gates (net_here s))) in
      let p = rows_up_to projection_row q in
      let f = rows_up_to (function_row (tuple q + k)) k in
      ap length sheet-rows ∙ length-append (table_bytes (back_table q k)) (f ++ ((0x19 ∷ tuple q ∷ []) ++ (p ++ u)))
      ∙ omega (arith, length-append f ((0x19 ∷ tuple q ∷ []) ++ (p ++ u)), length-append p u, rows-length (function_row (tuple q + k)) 2 (λ j. refl) k, rows-length projection_row 3 (λ j. refl) q)

  pub sheet-written : (out o₁ o₂ o₃ o₄ o₅ : List ℕ) (at t : ℕ) → at ≡ length (table_bytes (back_table (n - 1) k)) → t ≡ tuple (n - 1) → o₁ ≡ sets out 0 (table_bytes (back_table (n - 1) k))
      → o₂ ≡ sets o₁ at (rows_up_to (function_row (t + k)) k) → o₃ ≡ sets o₂ (at + 2 * k) (0x19 ∷ t ∷ []) → o₄ ≡ sets o₃ (at + 2 * k + 2) (rows_up_to projection_row (n - 1))
      → o₅ ≡ sets o₄ (at + 2 * k + 2 + 3 * (n - 1)) (term_bytes (tuple_term k (n - 1) (gates (net_here s)))) → o₅ ≡ sets out 0 (back_sheet (net_here s))
  sheet-written out o₁ o₂ o₃ o₄ o₅ at t z y a b c d e =
      let q = n - 1 in
      let T = table_bytes (back_table q k) in
      let F = rows_up_to (function_row (t + k)) k in
      let X : List ℕ = 0x19 ∷ t ∷ [] in
      let P = rows_up_to projection_row q in
      let U = term_bytes (tuple_term k q (gates (net_here s))) in
      let lf = rows-length (function_row (t + k)) 2 (λ j. refl) k in
      let lp = rows-length projection_row 3 (λ j. refl) q in
      let l₂ = length-append T F in
      let l₃ = length-append (T ++ F) X in
      let l₄ = length-append ((T ++ F) ++ X) P in
      let e₂ : o₂ ≡ sets out 0 (T ++ F) = b ∙ ap (λ (o : List ℕ). sets o at F) a ∙ written-more out T F 0 at (omega arith) in
      let e₃ : o₃ ≡ sets out 0 ((T ++ F) ++ X) = c ∙ ap (λ (o : List ℕ). sets o (at + 2 * k) X) e₂ ∙ written-more out (T ++ F) X 0 (at + 2 * k) (omega arith) in
      let e₄ : o₄ ≡ sets out 0 (((T ++ F) ++ X) ++ P) = d ∙ ap (λ (o : List ℕ). sets o (at + 2 * k + 2) P) e₃ ∙ written-more out ((T ++ F) ++ X) P 0 (at + 2 * k + 2) (omega arith) in
      let e₅ : o₅ ≡ sets out 0 ((((T ++ F) ++ X) ++ P) ++ U) =
      e ∙ ap (λ (o : List ℕ). sets o (at + 2 * k + 2 + 3 * (n - 1)) U) e₄ ∙ written-more out (((T ++ F) ++ X) ++ P) U 0 (at + 2 * k + 2 + 3 * (n - 1)) (omega arith) in
      let g : (((T ++ F) ++ X) ++ P) ++ U ≡ T ++ (F ++ (X ++ (P ++ U))) = append_assoc ((T ++ F) ++ X) P U ∙ append_assoc (T ++ F) X (P ++ U) ∙ append_assoc T F (X ++ (P ++ U)) in
      e₅ ∙ ap (λ (bs : List ℕ). sets out 0 bs) (g ∙ ap (λ (x : ℕ). T ++ (rows_up_to (function_row (x + k)) k ++ ((0x19 ∷ x ∷ []) ++ (P ++ U)))) y ∙ sym sheet-rows)

-- all parts: two bytes a pair, three a constant, three an input
pair_length : (l : ℕ) → length (pair_row (suc l)) ≡ 2 * l - 2 * (l - 1)
pair_length zero = refl
pair_length (suc l) = rw (le-ltb (suc (suc l)) 2 (omega arith)) (omega arith)

parts-length : (m : Net) (k q : ℕ) (es : List Element) (j : ℕ) → All PartOnly es → length (tuple_rows k q (gates_from m es j)) ≡ 2 * (length es - 1) + 3 * length es + 3 * input_total es
parts-length m k q [] j o = refl
parts-length m k q (point i ∷ es) j o = absurd o.0
parts-length m k q (part p i ∷ es) j o =
    let t = j + undrivens (sources m (part_at p).inputs i j) in
    let g = gate_of m (part p i) j in
    let n : length (gates_from m es t) ≡ length es = gates-length m es t o.1 in
    length-append (gate_row k q (suc (length (gates_from m es t))) g) (tuple_rows k q (gates_from m es t))
    ∙ omega (arith, gate-length m k q (suc (length (gates_from m es t))) p i j, pair_length (length (gates_from m es t)), parts-length m k q es t o.1)

pub sheet-length : (s : List ℕ) (n k inputs : ℕ) (l : Limited s n k) → inputs ≡ input_total (net_here s).elements → sheet_length n k inputs ≡ length (back_sheet (net_here s))
sheet-length s n k inputs l i =
    let c = l.of.count in
    let o = l.some in
    let e = ap length (rows_of (net_here s) k (n - 1) l.of.parts (omega arith)) in
    omega (arith, sheet-sum s n k l, types-length n k l.some, parts-length (net_here s) k (n - 1) (net_here s).elements 0 l.of.parts)

pub inputs-few : (es : List Element) → All PartOnly es → input_total es ≤ 2 * length es
inputs-few [] o = omega arith
inputs-few (point i ∷ es) o = absurd o.0
inputs-few (part p i ∷ es) o = omega (arith, few p, inputs-few es o.1)

-- 393 bytes always do
pub sheet_enough : (s : List ℕ) (n k : ℕ) → Limited s n k → length (back_sheet (net_here s)) ≤ 393
sheet_enough s n k l =
    let c = l.of.count in
    let m = l.most in
    let f = l.few in
    omega (arith, sheet-length s n k (input_total (net_here s).elements) l refl, inputs-few (net_here s).elements l.of.parts, arrows-few n k)

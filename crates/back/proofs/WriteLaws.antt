-- The variables, a part and all parts, as they are written one behind the other. Assumes nothing.
use Prim.Native.Nat.{ℕ, suc, ◌+◌, ◌-◌, ◌*◌, ◌<◌, ◌≤◌}
use mathlib.Core.Path.{◌≡◌, refl, sym, ap, ap₂, subst, ◌∙◌}
use mathlib.Core.List.{List, [], ◌∷◌, ◌++◌, append-nil, append_assoc}
use native.Mathlib.Omega.{arith}
use native.Mathlib.Numerals.{add-one}
use lib.ListN.{length, get_or, drop, length-append, length-drop}
use lib.Seq.{sets, drop-cons}
use Rattle.calculus.specs.Terms.{part_at}
use Rattle.calculus.specs.Net.{Element, point, part, Net}
use Rattle.calculus.specs.Write.{term_bytes}
use Rattle.calculus.specs.Lean.{driver}
use Rattle.calculus.specs.Record.{All}
use Rattle.back_calculus.specs.Back.{DrivenBy, Gate, part_before, sources, undrivens, gates_from, gates, open_ins, tuple_term}
use Rattle.back_calculus.specs.Promises.{PartOnly}
use Rattle.back_theorems.proofs.CameBack.{gates-length}
use Rattle.circuit_theorems.proofs.Lists.{all-at, all_drop}
use Rattle.back.specs.Gates.{net_here, AcceptedNet}
use Rattle.back.specs.Rows.{rows_up_to, application_row, pair_row, head_row, source_rows, gate_row, tuple_rows, gate_of}
use Rattle.laws.proofs.Regions.{written-more, drop_past}
use Rattle.back.proofs.RowLaws.{rows-length}
use Rattle.back.proofs.TermLaws.{GateFull, tuple-bytes}
use Rattle.back.proofs.SourceLaws.{source_open, source-wired, sources_split, undrivens-append, sources-length}

-- ---- one variable

module _ (s : List ℕ) (a : AcceptedNet s) (k q i j : ℕ) where
  pub open_row : driver (net_here s).wires i 65535 ≡ 65535 → (j + 1 ≡ j + undrivens (sources (net_here s) 1 i j)) × (0x11 ∷ (k + 2 * q - j) ∷ [] ≡ source_rows k q (sources (net_here s) 1 i j))
  open_row e = let z = source_open s a i j e in (ap (λ (ss : List DrivenBy). j + undrivens ss) (sym z), ap (source_rows k q) (sym z))

  pub wired-row : (driver (net_here s).wires i 65535 ≡ 65535 → ⊥)
      → (j ≡ j + undrivens (sources (net_here s) 1 i j)) × (0x11 ∷ (2 * (q - part_before (net_here s).elements (driver (net_here s).wires i 65535)) - 1) ∷ [] ≡ source_rows k q (sources (net_here s) 1 i j))
  wired-row d = let z = source-wired s a i j d in let n : j + 0 ≡ j = omega arith in (sym n ∙ ap (λ (ss : List DrivenBy). j + undrivens ss) (sym z), ap (source_rows k q) (sym z))

-- ---- those of a part

rows_append : (k q : ℕ) (ss rs : List DrivenBy) → source_rows k q (ss ++ rs) ≡ source_rows k q ss ++ source_rows k q rs
rows_append k q [] rs = refl
rows_append k q (s ∷ ss) rs = rw (rows_append k q ss rs)

source-length : (k q : ℕ) (ss : List DrivenBy) → length (source_rows k q ss) ≡ 2 * length ss
source-length k q [] = refl
source-length k q (s ∷ ss) = omega (arith, source-length k q ss)

module _ (m : Net) (k q f j : ℕ) where
  pub two-undriven : (one : ℕ) → one ≡ j + undrivens (sources m 1 f j) → one + undrivens (sources m 1 (f + 1) one) ≡ j + undrivens (sources m 2 f j)
  two-undriven one e =
      ap₂ ◌+◌ e (ap (λ (x : ℕ). undrivens (sources m 1 (f + 1) x)) e)
      ∙ omega (arith, ap undrivens (sources_split m 1 f j), undrivens-append m (sources m 1 f j) (sources m 1 (f + 1) (j + undrivens (sources m 1 f j))))

  pub two-written : (out o₁ o₂ : List ℕ) (at one : ℕ) → one ≡ j + undrivens (sources m 1 f j) → o₁ ≡ sets out at (source_rows k q (sources m 1 f j)) → o₂ ≡ sets o₁ (at + 2) (source_rows k q (sources m 1 (f + 1) one))
      → o₂ ≡ sets out at (source_rows k q (sources m 2 f j))
  two-written out o₁ o₂ at one e a b =
      b ∙ ap₂ (λ (o : List ℕ) (x : ℕ). sets o (at + 2) (source_rows k q (sources m 1 (f + 1) x))) a e
      ∙ written-more out (source_rows k q (sources m 1 f j)) (source_rows k q (sources m 1 (f + 1) (j + undrivens (sources m 1 f j)))) at (at + 2) (omega (arith, source-length k q (sources m 1 f j), sources-length m 1 f j))
      ∙ ap (λ (bs : List ℕ). sets out at bs) (sym (rows_append k q (sources m 1 f j) (sources m 1 (f + 1) (j + undrivens (sources m 1 f j)))) ∙ ap (source_rows k q) (sym (sources_split m 1 f j)))

-- ---- a part

head_length : (p n : ℕ) → length (head_row p n) ≡ n + 3
head_length p n = length-append (rows_up_to application_row n) (0x1A ∷ p ∷ n ∷ []) ∙ omega (arith, rows-length application_row 1 (λ j. refl) n)

module _ (m : Net) (k q left p f j : ℕ) where
  pub gate-length : length (gate_row k q left (gate_of m (part p f) j)) ≡ length (pair_row left) + 3 + 3 * (part_at p).inputs
  gate-length =
      let n = (part_at p).inputs in
      length-append (pair_row left) (head_row p n ++ source_rows k q (sources m n f j))
      ∙ omega (arith, length-append (head_row p n) (source_rows k q (sources m n f j)), head_length p n, source-length k q (sources m n f j), sources-length m n f j)

  pub part-written : (out o₁ o₂ o₃ : List ℕ) (at mid end n : ℕ) → n ≡ (part_at p).inputs → mid ≡ at + length (pair_row left) → end ≡ mid + n + 3
      → o₁ ≡ sets out at (pair_row left) → o₂ ≡ sets o₁ mid (head_row p n) → o₃ ≡ sets o₂ end (source_rows k q (sources m n f j)) → o₃ ≡ sets out at (gate_row k q left (gate_of m (part p f) j))
  part-written out o₁ o₂ o₃ at mid end n i e g a b c =
      let x : o₂ ≡ sets out at (pair_row left ++ head_row p n) = b ∙ ap (λ (o : List ℕ). sets o mid (head_row p n)) a ∙ written-more out (pair_row left) (head_row p n) at mid e in
      let y : o₃ ≡ sets out at ((pair_row left ++ head_row p n) ++ source_rows k q (sources m n f j)) =
      c ∙ ap (λ (o : List ℕ). sets o end (source_rows k q (sources m n f j))) x
      ∙ written-more out (pair_row left ++ head_row p n) (source_rows k q (sources m n f j)) at end (omega (arith, length-append (pair_row left) (head_row p n), head_length p n)) in
      y ∙ ap (λ (bs : List ℕ). sets out at bs) (append_assoc (pair_row left) (head_row p n) (source_rows k q (sources m n f j)))
      ∙ ap (λ (x : ℕ). sets out at (pair_row left ++ (head_row p x ++ source_rows k q (sources m x f j)))) i

-- what its room and its inputs come to, by the element at its place
module _ (m : Net) (es : List Element) (r p f : ℕ) (g : part p f ≡ get_or es r (point 0)) (k q left j : ℕ) where
  pub part_room : (at room : ℕ) → at + length (gate_row k q left (gate_of m (get_or es r (point 0)) j)) ≤ room → at + (length (pair_row left) + 3 + 3 * (part_at p).inputs) ≤ room
  part_room at room h = let e : at + length (gate_row k q left (gate_of m (part p f) j)) ≤ room = subst (λ (x : Element). at + length (gate_row k q left (gate_of m x j)) ≤ room) (sym g) h in omega (arith, gate-length m k q left p f j)

  pub part_low : (n : ℕ) → n ≡ (part_at p).inputs → j + undrivens (gate_of m (get_or es r (point 0)) j).ins ≤ k → j + undrivens (sources m n f j) ≤ k
  part_low n i h = subst (λ (x : ℕ). j + undrivens (sources m x f j) ≤ k) (sym i) (subst (λ (x : Element). j + undrivens (gate_of m x j).ins ≤ k) (sym g) h)

-- ---- all parts

-- r parts are written, as `done`; what is left follows them
pub record PartsWritten (m : Net) (k q from : ℕ) (out₀ out : List ℕ) (at before r : ℕ) : Type 0 where
  pub done : List ℕ
  pub same : length out ≡ length out₀
  pub past : at ≡ from + length done
  pub stands : out ≡ sets out₀ from done
  pub whole : done ++ tuple_rows k q (gates_from m (drop r m.elements) before) ≡ tuple_rows k q (gates m)
  pub opens : before + open_ins (gates_from m (drop r m.elements) before) ≡ k

gate-next : (m : Net) (e : Element) (l : List Element) (j : ℕ) → PartOnly e → gates_from m (e ∷ l) j ≡ gate_of m e j ∷ gates_from m l (j + undrivens (gate_of m e j).ins)
gate-next m (point i) l j o = absurd o
gate-next m (part p i) l j o = refl

module _ (m : Net) (k q from : ℕ) (out₀ out : List ℕ) (at before r n : ℕ) (o : All PartOnly m.elements) (c : n ≡ length m.elements) (h : r < n) (w : PartsWritten m k q from out₀ out at before r) where
  abbrev here : Gate
  here = gate_of m (get_or m.elements r (point 0)) before

  abbrev rest : List Gate
  rest = gates_from m (drop (r + 1) m.elements) (before + undrivens (gate_of m (get_or m.elements r (point 0)) before).ins)

  next : gates_from m (drop r m.elements) before ≡ here ∷ rest
  next =
      ap (λ (l : List Element). gates_from m l before) (drop-cons m.elements r (point 0) (omega arith) ∙ ap (λ (x : ℕ). get_or m.elements r (point 0) ∷ drop x m.elements) (sym (add-one r)))
      ∙ gate-next m (get_or m.elements r (point 0)) (drop (r + 1) m.elements) before (all-at PartOnly m.elements r (point 0) o (omega arith))

  left : suc (length rest) ≡ n - r
  left =
      let e = gates-length m (drop (r + 1) m.elements) (before + undrivens (gate_of m (get_or m.elements r (point 0)) before).ins) (all_drop PartOnly (r + 1) m.elements o) in
      omega (arith, length-drop (r + 1) m.elements)

  row : tuple_rows k q (gates_from m (drop r m.elements) before) ≡ gate_row k q (n - r) here ++ tuple_rows k q rest
  row = ap (tuple_rows k q) next ∙ ap (λ (x : ℕ). gate_row k q x here ++ tuple_rows k q rest) left

  pub next_low : before + undrivens (gate_of m (get_or m.elements r (point 0)) before).ins ≤ k
  next_low = omega (arith, ap open_ins next, w.opens)

  pub next-room : (room : ℕ) → from + length (tuple_rows k q (gates m)) ≤ room → at + length (gate_row k q (n - r) (gate_of m (get_or m.elements r (point 0)) before)) ≤ room
  next-room room l =
      omega (arith, w.past, ap length w.whole, length-append w.done (tuple_rows k q (gates_from m (drop r m.elements) before)), ap length row, length-append (gate_row k q (n - r) here) (tuple_rows k q rest))

  pub next-written : (out' : List ℕ) (at' before' : ℕ) → length out' ≡ length out → at' ≡ at + length (gate_row k q (n - r) (gate_of m (get_or m.elements r (point 0)) before))
      → before' ≡ before + undrivens (gate_of m (get_or m.elements r (point 0)) before).ins → out' ≡ sets out at (gate_row k q (n - r) (gate_of m (get_or m.elements r (point 0)) before))
      → PartsWritten m k q from out₀ out' at' before' (r + 1)
  next-written out' at' before' z a b d =
      let g = gate_row k q (n - r) here in
      record {
        done = w.done ++ g;
        same = z ∙ w.same;
        past = omega (arith, a, w.past, length-append w.done g);
        stands = d ∙ ap (λ (l : List ℕ). sets l at g) w.stands ∙ written-more out₀ w.done g from at w.past;
        whole = rw b (append_assoc w.done g (tuple_rows k q rest) ∙ ap (λ (l : List ℕ). w.done ++ l) (sym row) ∙ w.whole);
        opens = rw b (let e : before + (undrivens here.ins + open_ins rest) ≡ k = ap (λ (x : ℕ). before + x) (sym (ap open_ins next)) ∙ w.opens in omega arith);
      }

pub all-written : (m : Net) (k q from : ℕ) (out₀ out : List ℕ) (at before r : ℕ) → length m.elements ≤ r → PartsWritten m k q from out₀ out at before r → out ≡ sets out₀ from (tuple_rows k q (gates m))
all-written m k q from out₀ out at before r h w =
    w.stands ∙ ap (sets out₀ from) (sym (append-nil w.done) ∙ ap (λ (l : List Element). w.done ++ tuple_rows k q (gates_from m l before)) (sym (drop_past m.elements r h)) ∙ w.whole)

-- ---- the parts' rows are the term's bytes

gates-whole : (m : Net) (es : List Element) (j : ℕ) → All GateFull (gates_from m es j)
gates-whole m [] j = tt
gates-whole m (point i ∷ es) j = gates-whole m es j
gates-whole m (part p i ∷ es) j = (sources-length m (part_at p).inputs i j, gates-whole m es (j + undrivens (sources m (part_at p).inputs i j)))

pub rows_of : (m : Net) (k q : ℕ) → All PartOnly m.elements → 1 ≤ length m.elements → term_bytes (tuple_term k q (gates m)) ≡ tuple_rows k q (gates m)
rows_of m k q o h = by (gates m) (gates-whole m m.elements 0) (gates-length m m.elements 0 o)
  where
    by : (gs : List Gate) → All GateFull gs → length gs ≡ length m.elements → term_bytes (tuple_term k q gs) ≡ tuple_rows k q gs
    by [] w e = absurd (omega arith)
    by (g ∷ gs) w e = tuple-bytes k q g gs w

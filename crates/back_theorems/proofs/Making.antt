-- The full netlist of the sheet that is written for a netlist (document 02, L11), written out. Assumes nothing.
use Prim.Native.Nat.{ℕ, zero, suc, ◌+◌, ◌-◌, ◌*◌, ◌<◌, ◌≤◌}
use mathlib.Core.Path.{◌≡◌, refl, sym, ap, ap₂, subst, ◌∙◌}
use mathlib.Core.Bool.{Bool, false}
use mathlib.Core.List.{List, [], ◌∷◌, ◌++◌, append-nil, append_assoc}
use native.Mathlib.Omega.{arith}
use lib.ListN.{length, get_or}
use Rattle.calculus.specs.Types.{Ty, bit, size, Table}
use Rattle.calculus.specs.Terms.{Term, var, app, fix, con, part_at}
use Rattle.calculus.specs.Net.{inp, out, Interface, turns, Element, point, part, Wire, Net, points, in_side, out_side, join, part_side, Bound, unbound, Made, left_of, binder, made_var, made_fun, made_app, made_fix, make, net_of}
use Rattle.calculus.specs.Record.{All}
use Rattle.back_calculus.specs.Back.{DrivenBy, undriven, output, Gate, tuple, back_table, binder_number, applied, gate_term, tuple_term, projections, functions, back_term, points_from, parts_from, gate_wires, all_wires, inputs_from, outputs_from}
use Rattle.back_theorems.proofs.Typing.{tuple_type, towards, HoldsTypes, holds, SourceIn, GateIn, few}

-- ---- a variable of c tuple_type

abbrev falses : ℕ → List Bool
falses zero = []
falses (suc c) = false ∷ falses c

abbrev pub outs_of : ℕ → ℕ → Interface
outs_of zero n = []
outs_of (suc c) n = out (n + 1) ∷ outs_of c (n + 2)

turns-tuple_type : (q : ℕ) → turns false (tuple_type q) ≡ falses (suc q)
turns-tuple_type zero = refl
turns-tuple_type (suc q) = ap (λ (r : List Bool). false ∷ r) (turns-tuple_type q)

pub size-tuple_type : (q : ℕ) → size (tuple_type q) ≡ suc q
size-tuple_type zero = refl
size-tuple_type (suc q) = omega (arith, size-tuple_type q)

points-falses : (c n : ℕ) → points (falses c) n ≡ points_from c n
points-falses zero n = refl
points-falses (suc c) n = ap (λ (r : List Element). point n ∷ r) (points-falses c (n + 2))

in_falses : (c n : ℕ) → in_side (falses c) n ≡ inputs_from c n
in_falses zero n = refl
in_falses (suc c) n = ap (λ (r : Interface). inp n ∷ r) (in_falses c (n + 2))

out_falses : (c n : ℕ) → out_side (falses c) n ≡ outs_of c n
out_falses zero n = refl
out_falses (suc c) n = ap (λ (r : Interface). out (n + 1) ∷ r) (out_falses c (n + 2))

-- the variable of the fixed point, and of what is left of it, from terminal n on
abbrev left : ℕ → ℕ → Bound
left q n = record { type = tuple_type q; side = outs_of (suc q) n }

binder-tuple_type : (q n : ℕ) → binder (tuple_type q) n ≡ left q n
binder-tuple_type q n = ap (λ (s : Interface). record { type = tuple_type q; side = s }) (ap (λ (ts : List Bool). out_side ts n) (turns-tuple_type q) ∙ out_falses (suc q) n)

-- ---- the binders

abbrev opened_env : ℕ → ℕ → List Bound → List Bound
opened_env zero n env = env
opened_env (suc k) n env = opened_env k (n + 2) (binder bit n ∷ env)

abbrev scope_env : ℕ → ℕ → List Bound → List Bound
scope_env zero n env = left zero n ∷ env
scope_env (suc q) n env = scope_env q (n + 2) (binder bit n ∷ left (suc q) n ∷ env)

look : (env : List Bound) {i : ℕ} (j : ℕ) (b : Bound) → i ≡ j → get_or env i unbound ≡ b → get_or env j unbound ≡ b
look env j b e h = subst (λ (n : ℕ). get_or env n unbound ≡ b) e h

look-deep : (q n : ℕ) (env : List Bound) (i : ℕ) (b : Bound) → get_or env i unbound ≡ b → get_or (scope_env q n env) (i + 2 * q + 1) unbound ≡ b
look-deep zero n env i b h = look (left zero n ∷ env) {i = suc i} (i + 2 * 0 + 1) b (omega arith) h
look-deep (suc q) n env i b h = look (scope_env (suc q) n env) {i = suc (suc i) + 2 * q + 1} (i + 2 * suc q + 1) b (omega arith) (look-deep q (n + 2) (binder bit n ∷ left (suc q) n ∷ env) (suc (suc i)) b h)

look-last : (q n : ℕ) (env : List Bound) → get_or (scope_env q n env) 0 unbound ≡ binder bit (n + 2 * q)
look-last zero n env = let e : n + 2 * 0 ≡ n = omega arith in rw e
look-last (suc q) n env = look-last q (n + 2) _ ∙ ap (binder bit) (let e : n + 2 + 2 * q ≡ n + 2 * suc q = omega arith in e)

look-named : (q r n : ℕ) (env : List Bound) → r ≤ q → get_or (scope_env q n env) (2 * (q - r) - 1) unbound ≡ binder bit (n + 2 * r)
look-named zero r n env h = let e : r ≡ 0 = omega arith in look (scope_env zero n env) {i = 0} (2 * (0 - r) - 1) _ (omega arith) (let f : n + 2 * r ≡ n = omega arith in rw f)
look-named (suc q) zero n env h = look (scope_env (suc q) n env) {i = 0 + 2 * q + 1} (2 * (suc q - 0) - 1) _ (omega arith) (look-deep q (n + 2) (binder bit n ∷ left (suc q) n ∷ env) 0 _ (let f : n + 2 * 0 ≡ n = omega arith in rw f))
look-named (suc q) (suc r) n env h = look (scope_env (suc q) n env) {i = 2 * (q - r) - 1} (2 * (suc q - suc r) - 1) _ (omega arith) (look-named q r (n + 2) _ (omega arith) ∙ ap (binder bit) (let e : n + 2 + 2 * r ≡ n + 2 * suc r = omega arith in e))

look-past : (k n : ℕ) (env : List Bound) (i : ℕ) (b : Bound) → get_or env i unbound ≡ b → get_or (opened_env k n env) (i + k) unbound ≡ b
look-past zero n env i b h = look env {i = i} (i + 0) b (omega arith) h
look-past (suc k) n env i b h = look (opened_env (suc k) n env) {i = suc i + k} (i + suc k) b (omega arith) (look-past k (n + 2) (binder bit n ∷ env) (suc i) b h)

look_open : (k j n : ℕ) (env : List Bound) → j < k → get_or (opened_env k n env) (k - 1 - j) unbound ≡ binder bit (n + 2 * j)
look_open zero j n env h = absurd (omega arith)
look_open (suc k) zero n env h = look (opened_env (suc k) n env) {i = 0 + k} (suc k - 1 - 0) _ (omega arith) (look-past k (n + 2) (binder bit n ∷ env) 0 _ (let f : n + 2 * 0 ≡ n = omega arith in rw f))
look_open (suc k) (suc j) n env h = look (opened_env (suc k) n env) {i = k - 1 - j} (suc k - 1 - suc j) _ (omega arith) (look_open k j (n + 2) _ (omega arith) ∙ ap (binder bit) (let e : n + 2 + 2 * j ≡ n + 2 * suc j = omega arith in e))

-- ---- making

projections-made : (Θ : Table) (q n : ℕ) (env : List Bound) (e : Term) (t : ℕ) → make Θ (projections q e) (left q n ∷ env) t ≡ make Θ e (scope_env q n env) t
projections-made Θ zero n env e t = refl
projections-made Θ (suc q) n env e t = projections-made Θ q (n + 2) (binder bit n ∷ left (suc q) n ∷ env) e t

-- the point of a source, behind k undriven inputs
abbrev pub point_of : ℕ → DrivenBy → ℕ
point_of k (undriven j) = 2 * j
point_of k (output r) = 2 * k + 2 * r

module _ (Θ : Table) (q k : ℕ) (h : HoldsTypes Θ q k) where
  abbrev start : DrivenBy → ℕ
  start s = point_of k s

  abbrev pub before : DrivenBy → ℕ
  before s = start s + 1

  abbrev inner : List Bound
  inner = scope_env q (2 * k) (opened_env k 0 [])

  source-made : (s : DrivenBy) (t : ℕ) → SourceIn k q s → make Θ (var (binder_number k q s)) inner t ≡ made_var (binder bit (start s)) t
  source-made (undriven j) t l =
      ap (λ (b : Bound). made_var b t)
      (look inner {i = k - 1 - j + 2 * q + 1} (k + 2 * q - j) _ (omega arith) (look-deep q (2 * k) (opened_env k 0 []) (k - 1 - j) _ (look_open k j 0 [] l))
      ∙ ap (binder bit) (let e : 0 + 2 * j ≡ 2 * j = omega arith in e))
  source-made (output r) t l = ap (λ (b : Bound). made_var b t) (look-named q r (2 * k) (opened_env k 0 []) l)

  -- a part with wires to its first inputs: j inputs from terminal i on are left
  abbrev shape : ℕ → ℕ → List Wire → ℕ → ℕ → Made
  shape p n ws j i = record { elements = part p n ∷ []; wires = ws; type = towards j bit; side = part_side j i; next = n + (part_at p).inputs + 1 }

  -- one more wire
  app-shape : (p n : ℕ) (ws : List Wire) (j i b : ℕ) → made_app (shape p n ws (suc j) i) (made_var (binder bit b) (n + (part_at p).inputs + 1)) ≡ shape p n (ws ++ record { from = b + 1; to = i } ∷ []) j (i + 1)
  app-shape p n ws j i b = ap (λ (r : List Wire). shape p n (r ++ record { from = b + 1; to = i } ∷ []) j (i + 1)) (append-nil ws)

  applied-made : (p n : ℕ) (ss : List DrivenBy) (f : Term) (ws : List Wire) (i : ℕ) → All (SourceIn k q) ss → make Θ f inner n ≡ shape p n ws (length ss) i
      → make Θ (applied k q f ss) inner n ≡ shape p n (ws ++ gate_wires before ss i) 0 (i + length ss)
  applied-made p n [] f ws i a e = let z : i + 0 ≡ i = omega arith in rw (append-nil ws, z) e
  applied-made p n (s ∷ ss) f ws i a e =
      applied-made p n ss (app f (var (binder_number k q s))) (ws ++ record { from = before s; to = i } ∷ []) (i + 1) a.1
      (ap (λ (x : Made). made_app x (make Θ (var (binder_number k q s)) inner x.next)) e ∙ ap (λ (y : Made). made_app (shape p n ws (suc (length ss)) i) y) (source-made s (n + (part_at p).inputs + 1) a.0) ∙ app-shape p n ws (length ss) i (start s))
      ∙ ap₂ (λ (r : List Wire) (z : ℕ). shape p n r 0 z) (append_assoc ws (record { from = before s; to = i } ∷ []) (gate_wires before ss (i + 1))) (let z : i + 1 + length ss ≡ i + suc (length ss) = omega arith in z)

  gate-made : (g : Gate) (n : ℕ) → GateIn k q g → make Θ (gate_term k q g) inner n ≡ shape g.part n (gate_wires before g.ins n) 0 (n + (part_at g.part).inputs)
  gate-made g n o =
      applied-made g.part n g.ins (con g.part (part_at g.part).inputs) [] n o.from
      (ap₂ (λ (τ : Ty) (s : Interface). record { elements = part g.part n ∷ []; wires = []; type = τ; side = s; next = n + (part_at g.part).inputs + 1 })
      (h.low (part_at g.part).inputs (few g.part) ∙ ap (λ (j : ℕ). towards j bit) (sym o.whole)) (ap (λ (j : ℕ). part_side j n) (sym o.whole)))
      ∙ ap (λ (j : ℕ). shape g.part n (gate_wires before g.ins n) 0 (n + j)) o.whole

  pub record Made3 (m : Made) (es : List Element) (ws : List Wire) (s : Interface) : Type 0 where
    pub elements : m.elements ≡ es
    pub wires : m.wires ≡ ws
    pub side : m.side ≡ s

  tuple-made : (g : Gate) (gs : List Gate) (n : ℕ) → All (GateIn k q) (g ∷ gs) → Made3 (make Θ (tuple_term k q (g ∷ gs)) inner n) (parts_from (g ∷ gs) n) (all_wires before (g ∷ gs) n) (outputs_from (g ∷ gs) n)
  tuple-made g [] n o =
      let e = gate-made g n o.0 in
      record { elements = ap (λ (x : Made). x.elements) e; wires = ap (λ (x : Made). x.wires) e ∙ sym (append-nil (gate_wires before g.ins n)); side = ap (λ (x : Made). x.side) e }
  tuple-made g (f ∷ gs) n o =
      let e = gate-made g n o.0 in
      let r = tuple-made f gs (n + (part_at g.part).inputs + 1) o.1 in
      rw e (record {
        elements = ap (λ (es : List Element). part g.part n ∷ es) r.elements;
        wires = ap (λ (ws : List Wire). gate_wires before g.ins n ++ ws) r.wires;
        side = ap (λ (s : Interface). out (n + (part_at g.part).inputs) ∷ s) r.side;
      })

  fix-made : (e : Term) (env : List Bound) (n : ℕ) → make Θ (fix (tuple q) (projections q e)) env n ≡ made_fix (tuple_type q) n (make Θ e (scope_env q n env) (n + 2 * suc q))
  fix-made e env n =
      ap (λ (τ : Ty). made_fix τ n (make Θ (projections q e) (binder τ n ∷ env) (n + 2 * size τ))) (h.tuples q (omega arith))
      ∙ ap₂ (λ (b : Bound) (c : ℕ). made_fix (tuple_type q) n (make Θ (projections q e) (b ∷ env) (n + 2 * c))) (binder-tuple_type q n) (size-tuple_type q)
      ∙ ap (made_fix (tuple_type q) n) (projections-made Θ q n env e (n + 2 * suc q))

  -- functions around a body
  functions-made : (j : ℕ) (e : Term) (env : List Bound) (n end : ℕ) (es : List Element) (ws : List Wire) (s : Interface) → j ≤ k → end ≡ n + 2 * j → Made3 (make Θ e (opened_env j n env) end) es ws s
      → Made3 (make Θ (functions (tuple q) j e) env n) (points_from j n ++ es) ws (inputs_from j n ++ s)
  functions-made zero e env n end es ws s l z m = let f : end ≡ n = omega arith in subst (λ (x : ℕ). Made3 (make Θ e env x) es ws s) f m
  functions-made (suc j) e env n end es ws s l z m =
      let r = functions-made j e (binder bit n ∷ env) (n + 2) end es ws s (omega arith) (omega arith) m in
      subst (λ (τ : Ty). Made3 (made_fun τ n (make Θ (functions (tuple q) j e) (binder (left_of τ) n ∷ env) (n + 2 * size (left_of τ)))) (points_from (suc j) n ++ es) ws (inputs_from (suc j) n ++ s)) (sym (h.chain (suc j) l))
      (record {
        elements = ap (λ (x : List Element). point n ∷ x) r.elements;
        wires = r.wires;
        side = ap (λ (x : Interface). inp n ∷ x) r.side;
      })

-- the full netlist: the points of the functions and of the fixed point, the parts, the wires to the parts from the points of their drivers,
-- and the wires from the parts back to the points
abbrev pub full_net : ℕ → List Gate → Net
full_net k gs =
    let n = 2 * k + 2 * length gs in
    record {
      elements = points_from k 0 ++ (points_from (length gs) (2 * k) ++ parts_from gs n);
      wires = all_wires (λ s. point_of k s + 1) gs n ++ join (outputs_from gs n) (inputs_from (length gs) (2 * k));
      pins = inputs_from k 0 ++ outputs_from gs n;
    }

pub full-made : (k : ℕ) (g : Gate) (gs : List Gate) → All (GateIn k (length gs)) (g ∷ gs) → (length gs ≡ 0 → k ≤ 2) → net_of (make (back_table (length gs) k) (back_term (length gs) k (g ∷ gs)) [] 0) ≡ full_net k (g ∷ gs)
full-made k g gs o z =
    let q = length gs in
    let Θ = back_table q k in
    let h = holds q k z in
    let t = tuple-made Θ q k h g gs (2 * k + 2 * suc q) o in
    let m = make Θ (tuple_term k q (g ∷ gs)) (scope_env q (2 * k) (opened_env k 0 [])) (2 * k + 2 * suc q) in
    let f : Made3 Θ q k h (make Θ (fix (tuple q) (projections q (tuple_term k q (g ∷ gs)))) (opened_env k 0 []) (2 * k))
    (points_from (suc q) (2 * k) ++ parts_from (g ∷ gs) (2 * k + 2 * suc q))
    (all_wires (λ s. point_of k s + 1) (g ∷ gs) (2 * k + 2 * suc q) ++ join (outputs_from (g ∷ gs) (2 * k + 2 * suc q)) (inputs_from (suc q) (2 * k)))
    (outputs_from (g ∷ gs) (2 * k + 2 * suc q)) =
    (let e = fix-made Θ q k h (tuple_term k q (g ∷ gs)) (opened_env k 0 []) (2 * k) in
    record {
      elements = ap (λ (x : Made). x.elements) e ∙ ap₂ ◌++◌ (ap (λ (ts : List Bool). points ts (2 * k)) (turns-tuple_type q) ∙ points-falses (suc q) (2 * k)) t.elements;
      wires = ap (λ (x : Made). x.wires) e ∙ ap₂ ◌++◌ t.wires (ap₂ join t.side (ap (λ (ts : List Bool). in_side ts (2 * k)) (turns-tuple_type q) ∙ in_falses (suc q) (2 * k)));
      side = ap (λ (x : Made). x.side) e ∙ t.side;
    }) in
    let r = functions-made Θ q k h k (fix (tuple q) (projections q (tuple_term k q (g ∷ gs)))) [] 0 (2 * k) _ _ _ (omega arith) (omega arith) f in
    λ i. record { elements = r.elements i; wires = r.wires i; pins = r.side i }

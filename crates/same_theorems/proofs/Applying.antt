-- What a function around a body makes, and what a closed term makes that is applied to the function's binders: the inputs of the whole are
-- those of the term. Assumes nothing.
use Prim.Native.Nat.{ℕ, suc, ◌+◌, ◌*◌}
use mathlib.Core.Path.{◌≡◌, refl, sym, ap, ap₂, ◌∙◌, subst}
use mathlib.Core.Bool.{Bool, true, false}
use mathlib.Core.List.{List, [], ◌∷◌, ◌++◌, append_assoc, append-nil}
use native.Mathlib.Omega.{arith}
use lib.ListN.{length, get_or, take, drop}
use lib.Seq.{take_at, drop_at}
use Rattle.laws.proofs.Parts.{map-take, map-drop}
use Rattle.calculus.specs.Types.{Ty, bit, arrow, size, Table}
use Rattle.calculus.specs.Terms.{Edition, Term, var, app}
use Rattle.calculus.specs.Net.{Interface, turns, points, in_side, out_side, join, Bound, unbound, Made, left_of, right_of, binder, made_var, made_fun, made_app, make}
use Rattle.calculus.specs.Record.{Bits, Works, Joined, part_law}
use Rattle.sheet_theorems.specs.Laid.{TableOk, Ranged}
use Rattle.circuit_theorems.specs.Scope.{dir, dirs}
use Rattle.circuit_theorems.proofs.Lists.{all_append, all_left, all_right}
use Rattle.circuit_theorems.proofs.Drivers.{turns-size, binder-fits, opposite}
use Rattle.linear_theorems.proofs.Meaning.{lines}
use Rattle.linear_theorems.proofs.Heard.{in_length}
use Rattle.linear_theorems.proofs.Lines.{lines-append, lines-length, side_length, points-lines, points_work, join-lines, join_works}
use Rattle.trace_calculus.specs.Trace.{registers}
use Rattle.same_theorems.specs.Joint.{arrows_to, applied_to, function_of}
use Rattle.same_theorems.proofs.Moved.{number-tree}
use Rattle.same_theorems.proofs.Gates.{Running, registers-append}

-- ---- a function of the types θs, whose first point stands at i

-- the inputs of its points, and their outputs
abbrev pub in_sides : List Ty → ℕ → Interface
in_sides [] i = []
in_sides (θ ∷ θs) i = in_side (turns false θ) i ++ in_sides θs (i + 2 * size θ)

abbrev pub out_sides : List Ty → ℕ → Interface
out_sides [] i = []
out_sides (θ ∷ θs) i = out_side (turns false θ) i ++ out_sides θs (i + 2 * size θ)

-- the binders of its body, and the body's first terminal
abbrev pub binders_of : List Ty → ℕ → List Bound → List Bound
binders_of [] i env = env
binders_of (θ ∷ θs) i env = binders_of θs (i + 2 * size θ) (binder θ i ∷ env)

abbrev pub body_from : List Ty → ℕ → ℕ
body_from [] i = i
body_from (θ ∷ θs) i = body_from θs (i + 2 * size θ)

abbrev pub made_funs : List Ty → ℕ → Made → Made
made_funs [] i m = m
made_funs (θ ∷ θs) i m = made_fun (arrows_to (θ ∷ θs) bit) i (made_funs θs (i + 2 * size θ) m)

pub funs_made : (E : Edition) (Φ : Table) → TableOk Φ → (θs : List Ty) (e : Term) (env : List Bound) (i : ℕ) → Ranged E Φ (function_of Φ θs e)
    → (make Φ (function_of Φ θs e) env i ≡ made_funs θs i (make Φ e (binders_of θs i env) (body_from θs i))) × Ranged E Φ e
funs_made E Φ ok [] e env i r = (refl, r)
funs_made E Φ ok (θ ∷ θs) e env i r =
    let h = funs_made E Φ ok θs e (binder θ i ∷ env) (i + 2 * size θ) r.1 in
    (rw (number-tree Φ ok (arrows_to (θ ∷ θs) bit) r.0) (ap (made_fun (arrows_to (θ ∷ θs) bit) i) h.0), h.1)

pub funs_side : (θs : List Ty) (i : ℕ) (m : Made) → (made_funs θs i m).side ≡ in_sides θs i ++ m.side
funs_side [] i m = refl
funs_side (θ ∷ θs) i m =
    ap (λ (s : Interface). in_side (turns false θ) i ++ s) (funs_side θs (i + 2 * size θ) m) ∙ sym (append_assoc (in_side (turns false θ) i) (in_sides θs (i + 2 * size θ)) m.side)

points-registers : (ts : List Bool) (i : ℕ) → registers (points ts i) ≡ []
points-registers [] i = refl
points-registers (t ∷ ts) i = points-registers ts (i + 2)

pub funs_registers : (θs : List Ty) (i : ℕ) (m : Made) → registers (made_funs θs i m).elements ≡ registers m.elements
funs_registers [] i m = refl
funs_registers (θ ∷ θs) i m =
    registers-append (points (turns false θ) i) (made_funs θs (i + 2 * size θ) m).elements
    ∙ ap₂ ◌++◌ (points-registers (turns false θ) i) (funs_registers θs (i + 2 * size θ) m)

pub funs_run : (n : ℕ) (β : Bits) (θs : List Ty) (i : ℕ) (m : Made) → Running n β (made_funs θs i m) → Running n β m × (lines n β (in_sides θs i) ≡ lines n β (out_sides θs i))
funs_run n β [] i m r = (r, refl)
funs_run n β (θ ∷ θs) i m r =
    let ts = turns false θ in
    let k = i + 2 * size θ in
    let es = (made_funs θs k m).elements in
    let h = funs_run n β θs k m (record { elements = all_right (Works part_law n β) (points ts i) es r.elements; wires = r.wires }) in (
      h.0,
      lines-append n β (in_side ts i) (in_sides θs k)
          ∙ ap₂ ◌++◌ (points-lines part_law n β ts i (all_left (Works part_law n β) (points ts i) es r.elements)) h.1
          ∙ sym (lines-append n β (out_side ts i) (out_sides θs k)),
    )

-- what is seen at two interfaces, one behind the other
lines_split : (n : ℕ) (β : Bits) (s s' t t' : Interface) → length s ≡ length s' → lines n β (s ++ t) ≡ lines n β (s' ++ t') → (lines n β s ≡ lines n β s') × (lines n β t ≡ lines n β t')
lines_split n β s s' t t' l e =
    let q = sym (lines-append n β s t) ∙ e ∙ lines-append n β s' t' in
    let k = length s in (
      sym (take_at (lines n β s) (lines n β t) k (lines-length n β s)) ∙ ap (take k) q ∙ take_at (lines n β s') (lines n β t') k (lines-length n β s' ∙ sym l),
      sym (drop_at (lines n β s) (lines n β t) k (lines-length n β s)) ∙ ap (drop k) q ∙ drop_at (lines n β s') (lines n β t') k (lines-length n β s' ∙ sym l),
    )

pub funs_play : (n : ℕ) (β : Bits) (θs : List Ty) (i : ℕ) (m : Made) → Running n β m → lines n β (in_sides θs i) ≡ lines n β (out_sides θs i) → Running n β (made_funs θs i m)
funs_play n β [] i m r e = r
funs_play n β (θ ∷ θs) i m r e =
    let ts = turns false θ in
    let k = i + 2 * size θ in
    let q = lines_split n β (in_side ts i) (out_side ts i) (in_sides θs k) (out_sides θs k) (in_length θ i ∙ sym (side_length θ false (out_side ts i) (binder-fits θ i).dirs)) e in
    let h = funs_play n β θs k m r q.1 in
    record { elements = all_append (Works part_law n β) (points ts i) (made_funs θs k m).elements (points_work part_law n β ts i q.0) h.elements; wires = h.wires }

-- ---- a term applied to binders

-- the inputs of an interface of type θs → .., and what comes behind them
abbrev pub inputs_of : List Ty → Interface → Interface
inputs_of [] s = []
inputs_of (θ ∷ θs) s = take (size θ) s ++ inputs_of θs (drop (size θ) s)

abbrev pub behind_inputs : List Ty → Interface → Interface
behind_inputs [] s = s
behind_inputs (θ ∷ θs) s = behind_inputs θs (drop (size θ) s)

-- the binders that a term is applied to stand in env, d further out
abbrev pub BoundIn : List Ty → ℕ → ℕ → List Bound → Type 0
BoundIn [] i d env = Unit {0}
BoundIn (θ ∷ θs) i d env = (get_or env (length θs + d) unbound ≡ binder θ i) × BoundIn θs (i + 2 * size θ) d env

-- what m is, where x is applied
pub record AppliedAs (θs : List Ty) (i : ℕ) (τ : Ty) (x m : Made) : Type 0 where
  pub elements : m.elements ≡ x.elements
  pub next : m.next ≡ x.next
  pub type : m.type ≡ τ
  pub side : m.side ≡ behind_inputs θs x.side
  pub dirs : dirs m.side ≡ turns false τ
  pub runs : (n : ℕ) (β : Bits) → Running n β m → Running n β x × (lines n β (inputs_of θs x.side) ≡ lines n β (out_sides θs i))
  pub plays : (n : ℕ) (β : Bits) → Running n β x → lines n β (inputs_of θs x.side) ≡ lines n β (out_sides θs i) → Running n β m

-- an application of a function of the type θ → τ
abbrev fed_made : Ty → Ty → Made → Made → Made
fed_made θ τ f a = record {
  elements = f.elements ++ a.elements;
  wires = f.wires ++ a.wires ++ join a.side (take (size θ) f.side);
  type = τ;
  side = drop (size θ) f.side;
  next = a.next;
}

app_fed : (f a : Made) (θ τ : Ty) → f.type ≡ arrow θ τ → made_app f a ≡ fed_made θ τ f a
app_fed f a θ τ e = ap (λ (σ : Ty). fed_made (left_of σ) (right_of σ) f a) e

pub dirs-take : (θ : Ty) (rest : List Bool) (s : Interface) → dirs s ≡ turns true θ ++ rest → dirs (take (size θ) s) ≡ turns true θ
dirs-take θ rest s e = map-take dir (size θ) s ∙ ap (take (size θ)) e ∙ take_at (turns true θ) rest (size θ) (turns-size true θ)

pub dirs-drop : (θ : Ty) (rest : List Bool) (s : Interface) → dirs s ≡ turns true θ ++ rest → dirs (drop (size θ) s) ≡ rest
dirs-drop θ rest s e = map-drop dir (size θ) s ∙ ap (drop (size θ)) e ∙ drop_at (turns true θ) rest (size θ) (turns-size true θ)

module _ (Φ : Table) where
  pub applied_so : (θs : List Ty) (τ : Ty) (i d : ℕ) (e : Term) (env : List Bound) (at : ℕ) → BoundIn θs i d env → (make Φ e env at).type ≡ arrows_to θs τ → dirs (make Φ e env at).side ≡ turns false (arrows_to θs τ)
      → AppliedAs θs i τ (make Φ e env at) (make Φ (applied_to e (length θs) d) env at)
  applied_so [] τ i d e env at v et ed = record { elements = refl; next = refl; type = et; side = refl; dirs = ed; runs = λ n β r. (r, refl); plays = λ n β r e. r }
  applied_so (θ ∷ θs) τ i d e env at v et ed =
      let x = make Φ e env at in
      let b = get_or env (length θs + d) unbound in
      let y = made_var b x.next in
      let k = i + 2 * size θ in
      let s = drop (size θ) x.side in
      let f = take (size θ) x.side in
      let is : made_app x y ≡ fed_made θ (arrows_to θs τ) x y = app_fed x y θ (arrows_to θs τ) et in
      let h : AppliedAs θs k τ (fed_made θ (arrows_to θs τ) x y) (make Φ (applied_to (app e (var (length θs + d))) (length θs) d) env at) =
      subst (λ (z : Made). AppliedAs θs k τ z (make Φ (applied_to (app e (var (length θs + d))) (length θs) d) env at)) is
      (applied_so θs τ k d (app e (var (length θs + d))) env at v.1 (ap (λ (z : Made). z.type) is) (ap (λ (z : Made). dirs z.side) is ∙ dirs-drop θ (turns false (arrows_to θs τ)) x.side ed)) in
      record {
        elements = h.elements ∙ append-nil x.elements;
        next = h.next;
        type = h.type;
        side = h.side;
        dirs = h.dirs;
        runs = λ n β r.
            let q = h.runs n β r in
            let ws = q.0.wires in
            let w : lines n β b.side ≡ lines n β f =
            join-lines n β b.side f (opposite θ b.side f (ap (λ (c : Bound). dirs c.side) v.0 ∙ (binder-fits θ i).dirs) (dirs-take θ (turns false (arrows_to θs τ)) x.side ed))
            (all_right (Joined n β) (x.wires ++ []) (join b.side f) ws) in (
              record { elements = all_left (Works part_law n β) x.elements [] q.0.elements; wires = all_left (Joined n β) x.wires [] (all_left (Joined n β) (x.wires ++ []) (join b.side f) ws) },
              lines-append n β f (inputs_of θs s) ∙ ap₂ ◌++◌ (sym w ∙ ap (λ (c : Bound). lines n β c.side) v.0) q.1 ∙ sym (lines-append n β (out_side (turns false θ) i) (out_sides θs k)),
            );
        plays = λ n β r e.
            let q = lines_split n β f (out_side (turns false θ) i) (inputs_of θs s) (out_sides θs k) (side_length θ true f (dirs-take θ (turns false (arrows_to θs τ)) x.side ed) ∙ sym (side_length θ false (out_side (turns false θ) i) (binder-fits θ i).dirs)) e in
            h.plays n β
            (record {
              elements = all_append (Works part_law n β) x.elements [] r.elements tt;
              wires = all_append (Joined n β) (x.wires ++ []) (join b.side f) (all_append (Joined n β) x.wires [] r.wires tt) (join_works n β b.side f (ap (λ (c : Bound). lines n β c.side) v.0 ∙ sym q.0));
            })
            q.1;
      }

-- ---- the binders of a function stand so

past_binders : (θs : List Ty) (i j : ℕ) (env : List Bound) → get_or (binders_of θs i env) (length θs + j) unbound ≡ get_or env j unbound
past_binders [] i j env = ap (λ (x : ℕ). get_or env x unbound) (let e : 0 + j ≡ j = omega arith in e)
past_binders (θ ∷ θs) i j env =
    ap (λ (x : ℕ). get_or (binders_of θs (i + 2 * size θ) (binder θ i ∷ env)) x unbound) (let e : suc (length θs) + j ≡ length θs + suc j = omega arith in e)
    ∙ past_binders θs (i + 2 * size θ) (suc j) (binder θ i ∷ env)

pub bound_in_lem : (θs : List Ty) (i : ℕ) (env : List Bound) → BoundIn θs i 0 (binders_of θs i env)
bound_in_lem [] i env = tt
bound_in_lem (θ ∷ θs) i env = (past_binders θs (i + 2 * size θ) 0 (binder θ i ∷ env), bound_in_lem θs (i + 2 * size θ) (binder θ i ∷ env))

-- .. and under two binders more
pub bound_under : (θs : List Ty) (i : ℕ) (env : List Bound) (b c : Bound) → BoundIn θs i 0 env → BoundIn θs i 2 (b ∷ c ∷ env)
bound_under [] i env b c v = tt
bound_under (θ ∷ θs) i env b c v = (
  ap (λ (x : ℕ). get_or (b ∷ c ∷ env) x unbound) (let e : length θs + 2 ≡ suc (suc (length θs + 0)) = omega arith in e) ∙ v.0,
  bound_under θs (i + 2 * size θ) env b c v.1,
)

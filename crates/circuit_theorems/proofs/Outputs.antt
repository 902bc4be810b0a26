-- What a term makes, whether typed or not: its elements take the terminals from n up to `next` without gap, and its interface and its
-- wires name only terminals of its elements and its binders. Assumes nothing.
use Prim.Native.Nat.{ℕ, zero, suc, ◌+◌, ◌*◌, ◌≤◌, ◌<◌}
use mathlib.Core.Path.{◌≡◌, refl, sym, subst}
use mathlib.Core.Bool.{Bool, true, false, cond}
use mathlib.Core.List.{List, [], ◌∷◌, ◌++◌}
use native.Mathlib.Omega.{arith}
use native.Mathlib.Decide.{dec_le}
use lib.Dec.{T, eqb, eqb_refl}
use lib.ListN.{length, take}
use Rattle.laws.proofs.Tests.{by_eqb, or_elim, or_left, or_right}
use Rattle.calculus.specs.Types.{Ty, size, Table, tree}
use Rattle.calculus.specs.Terms.{Term, var, lvar, fun, app, lfun, lapp, pair, proj, fix, con, name, part_at}
use Rattle.calculus.specs.Net.{Terminal, inp, out, Interface, turns, Element, point, part, Wire, points, in_side, out_side, join, part_side, Bound, unbound, Made, left_of, binder, made_fun, made_app, made_pair, made_proj, made_fix, first_half, second_half, whole_of, make}
use Rattle.calculus.specs.Record.{All}
use Rattle.calculus.specs.Inputs.{ins, made_at_lem, is_out}
use Rattle.circuit_theorems.specs.Formed.{Tiled}
use Rattle.circuit_theorems.proofs.Drivers.{turns-size, made-append}
use Rattle.circuit_theorems.proofs.Lists.{all_append, all_take, all_drop, all_get_d}
use Rattle.circuit_theorems.proofs.Terminals.{tiled-rising, rising-end, out_high, made-high}

-- ---- the elements take the terminals from n up to e, without gap

tiled-append : (s t : List Element) (n k e : ℕ) → Tiled s n k → Tiled t k e → Tiled (s ++ t) n e
tiled-append [] t n k e a b = subst (λ (x : ℕ). Tiled t x e) (sym a) b
tiled-append (point i ∷ s) t n k e a b = (a.0, tiled-append s t (n + 2) k e a.1 b)
tiled-append (part p i ∷ s) t n k e a b = (a.0, tiled-append s t (n + (part_at p).inputs + 1) k e a.1 b)

tiled-points : (ts : List Bool) (n : ℕ) → Tiled (points ts n) n (n + 2 * length ts)
tiled-points [] n = omega arith
tiled-points (b ∷ ts) n = let e : n + 2 + 2 * length ts ≡ n + 2 * suc (length ts) = omega arith in (refl, subst (λ (x : ℕ). Tiled (points ts (n + 2)) (n + 2) x) e (tiled-points ts (n + 2)))

tiled-binder : (τ : Ty) (n : ℕ) → Tiled (points (turns false τ) n) n (n + 2 * size τ)
tiled-binder τ n = subst (λ (x : ℕ). Tiled (points (turns false τ) n) n (n + 2 * x)) (turns-size false τ) (tiled-points (turns false τ) n)

pub tiled : (Θ : Table) (e : Term) (env : List Bound) (n : ℕ) → Tiled (make Θ e env n).elements n (make Θ e env n).next
tiled Θ (var i) env n = refl
tiled Θ (lvar i) env n = refl
tiled Θ (fun t e) env n = tiled-append (points (turns false (left_of (tree Θ t))) n) _ n _ _ (tiled-binder (left_of (tree Θ t)) n) (tiled Θ e _ _)
tiled Θ (app f a) env n = tiled-append (make Θ f env n).elements _ n _ _ (tiled Θ f env n) (tiled Θ a env _)
tiled Θ (lfun t e) env n = tiled-append (points (turns false (left_of (tree Θ t))) n) _ n _ _ (tiled-binder (left_of (tree Θ t)) n) (tiled Θ e _ _)
tiled Θ (lapp f a) env n = tiled-append (make Θ f env n).elements _ n _ _ (tiled Θ f env n) (tiled Θ a env _)
tiled Θ (pair t a b) env n = tiled-append (make Θ a env n).elements _ n _ _ (tiled Θ a env n) (tiled Θ b env _)
tiled Θ (proj a e) env n = tiled-append (make Θ a env n).elements _ n _ _ (tiled Θ a env n) (tiled Θ e _ _)
tiled Θ (fix t e) env n = tiled-append (points (turns false (tree Θ t)) n) _ n _ _ (tiled-binder (tree Θ t) n) (tiled Θ e _ _)
tiled Θ (con p t) env n = (refl, refl)
tiled Θ (name a e) env n = tiled-append (make Θ a env n).elements _ n _ _ (tiled Θ a env n) (tiled Θ e _ _)

-- ---- the outputs that interfaces and wires name are made

out_left : (s t : List Element) (x : ℕ) → T (is_out s x) → T (is_out (s ++ t) x)
out_left [] t x h = absurd h
out_left (point i ∷ s) t x h = or_elim (eqb (i + 1) x) (is_out s x) h (λ a. or_left (eqb (i + 1) x) _ a) (λ a. or_right (eqb (i + 1) x) _ (out_left s t x a))
out_left (part p i ∷ s) t x h = or_elim (eqb (i + (part_at p).inputs) x) (is_out s x) h (λ a. or_left (eqb (i + (part_at p).inputs) x) _ a) (λ a. or_right (eqb (i + (part_at p).inputs) x) _ (out_left s t x a))

out_right : (s t : List Element) (x : ℕ) → T (is_out t x) → T (is_out (s ++ t) x)
out_right [] t x h = h
out_right (point i ∷ s) t x h = or_right (eqb (i + 1) x) _ (out_right s t x h)
out_right (part p i ∷ s) t x h = or_right (eqb (i + (part_at p).inputs) x) _ (out_right s t x h)

-- I holds of the inputs and O of the outputs that ..
module _ (I O : ℕ → Type 0) where
  abbrev pub EndHolds : Terminal → Type 0
  EndHolds (inp i) = I i
  EndHolds (out o) = O o

  -- .. an interface shows
  abbrev pub Shows : Interface → Type 0
  Shows s = All EndHolds s

  -- .. a wire runs between
  abbrev pub Runs : Wire → Type 0
  Runs w = O w.from × I w.to

  -- .. elements have
  pub record Covers (es : List Element) : Type 0 where
    pub ins : (x : ℕ) → 1 ≤ made_at_lem es x → I x
    pub outs : (x : ℕ) → T (is_out es x) → O x

  runs-join : (s t : Interface) → Shows s → Shows t → All Runs (join s t)
  runs-join [] t a b = tt
  runs-join (x ∷ s) [] a b = tt
  runs-join (out o ∷ s) (inp i ∷ t) a b = ((a.0, b.0), runs-join s t a.1 b.1)
  runs-join (inp i ∷ s) (out o ∷ t) a b = ((b.0, a.0), runs-join s t a.1 b.1)
  runs-join (out o ∷ s) (out q ∷ t) a b = runs-join s t a.1 b.1
  runs-join (inp i ∷ s) (inp j ∷ t) a b = runs-join s t a.1 b.1

  first : (s t : List Element) → Covers (s ++ t) → Covers s
  first s t c = record { ins = λ x a. c.ins x (rw (made-append s t x) (omega arith)); outs = λ x a. c.outs x (out_left s t x a) }

  second : (s t : List Element) → Covers (s ++ t) → Covers t
  second s t c = record { ins = λ x a. c.ins x (rw (made-append s t x) (omega arith)); outs = λ x a. c.outs x (out_right s t x a) }

  -- the points of a binder
  point_in_lem : (ts : List Bool) (b : Bool) (n : ℕ) → Covers (points (b ∷ ts) n) → I n
  point_in_lem ts b n c = c.ins n (by_eqb (λ z. 1 ≤ cond z 1 0 + made_at_lem (points ts (n + 2)) n) n n (λ q. omega arith) (λ q. absurd (q refl)))

  point_out_lem : (ts : List Bool) (b : Bool) (n : ℕ) → Covers (points (b ∷ ts) n) → O (n + 1)
  point_out_lem ts b n c = c.outs (n + 1) (or_left (eqb (n + 1) (n + 1)) _ (eqb_refl (n + 1)))

  points_on : (ts : List Bool) (b : Bool) (n : ℕ) → Covers (points (b ∷ ts) n) → Covers (points ts (n + 2))
  points_on ts b n c = second (point n ∷ []) (points ts (n + 2)) c

  side_in : (ts : List Bool) (n : ℕ) → Covers (points ts n) → Shows (in_side ts n)
  side_in [] n c = tt
  side_in (false ∷ ts) n c = (point_in_lem ts false n c, side_in ts (n + 2) (points_on ts false n c))
  side_in (true ∷ ts) n c = (point_out_lem ts true n c, side_in ts (n + 2) (points_on ts true n c))

  side_out : (ts : List Bool) (n : ℕ) → Covers (points ts n) → Shows (out_side ts n)
  side_out [] n c = tt
  side_out (true ∷ ts) n c = (point_in_lem ts true n c, side_out ts (n + 2) (points_on ts true n c))
  side_out (false ∷ ts) n c = (point_out_lem ts false n c, side_out ts (n + 2) (points_on ts false n c))

  -- the terminals of a part
  side-part : (k n : ℕ) → ((x : ℕ) → 1 ≤ ins (part_side k n) x → I x) → O (n + k) → Shows (part_side k n)
  side-part zero n h o = (let e : n + 0 ≡ n = omega arith in subst O e o, tt)
  side-part (suc k) n h o = (
    h n (by_eqb (λ z. 1 ≤ cond z 1 0 + ins (part_side k (n + 1)) n) n n (λ q. omega arith) (λ q. absurd (q refl))),
    side-part k (n + 1) (λ x a. h x (omega arith)) (let e : n + suc k ≡ n + 1 + k = omega arith in subst O e o),
  )

  part-shows : (p n : ℕ) → Covers (part p n ∷ []) → Shows (part_side (part_at p).inputs n)
  part-shows p n c =
      side-part (part_at p).inputs n (λ x a. c.ins x (omega arith))
      (c.outs (n + (part_at p).inputs) (or_left (eqb (n + (part_at p).inputs) (n + (part_at p).inputs)) false (eqb_refl (n + (part_at p).inputs))))

  pub record Showing (m : Made) : Type 0 where
    pub side : Shows m.side
    pub wires : All Runs m.wires

  fun-shows : (τ : Ty) (n : ℕ) (e : Made) → Covers (points (turns false (left_of τ)) n) → Showing e → Showing (made_fun τ n e)
  fun-shows τ n e c r = let ts = turns false (left_of τ) in record { side = all_append EndHolds (in_side ts n) e.side (side_in ts n c) r.side; wires = r.wires }

  fix-shows : (τ : Ty) (n : ℕ) (e : Made) → Covers (points (turns false τ) n) → Showing e → Showing (made_fix τ n e)
  fix-shows τ n e c r =
      let ts = turns false τ in
      record { side = r.side; wires = all_append Runs e.wires (join e.side (in_side ts n)) r.wires (runs-join e.side (in_side ts n) r.side (side_in ts n c)) }

  app-shows : (f a : Made) → Showing f → Showing a → Showing (made_app f a)
  app-shows f a r q =
      let k = size (left_of f.type) in
      record {
        side = all_drop EndHolds k f.side r.side;
        wires = all_append Runs (f.wires ++ a.wires) (join a.side (take k f.side)) (all_append Runs f.wires a.wires r.wires q.wires)
            (runs-join a.side (take k f.side) q.side (all_take EndHolds k f.side r.side));
      }

  pair-shows : (τ : Ty) (a b : Made) → Showing a → Showing b → Showing (made_pair τ a b)
  pair-shows τ a b r q = record { side = all_append EndHolds a.side b.side r.side q.side; wires = all_append Runs a.wires b.wires r.wires q.wires }

  proj-shows : (a e : Made) → Showing a → Showing e → Showing (made_proj a e)
  proj-shows a e r q = record { side = q.side; wires = all_append Runs a.wires e.wires r.wires q.wires }

  -- .. the binders' interfaces show
  abbrev pub BoundShows : Bound → Type 0
  BoundShows b = Shows b.side

  halves-show : (a : Made) (env : List Bound) → Shows a.side → All BoundShows env → All BoundShows (second_half a ∷ first_half a ∷ env)
  halves-show a env r v = let k = size (left_of a.type) in (all_drop EndHolds k a.side r, (all_take EndHolds k a.side r, v))

  pub outputs : (Θ : Table) (e : Term) (env : List Bound) (n : ℕ) → All BoundShows env → Covers (make Θ e env n).elements → Showing (make Θ e env n)
  outputs Θ (var i) env n v c = record { side = all_get_d BoundShows env i unbound v tt; wires = tt }
  outputs Θ (lvar i) env n v c = record { side = all_get_d BoundShows env i unbound v tt; wires = tt }
  outputs Θ (fun t e) env n v c =
      let θ = left_of (tree Θ t) in
      let y = make Θ e (binder θ n ∷ env) (n + 2 * size θ) in
      let f = first (points (turns false θ) n) y.elements c in
      fun-shows (tree Θ t) n y f (outputs Θ e (binder θ n ∷ env) (n + 2 * size θ) (side_out (turns false θ) n f, v) (second (points (turns false θ) n) y.elements c))
  outputs Θ (app f a) env n v c =
      let x = make Θ f env n in
      let y = make Θ a env x.next in
      app-shows x y (outputs Θ f env n v (first x.elements y.elements c)) (outputs Θ a env x.next v (second x.elements y.elements c))
  outputs Θ (lfun t e) env n v c =
      let κ = left_of (tree Θ t) in
      let y = make Θ e (binder κ n ∷ env) (n + 2 * size κ) in
      let f = first (points (turns false κ) n) y.elements c in
      fun-shows (tree Θ t) n y f (outputs Θ e (binder κ n ∷ env) (n + 2 * size κ) (side_out (turns false κ) n f, v) (second (points (turns false κ) n) y.elements c))
  outputs Θ (lapp f a) env n v c =
      let x = make Θ f env n in
      let y = make Θ a env x.next in
      app-shows x y (outputs Θ f env n v (first x.elements y.elements c)) (outputs Θ a env x.next v (second x.elements y.elements c))
  outputs Θ (pair t a b) env n v c =
      let x = make Θ a env n in
      let y = make Θ b env x.next in
      pair-shows (tree Θ t) x y (outputs Θ a env n v (first x.elements y.elements c)) (outputs Θ b env x.next v (second x.elements y.elements c))
  outputs Θ (proj a e) env n v c =
      let x = make Θ a env n in
      let y = make Θ e (second_half x ∷ first_half x ∷ env) x.next in
      let r = outputs Θ a env n v (first x.elements y.elements c) in
      proj-shows x y r (outputs Θ e (second_half x ∷ first_half x ∷ env) x.next (halves-show x env r.side v) (second x.elements y.elements c))
  outputs Θ (fix t e) env n v c =
      let θ = tree Θ t in
      let y = make Θ e (binder θ n ∷ env) (n + 2 * size θ) in
      let f = first (points (turns false θ) n) y.elements c in
      fix-shows θ n y f (outputs Θ e (binder θ n ∷ env) (n + 2 * size θ) (side_out (turns false θ) n f, v) (second (points (turns false θ) n) y.elements c))
  outputs Θ (con p t) env n v c = record { side = part-shows p n c; wires = tt }
  outputs Θ (name a e) env n v c =
      let x = make Θ a env n in
      let y = make Θ e (whole_of x ∷ env) x.next in
      let r = outputs Θ a env n v (first x.elements y.elements c) in
      proj-shows x y r (outputs Θ e (whole_of x ∷ env) x.next (r.side, v) (second x.elements y.elements c))

-- ---- all terminals are below the next free one

pub next_le : (Θ : Table) (e : Term) (env : List Bound) (n : ℕ) → n ≤ (make Θ e env n).next
next_le Θ e env n = let m = make Θ e env n in rising-end m.elements n m.next (tiled-rising m.elements n m.next (tiled Θ e env n))

-- the terminals that interfaces and wires name are below N, if those of the binders are, and the next free one is at most N
pub names-below : (N : ℕ) (Θ : Table) (e : Term) (env : List Bound) (n : ℕ) → All (BoundShows (λ x. x < N) (λ x. x < N)) env → (make Θ e env n).next ≤ N
    → Showing (λ x. x < N) (λ x. x < N) (make Θ e env n)
names-below N Θ e env n v h =
    let m = make Θ e env n in
    let r = tiled-rising m.elements n m.next (tiled Θ e env n) in
    outputs (λ x. x < N) (λ x. x < N) Θ e env n v (record {
      ins = λ x a. elim (dec_le m.next x) [ yes l ↦ absurd (omega (arith, made-high m.elements n m.next x r l)) | no l ↦ omega arith ];
      outs = λ x a. omega (arith, out_high m.elements n m.next x r a);
    })

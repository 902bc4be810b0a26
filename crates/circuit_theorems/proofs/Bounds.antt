-- How much a term makes: elements, wires, interfaces and terminals, for any term and, within document 01's limits, for every accepted
-- sheet; and how long its netlists are. Assumes nothing.
use Prim.Native.Nat.{ℕ, suc, ◌+◌, ◌*◌, ◌<◌, ◌≤◌}
use mathlib.Core.Path.{◌≡◌, refl, sym, ap, ap₂, ◌∙◌, subst}
use mathlib.Core.Bool.{Bool, true, false, not, false≢true, true≢false}
use mathlib.Core.List.{List, [], ◌∷◌, ◌++◌, map, nil≢cons, head-eq_of_cons-eq, tail-eq_of_cons-eq}
use native.Mathlib.Omega.{arith}
use native.Mathlib.Nat.{le_refl}
use lib.ListN.{length, take, length-append, length-map}
use Rattle.calculus.specs.Answer.{good}
use Rattle.calculus.specs.Types.{Ty, bit, prod, arrow, lolli, size, Table, tree}
use Rattle.calculus.specs.Terms.{Edition, Term, var, lvar, fun, app, lfun, lapp, pair, proj, fix, con, name, nodes, part_at}
use Rattle.calculus.specs.Rules.{Ctx, Typed}
use Rattle.calculus.specs.Net.{Terminal, inp, out, number, Interface, turns, Element, point, part, Net, points, in_side, join, Bound, Made, left_of, binder, first_half, second_half, whole_of, made_app, made_fix, make, net_of, net_bytes}
use Rattle.calculus.specs.Lean.{point_count, lean}
use Rattle.calculus.specs.Record.{All}
use Rattle.circuit_theorems.specs.Formed.{Tiled, Rising}
use Rattle.calculus.specs.Translate.{full}
use Rattle.circuit_theorems.specs.Terminals.{terminal_count}
use Rattle.circuit_theorems.proofs.Lists.{all_map}
use Rattle.circuit_theorems.proofs.Terminals.{tiled-rising, rising-end}
use Rattle.circuit_theorems.proofs.Drivers.{turns-size, Driven, term_driven, opposite, dirs-left, dirs_in}
use Rattle.circuit_theorems.specs.Scope.{dirs, Env, env_end}
use Rattle.circuit_theorems.proofs.Outputs.{tiled, EndHolds, names-below}
use Rattle.circuit_theorems.proofs.Counts.{part-inputs, elements_few, wires_few, bytes-few, lean-bytes}
use Rattle.sheet_theorems.proofs.Laying.{laid}
use Rattle.circuit_theorems.proofs.Main.{AcceptedAs, accepts, formed}

-- ---- elements

abbrev pub part_count : List Element → ℕ
part_count [] = 0
part_count (point i ∷ es) = part_count es
part_count (part p i ∷ es) = suc (part_count es)

pub points-parts : (es : List Element) → length es ≡ point_count es + part_count es
points-parts [] = refl
points-parts (point i ∷ es) = omega (arith, points-parts es)
points-parts (part p i ∷ es) = omega (arith, points-parts es)

parts-append : (s t : List Element) → part_count (s ++ t) ≡ part_count s + part_count t
parts-append [] t = omega arith
parts-append (point i ∷ s) t = parts-append s t
parts-append (part p i ∷ s) t = omega (arith, parts-append s t)

parts-points : (ts : List Bool) (n : ℕ) → part_count (points ts n) ≡ 0
parts-points [] n = refl
parts-points (b ∷ ts) n = parts-points ts (n + 2)

-- the number of constants in a term
abbrev pub constants : Term → ℕ
constants (var i) = 0
constants (lvar i) = 0
constants (fun t e) = constants e
constants (app f a) = constants f + constants a
constants (lfun t e) = constants e
constants (lapp f a) = constants f + constants a
constants (pair t a b) = constants a + constants b
constants (proj a e) = constants a + constants e
constants (fix t e) = constants e
constants (con p t) = 1
constants (name a e) = constants a + constants e

pub constants-nodes : (e : Term) → constants e ≤ nodes e
constants-nodes (var i) = omega arith
constants-nodes (lvar i) = omega arith
constants-nodes (fun t e) = omega (arith, constants-nodes e)
constants-nodes (app f a) = omega (arith, constants-nodes f, constants-nodes a)
constants-nodes (lfun t e) = omega (arith, constants-nodes e)
constants-nodes (lapp f a) = omega (arith, constants-nodes f, constants-nodes a)
constants-nodes (pair t a b) = omega (arith, constants-nodes a, constants-nodes b)
constants-nodes (proj a e) = omega (arith, constants-nodes a, constants-nodes e)
constants-nodes (fix t e) = omega (arith, constants-nodes e)
constants-nodes (con p t) = omega arith
constants-nodes (name a e) = omega (arith, constants-nodes a, constants-nodes e)

-- each constant makes its part, and nothing else does
pub parts-made : (Θ : Table) (e : Term) (env : List Bound) (n : ℕ) → part_count (make Θ e env n).elements ≡ constants e
parts-made Θ (var i) env n = refl
parts-made Θ (lvar i) env n = refl
parts-made Θ (fun t e) env n =
    let θ = left_of (tree Θ t) in
    omega (arith, parts-append (points (turns false θ) n) (make Θ e (binder θ n ∷ env) (n + 2 * size θ)).elements, parts-points (turns false θ) n, parts-made Θ e (binder θ n ∷ env) (n + 2 * size θ))
parts-made Θ (app f a) env n =
    let x = make Θ f env n in
    omega (arith, parts-append x.elements (make Θ a env x.next).elements, parts-made Θ f env n, parts-made Θ a env x.next)
parts-made Θ (lfun t e) env n =
    let κ = left_of (tree Θ t) in
    omega (arith, parts-append (points (turns false κ) n) (make Θ e (binder κ n ∷ env) (n + 2 * size κ)).elements, parts-points (turns false κ) n, parts-made Θ e (binder κ n ∷ env) (n + 2 * size κ))
parts-made Θ (lapp f a) env n =
    let x = make Θ f env n in
    omega (arith, parts-append x.elements (make Θ a env x.next).elements, parts-made Θ f env n, parts-made Θ a env x.next)
parts-made Θ (pair t a b) env n =
    let x = make Θ a env n in
    omega (arith, parts-append x.elements (make Θ b env x.next).elements, parts-made Θ a env n, parts-made Θ b env x.next)
parts-made Θ (proj a e) env n =
    let x = make Θ a env n in
    omega (arith, parts-append x.elements (make Θ e (second_half x ∷ first_half x ∷ env) x.next).elements, parts-made Θ a env n, parts-made Θ e (second_half x ∷ first_half x ∷ env) x.next)
parts-made Θ (fix t e) env n =
    let θ = tree Θ t in
    omega (arith, parts-append (points (turns false θ) n) (make Θ e (binder θ n ∷ env) (n + 2 * size θ)).elements, parts-points (turns false θ) n, parts-made Θ e (binder θ n ∷ env) (n + 2 * size θ))
parts-made Θ (con p t) env n = refl
parts-made Θ (name a e) env n =
    let x = make Θ a env n in
    omega (arith, parts-append x.elements (make Θ e (whole_of x ∷ env) x.next).elements, parts-made Θ a env n, parts-made Θ e (whole_of x ∷ env) x.next)

-- two terminals for each point, and one or more for each part
pub elements_made_lem : (Θ : Table) (e : Term) (env : List Bound) (n : ℕ) → n + 2 * point_count (make Θ e env n).elements + constants e ≤ (make Θ e env n).next
elements_made_lem Θ e env n =
    let m = make Θ e env n in
    omega (arith, elements_few m.elements n m.next (tiled-rising m.elements n m.next (tiled Θ e env n)), points-parts m.elements, parts-made Θ e env n)

-- ---- terminals

-- the next free terminal, counted without making
pub next_is : (Θ : Table) (e : Term) (env : List Bound) (n : ℕ) → (make Θ e env n).next ≡ n + terminal_count Θ e
next_is Θ (var i) env n = omega arith
next_is Θ (lvar i) env n = omega arith
next_is Θ (fun t e) env n = let θ = left_of (tree Θ t) in omega (arith, next_is Θ e (binder θ n ∷ env) (n + 2 * size θ))
next_is Θ (app f a) env n = let x = make Θ f env n in omega (arith, next_is Θ f env n, next_is Θ a env x.next)
next_is Θ (lfun t e) env n = let κ = left_of (tree Θ t) in omega (arith, next_is Θ e (binder κ n ∷ env) (n + 2 * size κ))
next_is Θ (lapp f a) env n = let x = make Θ f env n in omega (arith, next_is Θ f env n, next_is Θ a env x.next)
next_is Θ (pair t a b) env n = let x = make Θ a env n in omega (arith, next_is Θ a env n, next_is Θ b env x.next)
next_is Θ (proj a e) env n = let x = make Θ a env n in omega (arith, next_is Θ a env n, next_is Θ e (second_half x ∷ first_half x ∷ env) x.next)
next_is Θ (fix t e) env n = let θ = tree Θ t in omega (arith, next_is Θ e (binder θ n ∷ env) (n + 2 * size θ))
next_is Θ (con p t) env n = omega arith
next_is Θ (name a e) env n = let x = make Θ a env n in omega (arith, next_is Θ a env n, next_is Θ e (whole_of x ∷ env) x.next)

pub left-size : (τ : Ty) → size (left_of τ) ≤ size τ
left-size bit = le_refl 1
left-size (prod a b) = omega arith
left-size (arrow a b) = omega arith
left-size (lolli a b) = omega arith

-- with types of at most 128 bits, a node makes at most 256 terminals: for a readable sheet at most 524,288
pub terminals-few : (Θ : Table) (e : Term) → ((t : ℕ) → size (tree Θ t) ≤ 128) → terminal_count Θ e ≤ 256 * nodes e
terminals-few Θ (var i) h = omega arith
terminals-few Θ (lvar i) h = omega arith
terminals-few Θ (fun t e) h = omega (arith, h t, left-size (tree Θ t), terminals-few Θ e h)
terminals-few Θ (app f a) h = omega (arith, terminals-few Θ f h, terminals-few Θ a h)
terminals-few Θ (lfun t e) h = omega (arith, h t, left-size (tree Θ t), terminals-few Θ e h)
terminals-few Θ (lapp f a) h = omega (arith, terminals-few Θ f h, terminals-few Θ a h)
terminals-few Θ (pair t a b) h = omega (arith, terminals-few Θ a h, terminals-few Θ b h)
terminals-few Θ (proj a e) h = omega (arith, terminals-few Θ a h, terminals-few Θ e h)
terminals-few Θ (fix t e) h = omega (arith, h t, terminals-few Θ e h)
terminals-few Θ (con p t) h = omega (arith, part-inputs p)
terminals-few Θ (name a e) h = omega (arith, terminals-few Θ a h, terminals-few Θ e h)

-- ---- interfaces

pub side_length : (s : Interface) (τ : Ty) → dirs s ≡ turns false τ → length s ≡ size τ
side_length s τ e = sym (length-map s _) ∙ ap length e ∙ turns-size false τ

module _ {E : Edition} {Θ : Table} {Γ : Ctx} {e : Term} {τ : Ty} (d : Typed E Θ Γ e τ) (env : List Bound) (v : Env Γ env) (n : ℕ) where
  -- the type made is the type derived, and the interface has a terminal for each of its bits
  pub made_type : (make Θ e env n).type ≡ τ
  made_type = (term_driven d env v n).type

  pub made_side : length (make Θ e env n).side ≡ size (make Θ e env n).type
  made_side = side_length (make Θ e env n).side τ (term_driven d env v n).dirs ∙ ap size (sym made_type)

-- ---- wires

pub join-length : (a f : Interface) → dirs f ≡ map not (dirs a) → length (join a f) ≡ length a
join-length [] f e = refl
join-length (x ∷ a) [] e = absurd (nil≢cons e)
join-length (out o ∷ a) (inp j ∷ f) e = ap suc (join-length a f (tail-eq_of_cons-eq e))
join-length (inp j ∷ a) (out o ∷ f) e = ap suc (join-length a f (tail-eq_of_cons-eq e))
join-length (out o ∷ a) (out p ∷ f) e = absurd (false≢true (head-eq_of_cons-eq e))
join-length (inp j ∷ a) (inp k ∷ f) e = absurd (true≢false (head-eq_of_cons-eq e))

-- an application adds a wire for each bit of the argument type
pub app_wires : {Γ : Ctx} {env : List Bound} (α τ : Ty) (f a : Made) → left_of f.type ≡ α → dirs f.side ≡ turns true α ++ turns false τ → Driven Γ env α a
    → length (made_app f a).wires ≡ length f.wires + length a.wires + size α
app_wires α τ f a el ef d =
    rw el (length-append (f.wires ++ a.wires) (join a.side (take (size α) f.side))
    ∙ ap₂ ◌+◌ (length-append f.wires a.wires)
    (join-length a.side (take (size α) f.side) (opposite α a.side (take (size α) f.side) d.dirs (dirs-left true α (turns false τ) f.side ef))
    ∙ side_length a.side α d.dirs))

-- a fixed point one for each bit of its type
pub fix_wires : {Γ : Ctx} {env : List Bound} (θ : Ty) (n : ℕ) (e : Made) → Driven Γ env θ e → length (made_fix θ n e).wires ≡ length e.wires + size θ
fix_wires θ n e d =
    length-append e.wires (join e.side (in_side (turns false θ) n))
    ∙ ap (λ (k : ℕ). length e.wires + k) (join-length e.side (in_side (turns false θ) n) (dirs_in (turns false θ) n ∙ ap (map not) (sym d.dirs)) ∙ side_length e.side θ d.dirs)

-- ---- every accepted sheet

-- elements end at one terminal
pub tiled-end : (es : List Element) (n e f : ℕ) → Tiled es n e → Tiled es n f → e ≡ f
tiled-end [] n e f a b = sym a ∙ b
tiled-end (point i ∷ es) n e f a b = tiled-end es (n + 2) e f a.1 b.1
tiled-end (part p i ∷ es) n e f a b = tiled-end es (n + (part_at p).inputs + 1) e f a.1 b.1

-- the last terminal of an element is below N
abbrev pub ElementBelow : ℕ → Element → Type 0
ElementBelow N (point i) = i + 1 < N
ElementBelow N (part p i) = i + (part_at p).inputs < N

rising-below : (N : ℕ) (es : List Element) (n e : ℕ) → Rising es n e → e ≤ N → All (ElementBelow N) es
rising-below N [] n e a h = tt
rising-below N (point i ∷ es) n e a h = (omega (arith, rising-end es (i + 2) e a.1), rising-below N es (i + 2) e a.1 h)
rising-below N (part p i ∷ es) n e a h = (omega (arith, rising-end es (i + (part_at p).inputs + 1) e a.1), rising-below N es (i + (part_at p).inputs + 1) e a.1 h)

-- every terminal that is made or named is below 8,192
pub record NumbersLow (m : Net) : Type 0 where
  pub elements : All (ElementBelow 8192) m.elements
  pub wires : All (λ w. (w.from < 8192) × (w.to < 8192)) m.wires
  pub pins : All (λ p. number p < 8192) m.pins

pin_below : (p : Terminal) → EndHolds (λ x. x < 8192) (λ x. x < 8192) p → number p < 8192
pin_below (inp i) h = h
pin_below (out o) h = h

names-net : (Θ : Table) (e : Term) → (make Θ e [] 0).next ≤ 8192 → NumbersLow (net_of (make Θ e [] 0))
names-net Θ e h =
    let m = make Θ e [] 0 in
    let r = names-below 8192 Θ e [] 0 tt h in
    record {
      elements = rising-below 8192 m.elements 0 m.next (tiled-rising m.elements 0 m.next (tiled Θ e [] 0)) h;
      wires = r.wires;
      pins = all_map (EndHolds (λ x. x < 8192) (λ x. x < 8192)) (λ p. number p < 8192) pin_below m.side r.side;
    }

module _ (s : List ℕ) (m : Net) (ok : full s ≡ good m) where
  pub few_elements : length m.elements ≤ 5120
  few_elements =
      let a = accepts s m ok in
      let k = make a.sheet.table a.sheet.term [] 0 in
      let h : length k.elements ≤ 5120 = omega (arith, points-parts k.elements, parts-made a.sheet.table a.sheet.term [] 0, elements_made_lem a.sheet.table a.sheet.term [] 0, a.few, constants-nodes a.sheet.term, (laid s a.sheet a.reads).few) in
      subst (λ (x : Net). length x.elements ≤ 5120) a.is h

  pub few_wires : length m.wires ≤ 5461
  few_wires = let f = formed s m ok in omega (arith, wires_few m f.net, f.few)

  -- pins are the bits of the root's type
  pub pins_size : (a : AcceptedAs s m) → length m.pins ≡ size (tree a.sheet.table a.type)
  pins_size a =
      subst (λ (x : Net). length x.pins ≡ size (tree a.sheet.table a.type)) a.is
      (made_side a.typed [] env_end 0 ∙ ap size (made_type a.typed [] env_end 0))

  -- and a pin is an input exactly at a turned bit
  pub pins_turned : (a : AcceptedAs s m) → dirs m.pins ≡ turns false (tree a.sheet.table a.type)
  pins_turned a =
      subst (λ (x : Net). dirs x.pins ≡ turns false (tree a.sheet.table a.type)) a.is (term_driven a.typed [] env_end 0).dirs

  pub few_pins : length m.pins ≤ 128
  few_pins = let a = accepts s m ok in omega (arith, pins_size a, (laid s a.sheet a.reads).table.small a.type)

  -- ---- the length of the netlists

  -- at most five bytes for each terminal and 384
  pub length_bound : (terminals : ℕ) → Tiled m.elements 0 terminals → length (net_bytes m) ≤ 5 * terminals + 384
  length_bound terminals t =
      let f = formed s m ok in
      omega (arith, bytes-few m f.net, few_pins, tiled-end m.elements 0 f.net.end terminals f.tiled t)

  pub length_enough : length (net_bytes m) ≤ 41344
  length_enough = let f = formed s m ok in omega (arith, length_bound f.net.end f.tiled, f.few)

  -- the lean netlist is never longer than the full one
  pub lean_shorter : length (net_bytes (lean m)) ≤ length (net_bytes m)
  lean_shorter = lean-bytes m (formed s m ok).net

  pub names : NumbersLow m
  names = let a = accepts s m ok in subst NumbersLow a.is (names-net a.sheet.table a.sheet.term a.few)
